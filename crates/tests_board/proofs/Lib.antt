pub mod Cited
pub mod Planned
pub mod Giving
