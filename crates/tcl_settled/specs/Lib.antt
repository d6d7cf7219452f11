pub mod Settled
pub mod Rings
pub mod Laws
