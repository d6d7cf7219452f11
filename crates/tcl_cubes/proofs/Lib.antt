pub mod Counting
mod Values
pub mod Splitting
