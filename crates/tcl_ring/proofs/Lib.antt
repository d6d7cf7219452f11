pub mod Reductions
pub mod Inverses
