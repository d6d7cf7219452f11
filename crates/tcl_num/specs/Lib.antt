pub mod Congruence
pub mod Range
pub mod Signed
