pub mod IntegerRing
pub mod IntegerOrder
pub mod EuclideanDivision
pub mod Congruences
pub mod Divisibility
pub mod IntegerPowers
pub mod WrappedValues
pub mod SaturatingCounts
pub mod ResidueProducts
pub mod MachineWrapping
pub mod LowestBits
mod FarSums
