pub mod Monomial
pub mod Unknown
pub mod Polynomial
pub mod Combination
pub mod Merging
pub mod Laws
