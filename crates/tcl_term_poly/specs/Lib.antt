pub mod TermPolynomial
pub mod Point
pub mod Laws
