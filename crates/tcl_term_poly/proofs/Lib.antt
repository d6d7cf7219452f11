pub mod TermValues
mod Agreement
pub mod Negations
pub mod TermBounds
pub mod TermArms
pub mod Nodes
