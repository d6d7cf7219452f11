mod Naming
mod Reading
mod TermNames
mod FactNames
pub mod Proving
mod Holding
