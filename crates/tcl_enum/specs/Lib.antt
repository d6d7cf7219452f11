pub mod NarrowFact
pub mod Patterns
pub mod Enumeration
pub mod Laws
