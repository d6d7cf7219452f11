pub mod Chains
pub mod Instructions
pub mod Exactness
pub mod Ranges
pub mod Steps
pub mod Words
pub mod Stores
pub mod Listed
