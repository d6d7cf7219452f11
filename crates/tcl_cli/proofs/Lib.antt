pub mod Names
pub mod Steps
pub mod Walks
pub mod Refusals
pub mod Found
pub mod Defaults
pub mod Choices
pub mod Values
