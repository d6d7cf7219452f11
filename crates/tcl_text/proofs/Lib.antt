pub mod Uniqueness
pub mod OneStatement
pub mod OneOutcome
pub mod TreeNames
pub mod StatementNames
pub mod Shapes
pub mod TokenShapes
pub mod StatementShapes
pub mod NumberedNames
pub mod ReadShapes
pub mod NameGrowth
pub mod NameWords
pub mod ReadPrograms
mod Examples
