mod TermForms
mod RowsHold
mod RowNames
mod Quotients
mod DefinitionsVanish
mod HypothesesVanish
mod Stores
mod AllEquations
mod Combining
mod Assigned
pub mod Soundness
pub mod EquationsFit
pub mod SoundLines
pub mod Added
pub mod DefinitionNorms
pub mod Copied
pub mod HypothesisNorms
pub mod DefinitionLists
pub mod EquationLists
pub mod SquareLists
