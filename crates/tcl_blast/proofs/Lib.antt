mod GateOrder
mod GateCounts
mod LineOrder
mod Meeting
mod Members
mod States
mod Beginnings
mod ReadBits
mod Facts
mod Lifts
mod Exponents
pub mod Countermodels
mod Stages
mod Models
mod ModelUses
mod ModelFacts
mod Modelled
mod Loops
mod Leaves
mod Readiness
mod Behind
mod Counts
pub mod TakenValues
pub mod ModelBits
pub mod ModelInputs
pub mod NamedBefore
pub mod ModelRuns
