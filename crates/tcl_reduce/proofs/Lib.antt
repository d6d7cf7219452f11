pub mod PartLemmas
pub mod Gathering
pub mod Substituting
pub mod NormBounds
pub mod DegreeBounds
pub mod Reducing
pub mod Remainders
pub mod MonomialLists
pub mod Fitting
pub mod PartLists
pub mod SizeTurns
pub mod SubstitutionTurns
pub mod ValueLists
pub mod Stepping
pub mod StepCases
pub mod PlainTurns
pub mod DefinitionLists
mod MembershipExamples
