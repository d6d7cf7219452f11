pub mod CitedLists
pub mod GoalsFound
pub mod Refutations
mod SamePolynomials
pub mod Cofactors
mod CofactorValues
pub mod CaseLists
pub mod BoardEvidence
pub mod Soundness
pub mod Strays
pub mod ModelStrays
pub mod CutModels
pub mod SearchEnds
