pub mod TextLemmas
pub mod RouteFacts
pub mod PlanPieces
pub mod RouteCauses
pub mod Answering
pub mod FormGoals
pub mod Verdict
