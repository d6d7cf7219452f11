pub mod Conflicts
pub mod Reductions
pub mod StrayModels
pub mod Unsettled
