pub mod Runs
pub mod Fitting
pub mod Holding
pub mod Turns
pub mod Finishing
