pub mod Fit
pub mod EquationRow
pub mod Answer
pub mod Course
pub mod Deep
pub mod Multiplied
pub mod Ended
