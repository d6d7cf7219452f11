pub mod Before
pub mod WholeRuns
pub mod TakenVariables
mod Joining
mod Growth
mod Closing
mod Slicing
mod Planning
