pub mod Failures
pub mod Contents
