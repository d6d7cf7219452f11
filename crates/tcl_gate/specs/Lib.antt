pub mod Fits
pub mod Taken
pub mod Extends
pub mod Alone
