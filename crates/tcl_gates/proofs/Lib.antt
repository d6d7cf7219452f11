pub mod Table
pub mod Values
pub mod Appending
pub mod Circuit
pub mod Rows
pub mod Counts
pub mod Shown
