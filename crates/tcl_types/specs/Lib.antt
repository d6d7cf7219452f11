pub mod Operands
pub mod Fault
