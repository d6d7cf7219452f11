pub mod Wires
pub mod Circuits
