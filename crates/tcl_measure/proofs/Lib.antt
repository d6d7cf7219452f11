pub mod Saturation
pub mod Layers
pub mod Moduli
