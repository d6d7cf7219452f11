pub mod Prefixes
pub mod Explains
pub mod OpenLiterals
pub mod Jumps
pub mod Floors
pub mod Walks
pub mod Rounds
pub mod ValueLemmas
