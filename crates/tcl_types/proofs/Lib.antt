pub mod Powers
pub mod Ends
pub mod LineReasons
pub mod Parts
pub mod Places
