pub mod Orders
pub mod RoundTrip
pub mod Turns
pub mod LineTurns
pub mod Valued
