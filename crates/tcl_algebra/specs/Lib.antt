pub mod Row
pub mod Equations
pub mod Zero
pub mod Laws
pub mod Sound
pub mod Held
pub mod Defined
pub mod Ends
