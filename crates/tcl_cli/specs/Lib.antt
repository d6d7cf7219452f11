pub mod Table
pub mod Words
pub mod Rules
pub mod Options
