pub mod Gates
pub mod Meaning
pub use Rattle.tcl_cnf.specs.Literal
pub use Rattle.tcl_cnf.specs.Clause
