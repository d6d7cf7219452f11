-- Equations of a test, as far as they are made.
use Rattle.std.specs.Prelude.{◌≡◌, ℕ, List, length, ℤ, Option}
use Rattle.tcl_ring.specs.Reduction.{reduced_by}
use Rattle.tcl_poly.specs.Combination.{Terms, AreOver}
use Rattle.tcl_reduce.specs.Definitions.{Defined}
use Rattle.tcl_reduce.specs.Answer.{definitions_of}
use Rattle.tcl_reduce.specs.Remainder.{AreDefinitions, BeginsWith}
use Rattle.tcl_reduce.specs.Equated.{AreShallow}

-- the equations are over the ring and not too deep, and begin with those of the definitions
pub record AreBegun {E : Type 0} (m : Option ℕ) (value : E → ℤ) (defs : List (Defined E)) (list : List (Terms E)) : Type 0 where
  pub over : AreOver m value list
  pub shallow : AreShallow list
  pub definitions : AreDefinitions (reduced_by m) (definitions_of value defs)
  pub begins : BeginsWith m value (definitions_of value defs) list

-- so far there are the equations of definitions alone
pub record AreDefined {E : Type 0} (m : Option ℕ) (value : E → ℤ) (defs : List (Defined E)) (list : List (Terms E)) : Type 0 where
  pub begun : AreBegun m value defs list
  pub alone : length defs ≡ length list
