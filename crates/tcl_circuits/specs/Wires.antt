-- What a circuit gives beside the gates that it made.
use Rattle.std.specs.Prelude.{ℕ, List}
use Rattle.tcl_gates.specs.declared.gate.Gate.{Gate}

-- a literal with the gates so far
pub record Wire : Type 0 where
  pub gates : List Gate
  pub lit : ℕ

-- a word of literals with the gates so far
pub record Wires : Type 0 where
  pub gates : List Gate
  pub word : List ℕ

-- a word and a carry with the gates so far
pub record Carried : Type 0 where
  pub gates : List Gate
  pub word : List ℕ
  pub carry : ℕ
