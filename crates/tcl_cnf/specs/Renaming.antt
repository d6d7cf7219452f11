-- Clauses under a renaming of variables that keeps signs.
use Rattle.std.specs.Prelude.{◌≡◌, ℕ, ◌+◌, ◌*◌, ◌/◌, ◌%◌, Some, List, map, slice_get}
use Rattle.tcl_cnf.specs.Clause.{clause_of}

-- the literal of the variable's new name, with the same sign
unfoldable pub renamed : (ℕ → ℕ) → ℕ → ℕ
renamed name l = 2 * name (l / 2) + l % 2

-- the others have each of the clauses under the renaming, but for those that are always true then
pub record HasRenamed (name : ℕ → ℕ) (clauses others : List (List ℕ)) : Type 0 where
  pub each : (k : ℕ) (c d : List ℕ) → slice_get clauses k ≡ Some c → clause_of (map (renamed name) c) ≡ Some d → (n : ℕ) × (slice_get others n ≡ Some d)
