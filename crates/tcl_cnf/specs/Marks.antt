-- A set of literals as a table of marks. No public clause cites this file.
use Rattle.std.specs.Prelude.{◌≡◌, ℕ, ◌+◌, Bool, true, false, if◌then◌else◌, List, [], ◌∷◌, slice_index_or}
use Rattle.tcl_cnf.specs.Clause.{has}

-- the places that are marked, from place n on
unfoldable pub marked_from : ℕ → List Bool → List ℕ
marked_from n [] = []
marked_from n (mark ∷ table) = if mark then n ∷ marked_from (n + 1) table else marked_from (n + 1) table

-- the places that are marked, in increasing order
unfoldable pub marked : List Bool → List ℕ
marked table = marked_from 0 table

-- each marked place is in the list
pub record AreTouched (table : List Bool) (touched : List ℕ) : Type 0 where
  pub each : (l : ℕ) → slice_index_or table l false ≡ true → has l touched ≡ true

-- the two tables have the same marks
pub record SameMarks (table after : List Bool) : Type 0 where
  pub at_each : (l : ℕ) → slice_index_or after l false ≡ slice_index_or table l false

-- the table loses the mark at this place alone, if it has one
pub record TakesMark (table after : List Bool) (l : ℕ) : Type 0 where
  pub gone : slice_index_or after l false ≡ false
  pub others : (x : ℕ) → (x ≡ l → ⊥) → slice_index_or after x false ≡ slice_index_or table x false
