-- The variables that clauses name, counted from 0.
use Rattle.std.specs.Prelude.{ℕ, ◌+◌, ◌/◌, max, List, [], ◌∷◌}

-- one more than the greatest variable of these literals, or 0
abbrev pub lit_variables : List ℕ → ℕ
lit_variables [] = 0
lit_variables (l ∷ c) = max (l / 2 + 1) (lit_variables c)

-- one more than the greatest variable that a clause names, or 0
abbrev pub variable_count : List (List ℕ) → ℕ
variable_count [] = 0
variable_count (c ∷ clauses) = max (lit_variables c) (variable_count clauses)
