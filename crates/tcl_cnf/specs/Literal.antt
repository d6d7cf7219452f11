-- Literals of propositional variables as numbers: 2v is variable v, and 2v + 1 its negation (the encoding of MiniSat:
-- Eén, Sörensson, SAT 2003).
use Rattle.std.specs.Prelude.{ℕ, ◌+◌, ◌-◌, ◌*◌, ◌/◌, ◌%◌, ◌==◌, Bool, false, not, if◌then◌else◌, List, slice_index_or}

-- the literal of the same variable with the other sign
unfoldable pub neg : ℕ → ℕ
neg l = l + 1 - 2 * (l % 2)

-- whether the literal is true where the variables have these values
unfoldable pub literal_true : (ℕ → Bool) → ℕ → Bool
literal_true v l = if l % 2 == 0 then v (l / 2) else not (v (l / 2))

-- the values that a list gives to the variables in order, and false for those behind it
abbrev pub value_at : List Bool → ℕ → Bool
value_at values k = slice_index_or values k false
