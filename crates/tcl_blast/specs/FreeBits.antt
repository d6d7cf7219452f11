-- The values of free variables, read from the bits of a model one by one. No public clause cites this module.
use Rattle.std.specs.Prelude.{ℕ, zero, suc, ◌+◌, ℤ, pos, Bool, List, [], ◌∷◌, slice_get, slice_set, Option, Some, None}
use Rattle.tcl_cnf.specs.Literal.{value_at}
use Rattle.tcl_bits.specs.Value.{unsigned_value}
use Rattle.tcl_lang.specs.declared.variable.Variable.{Variable}
use Rattle.tcl_lang.specs.Types.{wrap_of}
use Rattle.tcl_lang.specs.Values.{value_at as value_of_variable}
use Rattle.tcl_goals.specs.Free.{width_in}

-- as many bits, the first of which has this number
unfoldable pub bits_from : List Bool → ℕ → ℕ → List Bool
bits_from bits n zero = []
bits_from bits n (suc w) = value_at bits n ∷ bits_from bits (n + 1) w

-- the value of a variable that has these bits
abbrev pub value_from : Option Variable → List Bool → ℕ → ℤ
value_from None bits n = pos 0
value_from (Some x) bits n = wrap_of x.ty (pos (unsigned_value (bits_from bits n x.ty.width)))

-- the values after these variables were given those of their bits, the first of which has this number
unfoldable pub given_from : List Variable → List Bool → ℕ → List ℕ → List ℤ → List ℤ
given_from variables bits n [] values = values
given_from variables bits n (v ∷ vs) values =
    given_from variables bits (n + width_in (slice_get variables v)) vs
    (slice_set values v (value_from (slice_get variables v) bits n))

-- the value that a line takes, if it takes one
abbrev pub taken_value : List ℤ → Option ℕ → List ℤ
taken_value values None = []
taken_value values (Some v) = value_of_variable values v ∷ []
