-- Points: a value for each unknown. A variable has its value in a store, the unknown of a line the value that is given
-- for the line's place.
use Rattle.std.specs.Prelude.{ℕ, ◌-◌, ◌^◌, nat_lt, ℤ, if◌then◌else◌, List}
use Rattle.tcl_lang.specs.declared.ty.Word.{Word}
use Rattle.tcl_lang.specs.Store.{word_at}
use Rattle.tcl_poly.specs.Unknown.{variable_key}

-- the value of the unknown of a key
unfoldable pub point_of : List Word → (ℕ → ℤ) → ℕ → ℤ
point_of store quotients key =
    if nat_lt key (variable_key (2 ^ 32)) then (word_at store (key - 1)).value else quotients (key - variable_key (2 ^ 32))
