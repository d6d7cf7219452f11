-- Values in which one variable was given a value. No public clause cites this module.
use Rattle.std.specs.Prelude.{ℕ, ℤ, List, Option, Some, None, slice_set}

-- the variable, where there is one, has this value
abbrev pub set_named : List ℤ → Option ℕ → ℤ → List ℤ
set_named values None n = values
set_named values (Some v) n = slice_set values v n
