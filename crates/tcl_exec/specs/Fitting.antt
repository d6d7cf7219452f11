-- Inputs that fit, as a test.
use Rattle.std.specs.Prelude.{ℤ, Bool, true, false, ◌&&◌, List, [], ◌∷◌, Option, Some, None}
use Rattle.tcl_lang.specs.declared.ty.Ty.{Ty}
use Rattle.tcl_lang.specs.declared.pred.Line.{Line}
use Rattle.tcl_lang.specs.Types.{is_in_type}
use Rattle.tcl_lang.specs.Line.{taken_type}

-- the input has one value for each of the types, in it
abbrev pub is_fitting : List Ty → List ℤ → Bool
is_fitting [] [] = true
is_fitting [] (n ∷ input) = false
is_fitting (T ∷ types) [] = false
is_fitting (T ∷ types) (n ∷ input) = is_in_type T n && is_fitting types input

-- the type of the value that a line takes; none where there is no line
abbrev pub taken_in : Option Line → Option Ty
taken_in None = None
taken_in (Some l) = taken_type l
