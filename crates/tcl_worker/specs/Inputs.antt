-- The inputs of assignments that deny a fact.
use Rattle.std.specs.Prelude.{◌≡◌, ℕ, ℤ, pos, nat_eq, if◌then◌else◌, List, [], ◌∷◌, map, Option, None, Some}
use Rattle.tcl_lang.specs.declared.pred.Line.{Line}
use Rattle.tcl_lang.specs.Program.{VersionedProgram}
use Rattle.tcl_goals.specs.declared.fact.Fact.{Fact}
use Rattle.tcl_slice.specs.Runs.{taken_names, input_from}
use Rattle.tcl_enum.specs.declared.ended.FreeValue.{FreeValue}
use Rattle.tcl_enum.specs.Patterns.{assignment}
use Rattle.tcl_enum.specs.Enumeration.{first_denial}

-- The input is that of the first assignment that denies the fact: its free variables have their values in it, counted up with
-- the first as the most significant, each by its bit pattern as an unsigned number. An `in` name that the fact does not name,
-- and a `nondet` after its claim, are 0.
pub record IsFirstInput (p : VersionedProgram) (fact : Fact) (input : List ℤ) : Type 0 where
  pub number : ℕ
  pub first : first_denial p [] fact ≡ Some number
  pub input_is : input ≡ input_from p.lines (assignment p [] fact number)

-- the value of a variable in a list of free ones, 0 where it is not there
unfoldable pub looked_up : List FreeValue → ℕ → ℤ
looked_up [] v = pos 0
looked_up (f ∷ fs) v = if nat_eq f.var v then f.value else looked_up fs v

abbrev pub value_of : List FreeValue → Option ℕ → List ℤ
value_of free None = []
value_of free (Some v) = looked_up free v ∷ []

-- the input that gives the lines these values
unfoldable pub input_of : List FreeValue → List Line → List ℤ
input_of free lines = map (looked_up free) (taken_names lines)
