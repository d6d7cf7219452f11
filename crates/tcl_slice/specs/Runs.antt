-- Runs from the values of an assignment: each line that takes a value is given that of the variable that it defines.
use Rattle.std.specs.Prelude.{◌≡◌, ◌≤◌, ◌<◌, ℕ, ℤ, true, List, map, length, filter_map}
use Rattle.tcl_lang.specs.declared.pred.Line.{Line}
use Rattle.tcl_lang.specs.Program.{VersionedProgram}
use Rattle.tcl_lang.specs.Line.{taken_name}
use Rattle.tcl_lang.specs.Run.{Fits, taken_types}
use Rattle.tcl_lang.specs.Goal.{truth_at}
use Rattle.tcl_lang.specs.Checked.{computed_at}
use Rattle.tcl_lang.specs.Limit.{definitions_before}
use Rattle.tcl_lang.specs.Values.{value_at, trace_of, truth_of, computed_of}
use Rattle.tcl_lang.specs.Form.{IsWellFormed}
use Rattle.tcl_goals.specs.Places.{goal_place, has_goal}
use Rattle.tcl_goals.specs.Slices.{whole_fact}
use Rattle.tcl_goals.specs.Assignments.{Assigns}

-- the variables whose values the lines take from the input, in order
abbrev pub taken_names : List Line → List ℕ
taken_names lines = filter_map taken_name lines

-- the input that gives these variables their values
unfoldable pub input_from : List Line → List ℤ → List ℤ
input_from lines values = map (λ v. value_at values v) (taken_names lines)

-- up to this place the run from the input of the values defines the variables as the values do, and says what they say
pub record IsRunOf (p : VersionedProgram) (place : ℕ) (values : List ℤ) : Type 0 where
  pub fits : Fits (taken_types p.lines) (input_from p.lines values)
  pub defined : (v : ℕ) → v < definitions_before p.lines place →
      value_at (trace_of p (input_from p.lines values)) v ≡ value_at values v
  pub truth : (k : ℕ) → k ≤ place →
      truth_at (length p.variables) p.lines (input_from p.lines values) k ≡ truth_of p values k
  pub computed : (k : ℕ) → k ≤ place →
      computed_at (length p.variables) p.lines (input_from p.lines values) k ≡ computed_of p values k

-- an assignment of the whole fact of a goal is a run up to the goal
abbrev pub WholeAssignmentsRun : Type 0
WholeAssignmentsRun =
    (p : VersionedProgram) (i : ℕ) (values : List ℤ) → IsWellFormed p → has_goal p.lines i ≡ true →
    Assigns p (whole_fact p i) values → IsRunOf p (goal_place p.lines i) values
