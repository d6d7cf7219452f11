-- Values that refute a goal by the computed truths, read off the values of a run. No public clause cites this module.
use Rattle.std.specs.Prelude.{◌≡◌, ℕ, ℤ, nat_lt, Bool, true, false, ◌&&◌, ◌||◌, List, slice_get}
use Rattle.tcl_lang.specs.declared.outcome.Truth.{Truth}
use Rattle.tcl_lang.specs.declared.outcome.Truth.TheVariants.{Yes, No, Wide}
use Rattle.tcl_lang.specs.declared.pred.Line.{Line}
use Rattle.tcl_lang.specs.Program.{VersionedProgram}
use Rattle.tcl_lang.specs.Line.{is_precondition, is_assumption, is_goal}
use Rattle.tcl_lang.specs.Goal.{passes}
use Rattle.tcl_lang.specs.Values.{computed_of}
use Rattle.tcl_goals.specs.Places.{goal_place}

-- the line of place k has to hold for a goal to be refuted at a place: it is part of the precondition, or an assumption or a
-- goal before the place
abbrev pub is_required : ℕ → ℕ → Line → Bool
is_required place k l = is_precondition l || nat_lt k place && (is_assumption l || is_goal l)

abbrev pub is_required_at : List Line → ℕ → ℕ → Bool
is_required_at lines place k = passes (is_required place k) (slice_get lines k)

-- the truth is `Yes`, `No`
abbrev pub is_yes : Truth → Bool
is_yes Yes = true
is_yes No = false
is_yes Wide = false

abbrev pub is_no : Truth → Bool
is_no Yes = false
is_no No = true
is_no Wide = false

-- each line that has to hold is computed as `Yes`
abbrev pub MeetsRequired : VersionedProgram → ℕ → List ℤ → Type 0
MeetsRequired p place values = (k : ℕ) → is_required_at p.lines place k ≡ true → computed_of p values k ≡ Yes

-- these values refute the goal
pub record Refutes (p : VersionedProgram) (goal : ℕ) (values : List ℤ) : Type 0 where
  pub required : MeetsRequired p (goal_place p.lines goal) values
  pub fails : computed_of p values (goal_place p.lines goal) ≡ No
