-- Strays: of the hypotheses of a goal, the first that is not computed as true in the run from an input.
use Rattle.std.specs.Prelude.{◌≡◌, ◌<◌, ℕ, zero, suc, ℤ, true, false, if◌then◌else◌, List, length, slice_get, Option, Some, None}
use Rattle.tcl_lang.specs.declared.outcome.Truth.{Truth}
use Rattle.tcl_lang.specs.declared.outcome.Truth.TheVariants.{Yes, No, Wide}
use Rattle.tcl_lang.specs.declared.term.AlgPred.{AlgPred}
use Rattle.tcl_lang.specs.declared.pred.Pred.TheVariants.{Alg}
use Rattle.tcl_lang.specs.Program.{VersionedProgram}
use Rattle.tcl_lang.specs.Line.{is_algebraic}
use Rattle.tcl_lang.specs.Goal.{passes}
use Rattle.tcl_lang.specs.Run.{Fits, taken_types}
use Rattle.tcl_lang.specs.Checked.{computed_at}
use Rattle.tcl_lang.specs.Form.{end_store}
use Rattle.tcl_goals.specs.Places.{goal_place}
use Rattle.tcl_goals.specs.Slices.{is_hypothesis_at}
use Rattle.tcl_goals.specs.Holds.{line_holds, cube_holds}
use Rattle.tcl_blast.specs.Lifted.{fixed_bits_of}
use Rattle.tcl_blast.specs.Clauses.{predicate_in}
use Rattle.tcl_kernel.specs.declared.stray.Stray.{Stray}

-- a line of this place and computed truth as a stray; none where the truth is `Yes`
abbrev pub unless_yes : ℕ → Truth → Option Stray
unless_yes place Yes = None
unless_yes place No = Some (record { place = place; truth = No })
unless_yes place Wide = Some (record { place = place; truth = Wide })

-- the line of place k in the run from the input; none where it is no hypothesis
abbrev pub stray_at : VersionedProgram → List ℤ → ℕ → Option Stray
stray_at p input k =
    if is_hypothesis_at p.lines k then unless_yes k (computed_at (length p.variables) p.lines input k) else None

-- the first of two: the second counts only where there is no first
abbrev pub first_of_strays : Option Stray → Option Stray → Option Stray
first_of_strays None second = second
first_of_strays (Some stray) second = Some stray

-- the first before place n
unfoldable pub stray_before : VersionedProgram → List ℤ → ℕ → Option Stray
stray_before p input zero = None
stray_before p input (suc k) = first_of_strays (stray_before p input k) (stray_at p input k)

-- The first among the hypotheses of the whole fact of a goal, which are those before its place, in their order; none where
-- all of them are computed as `Yes`.
abbrev pub first_stray : VersionedProgram → ℕ → List ℤ → Option Stray
first_stray p goal input = stray_before p input (goal_place p.lines goal)

-- the line of place k is a hypothesis of the whole fact of a goal
pub record IsHypothesisOf (p : VersionedProgram) (goal k : ℕ) : Type 0 where
  pub before : k < goal_place p.lines goal
  pub hypothesis : is_hypothesis_at p.lines k ≡ true

-- The input fits. In its run all range and exactness hypotheses of the whole fact of a goal hold, the bits that the algebraic
-- ones fix have their values, and the goal is false. The stray is the first of the hypotheses that is not computed as `Yes`,
-- and it is an algebraic line.
pub record IsStray (p : VersionedProgram) (goal : ℕ) (input : List ℤ) (stray : Stray) : Type 0 where
  pub fits : Fits (taken_types p.lines) input
  pub ranges : (k : ℕ) → IsHypothesisOf p goal k → passes is_algebraic (slice_get p.lines k) ≡ false → line_holds p input k ≡ true
  pub lifted : (k : ℕ) (f : AlgPred) → IsHypothesisOf p goal k → predicate_in (slice_get p.lines k) ≡ Some (Alg f) →
      cube_holds (end_store p input) (fixed_bits_of p.variables f) ≡ true
  pub denied : line_holds p input (goal_place p.lines goal) ≡ false
  pub first : first_stray p goal input ≡ Some stray
  pub algebraic : passes is_algebraic (slice_get p.lines stray.place) ≡ true
