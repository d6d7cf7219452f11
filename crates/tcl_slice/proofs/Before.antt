-- One line further among the hypotheses and the instructions.
use Rattle.std.proofs.Common.{◌≡◌, ℕ, ◌+◌, ◌∙◌, refl, ap, true, false, List, [], ◌∷◌, ◌++◌, Some}
use Rattle.std.specs.List.{slice_get}
use Rattle.tcl_lang.specs.declared.pred.Line.{Line}
use Rattle.tcl_lang.specs.Line.{is_hypothesis}
use Rattle.tcl_lang.specs.Goal.{passes}
use Rattle.tcl_lang.specs.Program.{VersionedProgram}
use Rattle.tcl_goals.specs.declared.fact.Hyp.TheVariants as hyp
use Rattle.tcl_goals.specs.declared.fact.Hyp.{Hyp}
use Rattle.tcl_goals.specs.declared.fact.Claim.TheVariants as claim
use Rattle.tcl_goals.specs.Numbers.{those_below}
use Rattle.tcl_goals.specs.Places.{goal_place, is_step}
use Rattle.tcl_goals.specs.Defaults.{line_hyps}
use Rattle.tcl_goals.specs.Slices.{is_hypothesis_at, is_step_at, whole_fact}
use Rattle.tcl_goals.proofs.Numbers.{those_none, next_yes, next_no}

-- lines as hypotheses, one more
pub appended : (ns : List ℕ) (n : ℕ) → line_hyps (ns ++ n ∷ []) ≡ line_hyps ns ++ hyp.Line n ∷ []
appended [] n = refl
appended (m ∷ ns) n = ap (λ hs. hyp.Line m ∷ hs) (appended ns n)

pub hyps_none : (lines : List Line) → line_hyps (those_below (is_hypothesis_at lines) 0) ≡ []
hyps_none lines = ap line_hyps (those_none (is_hypothesis_at lines))

pub hyps_yes : (lines : List Line) (k : ℕ) (l : Line) → slice_get lines k ≡ Some l → is_hypothesis l ≡ true → line_hyps (those_below (is_hypothesis_at lines) (k + 1)) ≡ line_hyps (those_below (is_hypothesis_at lines) k) ++ hyp.Line k ∷ []
hyps_yes lines k l at e =
    ap line_hyps (next_yes (is_hypothesis_at lines) k (ap (passes is_hypothesis) at ∙ e))
    ∙ appended (those_below (is_hypothesis_at lines) k) k

pub hyps_no : (lines : List Line) (k : ℕ) (l : Line) → slice_get lines k ≡ Some l → is_hypothesis l ≡ false → line_hyps (those_below (is_hypothesis_at lines) (k + 1)) ≡ line_hyps (those_below (is_hypothesis_at lines) k)
hyps_no lines k l at e = ap line_hyps (next_no (is_hypothesis_at lines) k (ap (passes is_hypothesis) at ∙ e))

pub steps_none : (lines : List Line) → those_below (is_step_at lines) 0 ≡ []
steps_none lines = those_none (is_step_at lines)

pub steps_yes : (lines : List Line) (k : ℕ) (l : Line) → slice_get lines k ≡ Some l → is_step l ≡ true → those_below (is_step_at lines) (k + 1) ≡ those_below (is_step_at lines) k ++ k ∷ []
steps_yes lines k l at e = next_yes (is_step_at lines) k (ap (passes is_step) at ∙ e)

pub steps_no : (lines : List Line) (k : ℕ) (l : Line) → slice_get lines k ≡ Some l → is_step l ≡ false → those_below (is_step_at lines) (k + 1) ≡ those_below (is_step_at lines) k
steps_no lines k l at e = next_no (is_step_at lines) k (ap (passes is_step) at ∙ e)

-- the fact from its parts
pub whole_is : (p : VersionedProgram) (lines : List Line) (i place : ℕ) (hyps : List Hyp) (uses : List ℕ) → lines ≡ p.lines → place ≡ goal_place lines i → hyps ≡ line_hyps (those_below (is_hypothesis_at lines) place) → uses ≡ those_below (is_step_at lines) place → record { claim = claim.Goal i; hyps = hyps; cube = []; uses = uses } ≡ whole_fact p i
unfolding whole_fact
whole_is p lines i place hyps uses same at hyps_are uses_are =
    let hyps_there : hyps ≡ line_hyps (those_below (is_hypothesis_at p.lines) (goal_place p.lines i)) =
    hyps_are ∙ ap (λ k. line_hyps (those_below (is_hypothesis_at lines) k)) at
    ∙ ap (λ (ls : List Line). line_hyps (those_below (is_hypothesis_at ls) (goal_place ls i))) same in
    let uses_there : uses ≡ those_below (is_step_at p.lines) (goal_place p.lines i) =
    uses_are ∙ ap (λ k. those_below (is_step_at lines) k) at
    ∙ ap (λ (ls : List Line). those_below (is_step_at ls) (goal_place ls i)) same in
    cc (hyps_there, uses_there)
