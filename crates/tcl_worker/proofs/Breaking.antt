-- The input of an assignment that denies the whole fact of a goal, none of whose lines is too wide, checks against the goal.
use Rattle.std.proofs.Common.{◌≡◌, ◌<◌, ◌≢◌, ℕ, zero, suc, ℤ, Bool, true, false, ◌&&◌, ◌||◌, List, [], ◌∷◌, refl, sym, ◌∙◌, ap, subst, arith, Option, Some, None}
use Rattle.std.specs.Prelude.{not}
use Rattle.std.specs.List.{slice_get, list_all}
use Rattle.std.proofs.lemmas.Bool.{and_parts}
use Rattle.tcl_lang.specs.declared.outcome.Truth.{Truth}
use Rattle.tcl_lang.specs.declared.outcome.Truth.TheVariants.{Yes, No, Wide}
use Rattle.tcl_lang.specs.declared.pred.Line.{Line}
use Rattle.tcl_lang.specs.Program.{VersionedProgram}
use Rattle.tcl_lang.specs.Line.{is_precondition, is_assumption, is_goal, is_hypothesis}
use Rattle.tcl_lang.specs.Goal.{passes}
use Rattle.tcl_lang.specs.Values.{types_of, words_of, AreValues, truth_of, computed_of}
use Rattle.tcl_lang.specs.Checked.{computed_in}
use Rattle.tcl_lang.specs.Goal.{truth_in}
use Rattle.tcl_lang.specs.Form.{IsWellFormed}
use Rattle.tcl_lang.proofs.Stages.{precondition_earlier}
use Rattle.tcl_lang.proofs.TruthLaw.{line_yes, line_no}
use Rattle.tcl_lang.proofs.ValueSteps.{values_hold}
use Rattle.tcl_lang.proofs.ValueWalks.{narrow_values}
use Rattle.tcl_goals.specs.declared.fact.Fact.{Fact}
use Rattle.tcl_goals.specs.declared.fact.Hyp.{Hyp}
use Rattle.tcl_goals.specs.declared.fact.Hyp.TheVariants as hyp
use Rattle.tcl_goals.specs.Numbers.{those_below}
use Rattle.tcl_goals.specs.Places.{goal_place, has_goal}
use Rattle.tcl_goals.specs.Defaults.{line_hyps}
use Rattle.tcl_goals.specs.Slices.{is_hypothesis_at, whole_fact}
use Rattle.tcl_goals.specs.Order.{InOrder}
use Rattle.tcl_goals.specs.Assignments.{Assigns, hyp_of, cube_of, claim_of}
use Rattle.tcl_slice.specs.Runs.{input_from}
use Rattle.tcl_slice.proofs.WholeRuns.{those_hold, whole_runs}
use Rattle.tcl_enum.specs.declared.ended.FreeValue.{FreeValue}
use Rattle.tcl_enum.specs.declared.ended.Ended.TheVariants as ended
use Rattle.tcl_enum.specs.NarrowFact.{is_narrow_in, is_narrow_hyp, is_narrow_claim, is_narrow_fact}
use Rattle.tcl_enum.specs.Patterns.{assignment}
use Rattle.tcl_enum.specs.Enumeration.{is_denied, ended_of}
use Rattle.tcl_kernel.specs.Counterexample.{BreakChecks}
use Rattle.tcl_kernel.proofs.GoalsFound.{goal_found}
use Rattle.tcl_kernel.specs.CauseLaws.{IsWholeFact}
use Rattle.tcl_worker.specs.Inputs.{input_of, IsFirstInput}
use Rattle.tcl_worker.proofs.Walks.{ended_fails}
use Rattle.tcl_worker.proofs.FirstInputs.{same_input, numbered_assigns, first_denies, fails_first}

-- what holds of all holds of one
all_at : {X : Type 0} (test : X → Bool) (xs : List X) (k : ℕ) (x : X) → list_all test xs ≡ true → slice_get xs k ≡ Some x → test x ≡ true
all_at test [] k x e at = absurd (cc)
all_at test (y ∷ xs) zero x e at = let same : y ≡ x = cc in ap test (sym same) ∙ (and_parts (test y) (list_all test xs) e).0
all_at test (y ∷ xs) (suc k) x e at = all_at test xs k x (and_parts (test y) (list_all test xs) e).1 at

listed : (ns : List ℕ) (m j : ℕ) → slice_get ns m ≡ Some j → slice_get (line_hyps ns) m ≡ Some (hyp.Line j)
listed [] m j e = absurd (cc)
listed (n ∷ ns) zero j e = let same : n ≡ j = cc in ap (λ k. Some (hyp.Line k)) same
listed (n ∷ ns) (suc m) j e = listed ns m j e

hyps_of_whole : (p : VersionedProgram) (i : ℕ) → (whole_fact p i).hyps ≡ line_hyps (those_below (is_hypothesis_at p.lines) (goal_place p.lines i))
unfolding whole_fact
hyps_of_whole p i = refl

-- each hypothesis before the goal passes what all pass
one_passes : (p : VersionedProgram) (fact : Fact) (i j : ℕ) (test : Hyp → Bool) → IsWholeFact p fact i → list_all test fact.hyps ≡ true → j < goal_place p.lines i → is_hypothesis_at p.lines j ≡ true → test (hyp.Line j) ≡ true
one_passes p fact i j test whole all less h =
    let r = those_hold (is_hypothesis_at p.lines) (goal_place p.lines i) j less h in
    all_at test (line_hyps (those_below (is_hypothesis_at p.lines) (goal_place p.lines i))) r.0 (hyp.Line j)
    (ap (list_all test) (sym (whole.hyps ∙ hyps_of_whole p i)) ∙ all) (listed (those_below (is_hypothesis_at p.lines) (goal_place p.lines i)) r.0 j r.1)

-- a line that is not too wide is computed as it is true
yes_where : (p : VersionedProgram) (values : List ℤ) (k : ℕ) (l : Line) → AreValues p.variables values → slice_get p.lines k ≡ Some l → computed_of p values k ≢ Wide → truth_of p values k ≡ true → computed_of p values k ≡ Yes
unfolding computed_of truth_of
yes_where p values k l a at narrow holds = cases (computed_of p values k) refl
  where
    cases : (t : Truth) → computed_of p values k ≡ t → computed_of p values k ≡ Yes
    cases Yes e = e
    cases No e = absurd (clash (truth_of p values k) holds (ap (truth_in (words_of p.variables values)) at ∙ line_no (words_of p.variables values) l (sym (ap (computed_in (words_of p.variables values)) at) ∙ e)))
      where
        clash : (b : Bool) → b ≡ true → b ≡ false → ⊥
        clash b s t = cc
    cases Wide e = absurd (narrow e)

no_where : (p : VersionedProgram) (values : List ℤ) (k : ℕ) (l : Line) → AreValues p.variables values → slice_get p.lines k ≡ Some l → computed_of p values k ≢ Wide → truth_of p values k ≡ false → computed_of p values k ≡ No
unfolding computed_of truth_of
no_where p values k l a at narrow fails = cases (computed_of p values k) refl
  where
    cases : (t : Truth) → computed_of p values k ≡ t → computed_of p values k ≡ No
    cases Yes e = absurd (clash (truth_of p values k) (ap (truth_in (words_of p.variables values)) at ∙ line_yes (words_of p.variables values) l (values_hold p values a) (sym (ap (computed_in (words_of p.variables values)) at) ∙ e)) fails)
      where
        clash : (b : Bool) → b ≡ true → b ≡ false → ⊥
        clash b s t = cc
    cases No e = e
    cases Wide e = absurd (narrow e)

line_there : (test : Line → Bool) (o : Option Line) → passes test o ≡ true → (l : Line) × (o ≡ Some l)
line_there test None e = absurd (cc)
line_there test (Some l) e = (l, refl)

-- the kinds of hypotheses
first_of_three : (a b c : Bool) → a ≡ true → (a || b || c) ≡ true
first_of_three true b c e = refl
first_of_three false b c e = absurd (cc)

second_of_three : (a b c : Bool) → b ≡ true → (a || b || c) ≡ true
second_of_three true b c e = refl
second_of_three false true c e = refl
second_of_three false false c e = absurd (cc)

third_of_three : (a b c : Bool) → c ≡ true → (a || b || c) ≡ true
third_of_three true b c e = refl
third_of_three false true c e = refl
third_of_three false false c e = e

precondition_counts : (o : Option Line) → passes is_precondition o ≡ true → passes is_hypothesis o ≡ true
precondition_counts None e = absurd (cc)
precondition_counts (Some l) e = first_of_three (is_precondition l) (is_assumption l) (is_goal l) e

assumption_counts : (o : Option Line) → passes is_assumption o ≡ true → passes is_hypothesis o ≡ true
assumption_counts None e = absurd (cc)
assumption_counts (Some l) e = second_of_three (is_precondition l) (is_assumption l) (is_goal l) e

goal_counts : (o : Option Line) → passes is_goal o ≡ true → passes is_hypothesis o ≡ true
goal_counts None e = absurd (cc)
goal_counts (Some l) e = third_of_three (is_precondition l) (is_assumption l) (is_goal l) e

-- the parts of a denial
pub record Denies (p : VersionedProgram) (i : ℕ) (values : List ℤ) : Type 0 where
  pub hyps : (j : ℕ) → j < goal_place p.lines i → is_hypothesis_at p.lines j ≡ true → computed_of p values j ≡ Yes
  pub fails : computed_of p values (goal_place p.lines i) ≡ No

turned : (b : Bool) → not b ≡ true → b ≡ false
turned true e = absurd (cc)
turned false e = refl

denies : (p : VersionedProgram) (fact : Fact) (i : ℕ) (values : List ℤ) → IsWholeFact p fact i → has_goal p.lines i ≡ true → AreValues p.variables values → is_denied p [] fact values ≡ true → is_narrow_fact p fact ≡ true → Denies p i values
denies p fact i values whole goal a denied narrow =
    let parts = and_parts (list_all (hyp_of p [] values) fact.hyps && cube_of p values fact.cube) (not (claim_of p values fact.claim)) denied in
    let met = and_parts (list_all (hyp_of p [] values) fact.hyps) (cube_of p values fact.cube) parts.0 in
    let widths = and_parts (is_narrow_claim p fact.claim) (list_all (is_narrow_hyp p) fact.hyps) narrow in
    let found = goal_found p.lines i goal in
    let last = line_there is_goal (slice_get p.lines (goal_place p.lines i)) found.goal in
    let fails = ap (claim_of p values) (sym whole.claim) ∙ turned (claim_of p values fact.claim) parts.1 in
    let last_narrow = ap (is_narrow_in (types_of p.variables)) (sym last.1) ∙ ap (is_narrow_claim p) (sym whole.claim) ∙ widths.0 in
    record {
      hyps = λ j less h.
          let l = line_there is_hypothesis (slice_get p.lines j) h in
          yes_where p values j l.0 a l.1
          (narrow_values p values j l.0 a l.1 (ap (is_narrow_in (types_of p.variables)) (sym l.1) ∙ one_passes p fact i j (is_narrow_hyp p) whole widths.1 less h))
          (one_passes p fact i j (hyp_of p [] values) whole met.0 less h);
      fails = no_where p values (goal_place p.lines i) last.0 a last.1
          (narrow_values p values (goal_place p.lines i) last.0 a last.1 last_narrow) fails;
    }

-- an assignment of the fact is one of the whole fact
whole_assigns : (p : VersionedProgram) (fact : Fact) (i : ℕ) (values : List ℤ) → IsWholeFact p fact i → Assigns p fact values → Assigns p (whole_fact p i) values
whole_assigns p fact i values whole has = record {
  typed = has.typed;
  executed = λ n k at. has.executed n k (ap (λ uses. slice_get uses n) whole.uses ∙ at);
}

break_checks : (p : VersionedProgram) (i : ℕ) (values : List ℤ) → IsWellFormed p → has_goal p.lines i ≡ true → Assigns p (whole_fact p i) values → Denies p i values → BreakChecks p i (input_from p.lines values)
break_checks p i values w goal has denied =
    let run = whole_runs p i values w goal has in
    let found = goal_found p.lines i goal in
    record {
      place = goal_place p.lines i;
      at = found;
      fits = run.fits;
      precondition = λ j pre.
          let less = precondition_earlier p.lines j (goal_place p.lines i) w.stages pre found.goal in
          run.computed j (omega (arith, less)) ∙ denied.hyps j less (precondition_counts (slice_get p.lines j) pre);
      assumptions = λ j less h. run.computed j (omega (arith, less)) ∙ denied.hyps j less (assumption_counts (slice_get p.lines j) h);
      goals = λ j less h. run.computed j (omega (arith, less)) ∙ denied.hyps j less (goal_counts (slice_get p.lines j) h);
      fails = run.computed (goal_place p.lines i) (omega arith) ∙ denied.fails;
    }

-- the input at which the walk ends
pub found_checks : (p : VersionedProgram) (fact : Fact) (i : ℕ) (free : List FreeValue) → IsWellFormed p → InOrder p [] fact → IsWholeFact p fact i → has_goal p.lines i ≡ true → ended_of p [] fact ≡ ended.Fails free → BreakChecks p i (input_of free p.lines) × IsFirstInput p fact (input_of free p.lines)
found_checks p fact i free w order whole goal fails =
    let first = fails_first p fact free fails in
    let values = assignment p [] fact first.0 in
    let has = numbered_assigns p fact first.0 w order in
    let same = same_input p fact free first.0 w first.2 in (
      subst (λ input. BreakChecks p i input) (sym same)
          (break_checks p i values w goal (whole_assigns p fact i values whole has)
          (denies p fact i values whole goal has.typed (first_denies p fact first.0 first.1) (ended_fails p fact free fails))),
      record { number = first.0; first = first.1; input_is = same },
    )
