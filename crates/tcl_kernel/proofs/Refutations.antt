-- The values of a run refute a goal exactly where its input does by the computed truths.
use Rattle.std.proofs.Common.{◌≡◌, ℕ, ◌<◌, ◌≤◌, refl, sym, ◌∙◌, ap, subst, ℤ, nat_lt, true, false, ◌&&◌, ◌||◌, ◌⊎◌, inl, inr, List, length, get_or, Option, Some, None}
use Rattle.std.specs.List.{slice_get}
use Rattle.std.proofs.lemmas.Option.{slice_get_cases}
use Rattle.std.proofs.lemmas.Bool.{and_parts, and_from, lt-ltb, ltb-true}
use Rattle.tcl_list.proofs.Booleans.{or_cases, or_left, or_right}
use Rattle.tcl_lang.specs.declared.outcome.Truth.{Truth}
use Rattle.tcl_lang.specs.declared.outcome.Truth.TheVariants.{Yes, No, Wide}
use Rattle.tcl_lang.specs.declared.pred.Line.{Line}
use Rattle.tcl_lang.specs.Program.{VersionedProgram}
use Rattle.tcl_lang.specs.Line.{is_precondition, is_assumption, is_goal}
use Rattle.tcl_lang.specs.Run.{Fits, taken_types}
use Rattle.tcl_lang.specs.Goal.{is_precondition_at, is_assumption_at, is_goal_at, passes}
use Rattle.tcl_lang.specs.Checked.{computed_at}
use Rattle.tcl_lang.specs.Correct.{IsCounterexample}
use Rattle.tcl_lang.specs.Form.{IsWellFormed}
use Rattle.tcl_lang.specs.Values.{trace_of, computed_of}
use Rattle.tcl_lang.proofs.Correctness.{goal_once}
use Rattle.tcl_lang.proofs.TruthLaw.{checked_refutes}
use Rattle.tcl_lang.proofs.ValueSteps.{trace_computed}
use Rattle.tcl_goals.specs.Places.{goal_place, has_goal}
use Rattle.tcl_kernel.specs.Refuting.{is_required, is_required_at, is_yes, is_no, MeetsRequired, Refutes}
use Rattle.tcl_kernel.specs.Counterexample.{BreakChecks}
use Rattle.tcl_kernel.proofs.GoalsFound.{goal_found}

-- what has to hold is one of three
required_cases : (lines : List Line) (place k : ℕ) (o : Option Line) → passes (is_required place k) o ≡ true → (passes is_precondition o ≡ true) ⊎ ((k < place) × ((passes is_assumption o ≡ true) ⊎ (passes is_goal o ≡ true)))
required_cases lines place k None e = absurd (cc)
required_cases lines place k (Some l) e =
    elim (or_cases (is_precondition l) (nat_lt k place && (is_assumption l || is_goal l)) e) [
      | inl h ↦ inl h
      | inr h ↦
          let parts = and_parts (nat_lt k place) (is_assumption l || is_goal l) h in
          inr (ltb-true k place parts.0, or_cases (is_assumption l) (is_goal l) parts.1)
    ]

pre_required : (place k : ℕ) (o : Option Line) → passes is_precondition o ≡ true → passes (is_required place k) o ≡ true
pre_required place k None e = absurd (cc)
pre_required place k (Some l) e = or_left (is_precondition l) (nat_lt k place && (is_assumption l || is_goal l)) e

assumed_required : (place k : ℕ) (o : Option Line) → k < place → passes is_assumption o ≡ true → passes (is_required place k) o ≡ true
assumed_required place k None less e = absurd (cc)
assumed_required place k (Some l) less e =
    or_right (is_precondition l) (nat_lt k place && (is_assumption l || is_goal l))
    (and_from _ _ (lt-ltb k place less) (or_left (is_assumption l) (is_goal l) e))

goal_required : (place k : ℕ) (o : Option Line) → k < place → passes is_goal o ≡ true → passes (is_required place k) o ≡ true
goal_required place k None less e = absurd (cc)
goal_required place k (Some l) less e =
    or_right (is_precondition l) (nat_lt k place && (is_assumption l || is_goal l))
    (and_from _ _ (lt-ltb k place less) (or_right (is_assumption l) (is_goal l) e))

-- what the values of the run refute, the input does
pub refutes_checks : (p : VersionedProgram) (goal : ℕ) (input : List ℤ) → IsWellFormed p → Fits (taken_types p.lines) input → has_goal p.lines goal ≡ true → Refutes p goal (trace_of p input) → BreakChecks p goal input
refutes_checks p goal input w fits there r =
    let place : ℕ = goal_place p.lines goal in
    let told = λ (k : ℕ). sym (trace_computed p input k w fits) in
    record {
      place = goal_place p.lines goal;
      at = goal_found p.lines goal there;
      fits = fits;
      precondition = λ j e. told j ∙ r.required j (pre_required (goal_place p.lines goal) j (slice_get p.lines j) e);
      assumptions = λ j less e. told j ∙ r.required j (assumed_required (goal_place p.lines goal) j (slice_get p.lines j) less e);
      goals = λ j less e. told j ∙ r.required j (goal_required (goal_place p.lines goal) j (slice_get p.lines j) less e);
      fails = told (goal_place p.lines goal) ∙ r.fails;
    }

required_told : (p : VersionedProgram) (goal : ℕ) (input : List ℤ) (c : BreakChecks p goal input) (k : ℕ) → (is_precondition_at p.lines k ≡ true) ⊎ ((k < c.place) × ((is_assumption_at p.lines k ≡ true) ⊎ (is_goal_at p.lines k ≡ true))) → computed_at (length p.variables) p.lines input k ≡ Yes
required_told p goal input c k (inl e) = c.precondition k e
required_told p goal input c k (inr (less, inl e)) = c.assumptions k less e
required_told p goal input c k (inr (less, inr e)) = c.goals k less e

-- and the other way round
pub checks_refute : (p : VersionedProgram) (goal : ℕ) (input : List ℤ) → IsWellFormed p → Fits (taken_types p.lines) input → has_goal p.lines goal ≡ true → BreakChecks p goal input → Refutes p goal (trace_of p input)
checks_refute p goal input w fits there c =
    let same : goal_place p.lines goal ≡ c.place = goal_once p.lines goal (goal_place p.lines goal) c.place (goal_found p.lines goal there) c.at in
    record {
      required = λ k e. trace_computed p input k w fits ∙ required_told p goal input c k (subst (λ n. (is_precondition_at p.lines k ≡ true) ⊎ ((k < n) × ((is_assumption_at p.lines k ≡ true) ⊎ (is_goal_at p.lines k ≡ true)))) same (required_cases p.lines (goal_place p.lines goal) k (slice_get p.lines k) e));
      fails = trace_computed p input (goal_place p.lines goal) w fits ∙ ap (computed_at (length p.variables) p.lines input) same ∙ c.fails;
    }

-- an input that checks is a counterexample
pub breaks_refute : (p : VersionedProgram) (goal : ℕ) (input : List ℤ) → IsWellFormed p → BreakChecks p goal input → IsCounterexample (length p.variables) p.lines input goal
breaks_refute p goal input w c = checked_refutes (length p.variables) p.lines input goal w.runnable c

-- truths
pub yes_is : (t : Truth) → is_yes t ≡ true → t ≡ Yes
yes_is Yes e = refl
yes_is No e = absurd (cc)
yes_is Wide e = absurd (cc)

pub no_is : (t : Truth) → is_no t ≡ true → t ≡ No
no_is Yes e = absurd (cc)
no_is No e = refl
no_is Wide e = absurd (cc)

-- each line up to the end is met
pub required_all : (p : VersionedProgram) (place : ℕ) (values : List ℤ) → ((k : ℕ) → k < length p.lines → is_required_at p.lines place k ≡ true → computed_of p values k ≡ Yes) → MeetsRequired p place values
required_all p place values below k e = at (slice_get_cases p.lines k).1
  where
    past : (o : Option Line) → o ≡ None → passes (is_required place k) o ≡ true → ⊥
    past None q f = cc
    past (Some l) q f = cc

    at : ((x : Line) × (k < length p.lines) × (slice_get p.lines k ≡ Some x) × (get_or p.lines k x ≡ x)) ⊎ ((length p.lines ≤ k) × (slice_get p.lines k ≡ None)) → computed_of p values k ≡ Yes
    at (inl found) = below k found.1 e
    at (inr ends) = absurd (past (slice_get p.lines k) ends.1 e)

-- one that is not
pub required_fails : (p : VersionedProgram) (place : ℕ) (values : List ℤ) (k : ℕ) (l : Line) → slice_get p.lines k ≡ Some l → is_required place k l ≡ true → is_yes (computed_of p values k) ≡ false → MeetsRequired p place values → ⊥
required_fails p place values k l at e not_yes all =
    let told : computed_of p values k ≡ Yes = all k (ap (passes (is_required place k)) at ∙ e) in
    clash (sym not_yes ∙ ap is_yes told)
  where
    clash : false ≡ true → ⊥
    clash f = cc

pub required_next : (p : VersionedProgram) (place : ℕ) (values : List ℤ) (k : ℕ) (l : Line) → slice_get p.lines k ≡ Some l → (is_required place k l ≡ true → computed_of p values k ≡ Yes) → is_required_at p.lines place k ≡ true → computed_of p values k ≡ Yes
required_next p place values k l at h e = h (sym (ap (passes (is_required place k)) at) ∙ e)

-- the values of the run, as they were computed
pub broken : (p : VersionedProgram) (goal : ℕ) (input values : List ℤ) → IsWellFormed p → Fits (taken_types p.lines) input → has_goal p.lines goal ≡ true → values ≡ trace_of p input → Refutes p goal values → BreakChecks p goal input
broken p goal input values w fits there are r =
    refutes_checks p goal input w fits there (subst (λ (v : List ℤ). Refutes p goal v) are r)

pub unbroken : (p : VersionedProgram) (goal : ℕ) (input values : List ℤ) → IsWellFormed p → Fits (taken_types p.lines) input → has_goal p.lines goal ≡ true → values ≡ trace_of p input → (Refutes p goal values → ⊥) → BreakChecks p goal input → ⊥
unbroken p goal input values w fits there are no_refuting checks =
    no_refuting (subst (λ (v : List ℤ). Refutes p goal v) (sym are) (checks_refute p goal input w fits there checks))
