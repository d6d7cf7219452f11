-- The input of a model of a whole fact refutes its goal, or has an algebraic line as its first stray; a goal that is the first
-- stray is refuted.
use Rattle.std.proofs.Common.{◌≡◌, ℕ, zero, suc, ℤ, Bool, true, false, refl, sym, ◌∙◌, ap, subst, List, [], ◌∷◌, length, ◌||◌, Option, Some, None}
use Rattle.std.specs.List.{slice_get}
use Rattle.tcl_list.proofs.Booleans.{or_left, or_right}
use Rattle.tcl_cnf.specs.Literal.{value_at}
use Rattle.tcl_cnf.specs.Clause.{Satisfies}
use Rattle.tcl_lang.specs.declared.outcome.Truth.TheVariants.{No}
use Rattle.tcl_lang.specs.declared.ty.Word.{Word}
use Rattle.tcl_lang.specs.declared.instr.Instr.{Instr}
use Rattle.tcl_lang.specs.declared.pred.Pred.{Pred}
use Rattle.tcl_lang.specs.declared.pred.Pred.TheVariants.{Alg, Rng}
use Rattle.tcl_lang.specs.declared.pred.Line.{Line}
use Rattle.tcl_lang.specs.Program.{VersionedProgram}
use Rattle.tcl_lang.specs.Line.{predicate_of, instruction_of, is_precondition, is_assumption, is_goal, is_hypothesis, is_algebraic, is_algebraic_in, stated_truth}
use Rattle.tcl_lang.specs.Run.{Fits, taken_types, store_at}
use Rattle.tcl_lang.specs.Goal.{passes, truth_in, truth_at}
use Rattle.tcl_lang.specs.Checked.{computed_in, computed_at}
use Rattle.tcl_lang.specs.Truth.{yes_or_no, stated_computed}
use Rattle.tcl_lang.specs.Form.{IsWellFormed}
use Rattle.tcl_lang.proofs.Stages.{precondition_earlier}
use Rattle.tcl_goals.specs.declared.fact.Fact.{Fact}
use Rattle.tcl_goals.specs.declared.fact.Hyp.TheVariants as hyp
use Rattle.tcl_goals.specs.declared.piece.Piece.{Piece}
use Rattle.tcl_goals.specs.declared.piece.Route.{Route}
use Rattle.tcl_goals.specs.Numbers.{those_below}
use Rattle.tcl_goals.specs.LemmaList.{lemma_of}
use Rattle.tcl_goals.specs.Places.{goal_place, has_goal}
use Rattle.tcl_goals.specs.Defaults.{line_hyps}
use Rattle.tcl_goals.specs.Slices.{is_hypothesis_at, whole_fact, route_fact}
use Rattle.tcl_goals.specs.Plans.{is_algebraic_goal, piece_fact}
use Rattle.tcl_goals.specs.Order.{InOrder, has_claim}
use Rattle.tcl_goals.specs.Holds.{line_holds}
use Rattle.tcl_slice.proofs.WholeRuns.{those_hold}
use Rattle.tcl_blast.specs.Clauses.{clauses_of}
use Rattle.tcl_blast.specs.Inputs.{input_of}
use Rattle.tcl_blast.specs.Models.{is_algebraic_claim}
use Rattle.tcl_blast.specs.ModelRuns.{AreLemmas, IsModelRun}
use Rattle.tcl_blast.proofs.ModelRuns.{models_run}
use Rattle.tcl_kernel.specs.declared.stray.Stray.{Stray}
use Rattle.tcl_kernel.specs.Counterexample.{BreakChecks}
use Rattle.tcl_kernel.specs.Strays.{first_stray, IsHypothesisOf}
use Rattle.tcl_kernel.specs.CauseLaws.{IsWholeFact, IsModelEnd, ModelsStray, StraysBreak, WholeFactsAreWhole, WholePiecesAreWhole}
use Rattle.tcl_kernel.proofs.GoalsFound.{goal_found}
use Rattle.tcl_kernel.proofs.Strays.{AllYes, none_all, IsFoundStray, some_found}

-- a line that is no algebraic one is computed as it is true
range_stated : (store : List Word) (s : Option Pred) (i : Option Instr) → is_algebraic_in s ≡ false → stated_computed store s i ≡ yes_or_no (stated_truth store s i)
range_stated store (Some (Alg p)) i e = absurd (cc)
range_stated store (Some (Rng p)) i e = refl
range_stated store None (Some i) e = refl
range_stated store None None e = refl

range_in : (store : List Word) (o : Option Line) → passes is_algebraic o ≡ false → computed_in store o ≡ yes_or_no (truth_in store o)
range_in store None e = refl
range_in store (Some l) e = range_stated store (predicate_of l) (instruction_of l) e

range_told : (p : VersionedProgram) (input : List ℤ) (k : ℕ) (b : Bool) → passes is_algebraic (slice_get p.lines k) ≡ false → line_holds p input k ≡ b → computed_at (length p.variables) p.lines input k ≡ yes_or_no b
unfolding truth_at computed_at
range_told p input k b e same = range_in (store_at (length p.variables) p.lines input k) (slice_get p.lines k) e ∙ ap yes_or_no same

-- the kinds of hypotheses
precondition_counts : (o : Option Line) → passes is_precondition o ≡ true → passes is_hypothesis o ≡ true
precondition_counts None e = absurd (cc)
precondition_counts (Some l) e = or_left (is_precondition l || is_assumption l) (is_goal l) (or_left (is_precondition l) (is_assumption l) e)

assumption_counts : (o : Option Line) → passes is_assumption o ≡ true → passes is_hypothesis o ≡ true
assumption_counts None e = absurd (cc)
assumption_counts (Some l) e = or_left (is_precondition l || is_assumption l) (is_goal l) (or_right (is_precondition l) (is_assumption l) e)

goal_counts : (o : Option Line) → passes is_goal o ≡ true → passes is_hypothesis o ≡ true
goal_counts None e = absurd (cc)
goal_counts (Some l) e = or_right (is_precondition l || is_assumption l) (is_goal l) e

-- where the hypotheses before a goal are computed as `Yes`, and the goal as `No`, the input refutes it
all_break : (p : VersionedProgram) (goal : ℕ) (input : List ℤ) → IsWellFormed p → has_goal p.lines goal ≡ true → Fits (taken_types p.lines) input → AllYes p input (goal_place p.lines goal) → computed_at (length p.variables) p.lines input (goal_place p.lines goal) ≡ No → BreakChecks p goal input
all_break p goal input w there fits all fails =
    let found = goal_found p.lines goal there in
    record {
      place = goal_place p.lines goal;
      at = found;
      fits = fits;
      precondition = λ j pre.
          all j (precondition_earlier p.lines j (goal_place p.lines goal) w.stages pre found.goal) (precondition_counts (slice_get p.lines j) pre);
      assumptions = λ j less h. all j less (assumption_counts (slice_get p.lines j) h);
      goals = λ j less h. all j less (goal_counts (slice_get p.lines j) h);
      fails = fails;
    }

pub strays_break : StraysBreak
strays_break p goal earlier input stray w fits first truth there place =
    let f = some_found p input (goal_place p.lines goal) stray first in
    all_break p earlier input w there fits (subst (λ n. AllYes p input n) place f.earlier)
    (subst (λ n. computed_at (length p.variables) p.lines input n ≡ No) place (f.computed ∙ truth))

-- whole facts
pub whole_is : WholeFactsAreWhole
unfolding whole_fact
whole_is p goal = record { claim = refl; hyps = refl; uses = refl }

piece_claim : (p : VersionedProgram) (q : Piece) → (piece_fact p q).claim ≡ (route_fact p q.goal q.route).claim
unfolding piece_fact
piece_claim p q = refl

piece_hyps : (p : VersionedProgram) (q : Piece) → (piece_fact p q).hyps ≡ (route_fact p q.goal q.route).hyps
unfolding piece_fact
piece_hyps p q = refl

piece_uses : (p : VersionedProgram) (q : Piece) → (piece_fact p q).uses ≡ (route_fact p q.goal q.route).uses
unfolding piece_fact
piece_uses p q = refl

pub piece_is : WholePiecesAreWhole
piece_is p q e = record {
  claim = piece_claim p q ∙ ap (λ (r : Route). (route_fact p q.goal r).claim) e ∙ (whole_is p q.goal).claim;
  hyps = piece_hyps p q ∙ ap (λ (r : Route). (route_fact p q.goal r).hyps) e;
  uses = piece_uses p q ∙ ap (λ (r : Route). (route_fact p q.goal r).uses) e;
}

-- a hypothesis of the whole fact is one of the fact
hyps_are : (p : VersionedProgram) (goal : ℕ) → (whole_fact p goal).hyps ≡ line_hyps (those_below (is_hypothesis_at p.lines) (goal_place p.lines goal))
unfolding whole_fact
hyps_are p goal = refl

listed : (ns : List ℕ) (m j : ℕ) → slice_get ns m ≡ Some j → slice_get (line_hyps ns) m ≡ Some (hyp.Line j)
listed [] m j e = absurd (cc)
listed (n ∷ ns) zero j e = let same : n ≡ j = cc in ap (λ k. Some (hyp.Line k)) same
listed (n ∷ ns) (suc m) j e = listed ns m j e

hypothesis_there : (p : VersionedProgram) (fact : Fact) (goal k : ℕ) → IsWholeFact p fact goal → IsHypothesisOf p goal k → (n : ℕ) × (slice_get fact.hyps n ≡ Some (hyp.Line k))
hypothesis_there p fact goal k whole h =
    let r = those_hold (is_hypothesis_at p.lines) (goal_place p.lines goal) k h.before h.hypothesis in
    (r.0, ap (λ hs. slice_get hs r.0) (whole.hyps ∙ hyps_are p goal) ∙ listed (those_below (is_hypothesis_at p.lines) (goal_place p.lines goal)) r.0 k r.1)

no_lemmas : (p : VersionedProgram) → AreLemmas p []
unfolding lemma_of
no_lemmas p n m e = absurd (cc)

-- the run of a model
model_run : (p : VersionedProgram) (fact : Fact) (goal : ℕ) (bits : List Bool) → IsWellFormed p → InOrder p [] fact → IsWholeFact p fact goal → is_algebraic_goal p.lines goal ≡ false → Satisfies (value_at bits) (clauses_of p [] fact) → IsModelRun p [] fact goal bits (input_of p [] fact bits)
model_run p fact goal bits w order whole range meets =
    models_run p [] fact goal bits w order (no_lemmas p) (record { claim = whole.claim; uses = whole.uses })
    (ap (is_algebraic_claim p) whole.claim ∙ range) meets

goal_there : (p : VersionedProgram) (fact : Fact) (goal : ℕ) → InOrder p [] fact → IsWholeFact p fact goal → has_goal p.lines goal ≡ true
goal_there p fact goal order whole = sym (ap (has_claim p) whole.claim) ∙ order.claim

-- a stray that is no algebraic line would be computed as `Yes`
algebraic_stray : (p : VersionedProgram) (input : List ℤ) (n : ℕ) (s : Stray) (b : Bool) → IsFoundStray p input n s → passes is_algebraic (slice_get p.lines s.place) ≡ b → (b ≡ false → line_holds p input s.place ≡ true) → b ≡ true
algebraic_stray p input n s true f e holds = refl
algebraic_stray p input n s false f e holds = absurd (f.not_yes (sym f.computed ∙ range_told p input s.place true e (holds refl)))

model_end : (p : VersionedProgram) (fact : Fact) (goal : ℕ) (bits : List Bool) (input : List ℤ) (o : Option Stray) → IsWellFormed p → has_goal p.lines goal ≡ true → IsWholeFact p fact goal → is_algebraic_goal p.lines goal ≡ false → IsModelRun p [] fact goal bits input → first_stray p goal input ≡ o → IsModelEnd p goal input o
model_end p fact goal bits input None w there whole range r first =
    all_break p goal input w there r.fits (none_all p input (goal_place p.lines goal) first)
    (range_told p input (goal_place p.lines goal) false range r.denied)
model_end p fact goal bits input (Some s) w there whole range r first =
    let f = some_found p input (goal_place p.lines goal) s first in
    let ranges = λ (k : ℕ) (h : IsHypothesisOf p goal k) (e : passes is_algebraic (slice_get p.lines k) ≡ false).
    let at = hypothesis_there p fact goal k whole h in
    r.hyps at.0 k at.1 e
    in
    record {
      fits = r.fits;
      ranges = ranges;
      lifted = λ k g h e. let at = hypothesis_there p fact goal k whole h in r.lifted at.0 k g at.1 e;
      denied = r.denied;
      first = first;
      algebraic = algebraic_stray p input (goal_place p.lines goal) s (passes is_algebraic (slice_get p.lines s.place)) f refl
          (ranges s.place (record { before = f.before; hypothesis = f.hypothesis }));
    }

pub models_stray : ModelsStray
models_stray p fact goal bits w order whole range meets =
    model_end p fact goal bits (input_of p [] fact bits) (first_stray p goal (input_of p [] fact bits)) w
    (goal_there p fact goal order whole) whole range (model_run p fact goal bits w order whole range meets) refl
