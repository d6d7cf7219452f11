-- The run of a stray meets what the clauses of the whole fact of its goal say.
use Rattle.std.proofs.Common.{◌≡◌, ◌<◌, ℕ, zero, suc, ℤ, Bool, true, false, List, [], ◌∷◌, ◌++◌, refl, sym, ◌∙◌, ap, arith, Option, Some, None}
use Rattle.std.specs.List.{slice_get, list_all}
use Rattle.std.proofs.lemmas.Bool.{and_from}
use Rattle.std.proofs.lemmas.List.Folds.{list_all-append}
use Rattle.tcl_lang.specs.declared.ty.Word.{Word}
use Rattle.tcl_lang.specs.declared.pred.Pred.{Pred}
use Rattle.tcl_lang.specs.declared.pred.Pred.TheVariants.{Alg, Rng}
use Rattle.tcl_lang.specs.declared.pred.Line.{Line}
use Rattle.tcl_lang.specs.Program.{VersionedProgram}
use Rattle.tcl_lang.specs.Line.{predicate_of, is_algebraic}
use Rattle.tcl_lang.specs.Goal.{passes}
use Rattle.tcl_lang.specs.Values.{trace_of, words_of, truth_of}
use Rattle.tcl_lang.specs.Form.{IsWellFormed}
use Rattle.tcl_goals.specs.declared.fact.Fact.{Fact}
use Rattle.tcl_goals.specs.declared.fact.Hyp.{Hyp}
use Rattle.tcl_goals.specs.declared.fact.Hyp.TheVariants as hyp
use Rattle.tcl_goals.specs.declared.piece.Piece.{Piece}
use Rattle.tcl_goals.specs.declared.piece.Route.TheVariants as route
use Rattle.tcl_goals.specs.Numbers.{those_below}
use Rattle.tcl_goals.specs.Places.{goal_place}
use Rattle.tcl_goals.specs.Defaults.{line_hyps}
use Rattle.tcl_goals.specs.Slices.{is_hypothesis_at, whole_fact}
use Rattle.tcl_goals.specs.Plans.{piece_fact}
use Rattle.tcl_goals.specs.Holds.{cube_holds}
use Rattle.tcl_goals.specs.Laws.{IsAssigned}
use Rattle.tcl_goals.proofs.Numbers.{those_none, those_yes, those_no}
use Rattle.tcl_goals.proofs.RunsAssign.{runs_assign}
use Rattle.tcl_blast.specs.Lifted.{fixed_bits_of}
use Rattle.tcl_blast.specs.Clauses.{predicate_in}
use Rattle.tcl_blast.specs.Models.{line_in_clauses, hyp_in_clauses, Models}
use Rattle.tcl_kernel.specs.declared.stray.Stray.{Stray}
use Rattle.tcl_kernel.specs.Strays.{IsHypothesisOf, IsStray}
use Rattle.tcl_kernel.proofs.ModelStrays.{piece_is}

-- a line with a range predicate or without a predicate is no algebraic one
range_line : (o : Option Line) (pred : Option Pred) → predicate_in o ≡ pred → ((f : _) → pred ≡ Some (Alg f) → ⊥) → passes is_algebraic o ≡ false
range_line None pred e n = refl
range_line (Some l) pred e n = at (predicate_of l) refl
  where
    at : (q : Option Pred) → predicate_of l ≡ q → passes is_algebraic (Some l) ≡ false
    at None s = ap Rattle.tcl_lang.specs.Line.is_algebraic_in s
    at (Some (Rng g)) s = ap Rattle.tcl_lang.specs.Line.is_algebraic_in s
    at (Some (Alg g)) s = absurd (n g (sym e ∙ s))

-- what the clauses say of a hypothesis of the goal
told_at : (p : VersionedProgram) (goal : ℕ) (input : List ℤ) (stray : Stray) (fact : Fact) (k : ℕ) → IsStray p goal input stray → IsAssigned p fact input → IsHypothesisOf p goal k → (pred : Option Pred) → predicate_in (slice_get p.lines k) ≡ pred → line_in_clauses p (words_of p.variables (trace_of p input)) (slice_get p.lines k) pred ≡ true
unfolding truth_of
told_at p goal input stray fact k s a h (Some (Alg f)) e =
    ap (λ (store : List Word). cube_holds store (fixed_bits_of p.variables f)) a.store ∙ s.lifted k f h e
told_at p goal input stray fact k s a h (Some (Rng g)) e =
    a.lines k ∙ s.ranges k h (range_line (slice_get p.lines k) (Some (Rng g)) e (λ f q. cc))
told_at p goal input stray fact k s a h None e =
    a.lines k ∙ s.ranges k h (range_line (slice_get p.lines k) None e (λ f q. cc))

-- of all below a place
lines_append : (xs ys : List ℕ) → line_hyps (xs ++ ys) ≡ line_hyps xs ++ line_hyps ys
lines_append [] ys = refl
lines_append (x ∷ xs) ys = ap (λ hs. hyp.Line x ∷ hs) (lines_append xs ys)

one_more : (test : ℕ → Bool) (told : Hyp → Bool) (n : ℕ) → list_all told (line_hyps (those_below test n)) ≡ true → (test n ≡ true → told (hyp.Line n) ≡ true) → list_all told (line_hyps (those_below test (suc n))) ≡ true
one_more test told n before last = at (test n) refl
  where
    at : (b : Bool) → test n ≡ b → list_all told (line_hyps (those_below test (suc n))) ≡ true
    at true e =
        ap (λ ns. list_all told (line_hyps ns)) (those_yes test n e) ∙ ap (list_all told) (lines_append (those_below test n) (n ∷ []))
        ∙ list_all-append told (line_hyps (those_below test n)) (hyp.Line n ∷ [])
        ∙ and_from (list_all told (line_hyps (those_below test n))) (list_all told (hyp.Line n ∷ [])) before (and_from (told (hyp.Line n)) true (last e) refl)
    at false e = ap (λ ns. list_all told (line_hyps ns)) (those_no test n e) ∙ before

all_below : (test : ℕ → Bool) (told : Hyp → Bool) (n : ℕ) → ((k : ℕ) → k < n → test k ≡ true → told (hyp.Line k) ≡ true) → list_all told (line_hyps (those_below test n)) ≡ true
all_below test told zero each = ap (λ ns. list_all told (line_hyps ns)) (those_none test)
all_below test told (suc n) each =
    one_more test told n (all_below test told n (λ k h e. each k (omega (arith, h)) e)) (λ e. each n (omega arith) e)

whole_hyps : (p : VersionedProgram) (goal : ℕ) → (whole_fact p goal).hyps ≡ line_hyps (those_below (is_hypothesis_at p.lines) (goal_place p.lines goal))
unfolding whole_fact
whole_hyps p goal = refl

cube_is : (p : VersionedProgram) (q : Piece) → (piece_fact p q).cube ≡ q.cube
unfolding piece_fact
cube_is p q = refl

pub stray_models : (p : VersionedProgram) (q : Piece) (input : List ℤ) (stray : Stray) → IsWellFormed p → q.route ≡ route.Whole → q.cube ≡ [] → IsStray p q.goal input stray → Models p [] (piece_fact p q) (trace_of p input)
stray_models p q input stray w whole none s =
    let fact = piece_fact p q in
    let a = runs_assign p fact input w s.fits in
    let is = piece_is p q whole in
    let told = hyp_in_clauses p [] (trace_of p input) in
    record {
      assigns = a.assigns;
      hyps = ap (list_all told) (is.hyps ∙ whole_hyps p q.goal)
          ∙ all_below (is_hypothesis_at p.lines) told (goal_place p.lines q.goal)
          (λ k h e. told_at p q.goal input stray fact k s a (record { before = h; hypothesis = e }) (predicate_in (slice_get p.lines k)) refl);
      cube = ap (cube_holds (words_of p.variables (trace_of p input))) (cube_is p q ∙ none);
      denied = ap (Rattle.tcl_goals.specs.Assignments.claim_of p (trace_of p input)) is.claim ∙ a.lines (goal_place p.lines q.goal) ∙ s.denied;
    }
