-- A model of the clauses of a fact that uses all instructions before its goal is a run.
use Rattle.std.proofs.Common.{◌≡◌, ℕ, suc, ◌<◌, ◌≤◌, inl, inr, refl, sym, ◌∙◌, ap, ap₂, subst, arith, ℤ, pos, Bool, true, false, ◌||◌, ◌&&◌, nat_lt, List, [], ◌∷◌, length, map, get_or, fold, replicate, Option, Some, None}
use Rattle.std.specs.List.{slice_get, cons_option, list_all}
use Rattle.std.proofs.lemmas.Bool.{cases_Bool, and_parts, ltb-true}
use Rattle.std.proofs.lemmas.Bool.Decides.{nat_tests}
use Rattle.std.proofs.lemmas.Option.{slice_get_within}
use Rattle.tcl_cnf.specs.Literal.{value_at as bit_at}
use Rattle.tcl_bits.specs.Value.{word_value}
use Rattle.tcl_lang.specs.declared.ty.Word.{Word}
use Rattle.tcl_lang.specs.declared.term.AlgPred.{AlgPred}
use Rattle.tcl_lang.specs.declared.pred.Pred.{Pred}
use Rattle.tcl_lang.specs.declared.pred.Pred.TheVariants.{Alg, Rng}
use Rattle.tcl_lang.specs.declared.pred.Line.{Line}
use Rattle.tcl_lang.specs.Program.{VersionedProgram}
use Rattle.tcl_lang.specs.Line.{is_algebraic, is_algebraic_in, predicate_of, instruction_of, taken_name}
use Rattle.tcl_lang.specs.Names.{term_names, stated_names}
use Rattle.tcl_lang.specs.Store.{word_at}
use Rattle.tcl_lang.specs.Goal.{passes, truth_in}
use Rattle.tcl_lang.specs.Limit.{definitions_before}
use Rattle.tcl_lang.specs.Defined.{is_among}
use Rattle.tcl_lang.specs.Values.{value_at, words_of, trace_of, truth_of}
use Rattle.tcl_lang.specs.Form.{IsWellFormed, end_store}
use Rattle.tcl_lang.proofs.ValueSteps.{trace_words, trace_values}
use Rattle.tcl_goals.specs.declared.fact.BitLit.{BitLit}
use Rattle.tcl_goals.specs.declared.fact.Hyp.{Hyp}
use Rattle.tcl_goals.specs.declared.fact.Hyp.TheVariants as hyp
use Rattle.tcl_goals.specs.declared.fact.Claim.{Claim}
use Rattle.tcl_goals.specs.declared.fact.Claim.TheVariants as claim
use Rattle.tcl_goals.specs.declared.fact.Fact.{Fact}
use Rattle.tcl_goals.specs.declared.lemma.Lemma.{Lemma}
use Rattle.tcl_goals.specs.declared.lemma.Numbered.{Numbered}
use Rattle.tcl_goals.specs.Numbers.{numbers_rise}
use Rattle.tcl_goals.specs.Keys.{claim_place}
use Rattle.tcl_goals.specs.LemmaList.{lemma_of}
use Rattle.tcl_goals.specs.Places.{goal_place, has_goal}
use Rattle.tcl_goals.specs.Holds.{bit_holds, clause_holds, cube_holds, lemma_holds}
use Rattle.tcl_goals.specs.Order.{InOrder, has_claim, is_before, is_bit_before, is_step_before, bits_differ}
use Rattle.tcl_goals.specs.Slices.{whole_fact}
use Rattle.tcl_goals.specs.Free.{fact_variables, computed_in, computed_variables, free_variables, is_free}
use Rattle.tcl_goals.specs.Assignments.{Assigns, claim_of}
use Rattle.tcl_slice.specs.Runs.{taken_names, input_from, IsRunOf}
use Rattle.tcl_slice.proofs.WholeRuns.{whole_runs, words_equal, value_taken}
use Rattle.tcl_slice.proofs.TakenVariables.{taken_first, taken_not_computed, taken_within}
use Rattle.tcl_blast.specs.Begin.{begun}
use Rattle.tcl_blast.specs.declared.blasted.Blasted.{Blasted}
use Rattle.tcl_blast.specs.Blasted.{blank, with_bits, without_bits, with_bit, without_bit}
use Rattle.tcl_blast.specs.Lifted.{fixed_bits_of}
use Rattle.tcl_blast.specs.Clauses.{with_use, with_hyp, with_lemma, by_fixed_bits, stated_line, denied_line, denied_claim, predicate_in, used_of, assumed_of, blasted_of}
use Rattle.tcl_blast.specs.Models.{literals_value, literals_values, assignment_of, hyp_in_clauses, line_in_clauses, Models}
use Rattle.tcl_blast.specs.Inputs.{free_values, input_of}
use Rattle.tcl_blast.specs.ModelRuns.{AreLemmas, UsesAll, IsModelRun, ModelsRun, UnnamedAreZero, LaterAreZero}
use Rattle.tcl_blast.proofs.Members.{among_left, among_first, flat_into, used_below, places_grow}
use Rattle.tcl_blast.proofs.Beginnings.{there, begun_other, those_pass}
use Rattle.tcl_blast.proofs.Countermodels.{past_empty}
use Rattle.tcl_blast.proofs.Lifts.{fixed_readable}
use Rattle.tcl_blast.proofs.Stages.{first_stage, stages_go, line_other}
use Rattle.tcl_blast.proofs.Models.{literals_there}
use Rattle.tcl_blast.proofs.Modelled.{models}
use Rattle.tcl_blast.proofs.NamedBefore.{all_at, bit_before, line_below, lemma_bits, hyp_order, claim_bound, named_before}

-- what is made behind the used instructions keeps the literals of the variables
bits_words : (s : Blasted) (bits : List BitLit) → (with_bits s bits).words ≡ s.words
bits_words s [] = refl
bits_words s (b ∷ bits) = bits_words (with_bit s b) bits

without_words : (s : Blasted) (bits : List BitLit) → (without_bits s bits).words ≡ s.words
without_words s [] = refl
without_words s (b ∷ bits) = without_words (without_bit s b) bits

line_words : (p : VersionedProgram) (s : Blasted) (l : Option Line) (o : Option Pred) → (stated_line p (by_fixed_bits p.variables) s l o).words ≡ s.words
line_words p s l (Some (Rng pred)) = refl
line_words p s l (Some (Alg pred)) = bits_words s (fixed_bits_of p.variables pred)
line_words p s l None = refl

lemma_words : (s : Blasted) (o : Option Lemma) → (with_lemma s o).words ≡ s.words
lemma_words s None = refl
lemma_words s (Some m) = refl

hyp_words : (p : VersionedProgram) (lemmas : List Numbered) (s : Blasted) (h : Hyp) → (with_hyp p (by_fixed_bits p.variables) lemmas s h).words ≡ s.words
hyp_words p lemmas s (hyp.Line k) = line_words p s (slice_get p.lines k) (predicate_in (slice_get p.lines k))
hyp_words p lemmas s (hyp.Lemma n) = lemma_words s (lemma_of lemmas n)

hyps_words : (p : VersionedProgram) (lemmas : List Numbered) (hs : List Hyp) (s : Blasted) → (fold (with_hyp p (by_fixed_bits p.variables) lemmas) s hs).words ≡ s.words
hyps_words p lemmas [] s = refl
hyps_words p lemmas (h ∷ hs) s = hyps_words p lemmas hs (with_hyp p (by_fixed_bits p.variables) lemmas s h) ∙ hyp_words p lemmas s h

denied_words : (p : VersionedProgram) (s : Blasted) (l : Option Line) (o : Option Pred) → (denied_line p (by_fixed_bits p.variables) s l o).words ≡ s.words
denied_words p s l (Some (Rng pred)) = refl
denied_words p s l (Some (Alg pred)) = refl
denied_words p s l None = refl

claim_words : (p : VersionedProgram) (s : Blasted) (c : Claim) → (denied_claim p (by_fixed_bits p.variables) s c).words ≡ s.words
claim_words p s (claim.Goal i) = denied_words p s (slice_get p.lines (goal_place p.lines i)) (predicate_in (slice_get p.lines (goal_place p.lines i)))
claim_words p s (claim.Lemma m) = without_words s m.clause

final_words : (p : VersionedProgram) (lemmas : List Numbered) (fact : Fact) → (blasted_of p lemmas fact).words ≡ (used_of p lemmas fact).words
final_words p lemmas fact =
    claim_words p (assumed_of p (by_fixed_bits p.variables) lemmas fact) fact.claim
    ∙ bits_words (fold (with_hyp p (by_fixed_bits p.variables) lemmas) (used_of p lemmas fact) fact.hyps) fact.cube
    ∙ hyps_words p lemmas fact.hyps (used_of p lemmas fact)

-- a variable for which a line takes a value keeps its literals
clash : {P : Type 0} (b : Bool) → b ≡ true → b ≡ false → P
clash b e f = absurd (cc)

use_keeps : (p : VersionedProgram) (j v k : ℕ) (l : Line) (s : Blasted) → IsWellFormed p → slice_get p.lines j ≡ Some l → taken_name l ≡ Some v → get_or (with_use p s k).words v [] ≡ get_or s.words v []
use_keeps p j v k l s w at name = line_other s.gates s.words p.variables (slice_get p.lines k) v (elim (cases_Bool (is_among (computed_in (slice_get p.lines k)) v)) [
  | inl made ↦
      clash (is_among (computed_variables p.lines (k ∷ [])) v)
      (flat_into (λ i. computed_in (slice_get p.lines i)) (k ∷ []) k v (among_first k []) made)
      (taken_not_computed p j v l (k ∷ []) w at name)
  | inr free ↦ free
])

uses_keep : (p : VersionedProgram) (j v : ℕ) (l : Line) (uses : List ℕ) (s : Blasted) → IsWellFormed p → slice_get p.lines j ≡ Some l → taken_name l ≡ Some v → get_or (fold (with_use p) s uses).words v [] ≡ get_or s.words v []
uses_keep p j v l [] s w at name = refl
uses_keep p j v l (k ∷ uses) s w at name = uses_keep p j v l uses (with_use p s k) w at name ∙ use_keeps p j v k l s w at name

-- so the input is that of the assignment
begun_count : (p : VersionedProgram) (lemmas : List Numbered) (fact : Fact) → IsWellFormed p → length (begun p lemmas fact).words ≡ length p.variables
begun_count p lemmas fact w = (first_stage p lemmas fact w).state.count

used_count : (p : VersionedProgram) (lemmas : List Numbered) (fact : Fact) → IsWellFormed p → InOrder p lemmas fact → length (used_of p lemmas fact).words ≡ length p.variables
used_count p lemmas fact w order =
    let rise = (and_parts (numbers_rise fact.uses) (list_all (is_step_before p.lines (claim_place p.lines fact.claim)) fact.uses) order.uses).0 in
    (stages_go p lemmas fact [] fact.uses (blank (begun p lemmas fact)) w rise refl (first_stage p lemmas fact w)).state.count

taken_same : (p : VersionedProgram) (lemmas : List Numbered) (fact : Fact) (bits : List Bool) (j v : ℕ) (l : Line) → IsWellFormed p → InOrder p lemmas fact → slice_get p.lines j ≡ Some l → taken_name l ≡ Some v
    → value_at (free_values p lemmas fact bits) v ≡ value_at (assignment_of p lemmas fact (bit_at bits)) v
unfolding free_values assignment_of
taken_same p lemmas fact bits j v l w order at name =
    let found = there p.variables v (taken_within p j v l w at name) in
    let used = used_of p lemmas fact in
    literals_there (bit_at bits) p.variables (begun p lemmas fact).words v found.0 (begun_count p lemmas fact w) found.1
    ∙ ap (literals_value (bit_at bits) found.0) (sym (uses_keep p j v l fact.uses (blank (begun p lemmas fact)) w at name))
    ∙ sym (literals_there (bit_at bits) p.variables used.words v found.0 (used_count p lemmas fact w order) found.1)
    ∙ ap (λ (words : List (List ℕ)). value_at (literals_values (bit_at bits) p.variables words) v) (sym (final_words p lemmas fact))

same_cons : (g h : ℕ → ℤ) (o : Option ℕ) (vs : List ℕ) → ((v : ℕ) → o ≡ Some v → g v ≡ h v) → map g vs ≡ map h vs → map g (cons_option o vs) ≡ map h (cons_option o vs)
same_cons g h None vs e same = same
same_cons g h (Some v) vs e same = ap (λ n. n ∷ map g vs) (e v refl) ∙ ap (λ ns. h v ∷ ns) same

same_values : (g h : ℕ → ℤ) (lines : List Line) → ((k : ℕ) (l : Line) (v : ℕ) → slice_get lines k ≡ Some l → taken_name l ≡ Some v → g v ≡ h v) → map g (taken_names lines) ≡ map h (taken_names lines)
same_values g h [] e = refl
same_values g h (l ∷ lines) e =
    same_cons g h (taken_name l) (taken_names lines) (λ v n. e 0 l v refl n) (same_values g h lines (λ k m v at n. e (suc k) m v at n))

input_is : (p : VersionedProgram) (lemmas : List Numbered) (fact : Fact) (bits : List Bool) → IsWellFormed p → InOrder p lemmas fact → input_of p lemmas fact bits ≡ input_from p.lines (assignment_of p lemmas fact (bit_at bits))
unfolding input_of input_from
input_is p lemmas fact bits w order =
    same_values (λ v. value_at (free_values p lemmas fact bits) v) (λ v. value_at (assignment_of p lemmas fact (bit_at bits)) v) p.lines
    (λ k l v at name. taken_same p lemmas fact bits k v l w order at name)

-- bits hold alike in stores that agree on their variables
bit_alike : (S F : List Word) (b : BitLit) → word_at S b.var ≡ word_at F b.var → bit_holds S b ≡ bit_holds F b
bit_alike S F b e = ap (λ (u : Word). bit_holds (replicate 1 u) (record { var = 0; bit = b.bit; value = b.value })) e

cube_alike : (S F : List Word) (bits : List BitLit) → ((n : ℕ) (b : BitLit) → slice_get bits n ≡ Some b → word_at S b.var ≡ word_at F b.var) → cube_holds S bits ≡ cube_holds F bits
cube_alike S F [] h = refl
cube_alike S F (b ∷ bits) h = ap₂ (λ x y. x && y) (bit_alike S F b (h 0 b refl)) (cube_alike S F bits (λ n c e. h (suc n) c e))

clause_alike : (S F : List Word) (bits : List BitLit) → ((n : ℕ) (b : BitLit) → slice_get bits n ≡ Some b → word_at S b.var ≡ word_at F b.var) → clause_holds S bits ≡ clause_holds F bits
clause_alike S F [] h = refl
clause_alike S F (b ∷ bits) h = ap₂ (λ x y. x || y) (bit_alike S F b (h 0 b refl)) (clause_alike S F bits (λ n c e. h (suc n) c e))

-- stores that agree on the variables that are defined before a place
abbrev AgreeBefore : VersionedProgram → ℕ → List Word → List Word → Type 0
AgreeBefore p place S F = (v : ℕ) → v < definitions_before p.lines place → word_at S v ≡ word_at F v

lemma_alike : (p : VersionedProgram) (lemmas : List Numbered) (fact : Fact) (S F : List Word) (n : ℕ) (o : Option Lemma) → IsWellFormed p → AreLemmas p lemmas → AgreeBefore p (claim_place p.lines fact.claim) S F
    → is_before p.lines lemmas fact.claim (hyp.Lemma n) ≡ true → lemma_of lemmas n ≡ o → lemma_holds S o ≡ lemma_holds F o
lemma_alike p lemmas fact S F n None w are agree e at = refl
lemma_alike p lemmas fact S F n (Some m) w are agree e at =
    let bits = lemma_bits p lemmas fact.claim n m are e at in
    let level = goal_place p.lines m.level in
    clause_alike S F m.clause
    (λ j b f.
    let less = bit_before p level b w (omega (arith, bits.0, claim_bound p.lines fact.claim)) (all_at (is_bit_before p level) m.clause j b bits.1 f) in
    agree b.var (omega (arith, less, places_grow p.lines level (claim_place p.lines fact.claim) bits.0 (claim_bound p.lines fact.claim))))

fixed_alike : (p : VersionedProgram) (place k : ℕ) (a b : List ℤ) (l : Line) (pred : AlgPred) → IsWellFormed p → AgreeBefore p place (words_of p.variables a) (words_of p.variables b) → k < place → place ≤ length p.lines
    → slice_get p.lines k ≡ Some l → predicate_of l ≡ Some (Alg pred) → cube_holds (words_of p.variables a) (fixed_bits_of p.variables pred) ≡ cube_holds (words_of p.variables b) (fixed_bits_of p.variables pred)
fixed_alike p place k a b l pred w agree less within at states =
    cube_alike (words_of p.variables a) (words_of p.variables b) (fixed_bits_of p.variables pred)
    (λ n c e. elim (fixed_readable p.variables known pred read n c e) [
      | inl known_here ↦ agree c.var (ltb-true c.var (definitions_before p.lines place) known_here)
      | inr past ↦ past_empty p.variables a c.var past ∙ sym (past_empty p.variables b c.var past)
    ])
  where
    known : ℕ → Bool
    known v = nat_lt v (definitions_before p.lines place)

    below : (v m : ℕ) → v < m → nat_lt v m ≡ true
    below v m h = grind (arith, nat_tests)

    read : (v : ℕ) → is_among (term_names pred.left) v ≡ true → known v ≡ true
    read v e =
        let used = used_below p k v l w at (ap (λ o. is_among (stated_names o (instruction_of l)) v) states ∙ among_left (term_names pred.left) (term_names pred.right) v e) in
        below v (definitions_before p.lines place) (omega (arith, used, places_grow p.lines k place (omega (arith, less)) within))

-- what the clauses say of a line that is a hypothesis
line_true : (p : VersionedProgram) (store : List Word) (l : Option Line) (o : Option Pred) → is_algebraic_in o ≡ false → line_in_clauses p store l o ≡ true → truth_in store l ≡ true
line_true p store l (Some (Rng pred)) plain e = e
line_true p store l (Some (Alg pred)) plain e = absurd (cc)
line_true p store l None plain e = e

plain_line : (o : Option Line) → passes is_algebraic o ≡ false → is_algebraic_in (predicate_in o) ≡ false
plain_line None e = refl
plain_line (Some l) e = e

line_there : (o : Option Line) (pred : AlgPred) → predicate_in o ≡ Some (Alg pred) → (l : Line) × (o ≡ Some l) × (predicate_of l ≡ Some (Alg pred))
line_there None pred e = absurd (cc)
line_there (Some l) pred e = (l, refl, e)

truth_is : (p : VersionedProgram) (values : List ℤ) (k : ℕ) → truth_of p values k ≡ truth_in (words_of p.variables values) (slice_get p.lines k)
unfolding truth_of
truth_is p values k = refl

-- the run
assigns_whole : (p : VersionedProgram) (fact : Fact) (i : ℕ) (values : List ℤ) → UsesAll p fact i → Assigns p fact values → Assigns p (whole_fact p i) values
assigns_whole p fact i values all a = record {
  typed = a.typed;
  executed = λ n k e. a.executed n k (ap (λ us. slice_get us n) all.uses ∙ e);
}

run_from : (p : VersionedProgram) (lemmas : List Numbered) (fact : Fact) (i : ℕ) (bits : List Bool) (a : List ℤ) → IsWellFormed p → InOrder p lemmas fact → AreLemmas p lemmas → UsesAll p fact i
    → a ≡ assignment_of p lemmas fact (bit_at bits) → Models p lemmas fact a → IsModelRun p lemmas fact i bits (input_from p.lines a)
run_from p lemmas fact i bits a w order are all same m =
    let input = input_from p.lines a in
    let place = goal_place p.lines i in
    let has : has_goal p.lines i ≡ true = ap (has_claim p) (sym all.claim) ∙ order.claim in
    let at_claim : claim_place p.lines fact.claim ≡ place = ap (claim_place p.lines) all.claim in
    let run : IsRunOf p place a = whole_runs p i a w has (assigns_whole p fact i a all m.assigns) in
    let fits = run.fits in
    let S = words_of p.variables (trace_of p input) in
    let F = words_of p.variables a in
    let store : S ≡ end_store p input = trace_words p input w fits in
    let agree : AgreeBefore p place S F =
    λ v less. words_equal p.variables (trace_of p input) a v (trace_values p input w fits) m.assigns.typed (run.defined v less) in
    let within : place ≤ length p.lines = subst (λ k. k ≤ length p.lines) at_claim (claim_bound p.lines fact.claim) in
    let agree_claim : AgreeBefore p (claim_place p.lines fact.claim) S F = subst (λ k. AgreeBefore p k S F) (sym at_claim) agree in
    let below : (n k : ℕ) → slice_get fact.hyps n ≡ Some (hyp.Line k) → k < place =
    λ n k e. subst (λ j. k < j) at_claim (line_below p lemmas fact.claim k (hyp_order p lemmas fact n (hyp.Line k) order e)) in
    let said : (n : ℕ) (h : Hyp) → slice_get fact.hyps n ≡ Some h → hyp_in_clauses p lemmas a h ≡ true = λ n h e. all_at (hyp_in_clauses p lemmas a) fact.hyps n h m.hyps e in
    record {
      fits = fits;
      literals = λ v less. run.defined v less ∙ ap (λ ns. value_at ns v) same;
      hyps = λ n k e plain.
          run.truth k (omega (arith, below n k e)) ∙ truth_is p a k
          ∙ line_true p F (slice_get p.lines k) (predicate_in (slice_get p.lines k)) (plain_line (slice_get p.lines k) plain) (said n (hyp.Line k) e);
      lifted = λ n k pred e states.
          let l = line_there (slice_get p.lines k) pred states in
          ap (λ (s : List Word). cube_holds s (fixed_bits_of p.variables pred)) (sym store)
          ∙ fixed_alike p place k (trace_of p input) a l.0 pred w agree (below n k e) within l.1 l.2
          ∙ sym (ap (line_in_clauses p F (slice_get p.lines k)) states) ∙ said n (hyp.Line k) e;
      cited = λ n j e.
          ap (λ (s : List Word). lemma_holds s (lemma_of lemmas j)) (sym store)
          ∙ lemma_alike p lemmas fact S F j (lemma_of lemmas j) w are agree_claim (hyp_order p lemmas fact n (hyp.Lemma j) order e) refl
          ∙ said n (hyp.Lemma j) e;
      cube =
          ap (λ (s : List Word). cube_holds s fact.cube) (sym store)
          ∙ cube_alike S F fact.cube
          (λ n b e.
          agree_claim b.var (bit_before p (claim_place p.lines fact.claim) b w (claim_bound p.lines fact.claim)
          (all_at (is_bit_before p (claim_place p.lines fact.claim)) fact.cube n b (and_parts (bits_differ fact.cube) (list_all (is_bit_before p (claim_place p.lines fact.claim)) fact.cube) order.cube).1 e)))
          ∙ m.cube;
      denied = run.truth place (omega arith) ∙ ap (claim_of p a) (sym all.claim) ∙ m.denied;
    }

pub models_run : ModelsRun
models_run p lemmas fact i bits w order are all plain met =
    let a = assignment_of p lemmas fact (bit_at bits) in
    subst (IsModelRun p lemmas fact i bits) (sym (input_is p lemmas fact bits w order)) (run_from p lemmas fact i bits a w order are all refl (models p lemmas fact (bit_at bits) w order plain met))

-- a variable that the fact does not name has no free bit
not_free : (p : VersionedProgram) (lemmas : List Numbered) (fact : Fact) (v : ℕ) → is_among (fact_variables p.lines lemmas fact) v ≡ false → is_among (free_variables p lemmas fact) v ≡ false
unfolding free_variables
not_free p lemmas fact v e = elim (cases_Bool (is_among (free_variables p lemmas fact) v)) [
  | inl free ↦ clash (is_among (fact_variables p.lines lemmas fact) v) (and_parts _ _ (those_pass (is_free p lemmas fact) (length p.variables) v free)).0 e
  | inr none ↦ none
]

no_number : (s : Bool) → word_value s [] ≡ pos 0
no_number true = refl
no_number false = refl

no_literals : (p : VersionedProgram) (lemmas : List Numbered) (fact : Fact) (v : ℕ) → is_among (free_variables p lemmas fact) v ≡ false → get_or (begun p lemmas fact).words v [] ≡ []
unfolding begun
no_literals p lemmas fact v none = begun_other p.variables (free_variables p lemmas fact) v none

unnamed_value : (p : VersionedProgram) (lemmas : List Numbered) (fact : Fact) (bits : List Bool) (k v : ℕ) (l : Line) → IsWellFormed p → slice_get p.lines k ≡ Some l → taken_name l ≡ Some v → is_among (fact_variables p.lines lemmas fact) v ≡ false
    → value_at (free_values p lemmas fact bits) v ≡ pos 0
unfolding free_values
unnamed_value p lemmas fact bits k v l w at name away =
    let found = there p.variables v (taken_within p k v l w at name) in
    literals_there (bit_at bits) p.variables (begun p lemmas fact).words v found.0 (begun_count p lemmas fact w) found.1
    ∙ ap (literals_value (bit_at bits) found.0) (no_literals p lemmas fact v (not_free p lemmas fact v away)) ∙ no_number found.0.ty.signed

pub unnamed_zero : UnnamedAreZero
unfolding input_of
unnamed_zero p lemmas fact bits k v l w at name away =
    value_taken p (free_values p lemmas fact bits) k l v w at name ∙ unnamed_value p lemmas fact bits k v l w at name away

pub later_zero : LaterAreZero
later_zero p lemmas fact bits k v l w order are at name after =
    unnamed_zero p lemmas fact bits k v l w at name (elim (cases_Bool (is_among (fact_variables p.lines lemmas fact) v)) [
      | inl named ↦
          let before = named_before p lemmas fact v w order are named in
          let first = (taken_first p k v l w at name).0 in
          absurd (omega (arith, before, first, places_grow p.lines (claim_place p.lines fact.claim) k after (omega (arith, slice_get_within p.lines k l at))))
      | inr away ↦ away
    ])
