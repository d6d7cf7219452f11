-- An assignment that denies a fact meets its clauses.
use Rattle.std.proofs.Common.{◌≡◌, inl, inr, ℕ, zero, suc, ◌≤◌, Bool, true, false, List, [], ◌∷◌, length, fold, Option, Some, None, refl, sym, ◌∙◌, ap, subst, arith, ℤ}
use Rattle.std.specs.List.{slice_get, list_all}
use Rattle.std.proofs.lemmas.Bool.{and_parts, and_from, cases_lt}
use Rattle.tcl_gates.specs.declared.gate.Gate.{Gate}
use Rattle.tcl_gates.specs.Gates.{value_at, values_of as circuit_values}
use Rattle.tcl_gates.specs.Meaning.{lit_bit}
use Rattle.tcl_gates.proofs.Shown.{begins_same, true_shows}
use Rattle.tcl_circuits.specs.Circuits.{wire}
use Rattle.tcl_lang.specs.declared.ty.Word.{Word}
use Rattle.tcl_lang.specs.declared.range.RngPred.{RngPred}
use Rattle.tcl_lang.specs.declared.pred.Pred.{Pred}
use Rattle.tcl_lang.specs.declared.pred.Pred.TheVariants.{Alg, Rng}
use Rattle.tcl_lang.specs.declared.pred.Line.{Line}
use Rattle.tcl_lang.specs.declared.pred.Line.TheVariants.{Input, Pre, Step, Assert, Assume, Cut, Post}
use Rattle.tcl_lang.specs.declared.instr.Atom.TheVariants.{Var}
use Rattle.tcl_lang.specs.declared.variable.Variable.{Variable}
use Rattle.tcl_lang.specs.Program.{VersionedProgram}
use Rattle.tcl_lang.specs.Names.{used_names, stated_names, range_atoms, term_names}
use Rattle.tcl_lang.specs.Line.{predicate_of, instruction_of, stated_truth, line_truth}
use Rattle.tcl_lang.specs.Goal.{truth_in}
use Rattle.tcl_lang.specs.Store.{empty_word, word_at}
use Rattle.tcl_lang.specs.Values.{types_of, words_of, truth_of}
use Rattle.tcl_lang.specs.Defined.{is_among}
use Rattle.tcl_lang.specs.Form.{IsWellFormed}
use Rattle.tcl_goals.specs.declared.fact.BitLit.{BitLit}
use Rattle.tcl_goals.specs.declared.fact.Fact.{Fact}
use Rattle.tcl_goals.specs.declared.fact.Hyp.{Hyp}
use Rattle.tcl_goals.specs.declared.fact.Hyp.TheVariants as hyp
use Rattle.tcl_goals.specs.declared.fact.Claim.{Claim}
use Rattle.tcl_goals.specs.declared.fact.Claim.TheVariants as claim
use Rattle.tcl_goals.specs.declared.lemma.Lemma.{Lemma}
use Rattle.tcl_goals.specs.declared.lemma.Numbered.{Numbered}
use Rattle.tcl_goals.specs.Places.{goal_place}
use Rattle.tcl_goals.specs.LemmaList.{lemma_of}
use Rattle.tcl_goals.specs.Numbers.{numbers_rise}
use Rattle.tcl_goals.specs.Slices.{read_in}
use Rattle.tcl_goals.specs.Keys.{claim_place}
use Rattle.tcl_goals.specs.Order.{is_step_before, InOrder}
use Rattle.tcl_goals.specs.Holds.{lemma_holds}
use Rattle.tcl_goals.specs.Free.{bit_variables, lemma_variables, claim_variables, fact_variables}
use Rattle.tcl_goals.specs.Assignments.{Assigns, hyp_of, claim_of, HoldsOfAll}
use Rattle.tcl_words.specs.Ranges.{atom_ty}
use Rattle.tcl_blast.specs.Laws.{DenialsMeetClauses, RefutedClausesProve}
use Rattle.tcl_blast.specs.Models.{line_in_clauses, hyp_in_clauses, Models, ModelsMeetClauses}
use Rattle.tcl_blast.specs.Lifted.{fixed_bits_of}
use Rattle.tcl_blast.specs.Begin.{begun}
use Rattle.tcl_blast.specs.declared.blasted.Blasted.{Blasted}
use Rattle.tcl_blast.specs.Blasted.{blank}
use Rattle.tcl_blast.specs.Clauses.{by_fixed_bits, range_wire, exactness_wire, stated_line, predicate_in, with_lemma, with_hyp, denied_line, denied_claim, used_of, assumed_of, blasted_of, clauses_of}
use Rattle.tcl_blast.proofs.LineOrder.{condition_made, pred_made}
use Rattle.tcl_blast.proofs.Members.{among_left, among_right, among_first}
use Rattle.tcl_blast.proofs.States.{IsState, stated_state, denied_state, operands_known, range_is, condition_is}
use Rattle.tcl_blast.proofs.Beginnings.{free_of_values, word_type, blank_state}
use Rattle.tcl_blast.proofs.ReadBits.{AreReadable, lemma_state, bits_state, denied_bits_state}
use Rattle.tcl_blast.proofs.Facts.{known_by, known_after, read_less, hyp_named, cube_named, claim_named, uses_state}
use Rattle.tcl_blast.proofs.Lifts.{fixed_hold, fixed_readable}

-- the literal of what a line states
range_literal : (p : VersionedProgram) (k : ℕ) (l : Line) (pred : RngPred) (store : List Word) (free : List Bool) (known : ℕ → Bool) (s : Blasted) → IsWellFormed p → slice_get p.lines k ≡ Some l → predicate_of l ≡ Some (Rng pred)
    → ((v : ℕ) → is_among (used_names l) v ≡ true → known v ≡ true) → IsState p.variables store free known s
    → lit_bit (range_wire p s pred).gates free (range_wire p s pred).lit ≡ line_truth store l
range_literal p k l pred store free known s w at states read x =
    range_is p k l pred w at states s.gates free s.words store
    (operands_known s (range_atoms pred) (λ v m. read v (ap (λ o. is_among (stated_names o (instruction_of l)) v) states ∙ m)) x)
    ∙ sym (ap (λ o. stated_truth store o (instruction_of l)) states)

true_wire : (gates : List Gate) (free : List Bool) → lit_bit (wire gates 0).gates free (wire gates 0).lit ≡ true
true_wire gates free = (true_shows gates free).value

condition_literal : (p : VersionedProgram) (k : ℕ) (l : Line) (store : List Word) (free : List Bool) (known : ℕ → Bool) (s : Blasted) → IsWellFormed p → slice_get p.lines k ≡ Some l → predicate_of l ≡ None
    → ((v : ℕ) → is_among (used_names l) v ≡ true → known v ≡ true) → IsState p.variables store free known s
    → lit_bit (exactness_wire p s (Some l)).gates free (exactness_wire p s (Some l)).lit ≡ line_truth store l
condition_literal p k (Input T n) store free known s w at states read x = true_wire s.gates free
condition_literal p k (Step i) store free known s w at states read x = condition_is p k i w at s.gates free s.words store (operands_known s i.args read x)
condition_literal p k (Pre q) store free known s w at states read x = absurd (cc)
condition_literal p k (Assert q) store free known s w at states read x = absurd (cc)
condition_literal p k (Assume q) store free known s w at states read x = absurd (cc)
condition_literal p k (Cut q) store free known s w at states read x = absurd (cc)
condition_literal p k (Post q) store free known s w at states read x = absurd (cc)

-- a line that is a hypothesis, of which the clauses say that it holds, or that the bits that it fixes have their values
line_state : (p : VersionedProgram) (k : ℕ) (l : Line) (o : Option Pred) (store : List Word) (free : List Bool) (known : ℕ → Bool) (s : Blasted) → IsWellFormed p → slice_get p.lines k ≡ Some l → predicate_of l ≡ o
    → ((v : ℕ) → length p.variables ≤ v → word_at store v ≡ empty_word)
    → ((v : ℕ) → is_among (used_names l) v ≡ true → known v ≡ true) → line_in_clauses p store (Some l) o ≡ true → IsState p.variables store free known s
    → IsState p.variables store free known (stated_line p (by_fixed_bits p.variables) s (Some l) o)
line_state p k l (Some (Rng pred)) store free known s w at states past read holds x =
    stated_state s (range_wire p s pred) (pred_made s.words (types_of p.variables) pred s.gates x.within) (range_literal p k l pred store free known s w at states read x ∙ holds) x
line_state p k l (Some (Alg pred)) store free known s w at states past read holds x =
    bits_state s (fixed_bits_of p.variables pred) past
    (fixed_readable p.variables known pred (λ v m. read v (ap (λ o. is_among (stated_names o (instruction_of l)) v) states ∙ among_left (term_names pred.left) (term_names pred.right) v m)))
    holds x
line_state p k l None store free known s w at states past read holds x =
    stated_state s (exactness_wire p s (Some l)) (condition_made s.gates s.words p.variables (Some l) x.within) (condition_literal p k l store free known s w at states read x ∙ holds) x

place_state : (p : VersionedProgram) (k : ℕ) (o : Option Line) (store : List Word) (free : List Bool) (known : ℕ → Bool) (s : Blasted) → IsWellFormed p → slice_get p.lines k ≡ o
    → ((v : ℕ) → length p.variables ≤ v → word_at store v ≡ empty_word)
    → ((v : ℕ) → is_among (read_in o) v ≡ true → known v ≡ true) → line_in_clauses p store o (predicate_in o) ≡ true → IsState p.variables store free known s
    → IsState p.variables store free known (stated_line p (by_fixed_bits p.variables) s o (predicate_in o))
place_state p k None store free known s w at past read holds x =
    stated_state s (exactness_wire p s None) (condition_made s.gates s.words p.variables None x.within) (true_wire s.gates free) x
place_state p k (Some l) store free known s w at past read holds x = line_state p k l (predicate_of l) store free known s w at refl past read holds x

-- a line that holds: the bits that it fixes have their values
line_told : (p : VersionedProgram) (l : Line) (o : Option Pred) (store : List Word) → predicate_of l ≡ o → ((v : ℕ) → (word_at store v).ty ≡ atom_ty (types_of p.variables) (Var v)) → line_truth store l ≡ true → line_in_clauses p store (Some l) o ≡ true
line_told p l (Some (Rng pred)) store states types holds = holds
line_told p l (Some (Alg pred)) store states types holds =
    fixed_hold p.variables store pred types (sym (ap (λ o. stated_truth store o (instruction_of l)) states) ∙ holds)
line_told p l None store states types holds = holds

place_told : (p : VersionedProgram) (o : Option Line) (store : List Word) → ((v : ℕ) → (word_at store v).ty ≡ atom_ty (types_of p.variables) (Var v)) → truth_in store o ≡ true → line_in_clauses p store o (predicate_in o) ≡ true
place_told p None store types holds = holds
place_told p (Some l) store types holds = line_told p l (predicate_of l) store refl types holds

-- a denied line
denied_line_state : (p : VersionedProgram) (k : ℕ) (l : Line) (o : Option Pred) (store : List Word) (free : List Bool) (known : ℕ → Bool) (s : Blasted) → IsWellFormed p → slice_get p.lines k ≡ Some l → predicate_of l ≡ o
    → ((v : ℕ) → is_among (used_names l) v ≡ true → known v ≡ true) → line_truth store l ≡ false → IsState p.variables store free known s
    → IsState p.variables store free known (denied_line p (by_fixed_bits p.variables) s (Some l) o)
denied_line_state p k l (Some (Rng pred)) store free known s w at states read holds x =
    denied_state s (range_wire p s pred) (pred_made s.words (types_of p.variables) pred s.gates x.within) (range_literal p k l pred store free known s w at states read x ∙ holds) x
denied_line_state p k l (Some (Alg pred)) store free known s w at states read holds x = x
denied_line_state p k l None store free known s w at states read holds x =
    denied_state s (exactness_wire p s (Some l)) (condition_made s.gates s.words p.variables (Some l) x.within) (condition_literal p k l store free known s w at states read x ∙ holds) x

denied_place_state : (p : VersionedProgram) (k : ℕ) (o : Option Line) (store : List Word) (free : List Bool) (known : ℕ → Bool) (s : Blasted) → IsWellFormed p → slice_get p.lines k ≡ o
    → ((v : ℕ) → is_among (read_in o) v ≡ true → known v ≡ true) → truth_in store o ≡ false → IsState p.variables store free known s
    → IsState p.variables store free known (denied_line p (by_fixed_bits p.variables) s o (predicate_in o))
denied_place_state p k None store free known s w at read holds x = absurd (cc)
denied_place_state p k (Some l) store free known s w at read holds x = denied_line_state p k l (predicate_of l) store free known s w at refl read holds x

-- bits of a fact can be read
pub past_empty : (vs : List Variable) (a : List ℤ) (v : ℕ) → length vs ≤ v → word_at (words_of vs a) v ≡ empty_word
past_empty [] a v h = refl
past_empty (x ∷ vs) [] v h = refl
past_empty (x ∷ vs) (m ∷ a) zero h = absurd (omega arith)
past_empty (x ∷ vs) (m ∷ a) (suc v) h = past_empty vs a v (omega (arith, h))

bit_named : (bits : List BitLit) (n : ℕ) (b : BitLit) → slice_get bits n ≡ Some b → is_among (bit_variables bits) b.var ≡ true
bit_named [] n b e = absurd (cc)
bit_named (c ∷ bits) zero b e = subst (λ (x : BitLit). is_among (c.var ∷ bit_variables bits) x.var ≡ true) (same e) (among_first c.var (bit_variables bits))
  where
    same : {x y : BitLit} → Some x ≡ Some y → x ≡ y
    same e = cc
bit_named (c ∷ bits) (suc n) b e = among_right (c.var ∷ []) (bit_variables bits) b.var (bit_named bits n b e)

pub fact_readable : (p : VersionedProgram) (lemmas : List Numbered) (fact : Fact) (bits : List BitLit) → ((v : ℕ) → is_among (bit_variables bits) v ≡ true → is_among (fact_variables p.lines lemmas fact) v ≡ true)
    → AreReadable p.variables (known_by p lemmas fact fact.uses) bits
fact_readable p lemmas fact bits h n b e = elim (cases_lt b.var (length p.variables)) [
  | inl less ↦ inl (known_after p lemmas fact b.var less (h b.var (bit_named bits n b e)))
  | inr more ↦ inr more
]

-- the hypotheses
hyp_state : (p : VersionedProgram) (lemmas : List Numbered) (fact : Fact) (values : List ℤ) (free : List Bool) (h : Hyp) (n : ℕ) (s : Blasted) → IsWellFormed p → Assigns p fact values → slice_get fact.hyps n ≡ Some h → hyp_in_clauses p lemmas values h ≡ true
    → IsState p.variables (words_of p.variables values) free (known_by p lemmas fact fact.uses) s → IsState p.variables (words_of p.variables values) free (known_by p lemmas fact fact.uses) (with_hyp p (by_fixed_bits p.variables) lemmas s h)
hyp_state p lemmas fact values free (hyp.Line k) n s w a at holds x =
    place_state p k (slice_get p.lines k) (words_of p.variables values) free (known_by p lemmas fact fact.uses) s w refl (past_empty p.variables values)
    (λ v m. known_after p lemmas fact v (read_less p k v (slice_get p.lines k) w refl m) (hyp_named p lemmas fact n v (hyp.Line k) at m)) holds x
hyp_state p lemmas fact values free (hyp.Lemma i) n s w a at holds x = by (lemma_of lemmas i) refl
  where
    by : (o : Option Lemma) → lemma_of lemmas i ≡ o → IsState p.variables (words_of p.variables values) free (known_by p lemmas fact fact.uses) (with_lemma s o)
    by None e = x
    by (Some m) e =
        lemma_state s m.clause (past_empty p.variables values)
        (fact_readable p lemmas fact m.clause (λ v f. hyp_named p lemmas fact n v (hyp.Lemma i) at (ap (λ o. is_among (lemma_variables o) v) e ∙ f)))
        (sym (ap (lemma_holds (words_of p.variables values)) e) ∙ holds) x

hyps_state : (p : VersionedProgram) (lemmas : List Numbered) (fact : Fact) (values : List ℤ) (free : List Bool) (hyps : List Hyp) (s : Blasted) → IsWellFormed p → Assigns p fact values
    → ((n : ℕ) (h : Hyp) → slice_get hyps n ≡ Some h → (m : ℕ) × (slice_get fact.hyps m ≡ Some h)) → list_all (hyp_in_clauses p lemmas values) hyps ≡ true
    → IsState p.variables (words_of p.variables values) free (known_by p lemmas fact fact.uses) s → IsState p.variables (words_of p.variables values) free (known_by p lemmas fact fact.uses) (fold (with_hyp p (by_fixed_bits p.variables) lemmas) s hyps)
hyps_state p lemmas fact values free [] s w a there holds x = x
hyps_state p lemmas fact values free (h ∷ hyps) s w a there holds x =
    let parts = and_parts (hyp_in_clauses p lemmas values h) (list_all (hyp_in_clauses p lemmas values) hyps) holds in
    let place = there 0 h refl in
    hyps_state p lemmas fact values free hyps (with_hyp p (by_fixed_bits p.variables) lemmas s h) w a (λ n g e. there (suc n) g e) parts.1
    (hyp_state p lemmas fact values free h place.0 s w a place.1 parts.0 x)

-- hypotheses that hold
hyp_told : (p : VersionedProgram) (lemmas : List Numbered) (fact : Fact) (values : List ℤ) (h : Hyp) → Assigns p fact values → hyp_of p lemmas values h ≡ true → hyp_in_clauses p lemmas values h ≡ true
unfolding truth_of
hyp_told p lemmas fact values (hyp.Line k) a holds =
    place_told p (slice_get p.lines k) (words_of p.variables values) (λ v. word_type p.variables values v a.typed) holds
hyp_told p lemmas fact values (hyp.Lemma i) a holds = holds

hyps_told : (p : VersionedProgram) (lemmas : List Numbered) (fact : Fact) (values : List ℤ) (hyps : List Hyp) → Assigns p fact values → list_all (hyp_of p lemmas values) hyps ≡ true → list_all (hyp_in_clauses p lemmas values) hyps ≡ true
hyps_told p lemmas fact values [] a holds = refl
hyps_told p lemmas fact values (h ∷ hyps) a holds =
    let parts = and_parts (hyp_of p lemmas values h) (list_all (hyp_of p lemmas values) hyps) holds in
    and_from (hyp_in_clauses p lemmas values h) (list_all (hyp_in_clauses p lemmas values) hyps) (hyp_told p lemmas fact values h a parts.0)
    (hyps_told p lemmas fact values hyps a parts.1)

-- the denied claim
claim_state : (p : VersionedProgram) (lemmas : List Numbered) (fact : Fact) (values : List ℤ) (free : List Bool) (c : Claim) (s : Blasted) → IsWellFormed p → Assigns p fact values
    → ((v : ℕ) → is_among (claim_variables p.lines c) v ≡ true → is_among (fact_variables p.lines lemmas fact) v ≡ true) → claim_of p values c ≡ false
    → IsState p.variables (words_of p.variables values) free (known_by p lemmas fact fact.uses) s → IsState p.variables (words_of p.variables values) free (known_by p lemmas fact fact.uses) (denied_claim p (by_fixed_bits p.variables) s c)
unfolding truth_of
claim_state p lemmas fact values free (claim.Goal i) s w a named denies x =
    denied_place_state p (goal_place p.lines i) (slice_get p.lines (goal_place p.lines i)) (words_of p.variables values) free (known_by p lemmas fact fact.uses) s w refl
    (λ v m. known_after p lemmas fact v (read_less p (goal_place p.lines i) v (slice_get p.lines (goal_place p.lines i)) w refl m) (named v m)) denies x
claim_state p lemmas fact values free (claim.Lemma m) s w a named denies x = denied_bits_state s m.clause (past_empty p.variables values) (fact_readable p lemmas fact m.clause named) denies x

-- the whole
pub fact_state : (p : VersionedProgram) (lemmas : List Numbered) (fact : Fact) (values : List ℤ) → IsWellFormed p → InOrder p lemmas fact → Models p lemmas fact values
    → IsState p.variables (words_of p.variables values) (free_of_values p lemmas fact values) (known_by p lemmas fact fact.uses) (blasted_of p lemmas fact)
fact_state p lemmas fact values w order m =
    let a = m.assigns in
    let free = free_of_values p lemmas fact values in
    let rise = (and_parts (numbers_rise fact.uses) (list_all (is_step_before p.lines (claim_place p.lines fact.claim)) fact.uses) order.uses).0 in
    let first = blank_state p lemmas fact values w a.typed in
    let used = uses_state p lemmas fact values free (blank (begun p lemmas fact)) w a rise first in
    let assumed = hyps_state p lemmas fact values free fact.hyps (used_of p lemmas fact) w a (λ n h e. (n, e)) m.hyps used in
    let cubed =
    bits_state (fold (with_hyp p (by_fixed_bits p.variables) lemmas) (used_of p lemmas fact) fact.hyps) fact.cube (past_empty p.variables values) (fact_readable p lemmas fact fact.cube (cube_named p lemmas fact)) m.cube assumed in
    claim_state p lemmas fact values free fact.claim (assumed_of p (by_fixed_bits p.variables) lemmas fact) w a (claim_named p lemmas fact) m.denied cubed

pub models_meet : ModelsMeetClauses
unfolding clauses_of
models_meet p lemmas fact values w order m =
    let gates = (blasted_of p lemmas fact).gates in
    let x = fact_state p lemmas fact values w order m in
    record { values = value_at (circuit_values gates (free_of_values p lemmas fact values)); met = x.met.each gates (begins_same gates) x.ordered }

pub denials_meet : DenialsMeetClauses
denials_meet p lemmas fact values w order a hyps cube denies =
    models_meet p lemmas fact values w order (record { assigns = a; hyps = hyps_told p lemmas fact values fact.hyps a hyps; cube = cube; denied = denies })

pub refuted_prove : RefutedClausesProve
unfolding HoldsOfAll
refuted_prove p lemmas fact w order none values a hyps cube = by (claim_of p values fact.claim) refl
  where
    by : (b : Bool) → claim_of p values fact.claim ≡ b → claim_of p values fact.claim ≡ true
    by true e = e
    by false e = let m = denials_meet p lemmas fact values w order a hyps cube e in absurd (none m.values m.met)
