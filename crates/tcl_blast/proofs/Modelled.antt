-- Values that meet the clauses of a fact give an assignment of it that denies it.
use Rattle.std.proofs.Common.{◌≡◌, inl, inr, ℕ, suc, ◌<◌, true, false, List, [], ◌∷◌, length, map, fold, Option, Some, None, refl, sym, ◌∙◌, ap, subst}
use Rattle.std.specs.List.{slice_get, list_all}
use Rattle.std.proofs.lemmas.Bool.{and_parts, and_from, cases_Bool}
use Rattle.tcl_cnf.specs.Literal.{neg}
use Rattle.tcl_gates.specs.Gates.{free_of}
use Rattle.tcl_gates.specs.Meaning.{lit_bit}
use Rattle.tcl_gates.proofs.Shown.{begins_same, true_shows}
use Rattle.tcl_circuits.specs.Wires.{Wire}
use Rattle.tcl_lang.specs.declared.ty.Ty.{Ty}
use Rattle.tcl_lang.specs.declared.range.RngPred.{RngPred}
use Rattle.tcl_lang.specs.declared.pred.Pred.{Pred}
use Rattle.tcl_lang.specs.declared.pred.Pred.TheVariants.{Alg, Rng}
use Rattle.tcl_lang.specs.declared.pred.Line.{Line}
use Rattle.tcl_lang.specs.declared.pred.Line.TheVariants.{Input, Pre, Step, Assert, Assume, Cut, Post}
use Rattle.tcl_lang.specs.Program.{VersionedProgram}
use Rattle.tcl_lang.specs.Names.{used_names, stated_names, range_atoms, term_names}
use Rattle.tcl_lang.specs.Line.{predicate_of, instruction_of, is_algebraic, is_algebraic_in, stated_truth, line_truth}
use Rattle.tcl_lang.specs.Goal.{passes, truth_in}
use Rattle.tcl_lang.specs.Values.{types_of, truth_of}
use Rattle.tcl_lang.specs.Defined.{is_among}
use Rattle.tcl_goals.specs.declared.fact.BitLit.{BitLit}
use Rattle.tcl_goals.specs.declared.fact.Fact.{Fact}
use Rattle.tcl_goals.specs.declared.fact.Hyp.{Hyp}
use Rattle.tcl_goals.specs.declared.fact.Hyp.TheVariants as hyp
use Rattle.tcl_goals.specs.declared.fact.Claim.{Claim}
use Rattle.tcl_goals.specs.declared.fact.Claim.TheVariants as claim
use Rattle.tcl_goals.specs.declared.lemma.Lemma.{Lemma}
use Rattle.tcl_goals.specs.declared.lemma.Numbered.{Numbered}
use Rattle.tcl_goals.specs.Places.{goal_place}
use Rattle.tcl_goals.specs.LemmaList.{lemma_of}
use Rattle.tcl_goals.specs.Numbers.{numbers_rise}
use Rattle.tcl_goals.specs.Slices.{read_in}
use Rattle.tcl_goals.specs.Keys.{claim_place}
use Rattle.tcl_goals.specs.Order.{is_step_before, has_claim}
use Rattle.tcl_goals.specs.Holds.{lemma_holds}
use Rattle.tcl_goals.specs.Free.{lemma_variables, claim_variables, fact_variables}
use Rattle.tcl_goals.specs.Assignments.{claim_of}
use Rattle.tcl_goals.proofs.GoalPlaces.{goal_place_below}
use Rattle.tcl_words.proofs.Parts.{type_found}
use Rattle.tcl_blast.specs.Lifted.{fixed_bits_of}
use Rattle.tcl_blast.specs.Begin.{begun}
use Rattle.tcl_blast.specs.declared.blasted.Blasted.{Blasted}
use Rattle.tcl_blast.specs.Blasted.{blank, grown, stated, denied, with_bit, with_bits, without_bit, without_bits, bit_lit}
use Rattle.tcl_blast.specs.Clauses.{by_fixed_bits, range_wire, exactness_wire, stated_line, predicate_in, with_lemma, with_hyp, denied_line, denied_claim, used_of, assumed_of, blasted_of, clauses_of}
use Rattle.tcl_blast.specs.Models.{literals_values, assignment_of, line_in_clauses, hyp_in_clauses, is_algebraic_claim, Models, ModelsAreAssignments}
use Rattle.tcl_blast.proofs.GateOrder.{LitMade}
use Rattle.tcl_blast.proofs.LineOrder.{condition_made, pred_made}
use Rattle.tcl_blast.proofs.Members.{among_left, at_among}
use Rattle.tcl_blast.proofs.States.{range_is, condition_is}
use Rattle.tcl_blast.proofs.Beginnings.{there, typed_variable}
use Rattle.tcl_blast.proofs.Facts.{known_by, known_after, read_less, hyp_named, cube_named, claim_named}
use Rattle.tcl_blast.proofs.Lifts.{fixed_readable}
use Rattle.tcl_blast.proofs.Countermodels.{fact_readable}
use Rattle.tcl_blast.proofs.Stages.{Stage, first_stage, stages_go}
use Rattle.tcl_blast.proofs.Models.{AreSized, literals_typed}
use Rattle.tcl_blast.proofs.ModelUses.{Setting, IsSet, store_in, uses_back}
use Rattle.tcl_blast.proofs.ModelFacts.{SizedKnown, IsPost, IsReached, grown_post, clause_post, stated_back, denied_back, post_operands, bits_back, denied_bits_back, lemma_back}

-- what a line reads is known
abbrev ReadsKnown : Setting → Line → Type 0
ReadsKnown x l = (u : ℕ) → is_among (used_names l) u ≡ true → (known_by x.program x.lemmas x.fact x.fact.uses u ≡ true) × (u < length x.program.variables)

-- the literal of what a line states
range_at : (x : Setting) (t : Blasted) (k : ℕ) (l : Line) (pred : RngPred) → IsSet x → SizedKnown x → IsPost x t → IsReached x t → slice_get x.program.lines k ≡ Some l → predicate_of l ≡ Some (Rng pred) → ReadsKnown x l
    → lit_bit (range_wire x.program t pred).gates (free_of x.v x.all) (range_wire x.program t pred).lit ≡ line_truth (store_in x) l
range_at x t k l pred e sized p r at states read =
    range_is x.program k l pred e.formed at states t.gates (free_of x.v x.all) t.words (store_in x)
    (post_operands x t (range_atoms pred) e sized p r (λ u m. read u (ap (λ o. is_among (stated_names o (instruction_of l)) u) states ∙ m)))
    ∙ sym (ap (λ o. stated_truth (store_in x) o (instruction_of l)) states)

condition_at : (x : Setting) (t : Blasted) (k : ℕ) (l : Line) → IsSet x → SizedKnown x → IsPost x t → IsReached x t → slice_get x.program.lines k ≡ Some l → predicate_of l ≡ None → ReadsKnown x l
    → lit_bit (exactness_wire x.program t (Some l)).gates (free_of x.v x.all) (exactness_wire x.program t (Some l)).lit ≡ line_truth (store_in x) l
condition_at x t k (Input T n) e sized p r at states read = (true_shows t.gates (free_of x.v x.all)).value
condition_at x t k (Step i) e sized p r at states read = condition_is x.program k i e.formed at t.gates (free_of x.v x.all) t.words (store_in x) (post_operands x t i.args e sized p r read)
condition_at x t k (Pre q) e sized p r at states read = absurd (cc)
condition_at x t k (Assert q) e sized p r at states read = absurd (cc)
condition_at x t k (Assume q) e sized p r at states read = absurd (cc)
condition_at x t k (Cut q) e sized p r at states read = absurd (cc)
condition_at x t k (Post q) e sized p r at states read = absurd (cc)

-- states behind others
pub bits_post : (x : Setting) (t : Blasted) (bits : List BitLit) → IsPost x t → IsPost x (with_bits t bits)
bits_post x t [] p = p
bits_post x t (b ∷ bits) p = bits_post x (with_bit t b) bits (clause_post x t (bit_lit t.words b ∷ []) p)

denied_bits_post : (x : Setting) (t : Blasted) (bits : List BitLit) → IsPost x t → IsPost x (without_bits t bits)
denied_bits_post x t [] p = p
denied_bits_post x t (b ∷ bits) p = denied_bits_post x (without_bit t b) bits (clause_post x t (neg (bit_lit t.words b) ∷ []) p)

stated_post : (x : Setting) (t : Blasted) (w : Wire) → LitMade t.gates w → IsPost x t → IsPost x (stated t w)
stated_post x t w m p = clause_post x (grown t w.gates t.words) (w.lit ∷ []) (grown_post x t w.gates m.grows p)

denied_post : (x : Setting) (t : Blasted) (w : Wire) → LitMade t.gates w → IsPost x t → IsPost x (denied t w)
denied_post x t w m p = clause_post x (grown t w.gates t.words) (neg w.lit ∷ []) (grown_post x t w.gates m.grows p)

line_post : (x : Setting) (t : Blasted) (l : Option Line) (o : Option Pred) → IsPost x t → IsPost x (stated_line x.program (by_fixed_bits x.program.variables) t l o)
line_post x t l (Some (Rng pred)) p = stated_post x t (range_wire x.program t pred) (pred_made t.words (types_of x.program.variables) pred t.gates p.within) p
line_post x t l (Some (Alg pred)) p = bits_post x t (fixed_bits_of x.program.variables pred) p
line_post x t l None p = stated_post x t (exactness_wire x.program t l) (condition_made t.gates t.words x.program.variables l p.within) p

lemma_post : (x : Setting) (t : Blasted) (o : Option Lemma) → IsPost x t → IsPost x (with_lemma t o)
lemma_post x t None p = p
lemma_post x t (Some m) p = clause_post x t (map (bit_lit t.words) m.clause) p

hyp_post : (x : Setting) (t : Blasted) (h : Hyp) → IsPost x t → IsPost x (with_hyp x.program (by_fixed_bits x.program.variables) x.lemmas t h)
hyp_post x t (hyp.Line k) p = line_post x t (slice_get x.program.lines k) (predicate_in (slice_get x.program.lines k)) p
hyp_post x t (hyp.Lemma n) p = lemma_post x t (lemma_of x.lemmas n) p

pub hyps_post : (x : Setting) (hyps : List Hyp) (t : Blasted) → IsPost x t → IsPost x (fold (with_hyp x.program (by_fixed_bits x.program.variables) x.lemmas) t hyps)
hyps_post x [] t p = p
hyps_post x (h ∷ hyps) t p = hyps_post x hyps (with_hyp x.program (by_fixed_bits x.program.variables) x.lemmas t h) (hyp_post x t h p)

denied_line_post : (x : Setting) (t : Blasted) (l : Option Line) (o : Option Pred) → IsPost x t → IsPost x (denied_line x.program (by_fixed_bits x.program.variables) t l o)
denied_line_post x t l (Some (Rng pred)) p = denied_post x t (range_wire x.program t pred) (pred_made t.words (types_of x.program.variables) pred t.gates p.within) p
denied_line_post x t l (Some (Alg pred)) p = p
denied_line_post x t l None p = denied_post x t (exactness_wire x.program t l) (condition_made t.gates t.words x.program.variables l p.within) p

claim_post : (x : Setting) (t : Blasted) (c : Claim) → IsPost x t → IsPost x (denied_claim x.program (by_fixed_bits x.program.variables) t c)
claim_post x t (claim.Goal i) p = denied_line_post x t (slice_get x.program.lines (goal_place x.program.lines i)) (predicate_in (slice_get x.program.lines (goal_place x.program.lines i))) p
claim_post x t (claim.Lemma m) p = denied_bits_post x t m.clause p

-- a line that is a hypothesis
line_back : (x : Setting) (t : Blasted) (k : ℕ) (l : Line) (o : Option Pred) → IsSet x → SizedKnown x → IsPost x t → slice_get x.program.lines k ≡ Some l → predicate_of l ≡ o → ReadsKnown x l
    → IsReached x (stated_line x.program (by_fixed_bits x.program.variables) t (Some l) o) → IsReached x t × (line_in_clauses x.program (store_in x) (Some l) o ≡ true)
line_back x t k l (Some (Rng pred)) e sized p at states read r =
    let b = stated_back x t (range_wire x.program t pred) e (pred_made t.words (types_of x.program.variables) pred t.gates p.within) r in
    (b.0, sym (range_at x t k l pred e sized p b.0 at states read) ∙ b.1)
line_back x t k l (Some (Alg pred)) e sized p at states read r =
    bits_back x t (fixed_bits_of x.program.variables pred) e sized p
    (fixed_readable x.program.variables (known_by x.program x.lemmas x.fact x.fact.uses) pred
    (λ u m. (read u (ap (λ o. is_among (stated_names o (instruction_of l)) u) states ∙ among_left (term_names pred.left) (term_names pred.right) u m)).0)) r
line_back x t k l None e sized p at states read r =
    let b = stated_back x t (exactness_wire x.program t (Some l)) e (condition_made t.gates t.words x.program.variables (Some l) p.within) r in
    (b.0, sym (condition_at x t k l e sized p b.0 at states read) ∙ b.1)

place_back : (x : Setting) (t : Blasted) (k : ℕ) (o : Option Line) → IsSet x → SizedKnown x → IsPost x t → slice_get x.program.lines k ≡ o
    → ((u : ℕ) → is_among (read_in o) u ≡ true → (known_by x.program x.lemmas x.fact x.fact.uses u ≡ true) × (u < length x.program.variables))
    → IsReached x (stated_line x.program (by_fixed_bits x.program.variables) t o (predicate_in o)) → IsReached x t × (line_in_clauses x.program (store_in x) o (predicate_in o) ≡ true)
place_back x t k None e sized p at read r =
    let b = stated_back x t (exactness_wire x.program t None) e (condition_made t.gates t.words x.program.variables None p.within) r in
    (b.0, refl)
place_back x t k (Some l) e sized p at read r = line_back x t k l (predicate_of l) e sized p at refl read r

lemma_at : (x : Setting) (t : Blasted) (n m : ℕ) (o : Option Lemma) → IsSet x → SizedKnown x → IsPost x t → slice_get x.fact.hyps m ≡ Some (hyp.Lemma n) → lemma_of x.lemmas n ≡ o → IsReached x (with_lemma t o) → IsReached x t × (lemma_holds (store_in x) o ≡ true)
lemma_at x t n m None e sized p at is r = (r, refl)
lemma_at x t n m (Some c) e sized p at is r =
    lemma_back x t c.clause e sized p
    (fact_readable x.program x.lemmas x.fact c.clause (λ v f. hyp_named x.program x.lemmas x.fact m v (hyp.Lemma n) at (ap (λ o. is_among (lemma_variables o) v) is ∙ f))) r

hyp_back : (x : Setting) (t : Blasted) (h : Hyp) (m : ℕ) → IsSet x → SizedKnown x → IsPost x t → slice_get x.fact.hyps m ≡ Some h → IsReached x (with_hyp x.program (by_fixed_bits x.program.variables) x.lemmas t h)
    → IsReached x t × (hyp_in_clauses x.program x.lemmas (literals_values x.v x.program.variables x.final) h ≡ true)
hyp_back x t (hyp.Line k) m e sized p at r =
    place_back x t k (slice_get x.program.lines k) e sized p refl
    (λ u f. let less = read_less x.program k u (slice_get x.program.lines k) e.formed refl f in (known_after x.program x.lemmas x.fact u less (hyp_named x.program x.lemmas x.fact m u (hyp.Line k) at f), less)) r
hyp_back x t (hyp.Lemma n) m e sized p at r = lemma_at x t n m (lemma_of x.lemmas n) e sized p at refl r

hyps_back : (x : Setting) (hyps : List Hyp) (t : Blasted) → IsSet x → SizedKnown x → IsPost x t → ((n : ℕ) (h : Hyp) → slice_get hyps n ≡ Some h → (m : ℕ) × (slice_get x.fact.hyps m ≡ Some h))
    → IsReached x (fold (with_hyp x.program (by_fixed_bits x.program.variables) x.lemmas) t hyps) → IsReached x t × (list_all (hyp_in_clauses x.program x.lemmas (literals_values x.v x.program.variables x.final)) hyps ≡ true)
hyps_back x [] t e sized p found r = (r, refl)
hyps_back x (h ∷ hyps) t e sized p found r =
    let rest = hyps_back x hyps (with_hyp x.program (by_fixed_bits x.program.variables) x.lemmas t h) e sized (hyp_post x t h p) (λ n g f. found (suc n) g f) r in
    let place = found 0 h refl in
    let here = hyp_back x t h place.0 e sized p place.1 rest.0 in
    (here.0, and_from _ _ here.1 rest.1)

-- the denied claim
denied_at : (x : Setting) (t : Blasted) (k : ℕ) (l : Line) (o : Option Pred) → IsSet x → SizedKnown x → IsPost x t → slice_get x.program.lines k ≡ Some l → predicate_of l ≡ o → ReadsKnown x l → is_algebraic_in o ≡ false
    → IsReached x (denied_line x.program (by_fixed_bits x.program.variables) t (Some l) o) → IsReached x t × (line_truth (store_in x) l ≡ false)
denied_at x t k l (Some (Rng pred)) e sized p at states read plain r =
    let b = denied_back x t (range_wire x.program t pred) e (pred_made t.words (types_of x.program.variables) pred t.gates p.within) r in
    (b.0, sym (range_at x t k l pred e sized p b.0 at states read) ∙ b.1)
denied_at x t k l (Some (Alg pred)) e sized p at states read plain r = absurd (cc)
denied_at x t k l None e sized p at states read plain r =
    let b = denied_back x t (exactness_wire x.program t (Some l)) e (condition_made t.gates t.words x.program.variables (Some l) p.within) r in
    (b.0, sym (condition_at x t k l e sized p b.0 at states read) ∙ b.1)

no_truth : {P : Type 0} → true ≡ false → P
no_truth e = absurd (cc)

goal_back : (x : Setting) (t : Blasted) (k : ℕ) (o : Option Line) → IsSet x → SizedKnown x → IsPost x t → slice_get x.program.lines k ≡ o
    → ((u : ℕ) → is_among (read_in o) u ≡ true → (known_by x.program x.lemmas x.fact x.fact.uses u ≡ true) × (u < length x.program.variables)) → passes is_algebraic o ≡ false → passes (λ l. true) o ≡ true
    → IsReached x (denied_line x.program (by_fixed_bits x.program.variables) t o (predicate_in o)) → IsReached x t × (truth_in (store_in x) o ≡ false)
goal_back x t k None e sized p at read plain there r = no_truth (sym there)
goal_back x t k (Some l) e sized p at read plain there r = denied_at x t k l (predicate_of l) e sized p at refl read plain r

claim_back : (x : Setting) (t : Blasted) (c : Claim) → IsSet x → SizedKnown x → IsPost x t → has_claim x.program c ≡ true → is_algebraic_claim x.program c ≡ false
    → ((v : ℕ) → is_among (claim_variables x.program.lines c) v ≡ true → is_among (fact_variables x.program.lines x.lemmas x.fact) v ≡ true)
    → IsReached x (denied_claim x.program (by_fixed_bits x.program.variables) t c) → IsReached x t × (claim_of x.program (literals_values x.v x.program.variables x.final) c ≡ false)
unfolding truth_of
claim_back x t (claim.Goal i) e sized p has plain named r =
    let k = goal_place x.program.lines i in
    let found = there x.program.lines k (goal_place_below x.program.lines i has) in
    goal_back x t k (slice_get x.program.lines k) e sized p refl
    (λ u f. let less = read_less x.program k u (slice_get x.program.lines k) e.formed refl f in (known_after x.program x.lemmas x.fact u less (named u f), less))
    plain (ap (passes (λ l. true)) found.1) r
claim_back x t (claim.Lemma m) e sized p has plain named r = denied_bits_back x t m.clause e sized p (fact_readable x.program x.lemmas x.fact m.clause named) r

-- the variables have no literals, or as many as their types have bits
sized_all : (p : VersionedProgram) (lemmas : List Numbered) (fact : Fact) (s : Blasted) → Stage p lemmas fact fact.uses s → AreSized p.variables s.words
sized_all p lemmas fact s st u x at = elim (cases_Bool (known_by p lemmas fact fact.uses u)) [
  | inl kn ↦ inr ((st.state.shown u kn).word.count ∙ ap (λ (T : Ty). T.width) (type_found p.variables u x _ at))
  | inr away ↦ inl (st.unset u away)
]

pub models : ModelsAreAssignments
unfolding clauses_of assignment_of
models p lemmas fact v w order plain met =
    let rise = (and_parts (numbers_rise fact.uses) (list_all (is_step_before p.lines (claim_place p.lines fact.claim)) fact.uses) order.uses).0 in
    let first = blank (begun p lemmas fact) in
    let used = used_of p lemmas fact in
    let st : Stage p lemmas fact fact.uses used = stages_go p lemmas fact [] fact.uses first w rise refl (first_stage p lemmas fact w) in
    let whole = blasted_of p lemmas fact in
    let x : Setting = record { program = p; lemmas = lemmas; fact = fact; v = v; all = whole.gates; final = used.words } in
    let begin : IsPost x used = record { words = refl; within = st.state.within; ordered = st.state.ordered; full = st.full } in
    let assumed = fold (with_hyp p (by_fixed_bits p.variables) lemmas) used fact.hyps in
    let after : IsPost x assumed = hyps_post x fact.hyps used begin in
    let cubed : IsPost x (assumed_of p (by_fixed_bits p.variables) lemmas fact) = bits_post x assumed fact.cube after in
    let end : IsPost x whole = claim_post x (assumed_of p (by_fixed_bits p.variables) lemmas fact) fact.claim cubed in
    let e : IsSet x = record {
      formed = w;
      rise = rise;
      ordered = end.ordered;
      met = end.full.all v met;
      count = st.state.count;
      typed = literals_typed v p.variables used.words st.state.count (λ u y f. typed_variable p.variables u y w.words f) (sized_all p lemmas fact used st);
    } in
    let sized : SizedKnown x = λ u kn. (st.state.shown u kn).word.count in
    let reached : IsReached x whole = record { begins = begins_same whole.gates; met = met } in
    let by_claim = claim_back x (assumed_of p (by_fixed_bits p.variables) lemmas fact) fact.claim e sized cubed order.claim plain (claim_named p lemmas fact) reached in
    let by_cube = bits_back x assumed fact.cube e sized after (fact_readable p lemmas fact fact.cube (cube_named p lemmas fact)) by_claim.0 in
    let by_hyps = hyps_back x fact.hyps used e sized begin (λ n h f. (n, f)) by_cube.0 in
    let values = literals_values v p.variables used.words in
    let model : Models p lemmas fact values = record {
      assigns = record { typed = e.typed; executed = λ n k f. uses_back x [] fact.uses first e refl (first_stage p lemmas fact w) refl by_hyps.0.begins k (at_among fact.uses n k f) };
      hyps = by_hyps.1;
      cube = by_cube.1;
      denied = by_claim.1;
    } in
    subst (λ (words : List (List ℕ)). Models p lemmas fact (literals_values v p.variables words)) (sym end.words) model
