-- Computing the used instructions of a fact anew, in order, makes an assignment of any values in their types.
use Rattle.std.proofs.Common.{◌≡◌, ℕ, ◌+◌, ◌<◌, ◌≤◌, inl, inr, refl, sym, ◌∙◌, ap, subst, arith, ℤ, pos, true, false, nat_eq, nat_lt, List, [], ◌∷◌, length, get_or, filter_map, Option, Some, None}
use Rattle.std.specs.List.{slice_get, list_all}
use Rattle.std.proofs.lemmas.Bool.{and_parts, eqb-true}
use Rattle.std.proofs.lemmas.Bool.Decides.{nat_tests}
use Rattle.std.proofs.lemmas.Option.{slice_get_within}
use Rattle.tcl_list.proofs.Booleans.{or_cases}
use Rattle.tcl_lang.specs.declared.ty.Word.{Word}
use Rattle.tcl_lang.specs.declared.instr.Instr.{Instr}
use Rattle.tcl_lang.specs.declared.pred.Line.{Line}
use Rattle.tcl_lang.specs.declared.pred.Line.TheVariants.{Input, Pre, Step, Assert, Assume, Cut, Post}
use Rattle.tcl_lang.specs.Program.{VersionedProgram}
use Rattle.tcl_lang.specs.Store.{word_at}
use Rattle.tcl_lang.specs.Names.{name_of, defined_names, occurrences}
use Rattle.tcl_lang.specs.Line.{values_of}
use Rattle.tcl_lang.specs.Results.{results_of}
use Rattle.tcl_lang.specs.Run.{operands_of}
use Rattle.tcl_lang.specs.Goal.{passes}
use Rattle.tcl_lang.specs.Values.{AreValues, words_of, recomputed_at}
use Rattle.tcl_lang.specs.Defined.{is_among}
use Rattle.tcl_lang.specs.Limit.{definitions_before}
use Rattle.tcl_lang.specs.Executed.{values_at, IsExecuted, IsExecutedAt}
use Rattle.tcl_lang.specs.Form.{IsWellFormed}
use Rattle.tcl_lang.proofs.Locality.{values_local}
use Rattle.tcl_lang.proofs.FormEnds.{none_before}
use Rattle.tcl_lang.proofs.ValueWalks.{recomputed_executed}
use Rattle.tcl_exec.proofs.Stepping.{stays_typed}
use Rattle.tcl_goals.specs.declared.fact.Fact.{Fact}
use Rattle.tcl_goals.specs.declared.lemma.Numbered.{Numbered}
use Rattle.tcl_goals.specs.Numbers.{rise_after, numbers_rise}
use Rattle.tcl_goals.specs.Places.{is_step}
use Rattle.tcl_goals.specs.Keys.{claim_place}
use Rattle.tcl_goals.specs.Order.{is_step_before, InOrder}
use Rattle.tcl_goals.specs.Free.{computed_in}
use Rattle.tcl_goals.specs.Assignments.{Assigns}
use Rattle.tcl_enum.specs.Patterns.{recomputed_all}
use Rattle.tcl_enum.proofs.Walks.{one_kept, recomputed_all_typed}
use Rattle.tcl_enum.proofs.Agreement.{among_left, among_right, item_among, word_same}
use Rattle.tcl_enum.proofs.Executions.{at_among, map_same, occurs_below, computed_none, places_grow}

-- whether an instruction is executed depends on the words of the variables that it names
step_local : (S F : List Word) (i : Instr) → ((v : ℕ) → is_among (occurrences (Step i)) v ≡ true → word_at F v ≡ word_at S v) → IsExecuted S i → IsExecuted F i
step_local S F i same e =
    let names = filter_map name_of i.args in
    let outs : values_at F i.outs ≡ values_at S i.outs =
    map_same (λ v. (word_at F v).value) (λ v. (word_at S v).value) i.outs (λ v m. ap (λ (w : Word). w.value) (same v (among_left i.outs names v m))) in
    let args : values_of F i.args ≡ values_of S i.args =
    values_local S F i.args (λ k d less. same (get_or names k d) (among_right i.outs names (get_or names k d) (item_among names k d less))) in
    outs ∙ e
    ∙ ap (λ (ns : List ℤ). results_of i.op i.ty i.amount (operands_of i.op ns (get_or (values_at S i.outs) 0 (pos 0)))) (sym args)
    ∙ ap (λ (ns : List ℤ). results_of i.op i.ty i.amount (operands_of i.op (values_of F i.args) (get_or ns 0 (pos 0)))) (sym outs)

line_executed_local : (S F : List Word) (l : Line) → ((v : ℕ) → is_among (occurrences l) v ≡ true → word_at F v ≡ word_at S v) → IsExecutedAt S (Some l) → IsExecutedAt F (Some l)
line_executed_local S F (Input T u) same e = tt
line_executed_local S F (Pre p) same e = tt
line_executed_local S F (Step i) same e = step_local S F i same e
line_executed_local S F (Assert p) same e = tt
line_executed_local S F (Assume p) same e = tt
line_executed_local S F (Cut p) same e = tt
line_executed_local S F (Post p) same e = tt

-- computing a later instruction anew keeps what is executed before it
first_kept : (f : VersionedProgram) (k v : ℕ) → IsWellFormed f → v < definitions_before f.lines k → is_among (computed_in (slice_get f.lines k)) v ≡ false
first_kept f k v w h = at (slice_get f.lines k) refl
  where
    at : (o : Option Line) → slice_get f.lines k ≡ o → is_among (computed_in o) v ≡ false
    at None e = refl
    at (Some l) e = computed_none l v (ap (λ names. is_among names v) (w.defines k l e) ∙ none_before (definitions_before f.lines k) v (defined_names l) h)

later_keeps : (f : VersionedProgram) (values : List ℤ) (j k : ℕ) (l : Line) → IsWellFormed f → AreValues f.variables values → slice_get f.lines j ≡ Some l → j < k → k < length f.lines → IsExecutedAt (words_of f.variables values) (Some l) → IsExecutedAt (words_of f.variables (recomputed_at values (slice_get f.lines k))) (Some l)
later_keeps f values j k l w a at less within e =
    let new = recomputed_at values (slice_get f.lines k) in
    let typed = stays_typed f values k w a in
    let grown : definitions_before f.lines (j + 1) ≤ definitions_before f.lines k = places_grow f.lines (j + 1) k (omega (arith, less)) (omega (arith, within)) in
    line_executed_local (words_of f.variables values) (words_of f.variables new) l
    (λ v m. word_same f.variables new values v typed a (one_kept (slice_get f.lines k) values v (first_kept f k v w (omega (arith, occurs_below f j v l w at m, grown))))) e

-- and so do all instructions after it
abbrev AreAfter : VersionedProgram → ℕ → List ℕ → Type 0
AreAfter f j uses = (k : ℕ) → is_among uses k ≡ true → (j < k) × (k < length f.lines)

all_keep : (f : VersionedProgram) (uses : List ℕ) (values : List ℤ) (j : ℕ) (l : Line) → IsWellFormed f → AreValues f.variables values → slice_get f.lines j ≡ Some l → AreAfter f j uses → IsExecutedAt (words_of f.variables values) (Some l) → IsExecutedAt (words_of f.variables (recomputed_all f.lines uses values)) (Some l)
all_keep f [] values j l w a at after e = e
all_keep f (k ∷ uses) values j l w a at after e =
    let here = after k (at_among (k ∷ uses) 0 k refl) in
    all_keep f uses (recomputed_at values (slice_get f.lines k)) j l w (stays_typed f values k w a) at (λ i m. after i (among_right (k ∷ []) uses i m))
    (later_keeps f values j k l w a at here.0 here.1 e)

-- uses that rise are instructions, each after those before it
less : (a b : ℕ) → nat_lt a b ≡ true → a < b
less a b h = grind (arith, nat_tests, h)

rises : (k : ℕ) (uses : List ℕ) → rise_after (Some k) uses ≡ true → (i : ℕ) → is_among uses i ≡ true → k < i
rises k [] h i m = absurd (cc)
rises k (u ∷ uses) h i m =
    let parts = and_parts (nat_lt k u) (rise_after (Some u) uses) h in
    let first : k < u = less k u parts.0 in
    elim (or_cases (nat_eq u i) (is_among uses i) m) [
      | inl here ↦ let same : u ≡ i = eqb-true u i here in omega (arith, first, same)
      | inr rest ↦ omega (arith, first, rises u uses parts.1 i rest)
    ]

abbrev AreSteps : List Line → List ℕ → Type 0
AreSteps lines uses = (k : ℕ) → is_among uses k ≡ true → (i : Instr) × (slice_get lines k ≡ Some (Step i))

step_of : (l : Line) → is_step l ≡ true → (i : Instr) × (l ≡ Step i)
step_of (Input T u) e = absurd (cc)
step_of (Pre p) e = absurd (cc)
step_of (Step i) e = (i, refl)
step_of (Assert p) e = absurd (cc)
step_of (Assume p) e = absurd (cc)
step_of (Cut p) e = absurd (cc)
step_of (Post p) e = absurd (cc)

step_at : (o : Option Line) → passes is_step o ≡ true → (i : Instr) × (o ≡ Some (Step i))
step_at None e = absurd (cc)
step_at (Some l) e = let s = step_of l e in (s.0, ap (λ (m : Line). Some m) s.1)

are_steps : (lines : List Line) (place : ℕ) (uses : List ℕ) → list_all (is_step_before lines place) uses ≡ true → AreSteps lines uses
are_steps lines place [] h k m = absurd (cc)
are_steps lines place (u ∷ uses) h k m =
    let parts = and_parts (is_step_before lines place u) (list_all (is_step_before lines place) uses) h in
    let here = and_parts (passes is_step (slice_get lines u)) (nat_lt u place) parts.0 in
    elim (or_cases (nat_eq u k) (is_among uses k) m) [
      | inl same ↦ step_at (slice_get lines k) (ap (λ j. passes is_step (slice_get lines j)) (sym (eqb-true u k same)) ∙ here.0)
      | inr rest ↦ are_steps lines place uses parts.1 k rest
    ]

-- after all used instructions were computed anew, each of them is executed
tail_rises : (last : Option ℕ) (k : ℕ) (uses : List ℕ) → rise_after last (k ∷ uses) ≡ true → rise_after (Some k) uses ≡ true
tail_rises None k uses h = h
tail_rises (Some j) k uses h = (and_parts (nat_lt j k) (rise_after (Some k) uses) h).1

all_executed : (f : VersionedProgram) (last : Option ℕ) (uses : List ℕ) (values : List ℤ) → IsWellFormed f → AreValues f.variables values → rise_after last uses ≡ true → AreSteps f.lines uses → (k : ℕ) → is_among uses k ≡ true → IsExecutedAt (words_of f.variables (recomputed_all f.lines uses values)) (slice_get f.lines k)
all_executed f last [] values w a rise steps k m = absurd (cc)
all_executed f last (u ∷ uses) values w a rise steps k m =
    let new = recomputed_at values (slice_get f.lines u) in
    let typed = stays_typed f values u w a in
    let next = tail_rises last u uses rise in
    let others : AreSteps f.lines uses = λ j e. steps j (among_right (u ∷ []) uses j e) in
    let step = steps u (at_among (u ∷ uses) 0 u refl) in
    let after : AreAfter f u uses = λ j e. (rises u uses next j e, slice_get_within f.lines j (Step (others j e).0) (others j e).1) in
    let executed : IsExecutedAt (words_of f.variables new) (Some (Step step.0)) =
    subst (λ (o : Option Line). IsExecutedAt (words_of f.variables (recomputed_at values o)) (Some (Step step.0))) (sym step.1) (recomputed_executed f values u step.0 w a step.1) in
    let whole = recomputed_all f.lines uses new in
    elim (or_cases (nat_eq u k) (is_among uses k) m) [
      | inl same ↦
          subst (λ j. IsExecutedAt (words_of f.variables whole) (slice_get f.lines j)) (eqb-true u k same)
          (subst (λ (o : Option Line). IsExecutedAt (words_of f.variables whole) o) (sym step.1) (all_keep f uses new u (Step step.0) w typed step.1 after executed))
      | inr rest ↦ all_executed f (Some u) uses new w typed next others k rest
    ]

pub walk_assigns : (f : VersionedProgram) (lemmas : List Numbered) (fact : Fact) (values : List ℤ) → IsWellFormed f → InOrder f lemmas fact → AreValues f.variables values → Assigns f fact (recomputed_all f.lines fact.uses values)
walk_assigns f lemmas fact values w order a =
    let uses = and_parts (numbers_rise fact.uses) (list_all (is_step_before f.lines (claim_place f.lines fact.claim)) fact.uses) order.uses in
    record {
      typed = recomputed_all_typed f fact.uses values w a;
      executed = λ n k at.
          all_executed f None fact.uses values w a uses.0 (are_steps f.lines (claim_place f.lines fact.claim) fact.uses uses.1) k (at_among fact.uses n k at);
    }
