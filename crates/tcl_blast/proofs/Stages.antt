-- The states between the used instructions of a fact, for any fact in order: which literals variables have, how long they
-- are, and that the clauses hold those of all gates.
use Rattle.std.proofs.Common.{◌≡◌, inl, inr, ℕ, zero, suc, ◌+◌, Bool, true, false, ◌||◌, List, [], ◌∷◌, ◌++◌, length, map, replicate, get_or, fold, Option, Some, None, refl, sym, ◌∙◌, ap, subst, ℤ, pos}
use Rattle.std.specs.List.{slice_get, flat_map}
use Rattle.std.specs.Option.{option_to_list}
use Rattle.std.proofs.lemmas.Bool.{and_parts, and_from}
use Rattle.std.proofs.lemmas.List.{append-nil, append_assoc}
use Rattle.tcl_list.proofs.Booleans.{or_cases}
use Rattle.tcl_cnf.specs.Clause.{clause_of, all_true, Satisfies}
use Rattle.tcl_cnf.proofs.Truth.{satisfies-append}
use Rattle.tcl_gates.specs.declared.gate.Gate.{Gate}
use Rattle.tcl_gates.specs.declared.gate.Gate.TheVariants.{Free}
use Rattle.tcl_gates.specs.Gates.{clauses_of_table, clauses_from, clauses_of as gate_clauses, clauses_behind}
use Rattle.tcl_gates.specs.Meaning.{Begins}
use Rattle.tcl_gates.proofs.Appending.{clauses_of-append}
use Rattle.tcl_lang.specs.declared.ty.Ty.{Ty}
use Rattle.tcl_lang.specs.declared.pred.Line.{Line}
use Rattle.tcl_lang.specs.declared.pred.Line.TheVariants.{Step}
use Rattle.tcl_lang.specs.declared.variable.Variable.{Variable}
use Rattle.tcl_lang.specs.Program.{VersionedProgram}
use Rattle.tcl_lang.specs.Run.{Fits, taken_types}
use Rattle.tcl_lang.specs.Values.{trace_of, words_of}
use Rattle.tcl_lang.specs.Defined.{is_among}
use Rattle.tcl_lang.specs.Form.{IsWellFormed}
use Rattle.tcl_lang.proofs.FormFacts.{zero_in}
use Rattle.tcl_goals.specs.declared.fact.Fact.{Fact}
use Rattle.tcl_goals.specs.declared.lemma.Numbered.{Numbered}
use Rattle.tcl_goals.specs.Numbers.{numbers_rise}
use Rattle.tcl_goals.specs.Slices.{read_in}
use Rattle.tcl_goals.specs.Free.{computed_in, computed_variables, free_variables}
use Rattle.tcl_goals.specs.Assignments.{Assigns}
use Rattle.tcl_goals.proofs.RunsAssign.{runs_assign}
use Rattle.tcl_words.specs.Steps.{instruction_lits, step_gates, step_words}
use Rattle.tcl_blast.specs.Begin.{begun, begun_with}
use Rattle.tcl_blast.specs.declared.blasted.Blasted.{Blasted}
use Rattle.tcl_blast.specs.Blasted.{blank, grown, with_clause}
use Rattle.tcl_blast.specs.Clauses.{with_use}
use Rattle.tcl_blast.proofs.LineOrder.{step_grows}
use Rattle.tcl_blast.proofs.Members.{among_left, among_right, among_first, among_at, flat_from, flat_into, computed_outs}
use Rattle.tcl_blast.proofs.States.{IsState, use_state, after_other, nondet_or}
use Rattle.tcl_blast.proofs.Beginnings.{free_of_values, word_type, blank_state, begun_free, begun_other, bits_at}
use Rattle.tcl_blast.proofs.Facts.{known_by, read_known, one_more}

-- every fact has an assignment: that of the run in which all taken values are 0
zeros_fit : (Ts : List Ty) → Fits Ts (map (λ T. pos 0) Ts)
zeros_fit [] = tt
zeros_fit (T ∷ Ts) = (zero_in T.signed T.width, zeros_fit Ts)

pub zero_trace : VersionedProgram → List ℤ
zero_trace p = trace_of p (map (λ T. pos 0) (taken_types p.lines))

pub zero_assigns : (p : VersionedProgram) (fact : Fact) → IsWellFormed p → Assigns p fact (zero_trace p)
unfolding zero_trace
zero_assigns p fact w = (runs_assign p fact (map (λ T. pos 0) (taken_types p.lines)) w (zeros_fit (taken_types p.lines))).assigns

-- values that meet the clauses meet those of all gates
pub record IsFull (s : Blasted) : Type 0 where
  pub all : (v : ℕ → Bool) → Satisfies v s.clauses → Satisfies v (gate_clauses s.gates)

pub left_met : (v : ℕ → Bool) (cs ds : List (List ℕ)) → Satisfies v (cs ++ ds) → Satisfies v cs
left_met v cs ds s = (and_parts (all_true v cs) (all_true v ds) (sym (satisfies-append v cs ds) ∙ s)).0

pub right_met : (v : ℕ → Bool) (cs ds : List (List ℕ)) → Satisfies v (cs ++ ds) → Satisfies v ds
right_met v cs ds s = (and_parts (all_true v cs) (all_true v ds) (sym (satisfies-append v cs ds) ∙ s)).1

pub grown_full : (s : Blasted) (gates : List Gate) (words : List (List ℕ)) → Begins s.gates gates → IsFull s → IsFull (grown s gates words)
grown_full s gates words b f = record { all = all }
  where
    whole : gate_clauses gates ≡ gate_clauses s.gates ++ clauses_behind (length s.gates) gates
    whole = ap gate_clauses b.is ∙ clauses_of-append s.gates b.more ∙ ap (λ t. gate_clauses s.gates ++ clauses_behind (length s.gates) t) (sym b.is)

    all : (v : ℕ → Bool) → Satisfies v (s.clauses ++ clauses_behind (length s.gates) gates) → Satisfies v (gate_clauses gates)
    all v h =
        subst (Satisfies v) (sym whole)
        (satisfies-append v (gate_clauses s.gates) (clauses_behind (length s.gates) gates)
        ∙ and_from _ _ (f.all v (left_met v s.clauses (clauses_behind (length s.gates) gates) h)) (right_met v s.clauses (clauses_behind (length s.gates) gates) h))

pub clause_full : (s : Blasted) (ls : List ℕ) → IsFull s → IsFull (with_clause s ls)
clause_full s ls f = record { all = λ v h. f.all v (left_met v s.clauses (option_to_list (clause_of ls)) h) }

none_from : (m n : ℕ) → clauses_from m (replicate n Free) ≡ []
unfolding clauses_from clauses_of_table
none_from m zero = refl
none_from m (suc n) = none_from (m + 1) n

free_full : (v : ℕ → Bool) (gates : List Gate) (n : ℕ) → gates ≡ replicate n Free → Satisfies v ((0 ∷ []) ∷ []) → Satisfies v (gate_clauses gates)
unfolding gate_clauses
free_full v gates n e h = subst (Satisfies v) (sym (ap gate_clauses e ∙ ap (λ t. (0 ∷ []) ∷ t) (none_from 1 n))) h

-- a stage: these used instructions have become gates
pub record Stage (p : VersionedProgram) (lemmas : List Numbered) (fact : Fact) (done : List ℕ) (s : Blasted) : Type 0 where
  pub state : IsState p.variables (words_of p.variables (zero_trace p)) (free_of_values p lemmas fact (zero_trace p)) (known_by p lemmas fact done) s
  pub unset : (u : ℕ) → known_by p lemmas fact done u ≡ false → get_or s.words u [] ≡ []
  pub full : IsFull s

no_parts : (a b : Bool) → (a || b) ≡ false → (a ≡ false) × (b ≡ false)
no_parts true b e = absurd (cc)
no_parts false b e = (refl, e)

clash : {P : Type 0} (b : Bool) → b ≡ true → b ≡ false → P
clash b e f = absurd (cc)

pub first_stage : (p : VersionedProgram) (lemmas : List Numbered) (fact : Fact) → IsWellFormed p → Stage p lemmas fact [] (blank (begun p lemmas fact))
unfolding begun
first_stage p lemmas fact w =
    let x = blank_state p lemmas fact (zero_trace p) w (zero_assigns p fact w).typed in
    let frees = free_variables p lemmas fact in
    record {
      state = record { ordered = x.ordered; count = x.count; within = x.within; shown = λ u m. x.shown u (none_done u m); met = x.met };
      unset = λ u m. begun_other p.variables frees u (no_parts (is_among frees u) (is_among (computed_variables p.lines []) u) m).0;
      full = record { all = λ v h. free_full v (begun_with p.variables frees).gates (length (flat_map (bits_at p.variables (zero_trace p)) frees)) (begun_free p.variables (zero_trace p) frees) h };
    }
  where
    none_done : (u : ℕ) → known_by p lemmas fact [] u ≡ true → is_among (free_variables p lemmas fact) u ≡ true
    none_done u m = elim (or_cases (is_among (free_variables p lemmas fact) u) (is_among (computed_variables p.lines []) u) m) [ inl free ↦ free | inr made ↦ absurd (cc) ]

-- a variable that a line does not compute keeps its literals
pub line_other : (gates : List Gate) (words : List (List ℕ)) (variables : List Variable) (o : Option Line) (u : ℕ) → is_among (computed_in o) u ≡ false → get_or (step_words gates words variables o) u [] ≡ get_or words u []
line_other gates words variables None u e = refl
line_other gates words variables (Some (Step i)) u e = elim (nondet_or i.op words i.outs (instruction_lits gates words variables i).words) [
  | inl taken ↦ after_other i.op words i.outs (instruction_lits gates words variables i).words u (sym (ap (λ os. is_among os u) (computed_outs i.op i.outs taken)) ∙ e)
  | inr none ↦ ap (λ (ws : List (List ℕ)). get_or ws u []) none.0
]
line_other gates words variables (Some _) u e = refl

less_known : (p : VersionedProgram) (lemmas : List Numbered) (fact : Fact) (done : List ℕ) (k u : ℕ) → known_by p lemmas fact (done ++ k ∷ []) u ≡ false → (known_by p lemmas fact done u ≡ false) × (is_among (computed_in (slice_get p.lines k)) u ≡ false)
less_known p lemmas fact done k u e = (by (known_by p lemmas fact done u) refl, by_line (is_among (computed_in (slice_get p.lines k)) u) refl)
  where
    parts : (is_among (free_variables p lemmas fact) u ≡ false) × (is_among (computed_variables p.lines (done ++ k ∷ [])) u ≡ false)
    parts = no_parts (is_among (free_variables p lemmas fact) u) (is_among (computed_variables p.lines (done ++ k ∷ [])) u) e

    by : (b : Bool) → known_by p lemmas fact done u ≡ b → known_by p lemmas fact done u ≡ false
    by false f = f
    by true f = elim (or_cases (is_among (free_variables p lemmas fact) u) (is_among (computed_variables p.lines done) u) f) [
      | inl free ↦ clash (is_among (free_variables p lemmas fact) u) free parts.0
      | inr made ↦
          let from = flat_from (λ j. computed_in (slice_get p.lines j)) done u made in
          clash (is_among (computed_variables p.lines (done ++ k ∷ [])) u) (flat_into (λ j. computed_in (slice_get p.lines j)) (done ++ k ∷ []) from.0 u (among_left done (k ∷ []) from.0 from.1) from.2) parts.1
    ]

    by_line : (b : Bool) → is_among (computed_in (slice_get p.lines k)) u ≡ b → is_among (computed_in (slice_get p.lines k)) u ≡ false
    by_line false f = f
    by_line true f =
        clash (is_among (computed_variables p.lines (done ++ k ∷ [])) u) (flat_into (λ j. computed_in (slice_get p.lines j)) (done ++ k ∷ []) k u (among_right done (k ∷ []) k (among_first k [])) f) parts.1

pub reads_known : (p : VersionedProgram) (lemmas : List Numbered) (fact : Fact) (done rest : List ℕ) (k : ℕ) (o : Option Line) → IsWellFormed p → numbers_rise fact.uses ≡ true → fact.uses ≡ done ++ k ∷ rest → slice_get p.lines k ≡ o
    → (v : ℕ) → is_among (read_in o) v ≡ true → known_by p lemmas fact done v ≡ true
reads_known p lemmas fact done rest k None w rise is at v m = absurd (cc)
reads_known p lemmas fact done rest k (Some l) w rise is at v m = read_known p lemmas fact done rest k v l w rise is at m

pub next_stage : (p : VersionedProgram) (lemmas : List Numbered) (fact : Fact) (done rest : List ℕ) (k : ℕ) (s : Blasted) → IsWellFormed p → numbers_rise fact.uses ≡ true → fact.uses ≡ done ++ k ∷ rest
    → Stage p lemmas fact done s → Stage p lemmas fact (done ++ k ∷ []) (with_use p s k)
next_stage p lemmas fact done rest k s w rise is x =
    let a = zero_assigns p fact w in
    let used = among_at fact.uses k (ap (λ us. is_among us k) is ∙ among_right done (k ∷ rest) k (among_first k rest)) in
    let o = slice_get p.lines k in
    record {
      state = use_state p k (words_of p.variables (zero_trace p)) (free_of_values p lemmas fact (zero_trace p)) (known_by p lemmas fact done) (known_by p lemmas fact (done ++ k ∷ [])) s w (a.executed used.0 k used.1)
          (λ v. word_type p.variables (zero_trace p) v a.typed) (reads_known p lemmas fact done rest k o w rise is refl) (one_more p lemmas fact done k) x.state;
      unset = λ u m.
          let parts = less_known p lemmas fact done k u m in
          line_other s.gates s.words p.variables o u parts.1 ∙ x.unset u parts.0;
      full = grown_full s (step_gates s.gates s.words p.variables o) (step_words s.gates s.words p.variables o) (step_grows s.gates s.words p.variables o x.state.within).begins x.full;
    }

-- the stage after all used instructions
pub stages_go : (p : VersionedProgram) (lemmas : List Numbered) (fact : Fact) (done rest : List ℕ) (s : Blasted) → IsWellFormed p → numbers_rise fact.uses ≡ true → fact.uses ≡ done ++ rest → Stage p lemmas fact done s
    → Stage p lemmas fact fact.uses (fold (with_use p) s rest)
stages_go p lemmas fact done [] s w rise is x = subst (λ (us : List ℕ). Stage p lemmas fact us s) (sym (is ∙ append-nil done)) x
stages_go p lemmas fact done (k ∷ rest) s w rise is x =
    stages_go p lemmas fact (done ++ k ∷ []) rest (with_use p s k) w rise (is ∙ sym (append_assoc done (k ∷ []) rest)) (next_stage p lemmas fact done rest k s w rise is x)
