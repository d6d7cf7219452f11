-- The used instructions of a fact are executed in the assignment that values of the clauses give.
use Rattle.std.proofs.Common.{◌≡◌, ◌⊎◌, inl, inr, ℕ, suc, ◌+◌, ◌<◌, Bool, true, false, List, [], ◌∷◌, ◌++◌, length, map, get_or, fold, Option, Some, None, refl, sym, ◌∙◌, ap, ap₂, subst, arith, ℤ, nat_eq, nat_lt}
use Rattle.std.specs.List.{slice_get}
use Rattle.std.proofs.lemmas.Bool.{and_parts, eqb-true, ltb-true}
use Rattle.std.proofs.lemmas.List.{append_assoc}
use Rattle.std.proofs.lemmas.Option.{slice_get_within}
use Rattle.tcl_list.proofs.Booleans.{or_cases, or_right}
use Rattle.tcl_cnf.specs.Clause.{Satisfies}
use Rattle.tcl_bits.specs.Value.{word_value}
use Rattle.tcl_gates.specs.declared.gate.Gate.{Gate}
use Rattle.tcl_gates.specs.Gates.{AreGates, free_of, clauses_of as gate_clauses}
use Rattle.tcl_gates.specs.Meaning.{word_bits, AreWithin, Begins}
use Rattle.tcl_gates.proofs.Shown.{begins_same, begins_trans}
use Rattle.tcl_lang.specs.declared.ty.Ty.{Ty}
use Rattle.tcl_lang.specs.declared.ty.Word.{Word}
use Rattle.tcl_lang.specs.declared.instr.Op.{Op}
use Rattle.tcl_lang.specs.declared.instr.Op.TheVariants as op
use Rattle.tcl_lang.specs.declared.instr.Instr.{Instr}
use Rattle.tcl_lang.specs.declared.pred.Line.{Line}
use Rattle.tcl_lang.specs.declared.pred.Line.TheVariants.{Input, Pre, Step, Assert, Assume, Cut, Post}
use Rattle.tcl_lang.specs.Program.{VersionedProgram}
use Rattle.tcl_lang.specs.Store.{word_at}
use Rattle.tcl_lang.specs.Names.{defined_names}
use Rattle.tcl_lang.specs.Line.{values_of}
use Rattle.tcl_lang.specs.Instruction.{result_count}
use Rattle.tcl_lang.specs.Results.{results_of, result_types}
use Rattle.tcl_lang.specs.Run.{operands_of}
use Rattle.tcl_lang.specs.Values.{AreValues, words_of}
use Rattle.tcl_lang.specs.Versions.{numbers_from}
use Rattle.tcl_lang.specs.Defined.{is_among}
use Rattle.tcl_lang.specs.Limit.{definitions_before}
use Rattle.tcl_lang.specs.Executed.{values_at, choice_in, IsExecuted, IsExecutedAt}
use Rattle.tcl_lang.specs.Form.{IsWellFormed}
use Rattle.tcl_lang.proofs.FormFacts.{definitions_go}
use Rattle.tcl_lang.proofs.TypedRuns.{line_shape, instruction_shape}
use Rattle.tcl_goals.specs.declared.fact.Fact.{Fact}
use Rattle.tcl_goals.specs.declared.lemma.Numbered.{Numbered}
use Rattle.tcl_goals.specs.Numbers.{rise_after, is_above, numbers_rise}
use Rattle.tcl_goals.specs.Free.{computed_in, computed_variables, free_variables}
use Rattle.tcl_words.specs.Ranges.{AllWithin}
use Rattle.tcl_words.specs.Steps.{instruction_lits, words_after, step_gates, step_words}
use Rattle.tcl_words.specs.Stores.{ShowsVariable, ShowsOperands, ShowWords}
use Rattle.tcl_blast.specs.declared.blasted.Blasted.{Blasted}
use Rattle.tcl_blast.specs.Clauses.{with_use}
use Rattle.tcl_blast.specs.Models.{literals_value, literals_values}
use Rattle.tcl_blast.proofs.LineOrder.{step_grows, step_words_within}
use Rattle.tcl_blast.proofs.Members.{among_right, among_first, at_among, named_atom, computed_outs, flat_from, flat_into, computed_defined, defined_least, places_grow}
use Rattle.tcl_blast.proofs.States.{computed_same, results_set, result_type, outs_less}
use Rattle.tcl_blast.proofs.Beginnings.{there, word_number, free_passes}
use Rattle.tcl_words.proofs.Parts.{type_found}
use Rattle.tcl_blast.proofs.Facts.{known_by, read_less}
use Rattle.tcl_blast.proofs.Stages.{Stage, next_stage, reads_known, line_other}
use Rattle.tcl_blast.proofs.Models.{word_is, literals_there, variable_is}

-- numbers that rise: those before are less than those behind
rise_above : (last : ℕ) (ns : List ℕ) (j : ℕ) → rise_after (Some last) ns ≡ true → is_among ns j ≡ true → last < j
rise_above last [] j r m = absurd (cc)
rise_above last (n ∷ ns) j r m =
    let parts = and_parts (nat_lt last n) (rise_after (Some n) ns) r in
    let less = ltb-true last n parts.0 in
    elim (or_cases (nat_eq n j) (is_among ns j) m) [
      | inl here ↦ omega (arith, less, eqb-true n j here)
      | inr rest ↦ omega (arith, less, rise_above n ns j parts.1 rest)
    ]

rise_between : (o : Option ℕ) (done rest : List ℕ) (i j : ℕ) → rise_after o (done ++ rest) ≡ true → is_among done i ≡ true → is_among rest j ≡ true → i < j
rise_between o [] rest i j r m n = absurd (cc)
rise_between o (d ∷ done) rest i j r m n =
    let tail = (and_parts (is_above o d) (rise_after (Some d) (done ++ rest)) r).1 in
    elim (or_cases (nat_eq d i) (is_among done i) m) [
      | inl here ↦ omega (arith, eqb-true d i here, rise_above d (done ++ rest) j tail (among_right done rest j n))
      | inr later ↦ rise_between (Some d) done rest i j tail later n
    ]

-- what an instruction computes is defined before later lines
numbers_less : (n v : ℕ) (xs : List ℕ) → is_among (numbers_from n xs) v ≡ true → v < n + length xs
numbers_less n v [] e = absurd (cc)
numbers_less n v (x ∷ xs) e = elim (or_cases (nat_eq n v) (is_among (numbers_from (n + 1) xs) v) e) [
  | inl here ↦ let same : n ≡ v = eqb-true n v here in omega (arith, same)
  | inr rest ↦ omega (arith, numbers_less (n + 1) v xs rest)
]

computed_apart : (f : VersionedProgram) (i j u : ℕ) → IsWellFormed f → i < j → is_among (computed_in (slice_get f.lines i)) u ≡ true → is_among (computed_in (slice_get f.lines j)) u ≡ true → ⊥
computed_apart f i j u w less a b = from (slice_get f.lines i) (slice_get f.lines j) refl refl a b
  where
    from : (o q : Option Line) → slice_get f.lines i ≡ o → slice_get f.lines j ≡ q → is_among (computed_in o) u ≡ true → is_among (computed_in q) u ≡ true → ⊥
    from None q e g m n = absurd (cc)
    from (Some l) None e g m n = absurd (cc)
    from (Some l) (Some k) e g m n =
        let below : u < definitions_before f.lines (i + 1) =
        omega (arith, definitions_go f.lines i l e, numbers_less (definitions_before f.lines i) u (defined_names l) (sym (ap (λ names. is_among names u) (w.defines i l e)) ∙ computed_defined l u m)) in
        omega (arith, below, defined_least f j u k w g (computed_defined k u n), places_grow f.lines (i + 1) j (omega (arith, less)) (omega (arith, slice_get_within f.lines j k g)))

no_true : (b : Bool) → b ≡ true → b ≡ false → ⊥
no_true b e f = cc

-- a variable that is known is not computed again
later_not : (p : VersionedProgram) (lemmas : List Numbered) (fact : Fact) (done rest : List ℕ) (u j : ℕ) → IsWellFormed p → numbers_rise fact.uses ≡ true → fact.uses ≡ done ++ rest → known_by p lemmas fact done u ≡ true → is_among rest j ≡ true
    → is_among (computed_in (slice_get p.lines j)) u ≡ false
later_not p lemmas fact done rest u j w rise is kn m = by (is_among (computed_in (slice_get p.lines j)) u) refl
  where
    never : is_among (computed_in (slice_get p.lines j)) u ≡ true → ⊥
    never e = elim (or_cases (is_among (free_variables p lemmas fact) u) (is_among (computed_variables p.lines done) u) kn) [
      | inl free ↦
          no_true (is_among (computed_variables p.lines fact.uses) u)
          (flat_into (λ i. computed_in (slice_get p.lines i)) fact.uses j u (ap (λ us. is_among us j) is ∙ among_right done rest j m) e) (free_passes p lemmas fact u free)
      | inr made ↦
          let from = flat_from (λ i. computed_in (slice_get p.lines i)) done u made in
          computed_apart p from.0 j u w (rise_between None done rest from.0 j (sym (ap numbers_rise is) ∙ rise) from.1 m) from.2 e
    ]

    by : (b : Bool) → is_among (computed_in (slice_get p.lines j)) u ≡ b → is_among (computed_in (slice_get p.lines j)) u ≡ false
    by false e = e
    by true e = absurd (never e)

-- so it keeps its literals
pub uses_keep : (p : VersionedProgram) (rest : List ℕ) (s : Blasted) (u : ℕ) → ((j : ℕ) → is_among rest j ≡ true → is_among (computed_in (slice_get p.lines j)) u ≡ false) → get_or (fold (with_use p) s rest).words u [] ≡ get_or s.words u []
uses_keep p [] s u h = refl
uses_keep p (k ∷ rest) s u h =
    uses_keep p rest (with_use p s k) u (λ j m. h j (among_right (k ∷ []) rest j m)) ∙ line_other s.gates s.words p.variables (slice_get p.lines k) u (h k (among_first k rest))

-- the gates grow
pub uses_begin : (p : VersionedProgram) (rest : List ℕ) (s : Blasted) → AllWithin (length s.gates) s.words → Begins s.gates (fold (with_use p) s rest).gates
uses_begin p [] s w = begins_same s.gates
uses_begin p (k ∷ rest) s w =
    let o = slice_get p.lines k in
    begins_trans (step_grows s.gates s.words p.variables o w).begins (uses_begin p rest (with_use p s k) (step_words_within s.gates s.words p.variables o w))

-- words that show numbers have these numbers
results_back : (gates : List Gate) (free : List Bool) (store : List Word) (Ts : List Ty) (outs : List ℕ) (f : ℕ → List ℕ) (ns : List ℤ) → ShowWords gates free Ts (map f outs) ns
    → ((j u : ℕ) (T : Ty) → slice_get outs j ≡ Some u → slice_get Ts j ≡ Some T → AreWithin (length gates) (f u) → word_value T.signed (word_bits gates free (f u)) ≡ (word_at store u).value) → values_at store outs ≡ ns
results_back gates free store [] [] f [] h g = refl
results_back gates free store [] [] f (n ∷ ns) h g = absurd h
results_back gates free store (T ∷ Ts) [] f ns h g = absurd h
results_back gates free store [] (o ∷ outs) f ns h g = absurd h
results_back gates free store (T ∷ Ts) (o ∷ outs) f [] h g = absurd h
results_back gates free store (T ∷ Ts) (o ∷ outs) f (n ∷ ns) h g =
    ap₂ (λ x xs. x ∷ xs) (sym (g 0 o T refl refl h.0.within) ∙ h.0.value) (results_back gates free store Ts outs f ns h.1 (λ j u U a b i. g (suc j) u U a b i))

-- a choice is any value
choice_executed : (o : Op) (T : Ty) (n : ℕ) (values : List ℤ) (outs : List ℕ) (store : List Word) → o ≡ op.Nondet → length outs ≡ result_count o → values_at store outs ≡ results_of o T n (operands_of o values (choice_in store outs))
choice_executed op.Nondet T n values [] store e c = absurd (omega (arith, c))
choice_executed op.Nondet T n values (x ∷ []) store e c = refl
choice_executed op.Nondet T n values (x ∷ y ∷ outs) store e c = absurd (omega (arith, c))
choice_executed _ T n values outs store e c = absurd (cc)

same_op : (o : Op) → (o ≡ op.Nondet) ⊎ (o ≡ op.Nondet → ⊥)
same_op op.Nondet = inl refl
same_op _ = inr (λ h. absurd (cc))

-- what is fixed while the used instructions are gone through: the program, the fact, and the circuit at the end
pub record Setting : Type 0 where
  pub program : VersionedProgram
  pub lemmas : List Numbered
  pub fact : Fact
  pub v : ℕ → Bool
  pub all : List Gate
  pub final : List (List ℕ)

abbrev pub store_in : Setting → List Word
store_in x = words_of x.program.variables (literals_values x.v x.program.variables x.final)

pub record IsSet (x : Setting) : Type 0 where
  pub formed : IsWellFormed x.program
  pub rise : numbers_rise x.fact.uses ≡ true
  pub ordered : AreGates x.all
  pub met : Satisfies x.v (gate_clauses x.all)
  pub count : length x.final ≡ length x.program.variables
  pub typed : AreValues x.program.variables (literals_values x.v x.program.variables x.final)

-- the known variables of a stage show their values
pub known_shows : (x : Setting) (done : List ℕ) (s : Blasted) → IsSet x → Stage x.program x.lemmas x.fact done s → Begins s.gates x.all → ((u : ℕ) → known_by x.program x.lemmas x.fact done u ≡ true → get_or s.words u [] ≡ get_or x.final u [])
    → (u : ℕ) → known_by x.program x.lemmas x.fact done u ≡ true → u < length x.program.variables → ShowsVariable s.gates (free_of x.v x.all) s.words x.program.variables (store_in x) u
known_shows x done s i st b keep u kn less =
    variable_is x.v s.gates x.all x.program.variables x.final s.words u i.ordered i.met b i.count i.typed less (keep u kn) (st.state.within.each u) (st.state.shown u kn).word.count

-- a used instruction is executed
step_back : (x : Setting) (done rest : List ℕ) (k : ℕ) (i : Instr) (s : Blasted) → IsSet x → x.fact.uses ≡ done ++ k ∷ rest → slice_get x.program.lines k ≡ Some (Step i) → Stage x.program x.lemmas x.fact done s
    → Begins s.gates x.all → Begins (instruction_lits s.gates s.words x.program.variables i).gates x.all
    → ((u : ℕ) → known_by x.program x.lemmas x.fact done u ≡ true → get_or s.words u [] ≡ get_or x.final u [])
    → ((u : ℕ) → is_among i.outs u ≡ true → get_or (words_after i.op s.words i.outs (instruction_lits s.gates s.words x.program.variables i).words) u [] ≡ get_or x.final u [])
    → (i.op ≡ op.Nondet → ⊥) → IsExecuted (store_in x) i
step_back x done rest k i s e is at st b c keep after taken =
    let p = x.program in
    let store = store_in x in
    let free = free_of x.v x.all in
    let o = instruction_lits s.gates s.words p.variables i in
    let words = words_after i.op s.words i.outs o.words in
    let operands : ShowsOperands s.gates free s.words p.variables store i.args =
    record {
      each = λ j u f.
          let read = named_atom i.args j u f in
          known_shows x done s e st b keep u (reads_known p x.lemmas x.fact done rest k (Some (Step i)) e.formed e.rise is at u read) (read_less p k u (Some (Step i)) e.formed at read);
    } in
    let shown : ShowWords o.gates free (result_types i.op i.ty) (map (λ u. get_or words u []) i.outs) (results_of i.op i.ty i.amount (values_of store i.args)) =
    results_set p k i s.gates free s.words store e.formed at taken st.state.count operands in
    results_back o.gates free store (result_types i.op i.ty) i.outs (λ u. get_or words u []) (results_of i.op i.ty i.amount (values_of store i.args)) shown
    (λ j u T f g within.
    let type = result_type p k i j u T e.formed at f g in
    let less = outs_less p k i j u e.formed at f in
    let found = there p.variables u less in
    let y = found.0 in
    let own : y.ty ≡ T = sym (type_found p.variables u y _ found.1) ∙ type in
    ap (λ (U : Ty). word_value U.signed (word_bits o.gates free (get_or words u []))) (sym own) ∙ ap (word_value y.ty.signed) (word_is x.v o.gates x.all (get_or words u []) e.ordered e.met c within)
    ∙ ap (literals_value x.v y) (after u (at_among i.outs j u f)) ∙ sym (literals_there x.v p.variables x.final u y e.count found.1) ∙ sym (word_number p.variables _ u e.typed))
    ∙ ap (results_of i.op i.ty i.amount) (sym (computed_same i.op (values_of store i.args) (choice_in store i.outs) taken))

-- the known variables of a stage have their literals at the end too
stage_keeps : (x : Setting) (done rest : List ℕ) (s : Blasted) → IsSet x → x.fact.uses ≡ done ++ rest → x.final ≡ (fold (with_use x.program) s rest).words → (u : ℕ) → known_by x.program x.lemmas x.fact done u ≡ true → get_or s.words u [] ≡ get_or x.final u []
stage_keeps x done rest s e is f u kn =
    sym (uses_keep x.program rest s u (λ j m. later_not x.program x.lemmas x.fact done rest u j e.formed e.rise is kn m)) ∙ ap (λ (ws : List (List ℕ)). get_or ws u []) (sym f)

-- the first of the used instructions that are left
taken_back : (x : Setting) (done rest : List ℕ) (k : ℕ) (i : Instr) (s : Blasted) → IsSet x → x.fact.uses ≡ done ++ k ∷ rest → slice_get x.program.lines k ≡ Some (Step i) → Stage x.program x.lemmas x.fact done s
    → x.final ≡ (fold (with_use x.program) s (k ∷ rest)).words → Begins (fold (with_use x.program) s (k ∷ rest)).gates x.all → (i.op ≡ op.Nondet → ⊥) → IsExecuted (store_in x) i
taken_back x done rest k i s e is at st f b taken =
    let p = x.program in
    let o = instruction_lits s.gates s.words p.variables i in
    let next = with_use p s k in
    let within : AllWithin (length next.gates) next.words = step_words_within s.gates s.words p.variables (slice_get p.lines k) st.state.within in
    let gates : next.gates ≡ o.gates = ap (step_gates s.gates s.words p.variables) at in
    let words : next.words ≡ words_after i.op s.words i.outs o.words = ap (step_words s.gates s.words p.variables) at in
    let later : x.fact.uses ≡ (done ++ k ∷ []) ++ rest = is ∙ sym (append_assoc done (k ∷ []) rest) in
    step_back x done rest k i s e is at st (begins_trans (uses_begin p (k ∷ rest) s st.state.within) b)
    (subst (λ gs. Begins gs x.all) gates (begins_trans (uses_begin p rest next within) b))
    (stage_keeps x done (k ∷ rest) s e is f)
    (λ u m.
    let made : is_among (computed_in (slice_get p.lines k)) u ≡ true = ap (λ l. is_among (computed_in l) u) at ∙ ap (λ os. is_among os u) (computed_outs i.op i.outs taken) ∙ m in
    let kn : known_by p x.lemmas x.fact (done ++ k ∷ []) u ≡ true =
    or_right (is_among (free_variables p x.lemmas x.fact) u) (is_among (computed_variables p.lines (done ++ k ∷ [])) u)
    (flat_into (λ j. computed_in (slice_get p.lines j)) (done ++ k ∷ []) k u (among_right done (k ∷ []) k (among_first k [])) made) in
    ap (λ (ws : List (List ℕ)). get_or ws u []) (sym words) ∙ stage_keeps x (done ++ k ∷ []) rest next e later f u kn)
    taken

head_back : (x : Setting) (done rest : List ℕ) (k : ℕ) (o : Option Line) (s : Blasted) → IsSet x → x.fact.uses ≡ done ++ k ∷ rest → slice_get x.program.lines k ≡ o → Stage x.program x.lemmas x.fact done s
    → x.final ≡ (fold (with_use x.program) s (k ∷ rest)).words → Begins (fold (with_use x.program) s (k ∷ rest)).gates x.all → IsExecutedAt (store_in x) o
head_back x done rest k None s e is at st f b = tt
head_back x done rest k (Some (Input T n)) s e is at st f b = tt
head_back x done rest k (Some (Pre q)) s e is at st f b = tt
head_back x done rest k (Some (Assert q)) s e is at st f b = tt
head_back x done rest k (Some (Assume q)) s e is at st f b = tt
head_back x done rest k (Some (Cut q)) s e is at st f b = tt
head_back x done rest k (Some (Post q)) s e is at st f b = tt
head_back x done rest k (Some (Step i)) s e is at st f b = elim (same_op i.op) [
  | inl free ↦
      choice_executed i.op i.ty i.amount (values_of (store_in x) i.args) i.outs (store_in x) free
      (instruction_shape i (line_shape (length x.program.variables) x.program.lines k (Step i) e.formed.runnable at)).outs
  | inr taken ↦ taken_back x done rest k i s e is at st f b taken
]

pub uses_back : (x : Setting) (done rest : List ℕ) (s : Blasted) → IsSet x → x.fact.uses ≡ done ++ rest → Stage x.program x.lemmas x.fact done s → x.final ≡ (fold (with_use x.program) s rest).words
    → Begins (fold (with_use x.program) s rest).gates x.all → (k : ℕ) → is_among rest k ≡ true → IsExecutedAt (store_in x) (slice_get x.program.lines k)
uses_back x done [] s e is st f b k m = absurd (cc)
uses_back x done (j ∷ rest) s e is st f b k m = elim (or_cases (nat_eq j k) (is_among rest k) m) [
  | inl here ↦ subst (λ n. IsExecutedAt (store_in x) (slice_get x.program.lines n)) (eqb-true j k here) (head_back x done rest j (slice_get x.program.lines j) s e is refl st f b)
  | inr later ↦
      uses_back x (done ++ j ∷ []) rest (with_use x.program s j) e (is ∙ sym (append_assoc done (j ∷ []) rest)) (next_stage x.program x.lemmas x.fact done rest j s e.formed e.rise is st) f b k later
]
