-- An assignment lies in the intervals of the fact.
use Rattle.std.proofs.Common.{◌≡◌, ℕ, zero, suc, refl, sym, subst, ℤ, pos, Bool, true, false, ◌||◌, cond, List, [], ◌∷◌, set, Option, Some, None}
use Rattle.std.specs.List.{list_all, slice_get, fold}
use Rattle.std.proofs.lemmas.Bool.{and_parts}
use Rattle.tcl_lang.specs.declared.ty.Word.{Word}
use Rattle.tcl_lang.specs.declared.instr.Instr.{Instr}
use Rattle.tcl_lang.specs.declared.variable.Variable.{Variable}
use Rattle.tcl_lang.specs.declared.pred.Line.{Line}
use Rattle.tcl_lang.specs.declared.pred.Line.TheVariants as line
use Rattle.tcl_lang.specs.Program.{VersionedProgram}
use Rattle.tcl_lang.specs.Store.{word_at}
use Rattle.tcl_lang.specs.Results.{results_of}
use Rattle.tcl_lang.specs.Line.{values_of}
use Rattle.tcl_lang.specs.Run.{operands_of}
use Rattle.tcl_lang.specs.Executed.{values_at, choice_in, IsExecuted, IsExecutedAt}
use Rattle.tcl_lang.specs.Operands.{IsExecutable}
use Rattle.tcl_lang.specs.Values.{AreValues, words_of, truth_of}
use Rattle.tcl_goals.specs.declared.fact.Hyp.{Hyp}
use Rattle.tcl_goals.specs.declared.fact.Hyp.TheVariants as hyp
use Rattle.tcl_goals.specs.declared.fact.Fact.{Fact}
use Rattle.tcl_goals.specs.declared.lemma.Numbered.{Numbered}
use Rattle.tcl_goals.specs.Assignments.{hyp_of, HoldsOfAll}
use Rattle.tcl_bounds.specs.declared.interval.Interval.{Interval}
use Rattle.tcl_bounds.specs.Intervals.{In, is_empty}
use Rattle.tcl_bounds.specs.Rows.{row}
use Rattle.tcl_bounds.specs.Narrowing.{narrow_hyp}
use Rattle.tcl_bounds.specs.Bounds.{wholes, narrowed_all, narrowed_from, operand_interval, set_row, set_rows, rows_of, bounds_after, bounds_past, pass_line, bounds_of}
use Rattle.tcl_bounds.specs.Conditions.{is_nondet}
use Rattle.tcl_bounds.specs.Encloses.{Encloses, BoundsEnclose, BoundsDecide}
use Rattle.tcl_bounds.proofs.Ranges.{in_point, in_whole}
use Rattle.tcl_bounds.proofs.RowsHold.{RowHolds, RowsHold, row_holds}
use Rattle.tcl_bounds.proofs.Narrows.{encloses_set, narrow_line_encloses}
use Rattle.tcl_bounds.proofs.Outs.{row_nondet}
use Rattle.tcl_bounds.proofs.Stepping.{can_execute}
use Rattle.tcl_bounds.proofs.Following.{in_operand, follows_holds}

-- the types
types_enclose : (vs : List Variable) (ns : List ℤ) → AreValues vs ns → Encloses (wholes vs) (words_of vs ns)
types_enclose [] [] f u = in_point (pos 0)
types_enclose [] (n ∷ ns) f u = absurd f
types_enclose (v ∷ vs) [] f u = absurd f
types_enclose (v ∷ vs) (n ∷ ns) f zero = in_whole v.ty n f.0
types_enclose (v ∷ vs) (n ∷ ns) f (suc u) = types_enclose vs ns f.1 u

-- the hypotheses
line_narrows : (p : VersionedProgram) (values : List ℤ) (k : ℕ) (bounds : List Interval) → Encloses bounds (words_of p.variables values) → truth_of p values k ≡ true → Encloses (narrow_hyp p.lines bounds (hyp.Line k)) (words_of p.variables values)
unfolding truth_of
line_narrows p values k bounds e t = narrow_line_encloses (words_of p.variables values) (slice_get p.lines k) bounds e t

hyp_encloses : (p : VersionedProgram) (lemmas : List Numbered) (values : List ℤ) (h : Hyp) (bounds : List Interval) → Encloses bounds (words_of p.variables values) → hyp_of p lemmas values h ≡ true → Encloses (narrow_hyp p.lines bounds h) (words_of p.variables values)
hyp_encloses p lemmas values (hyp.Line k) bounds e t = line_narrows p values k bounds e t
hyp_encloses p lemmas values (hyp.Lemma n) bounds e t = e

hyps_enclose : (p : VersionedProgram) (lemmas : List Numbered) (values : List ℤ) (hyps : List Hyp) (bounds : List Interval) → Encloses bounds (words_of p.variables values) → list_all (hyp_of p lemmas values) hyps ≡ true → Encloses (fold (narrow_hyp p.lines) bounds hyps) (words_of p.variables values)
hyps_enclose p lemmas values [] bounds e t = e
hyps_enclose p lemmas values (h ∷ hyps) bounds e t =
    let both = and_parts (hyp_of p lemmas values h) (list_all (hyp_of p lemmas values) hyps) t in
    hyps_enclose p lemmas values hyps (narrow_hyp p.lines bounds h) (hyp_encloses p lemmas values h bounds e both.0) both.1

-- narrowing keeps the values of a store
abbrev Keeps : (ℕ → Interval → Interval) → List Word → Type 0
Keeps narrow store = (v : ℕ) (i : Interval) → In i (word_at store v).value → In (narrow v i) (word_at store v).value

narrowing_keeps : (p : VersionedProgram) (lemmas : List Numbered) (fact : Fact) (values : List ℤ) → AreValues p.variables values → list_all (hyp_of p lemmas values) fact.hyps ≡ true → Keeps (narrowed_from p fact) (words_of p.variables values)
narrowing_keeps p lemmas fact values a t v i h =
    let store = words_of p.variables values in
    hyps_enclose p lemmas values fact.hyps (set (wholes p.variables) v i)
    (encloses_set (wholes p.variables) store v i (types_enclose p.variables values a) h) t v

-- the rows of an instruction
row_encloses : (narrow : ℕ → Interval → Interval) (bounds : List Interval) (store : List Word) (v : ℕ) (r : Option Interval) → Keeps narrow store → Encloses bounds store → RowHolds r (word_at store v).value → Encloses (set_row narrow bounds v r) store
row_encloses narrow bounds store v None keeps e h = e
row_encloses narrow bounds store v (Some i) keeps e h = encloses_set bounds store v (narrow v i) e (keeps v i h)

rows_enclose : (narrow : ℕ → Interval → Interval) (outs : List ℕ) (rows : List (Option Interval)) (bounds : List Interval) (store : List Word) → Keeps narrow store → Encloses bounds store → RowsHold rows (values_at store outs) → Encloses (set_rows narrow bounds outs rows) store
rows_enclose narrow [] rows bounds store keeps e h = e
rows_enclose narrow (v ∷ outs) [] bounds store keeps e h = e
rows_enclose narrow (v ∷ outs) (r ∷ rows) bounds store keeps e h =
    rows_enclose narrow outs rows (set_row narrow bounds v r) store keeps (row_encloses narrow bounds store v r keeps e h.0) h.1

-- rows that say nothing hold
none_hold : (ns : List ℤ) → RowsHold [] ns
none_hold ns = tt

chosen_rows : (t : Bool) (rows : List (Option Interval)) (ns : List ℤ) → RowsHold rows ns → RowsHold (cond t [] rows) ns
chosen_rows true rows ns h = none_hold ns
chosen_rows false rows ns h = h

-- the instruction can be executed in the store, unless it takes a value
abbrev IsReady : List Word → Instr → Type 0
IsReady store i =
    is_nondet i.op ≡ false → IsExecutable i.op i.ty i.amount (operands_of i.op (values_of store i.args) (choice_in store i.outs))

rows_there : (bounds : List Interval) (store : List Word) (i : Instr) → Encloses bounds store → IsExecuted store i → IsReady store i → (t : Bool) → is_nondet i.op ≡ t → RowsHold (row i.op i.ty i.amount (operand_interval bounds i.args 0) (operand_interval bounds i.args 1) (operand_interval bounds i.args 2)) (values_at store i.outs)
rows_there bounds store i e done ready true is =
    let a = operand_interval bounds i.args 0 in
    let b = operand_interval bounds i.args 1 in
    let c = operand_interval bounds i.args 2 in
    subst (λ (rows : List (Option Interval)). RowsHold rows (values_at store i.outs)) (sym (row_nondet i.op i.ty i.amount a b c is)) (none_hold (values_at store i.outs))
rows_there bounds store i e done ready false is =
    let a = operand_interval bounds i.args 0 in
    let b = operand_interval bounds i.args 1 in
    let c = operand_interval bounds i.args 2 in
    let results = results_of i.op i.ty i.amount (operands_of i.op (values_of store i.args) (choice_in store i.outs)) in
    let lies : RowsHold (row i.op i.ty i.amount a b c) results =
    row_holds i.op i.ty i.amount (values_of store i.args) (choice_in store i.outs) a b c (ready is)
    (in_operand bounds store i.args 0 e) (in_operand bounds store i.args 1 e) (in_operand bounds store i.args 2 e) in
    subst (RowsHold (row i.op i.ty i.amount a b c)) (sym done) lies

instruction_encloses : (narrow : ℕ → Interval → Interval) (bounds : List Interval) (store : List Word) (i : Instr) → Keeps narrow store → Encloses bounds store → IsExecuted store i → IsReady store i → Encloses (bounds_after narrow bounds i) store
instruction_encloses narrow bounds store i keeps e done ready =
    let a = operand_interval bounds i.args 0 in
    let b = operand_interval bounds i.args 1 in
    let c = operand_interval bounds i.args 2 in
    rows_enclose narrow i.outs (rows_of i a b c) bounds store keeps e
    (chosen_rows (is_empty a || is_empty b || is_empty c) (row i.op i.ty i.amount a b c) (values_at store i.outs)
    (rows_there bounds store i e done ready (is_nondet i.op) refl))

line_encloses : (narrow : ℕ → Interval → Interval) (store : List Word) (o : Option Line) (bounds : List Interval) → Keeps narrow store → Encloses bounds store → IsExecutedAt store o → ((i : Instr) → o ≡ Some (line.Step i) → IsReady store i) → Encloses (bounds_past narrow o bounds) store
line_encloses narrow store None bounds keeps e done ready = e
line_encloses narrow store (Some (line.Input T x)) bounds keeps e done ready = e
line_encloses narrow store (Some (line.Pre p)) bounds keeps e done ready = e
line_encloses narrow store (Some (line.Step i)) bounds keeps e done ready = instruction_encloses narrow bounds store i keeps e done (ready i refl)
line_encloses narrow store (Some (line.Assert p)) bounds keeps e done ready = e
line_encloses narrow store (Some (line.Assume p)) bounds keeps e done ready = e
line_encloses narrow store (Some (line.Cut p)) bounds keeps e done ready = e
line_encloses narrow store (Some (line.Post p)) bounds keeps e done ready = e

-- the used instructions
uses_enclose : (narrow : ℕ → Interval → Interval) (p : VersionedProgram) (store : List Word) (uses : List ℕ) (bounds : List Interval) → Keeps narrow store → Encloses bounds store → ((n k : ℕ) → slice_get uses n ≡ Some k → IsExecutedAt store (slice_get p.lines k)) → ((k : ℕ) (i : Instr) → slice_get p.lines k ≡ Some (line.Step i) → IsReady store i) → Encloses (fold (pass_line narrow p.lines) bounds uses) store
uses_enclose narrow p store [] bounds keeps e done ready = e
uses_enclose narrow p store (k ∷ uses) bounds keeps e done ready =
    uses_enclose narrow p store uses (bounds_past narrow (slice_get p.lines k) bounds) keeps
    (line_encloses narrow store (slice_get p.lines k) bounds keeps e (done 0 k refl) (ready k))
    (λ n j at. done (suc n) j at) ready

pub bounds_enclose : BoundsEnclose
unfolding bounds_of
bounds_enclose p lemmas fact values form a t =
    let store = words_of p.variables values in
    uses_enclose (narrowed_from p fact) p store fact.uses (narrowed_all p fact (wholes p.variables))
    (narrowing_keeps p lemmas fact values a.typed t)
    (hyps_enclose p lemmas values fact.hyps (wholes p.variables) (types_enclose p.variables values a.typed) t)
    a.executed
    (λ k i at e. can_execute p values k i (choice_in store i.outs) form a.typed at e)

pub bounds_decide : BoundsDecide
unfolding HoldsOfAll
bounds_decide p lemmas fact form follows values a met cube =
    follows_holds p (bounds_of p fact) fact.claim values (bounds_enclose p lemmas fact values form a met) follows
