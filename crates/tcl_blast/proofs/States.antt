-- States of the circuit of a fact: the literals of known variables show a store, and the clauses so far are met.
use Rattle.std.proofs.Common.{◌≡◌, ◌≢◌, ◌⊎◌, ◌==◌, ℕ, zero, suc, ◌+◌, ◌<◌, ◌≤◌, inl, inr, Bool, true, false, not, ◌||◌, List, [], ◌∷◌, length, map, get_or, set, Option, Some, None, slice_get, filter_map, refl, sym, ◌∙◌, ap, ap₂, subst, arith, ℤ}
use Rattle.std.specs.Option.{option_to_list}
use Rattle.std.proofs.lemmas.Bool.{cases_Bool}
use Rattle.std.proofs.lemmas.Bool.Decides.{nat_tests}
use Rattle.std.proofs.lemmas.List.{length-set, get_or-set_same, get_or-set_other}
use Rattle.std.proofs.lemmas.Option.{slice_get_within}
use Rattle.tcl_cnf.specs.Literal.{neg}
use Rattle.tcl_cnf.specs.Clause.{clause_of, clause_true}
use Rattle.tcl_bits.specs.Value.{word_value}
use Rattle.tcl_gates.specs.declared.gate.Gate.{Gate}
use Rattle.tcl_gates.specs.Gates.{value_at, values_of as circuit_values, AreGates, clauses_behind}
use Rattle.tcl_gates.specs.Meaning.{lit_bit, Begins, ShowsBit}
use Rattle.tcl_gates.proofs.Shown.{begins_length, shows_own, shows_bits, word_kept, within_grown, neg_shows, true_shows}
use Rattle.tcl_circuits.specs.Wires.{Wire}
use Rattle.tcl_circuits.specs.Circuits.{wire}
use Rattle.tcl_lang.specs.declared.ty.Ty.{Ty}
use Rattle.tcl_lang.specs.declared.ty.Word.{Word}
use Rattle.tcl_lang.specs.declared.instr.Atom.{Atom}
use Rattle.tcl_lang.specs.declared.instr.Atom.TheVariants.{Var}
use Rattle.tcl_lang.specs.declared.instr.Op.{Op}
use Rattle.tcl_lang.specs.declared.instr.Op.TheVariants as op
use Rattle.tcl_lang.specs.declared.instr.Instr.{Instr}
use Rattle.tcl_lang.specs.declared.range.RngPred.{RngPred}
use Rattle.tcl_lang.specs.declared.pred.Pred.TheVariants.{Rng}
use Rattle.tcl_lang.specs.declared.pred.Line.{Line}
use Rattle.tcl_lang.specs.declared.pred.Line.TheVariants.{Input, Pre, Step, Assert, Assume, Cut, Post}
use Rattle.tcl_lang.specs.declared.variable.Variable.{Variable}
use Rattle.tcl_lang.specs.Program.{VersionedProgram}
use Rattle.tcl_lang.specs.Store.{word_at}
use Rattle.tcl_lang.specs.Names.{name_of, range_atoms}
use Rattle.tcl_lang.specs.Line.{predicate_of, values_of}
use Rattle.tcl_lang.specs.Instruction.{nth}
use Rattle.tcl_lang.specs.Results.{results_of, result_types}
use Rattle.tcl_lang.specs.Run.{operands_of}
use Rattle.tcl_lang.specs.Types.{is_in_type}
use Rattle.tcl_lang.specs.Exactness.{has_condition, exact_value, is_exact}
use Rattle.tcl_lang.specs.Range.{range_truth}
use Rattle.tcl_lang.specs.Typing.{types_at, types_after, define_all}
use Rattle.tcl_lang.specs.Versions.{numbers_from}
use Rattle.tcl_lang.specs.Values.{types_of}
use Rattle.tcl_lang.specs.Defined.{is_among}
use Rattle.tcl_lang.specs.Executed.{choice_in, IsExecuted, IsExecutedAt}
use Rattle.tcl_lang.specs.Form.{IsWellFormed}
use Rattle.tcl_lang.proofs.TypedStores.{type_is}
use Rattle.tcl_lang.proofs.TypedRuns.{line_typed, line_shape, instruction_shape}
use Rattle.tcl_lang.proofs.ValueSteps.{types_count}
use Rattle.tcl_goals.specs.Slices.{read_in}
use Rattle.tcl_goals.specs.Free.{computed_results, computed_in}
use Rattle.tcl_words.specs.Exactness.{exact_lit}
use Rattle.tcl_words.specs.Ranges.{AllWithin, atom_ty, pred_lit}
use Rattle.tcl_words.specs.Steps.{operand_lits, operand_ty, instruction_lits, condition_wire, set_words, words_after, step_gates, step_words}
use Rattle.tcl_words.specs.Stores.{ShowsWord, ShowsVariable, ShowsOperands, ShowWords}
use Rattle.tcl_words.proofs.CallFacts.{words_set, result_words_count}
use Rattle.tcl_words.proofs.StepLaws.{results_shown, set_found, condition_shown, range_shown}
use Rattle.tcl_words.proofs.Forms.{typed_form, form_types, instruction_operands, instruction_atoms, range_typed}
use Rattle.tcl_blast.specs.declared.blasted.Blasted.{Blasted}
use Rattle.tcl_blast.specs.Blasted.{grown, with_clause, with_unit, stated, denied}
use Rattle.tcl_blast.specs.Clauses.{with_use}
use Rattle.tcl_blast.proofs.GateOrder.{Grows, LitMade, grows_length}
use Rattle.tcl_blast.proofs.LineOrder.{step_grows, step_words_within}
use Rattle.tcl_blast.proofs.Meeting.{Meets, meets_grown, meets_append, meets_behind, meets_clause, meets_unit}
use Rattle.tcl_blast.proofs.Members.{among_at, named_atom, computes_result}

-- what shows stays where gates are appended
pub word_stays : {gs hs : List Gate} {free : List Bool} {T : Ty} {ls : List ℕ} {n : ℤ} → Begins gs hs → ShowsWord gs free T ls n → ShowsWord hs free T ls n
word_stays {gs} {hs} {free} {T} {ls} b w = record {
  count = w.count;
  within = within_grown _ _ ls (begins_length b) w.within;
  value = ap (word_value T.signed) (shows_bits (word_kept b (shows_own gs free ls w.within))) ∙ w.value;
}

-- the literals of known variables show the store, and the clauses are met
pub record IsState (variables : List Variable) (store : List Word) (free : List Bool) (known : ℕ → Bool) (s : Blasted) : Type 0 where
  pub ordered : AreGates s.gates
  pub count : length s.words ≡ length variables
  pub within : AllWithin (length s.gates) s.words
  pub shown : (v : ℕ) → known v ≡ true → ShowsVariable s.gates free s.words variables store v
  pub met : Meets s.gates free s.clauses

variable_stays : {gs hs : List Gate} {free : List Bool} {words : List (List ℕ)} {variables : List Variable} {store : List Word} {v : ℕ} → Begins gs hs → ShowsVariable gs free words variables store v → ShowsVariable hs free words variables store v
variable_stays b x = record { ty = x.ty; word = word_stays b x.word }

pub grown_state : {variables : List Variable} {store : List Word} {free : List Bool} {known : ℕ → Bool} (s : Blasted) (gates : List Gate) → Grows s.gates gates → IsState variables store free known s → IsState variables store free known (grown s gates s.words)
grown_state s gates g x = record {
  ordered = g.ordered x.ordered;
  count = x.count;
  within = record { each = λ v. within_grown _ _ _ (grows_length g) (x.within.each v) };
  shown = λ v k. variable_stays g.begins (x.shown v k);
  met = meets_append s.clauses (clauses_behind (length s.gates) gates) (meets_grown g.begins x.met) (meets_behind s.gates gates g.begins);
}

pub clause_state : {variables : List Variable} {store : List Word} {free : List Bool} {known : ℕ → Bool} (s : Blasted) (ls : List ℕ)
    → ((all : List Gate) → Begins s.gates all → clause_true (value_at (circuit_values all free)) ls ≡ true) → IsState variables store free known s → IsState variables store free known (with_clause s ls)
clause_state s ls h x = record { ordered = x.ordered; count = x.count; within = x.within; shown = x.shown; met = meets_append s.clauses (option_to_list (clause_of ls)) x.met (meets_clause ls h) }

pub unit_state : {variables : List Variable} {store : List Word} {free : List Bool} {known : ℕ → Bool} (s : Blasted) (l : ℕ) → ShowsBit s.gates free l true → IsState variables store free known s → IsState variables store free known (with_unit s l)
unit_state s l h x = record { ordered = x.ordered; count = x.count; within = x.within; shown = x.shown; met = meets_append s.clauses (option_to_list (clause_of (l ∷ []))) x.met (meets_unit h) }

pub stated_state : {variables : List Variable} {store : List Word} {free : List Bool} {known : ℕ → Bool} (s : Blasted) (w : Wire) → LitMade s.gates w → lit_bit w.gates free w.lit ≡ true → IsState variables store free known s → IsState variables store free known (stated s w)
stated_state s w m e x = unit_state (grown s w.gates s.words) w.lit (record { within = m.lit; value = e }) (grown_state s w.gates m.grows x)

pub denied_state : {variables : List Variable} {store : List Word} {free : List Bool} {known : ℕ → Bool} (s : Blasted) (w : Wire) → LitMade s.gates w → lit_bit w.gates free w.lit ≡ false → IsState variables store free known s → IsState variables store free known (denied s w)
denied_state s w m e x = unit_state (grown s w.gates s.words) (neg w.lit) (neg_shows (record { within = m.lit; value = e })) (grown_state s w.gates m.grows x)

-- the operands of a line show where the variables that it reads are known
pub operands_known : {variables : List Variable} {store : List Word} {free : List Bool} {known : ℕ → Bool} (s : Blasted) (atoms : List Atom) → ((v : ℕ) → is_among (filter_map name_of atoms) v ≡ true → known v ≡ true)
    → IsState variables store free known s → ShowsOperands s.gates free s.words variables store atoms
operands_known s atoms h x = record { each = λ k v e. x.shown v (h v (named_atom atoms k v e)) }

-- the literal of a range predicate that a line states
pub range_is : (p : VersionedProgram) (k : ℕ) (l : Line) (pred : RngPred) → IsWellFormed p → slice_get p.lines k ≡ Some l → predicate_of l ≡ Some (Rng pred) → (gates : List Gate) (free : List Bool) (words : List (List ℕ)) (store : List Word)
    → ShowsOperands gates free words p.variables store (range_atoms pred)
    → lit_bit (pred_lit words (types_of p.variables) pred gates).gates free (pred_lit words (types_of p.variables) pred gates).lit ≡ range_truth store pred
range_is p k l pred w at states gates free words store h =
    let t = range_typed p k l pred (typed_form p w) (omega (arith, slice_get_within p.lines k l at)) at states in
    range_shown (form_types p k) pred t.sides t.shape t.atoms h

-- the literal of an exactness condition
no_condition : (gates : List Gate) (o : Op) (T S : Ty) (n : ℕ) (a b c : List ℕ) → has_condition o ≡ false → exact_lit gates o T S n a b c ≡ wire gates 0
no_condition gates op.Add T S n a b c e = absurd (cc)
no_condition gates op.Adc T S n a b c e = absurd (cc)
no_condition gates op.Sub T S n a b c e = absurd (cc)
no_condition gates op.Sbb T S n a b c e = absurd (cc)
no_condition gates op.Mul T S n a b c e = absurd (cc)
no_condition gates op.Shl T S n a b c e = absurd (cc)
no_condition gates op.Vpc T S n a b c e = absurd (cc)
no_condition gates _ T S n a b c e = refl

takes_none : (o : Op) → has_condition o ≡ true → o ≢ op.Nondet
takes_none o e h = absurd (no_true (sym e ∙ ap has_condition h))
  where
    no_true : true ≡ false → ⊥
    no_true e = cc

condition_by : (p : VersionedProgram) (k : ℕ) (i : Instr) (b : Bool) → IsWellFormed p → slice_get p.lines k ≡ Some (Step i) → has_condition i.op ≡ b → (gates : List Gate) (free : List Bool) (words : List (List ℕ)) (store : List Word)
    → ShowsOperands gates free words p.variables store i.args
    → lit_bit (condition_wire gates words p.variables i).gates free (condition_wire gates words p.variables i).lit ≡ is_exact i.op i.ty i.amount (values_of store i.args)
condition_by p k i true w at e gates free words store h =
    let within = slice_get_within p.lines k (Step i) at in
    condition_shown (form_types p k) i (instruction_operands p k i words store (typed_form p w) at (takes_none i.op e)) e (instruction_atoms p k i (typed_form p w) (omega (arith, within)) at) h
condition_by p k i false w at e gates free words store h =
    let n = no_condition gates i.op i.ty (operand_ty p.variables i.args 0) i.amount (operand_lits words i.args 0) (operand_lits words i.args 1) (operand_lits words i.args 2) e in
    ap (λ (x : Wire). lit_bit x.gates free x.lit) n ∙ (true_shows gates free).value ∙ ap (λ b. not b || is_in_type i.ty (exact_value i.op i.amount (nth (values_of store i.args) 0) (nth (values_of store i.args) 1) (nth (values_of store i.args) 2))) (sym e)

pub condition_is : (p : VersionedProgram) (k : ℕ) (i : Instr) → IsWellFormed p → slice_get p.lines k ≡ Some (Step i) → (gates : List Gate) (free : List Bool) (words : List (List ℕ)) (store : List Word)
    → ShowsOperands gates free words p.variables store i.args
    → lit_bit (condition_wire gates words p.variables i).gates free (condition_wire gates words p.variables i).lit ≡ is_exact i.op i.ty i.amount (values_of store i.args)
condition_is p k i w at gates free words store h = condition_by p k i (has_condition i.op) w at refl gates free words store h

-- words that are set
set_count : (words : List (List ℕ)) (outs : List ℕ) (lists : List (List ℕ)) → length (set_words words outs lists) ≡ length words
set_count words [] lists = refl
set_count words (o ∷ outs) [] = refl
set_count words (o ∷ outs) (ls ∷ lists) = set_count (set words o ls) outs lists ∙ length-set words o ls

after_count : (o : Op) (words : List (List ℕ)) (outs : List ℕ) (lists : List (List ℕ)) → length (words_after o words outs lists) ≡ length words
after_count op.Nondet words outs lists = refl
after_count _ words outs lists = set_count words outs lists

pub step_count : (gates : List Gate) (words : List (List ℕ)) (variables : List Variable) (o : Option Line) → length (step_words gates words variables o) ≡ length words
step_count gates words variables None = refl
step_count gates words variables (Some (Step i)) = after_count i.op words i.outs _
step_count gates words variables (Some _) = refl

among_not : (x v : ℕ) (xs : List ℕ) → is_among (x ∷ xs) v ≡ false → (v ≡ x → ⊥) × (is_among xs v ≡ false)
among_not x v xs e = parts (x == v) (is_among xs v) refl e
  where
    not_here : (b : Bool) (a c : ℕ) → (a == c) ≡ b → b ≡ false → c ≡ a → ⊥
    not_here b a c e f h = grind (arith, nat_tests, e, f, h)

    parts : (a b : Bool) → (x == v) ≡ a → (a || b) ≡ false → (v ≡ x → ⊥) × (b ≡ false)
    parts true b e f = absurd (cc)
    parts false b e f = (not_here false x v e refl, f)

set_other : (words : List (List ℕ)) (outs : List ℕ) (lists : List (List ℕ)) (v : ℕ) → is_among outs v ≡ false → get_or (set_words words outs lists) v [] ≡ get_or words v []
set_other words [] lists v e = refl
set_other words (o ∷ outs) [] v e = refl
set_other words (o ∷ outs) (ls ∷ lists) v e =
    let parts = among_not o v outs e in
    set_other (set words o ls) outs lists v parts.1 ∙ get_or-set_other words o v ls [] parts.0

pub after_other : (o : Op) (words : List (List ℕ)) (outs : List ℕ) (lists : List (List ℕ)) (v : ℕ) → is_among outs v ≡ false → get_or (words_after o words outs lists) v [] ≡ get_or words v []
after_other op.Nondet words outs lists v e = refl
after_other _ words outs lists v e = set_other words outs lists v e

-- each result that is shown
found_at : {gates : List Gate} {free : List Bool} (Ts : List Ty) (outs : List ℕ) (f : ℕ → List ℕ) (g : ℕ → ℤ) → ShowWords gates free Ts (map f outs) (map g outs) → (j v : ℕ) → slice_get outs j ≡ Some v
    → (T : Ty) × (slice_get Ts j ≡ Some T) × ShowsWord gates free T (f v) (g v)
found_at Ts [] f g h j v e = absurd (cc)
found_at [] (o ∷ outs) f g h j v e = absurd h
found_at {gates} {free} (T ∷ Ts) (o ∷ outs) f g h zero v e = (T, refl, subst (λ x. ShowsWord gates free T (f x) (g x)) (same e) h.0)
  where
    same : {u v : ℕ} → Some u ≡ Some v → u ≡ v
    same e = cc
found_at (T ∷ Ts) (o ∷ outs) f g h (suc j) v e = found_at Ts outs f g h.1 j v e

-- the type that a result gets
define_keeps : (types : List (Option Ty)) (outs : List ℕ) (Ts : List Ty) (m v : ℕ) → v < m → get_or (define_all types (numbers_from m outs) Ts) v None ≡ get_or types v None
define_keeps types [] Ts m v h = refl
define_keeps types (o ∷ outs) [] m v h = refl
define_keeps types (o ∷ outs) (T ∷ Ts) m v h =
    define_keeps (set types m (Some T)) outs Ts (m + 1) v (omega (arith, h)) ∙ get_or-set_other types m v (Some T) None (λ e. absurd (omega (arith, e, h)))

define_found : (types : List (Option Ty)) (outs : List ℕ) (Ts : List Ty) (m j v : ℕ) (T : Ty) → m + length outs ≤ length types → slice_get (numbers_from m outs) j ≡ Some v → slice_get Ts j ≡ Some T → get_or (define_all types (numbers_from m outs) Ts) v None ≡ Some T
define_found types [] Ts m j v T h e f = absurd (cc)
define_found types (o ∷ outs) [] m j v T h e f = absurd (cc)
define_found types (o ∷ outs) (U ∷ Ts) m zero v T h e f =
    ap (λ x. get_or (define_all (set types m (Some U)) (numbers_from (m + 1) outs) Ts) x None) (sym (same e))
    ∙ define_keeps (set types m (Some U)) outs Ts (m + 1) m (omega arith) ∙ get_or-set_same types m (Some U) None (omega (arith, h)) ∙ f
  where
    same : {u v : ℕ} → Some u ≡ Some v → u ≡ v
    same e = cc
define_found types (o ∷ outs) (U ∷ Ts) m (suc j) v T h e f =
    define_found (set types m (Some U)) outs Ts (m + 1) j v T (omega (arith, h, length-set types m (Some U))) e f

types_go : (names : ℕ) (lines : List Line) (k : ℕ) → types_at names lines (suc k) ≡ types_after (types_at names lines k) (slice_get lines k)
unfolding types_at
types_go names lines k = refl

pub result_type : (p : VersionedProgram) (k : ℕ) (i : Instr) (j v : ℕ) (T : Ty) → IsWellFormed p → slice_get p.lines k ≡ Some (Step i) → slice_get i.outs j ≡ Some v → slice_get (result_types i.op i.ty) j ≡ Some T → atom_ty (types_of p.variables) (Var v) ≡ T
result_type p k i j v T w at e f =
    let t = typed_form p w in
    let r = t.results k i at in
    let before = types_at (length p.variables) p.lines k in
    let next : types_at (length p.variables) p.lines (suc k) ≡ define_all before i.outs (result_types i.op i.ty) = types_go (length p.variables) p.lines k ∙ ap (λ o. types_after before o) at in
    let found : get_or (define_all before (numbers_from r.0 i.outs) (result_types i.op i.ty)) v None ≡ Some T =
    define_found before i.outs (result_types i.op i.ty) r.0 j v T (omega (arith, r.2, types_count (length p.variables) p.lines k)) (sym (ap (λ os. slice_get os j) r.1) ∙ e) f in
    t.own (suc k) v T (omega (arith, slice_get_within p.lines k (Step i) at))
    (type_is (types_at (length p.variables) p.lines (suc k)) v ∙ ap (λ ts. get_or ts v None) (next ∙ ap (λ os. define_all before os (result_types i.op i.ty)) r.1) ∙ found)

-- the results of an instruction that computes them
pub computed_same : (o : Op) (values : List ℤ) (choice : ℤ) → (o ≡ op.Nondet → ⊥) → operands_of o values choice ≡ values
computed_same op.Nondet values choice h = absurd (h refl)
computed_same _ values choice h = refl

pub results_set : (p : VersionedProgram) (k : ℕ) (i : Instr) (gates : List Gate) (free : List Bool) (words : List (List ℕ)) (store : List Word) → IsWellFormed p → slice_get p.lines k ≡ Some (Step i) → (i.op ≡ op.Nondet → ⊥)
    → length words ≡ length p.variables → ShowsOperands gates free words p.variables store i.args
    → ShowWords (instruction_lits gates words p.variables i).gates free (result_types i.op i.ty) (map (λ v. get_or (words_after i.op words i.outs (instruction_lits gates words p.variables i).words) v []) i.outs)
    (results_of i.op i.ty i.amount (values_of store i.args))
results_set p k i gates free words store w at taken count h =
    let t = typed_form p w in
    let within = slice_get_within p.lines k (Step i) at in
    let n = line_typed (length p.variables) p.lines k (Step i) t.runnable.typed at in
    let shape = instruction_shape i (line_shape (length p.variables) p.lines k (Step i) t.runnable at) in
    let o = instruction_lits gates words p.variables i in
    let r = t.results k i at in
    let after = words_after i.op words i.outs o.words in
    let set : after ≡ set_words words i.outs o.words = words_set i.op words i.outs o.words taken in
    let as_many : length i.outs ≡ length o.words = shape.outs ∙ sym (result_words_count gates i.op i.ty (operand_ty p.variables i.args 0) i.amount (operand_lits words i.args 0) (operand_lits words i.args 1) (operand_lits words i.args 2)) in
    let found : map (λ v. get_or after v []) i.outs ≡ o.words =
    ap₂ (λ (ws : List (List ℕ)) (os : List ℕ). map (λ v. get_or ws v []) os) (set ∙ ap (λ os. set_words words os o.words) r.1) r.1 ∙ set_found i.outs o.words words r.0 as_many (omega (arith, r.2, count)) in
    subst (λ lists. ShowWords o.gates free (result_types i.op i.ty) lists (results_of i.op i.ty i.amount (values_of store i.args))) (sym found)
    (results_shown (form_types p k) i (instruction_operands p k i words store t at taken) n.kind n.amount (instruction_atoms p k i t (omega (arith, within)) at) h)

-- a result is a variable of the program
numbers_item : (outs : List ℕ) (m j v : ℕ) → slice_get (numbers_from m outs) j ≡ Some v → v < m + length outs
numbers_item [] m j v e = absurd (cc)
numbers_item (o ∷ outs) m zero v e = omega (arith, same e)
  where
    same : {m v : ℕ} → Some m ≡ Some v → m ≡ v
    same e = cc
numbers_item (o ∷ outs) m (suc j) v e = omega (arith, numbers_item outs (m + 1) j v e)

pub outs_less : (p : VersionedProgram) (k : ℕ) (i : Instr) (j v : ℕ) → IsWellFormed p → slice_get p.lines k ≡ Some (Step i) → slice_get i.outs j ≡ Some v → v < length p.variables
outs_less p k i j v w at e =
    let r = (typed_form p w).results k i at in
    omega (arith, numbers_item i.outs r.0 j v (sym (ap (λ os. slice_get os j) r.1) ∙ e), r.2)

result_shown : (p : VersionedProgram) (k : ℕ) (i : Instr) (gates : List Gate) (free : List Bool) (words : List (List ℕ)) (store : List Word) → IsWellFormed p → slice_get p.lines k ≡ Some (Step i) → (i.op ≡ op.Nondet → ⊥)
    → length words ≡ length p.variables → IsExecuted store i → ShowsOperands gates free words p.variables store i.args → (v : ℕ) → is_among i.outs v ≡ true
    → ShowsWord (instruction_lits gates words p.variables i).gates free (atom_ty (types_of p.variables) (Var v)) (get_or (words_after i.op words i.outs (instruction_lits gates words p.variables i).words) v []) (word_at store v).value
result_shown p k i gates free words store w at taken count done h v m =
    let o = instruction_lits gates words p.variables i in
    let after = words_after i.op words i.outs o.words in
    let values : results_of i.op i.ty i.amount (values_of store i.args) ≡ map (λ v. (word_at store v).value) i.outs =
    ap (results_of i.op i.ty i.amount) (sym (computed_same i.op (values_of store i.args) (choice_in store i.outs) taken)) ∙ sym done in
    let all : ShowWords o.gates free (result_types i.op i.ty) (map (λ v. get_or after v []) i.outs) (map (λ v. (word_at store v).value) i.outs) =
    subst (λ ns. ShowWords o.gates free (result_types i.op i.ty) (map (λ v. get_or after v []) i.outs) ns) values (results_set p k i gates free words store w at taken count h) in
    let place = among_at i.outs v m in
    let one = found_at (result_types i.op i.ty) i.outs (λ v. get_or after v []) (λ v. (word_at store v).value) all place.0 v place.1 in
    subst (λ T. ShowsWord o.gates free T (get_or after v []) (word_at store v).value) (sym (result_type p k i place.0 v one.0 w at place.1 one.1)) one.2

-- a used instruction: then the variables known before and those that it computes are known
kept_shown : (p : VersionedProgram) (i : Instr) (store : List Word) (free : List Bool) (known : ℕ → Bool) (s : Blasted) → IsState p.variables store free known s → (v : ℕ) → known v ≡ true → is_among i.outs v ≡ false
    → Grows s.gates (instruction_lits s.gates s.words p.variables i).gates
    → ShowsWord (instruction_lits s.gates s.words p.variables i).gates free (atom_ty (types_of p.variables) (Var v)) (get_or (words_after i.op s.words i.outs (instruction_lits s.gates s.words p.variables i).words) v []) (word_at store v).value
kept_shown p i store free known s x v kn e g =
    let o = instruction_lits s.gates s.words p.variables i in
    subst (λ ls. ShowsWord o.gates free (atom_ty (types_of p.variables) (Var v)) ls (word_at store v).value) (sym (after_other i.op s.words i.outs o.words v e)) (word_stays g.begins (x.shown v kn).word)

unchanged_shown : (p : VersionedProgram) (i : Instr) (store : List Word) (free : List Bool) (known : ℕ → Bool) (s : Blasted) → IsState p.variables store free known s → (v : ℕ) → known v ≡ true
    → words_after i.op s.words i.outs (instruction_lits s.gates s.words p.variables i).words ≡ s.words
    → Grows s.gates (instruction_lits s.gates s.words p.variables i).gates
    → ShowsWord (instruction_lits s.gates s.words p.variables i).gates free (atom_ty (types_of p.variables) (Var v)) (get_or (words_after i.op s.words i.outs (instruction_lits s.gates s.words p.variables i).words) v []) (word_at store v).value
unchanged_shown p i store free known s x v kn e g =
    let o = instruction_lits s.gates s.words p.variables i in
    subst (λ (ws : List (List ℕ)). ShowsWord o.gates free (atom_ty (types_of p.variables) (Var v)) (get_or ws v []) (word_at store v).value) (sym e) (word_stays g.begins (x.shown v kn).word)

-- whether an instruction takes a choice
pub nondet_or : (o : Op) (words : List (List ℕ)) (outs : List ℕ) (lists : List (List ℕ)) → (o ≡ op.Nondet → ⊥) ⊎ ((words_after o words outs lists ≡ words) × (computed_results o outs ≡ []))
nondet_or op.Nondet words outs lists = inr (refl, refl)
nondet_or _ words outs lists = inl (λ h. absurd (cc))

clash : {P : Type 0} (b : Bool) → b ≡ true → b ≡ false → P
clash b e f = absurd (cc)

no_member : {P : Type 0} (v : ℕ) → is_among [] v ≡ true → P
no_member v e = absurd (cc)

instruction_shown : (p : VersionedProgram) (k : ℕ) (i : Instr) (store : List Word) (free : List Bool) (known : ℕ → Bool) (s : Blasted) → IsWellFormed p → slice_get p.lines k ≡ Some (Step i) → IsExecuted store i
    → ((v : ℕ) → is_among (filter_map name_of i.args) v ≡ true → known v ≡ true) → IsState p.variables store free known s
    → (v : ℕ) → (known v ≡ true) ⊎ (is_among (computed_results i.op i.outs) v ≡ true)
    → ShowsWord (instruction_lits s.gates s.words p.variables i).gates free (atom_ty (types_of p.variables) (Var v)) (get_or (words_after i.op s.words i.outs (instruction_lits s.gates s.words p.variables i).words) v []) (word_at store v).value
instruction_shown p k i store free known s w at done read x v later =
    let o = instruction_lits s.gates s.words p.variables i in
    let g : Grows s.gates o.gates = step_grows s.gates s.words p.variables (Some (Step i)) x.within in
    elim (nondet_or i.op s.words i.outs o.words) [
      | inl taken ↦ elim (cases_Bool (is_among i.outs v)) [
        | inl here ↦ result_shown p k i s.gates free s.words store w at taken x.count done (operands_known s i.args read x) v here
        | inr away ↦ elim later [
          | inl kn ↦ kept_shown p i store free known s x v kn away g
          | inr made ↦ clash (is_among i.outs v) (computes_result i.op i.outs v made).1 away
        ]
      ]
      | inr none ↦ elim later [
        | inl kn ↦ unchanged_shown p i store free known s x v kn none.0 g
        | inr made ↦ no_member v (sym (ap (λ os. is_among os v) none.1) ∙ made)
      ]
    ]

-- the same at a line
line_shown : (p : VersionedProgram) (k : ℕ) (o : Option Line) (store : List Word) (free : List Bool) (known : ℕ → Bool) (s : Blasted) → IsWellFormed p → slice_get p.lines k ≡ o → IsExecutedAt store o
    → ((v : ℕ) → is_among (read_in o) v ≡ true → known v ≡ true) → IsState p.variables store free known s
    → (v : ℕ) → (known v ≡ true) ⊎ (is_among (computed_in o) v ≡ true)
    → ShowsWord (step_gates s.gates s.words p.variables o) free (atom_ty (types_of p.variables) (Var v)) (get_or (step_words s.gates s.words p.variables o) v []) (word_at store v).value
line_shown p k None store free known s w at done read x v later = elim later [ inl kn ↦ (x.shown v kn).word | inr made ↦ no_member v made ]
line_shown p k (Some (Step i)) store free known s w at done read x v later = instruction_shown p k i store free known s w at done read x v later
line_shown p k (Some (Input T n)) store free known s w at done read x v later = elim later [ inl kn ↦ (x.shown v kn).word | inr made ↦ no_member v made ]
line_shown p k (Some (Pre q)) store free known s w at done read x v later = elim later [ inl kn ↦ (x.shown v kn).word | inr made ↦ no_member v made ]
line_shown p k (Some (Assert q)) store free known s w at done read x v later = elim later [ inl kn ↦ (x.shown v kn).word | inr made ↦ no_member v made ]
line_shown p k (Some (Assume q)) store free known s w at done read x v later = elim later [ inl kn ↦ (x.shown v kn).word | inr made ↦ no_member v made ]
line_shown p k (Some (Cut q)) store free known s w at done read x v later = elim later [ inl kn ↦ (x.shown v kn).word | inr made ↦ no_member v made ]
line_shown p k (Some (Post q)) store free known s w at done read x v later = elim later [ inl kn ↦ (x.shown v kn).word | inr made ↦ no_member v made ]

-- a used instruction: what was known is known, and what it computes
pub use_state : (p : VersionedProgram) (k : ℕ) (store : List Word) (free : List Bool) (known later : ℕ → Bool) (s : Blasted) → IsWellFormed p → IsExecutedAt store (slice_get p.lines k)
    → ((v : ℕ) → (word_at store v).ty ≡ atom_ty (types_of p.variables) (Var v))
    → ((v : ℕ) → is_among (read_in (slice_get p.lines k)) v ≡ true → known v ≡ true) → ((v : ℕ) → later v ≡ true → (known v ≡ true) ⊎ (is_among (computed_in (slice_get p.lines k)) v ≡ true))
    → IsState p.variables store free known s → IsState p.variables store free later (with_use p s k)
use_state p k store free known later s w done types read adds x =
    let o = slice_get p.lines k in
    let gates = step_gates s.gates s.words p.variables o in
    let g = step_grows s.gates s.words p.variables o x.within in
    record {
      ordered = g.ordered x.ordered;
      count = step_count s.gates s.words p.variables o ∙ x.count;
      within = step_words_within s.gates s.words p.variables o x.within;
      shown = λ v l. record { ty = types v; word = line_shown p k o store free known s w refl done read x v (adds v l) };
      met = meets_append s.clauses (clauses_behind (length s.gates) gates) (meets_grown g.begins x.met) (meets_behind s.gates gates g.begins);
    }
