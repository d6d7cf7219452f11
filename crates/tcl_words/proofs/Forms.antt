-- What typing says of the lines of a versioned form: the types of operands, and that literal numbers lie in theirs.
use Rattle.std.proofs.Common.{◌≡◌, ◌≢◌, inl, inr, ℕ, zero, suc, ◌+◌, ◌-◌, ◌<◌, ◌≤◌, Bool, true, false, not, ◌&&◌, ◌||◌, List, [], ◌∷◌, length, map, get_or, set, Option, Some, None, slice_get, filter_map, replicate, take, refl, sym, ◌∙◌, ap, ap₂, subst, arith}
use Rattle.std.specs.Option.{is_none}
use Rattle.std.specs.List.{list_any, list_all}
use Rattle.std.proofs.lemmas.Bool.{and_parts, cases_eq, cases_lt}
use Rattle.std.proofs.lemmas.Option.{slice_get_within}
use Rattle.std.proofs.lemmas.List.{get_or-set_same, get_or-set_other, set_past}
use Rattle.tcl_lang.specs.declared.ty.Ty.{Ty}
use Rattle.tcl_lang.specs.declared.ty.Word.{Word}
use Rattle.tcl_lang.specs.declared.instr.Atom.{Atom}
use Rattle.tcl_lang.specs.declared.instr.Atom.TheVariants.{Var, Lit}
use Rattle.tcl_lang.specs.declared.instr.Op.TheVariants.{Add, Adc, Sub, Sbb, Mul, Shl, Vpc, Nondet}
use Rattle.tcl_lang.specs.declared.instr.Instr.{Instr}
use Rattle.tcl_lang.specs.declared.range.RngPred.{RngPred}
use Rattle.tcl_lang.specs.declared.pred.Pred.TheVariants.{Rng}
use Rattle.tcl_lang.specs.declared.pred.Line.{Line}
use Rattle.tcl_lang.specs.declared.pred.Line.TheVariants.{Input, Pre, Step, Assert, Assume, Cut, Post}
use Rattle.tcl_lang.specs.declared.variable.Variable.{Variable}
use Rattle.tcl_lang.specs.Program.{VersionedProgram}
use Rattle.tcl_lang.specs.Types.{IsTy, is_ty}
use Rattle.tcl_lang.specs.Results.{result_types}
use Rattle.tcl_lang.specs.Names.{name_of, line_atoms, stated_atoms, range_atoms}
use Rattle.tcl_lang.specs.Line.{predicate_of, instruction_of}
use Rattle.tcl_lang.specs.Typing.{type_at, atom_type, types_at, types_after, define_all, is_sound_literal, stated_agrees, sides_agree}
use Rattle.tcl_lang.specs.Shape.{is_atom, is_line, is_stated, is_range}
use Rattle.tcl_lang.specs.Execution.{IsRunnable}
use Rattle.tcl_lang.specs.Versions.{numbers_from}
use Rattle.tcl_lang.proofs.ResultTypes.{AreTypes, result_types_are}
use Rattle.tcl_lang.proofs.TypedStores.{type_is, is_ty_sound}
use Rattle.tcl_lang.proofs.TypedRuns.{HasNoReason, line_typed, line_shape, instruction_shape}
use Rattle.tcl_lang.specs.Values.{types_of}
use Rattle.tcl_words.specs.Ranges.{atom_lits, atom_ty}
use Rattle.tcl_words.specs.Steps.{operand_lits, first_type}
use Rattle.tcl_words.specs.Stores.{HaveWidths}
use Rattle.tcl_circuits.proofs.Within.{length_constant}
use Rattle.tcl_words.proofs.CallFacts.{narrow_of}
use Rattle.tcl_lang.specs.Form.{IsWellFormed}
use Rattle.tcl_lang.specs.Versions.{IsForm}
use Rattle.tcl_lang.specs.Limit.{definitions_before}
use Rattle.tcl_lang.proofs.FormFacts.{definitions_go, all_definitions, well_formed}
use Rattle.tcl_lang.proofs.FormEnds.{definitions_grow}
use Rattle.tcl_words.proofs.Parts.{mapped_found}
use Rattle.tcl_words.proofs.OperandWords.{AreTypedOperands, has_type}
use Rattle.tcl_words.proofs.StepLaws.{setting, AreTypedAtoms, results_shown, set_found, condition_shown, range_shown}
use Rattle.tcl_gates.specs.declared.gate.Gate.{Gate}
use Rattle.tcl_gates.specs.Meaning.{lit_bit}
use Rattle.tcl_gates.proofs.Shown.{true_shows}
use Rattle.tcl_circuits.specs.Wires.{Wire}
use Rattle.tcl_circuits.specs.Circuits.{wire}
use Rattle.tcl_lang.specs.declared.instr.Op.{Op}
use Rattle.tcl_lang.specs.Types.{is_in_type}
use Rattle.tcl_lang.specs.Line.{values_of}
use Rattle.tcl_lang.specs.Instruction.{nth}
use Rattle.tcl_lang.specs.Results.{results_of}
use Rattle.tcl_lang.specs.Exactness.{has_condition, exact_value, is_exact}
use Rattle.tcl_lang.specs.Range.{range_truth}
use Rattle.tcl_lang.specs.Shape.{is_amount}
use Rattle.tcl_words.specs.Ranges.{pred_lit}
use Rattle.tcl_words.specs.Exactness.{exact_lit}
use Rattle.tcl_words.specs.Steps.{instruction_lits, condition_wire, set_words, step_gates, step_words, step_condition, atoms_of}
use Rattle.tcl_words.specs.Stores.{ShowsOperands, ShowWords, ShowsResults}
use Rattle.tcl_words.proofs.CallFacts.{words_set, result_words_count, amount_small}

-- each type that a name has is a type of words
abbrev pub AreWordTypes : List (Option Ty) → Type 0
AreWordTypes types = (v : ℕ) (T : Ty) → type_at types v ≡ Some T → IsTy T

some_same : {T U : Ty} → Some T ≡ Some U → T ≡ U
some_same e = cc

none_some : {T : Ty} → None ≡ Some T → ⊥
none_some e = cc

set_types : (types : List (Option Ty)) (x : ℕ) (T : Ty) → IsTy T → AreWordTypes types → AreWordTypes (set types x (Some T))
set_types types x T h w v U e = elim (cases_eq v x) [
  | inl same ↦ elim (cases_lt x (length types)) [
    | inl within ↦
        let here : get_or (set types x (Some T)) v None ≡ Some T = ap (λ k. get_or (set types x (Some T)) k None) same ∙ get_or-set_same types x (Some T) None within in
        subst IsTy (some_same (sym here ∙ sym (type_is (set types x (Some T)) v) ∙ e)) h
    | inr past ↦ w v U (ap (λ ts. type_at ts v) (sym (set_past types x (Some T) past)) ∙ e)
  ]
  | inr other ↦ w v U (type_is types v ∙ sym (get_or-set_other types x v (Some T) None other) ∙ sym (type_is (set types x (Some T)) v) ∙ e)
]

define_types : (types : List (Option Ty)) (outs : List ℕ) (Ts : List Ty) → AreTypes Ts → AreWordTypes types → AreWordTypes (define_all types outs Ts)
define_types types [] Ts h w = w
define_types types (x ∷ outs) [] h w = w
define_types types (x ∷ outs) (T ∷ Ts) h w = define_types (set types x (Some T)) outs Ts h.1 (set_types types x T h.0 w)

line_types : (types : List (Option Ty)) (l : Line) → is_line l ≡ true → HasNoReason types l → AreWordTypes types → AreWordTypes (types_after types (Some l))
line_types types (Input T x) s n w = set_types types x T (is_ty_sound T s) w
line_types types (Step i) s n w = define_types types i.outs (result_types i.op i.ty) (result_types_are i.op i.ty (instruction_shape i s).ty n.kind) w
line_types types (Pre p) s n w = w
line_types types (Assert p) s n w = w
line_types types (Assume p) s n w = w
line_types types (Cut p) s n w = w
line_types types (Post p) s n w = w

none_at : (n v : ℕ) → ◌≡◌ {A = Option Ty} (get_or (replicate n None) v None) None
none_at zero v = refl
none_at (suc n) zero = refl
none_at (suc n) (suc v) = none_at n v

no_types : (names : ℕ) → AreWordTypes (replicate names None)
no_types names v T e = absurd (none_some (sym (none_at names v) ∙ sym (type_is (replicate names None) v) ∙ e))

types_go : (names : ℕ) (lines : List Line) (k : ℕ) → types_at names lines (suc k) ≡ types_after (types_at names lines k) (slice_get lines k)
unfolding types_at
types_go names lines k = refl

types_begin : (names : ℕ) (lines : List Line) → types_at names lines zero ≡ replicate names None
unfolding types_at
types_begin names lines = refl

by_line : (names : ℕ) (lines : List Line) (k : ℕ) (o : Option Line) → IsRunnable names lines → slice_get lines k ≡ o → AreWordTypes (types_at names lines k) → AreWordTypes (types_after (types_at names lines k) o)
by_line names lines k None r e w = w
by_line names lines k (Some l) r e w = line_types (types_at names lines k) l (line_shape names lines k l r e) (line_typed names lines k l r.typed e) w

pub word_types : (names : ℕ) (lines : List Line) → IsRunnable names lines → (k : ℕ) → AreWordTypes (types_at names lines k)
word_types names lines r zero = subst AreWordTypes (sym (types_begin names lines)) (no_types names)
word_types names lines r (suc k) = subst AreWordTypes (sym (types_go names lines k)) (by_line names lines k (slice_get lines k) r refl (word_types names lines r k))

-- what a versioned form keeps: its lines can be run over its variables, whose types are those of its names, and results are the next variables
pub record IsTypedForm (f : VersionedProgram) : Type 0 where
  pub runnable : IsRunnable (length f.variables) f.lines
  pub own : (k v : ℕ) (T : Ty) → k ≤ length f.lines → type_at (types_at (length f.variables) f.lines k) v ≡ Some T → atom_ty (types_of f.variables) (Var v) ≡ T
  pub results : (k : ℕ) (i : Instr) → slice_get f.lines k ≡ Some (Step i) → (m : ℕ) × (i.outs ≡ numbers_from m i.outs) × (m + length i.outs ≤ length f.variables)

abbrev pub form_types : VersionedProgram → ℕ → List (Option Ty)
form_types f k = types_at (length f.variables) f.lines k

all_sound : {A : Type 0} (p : A → Bool) (xs : List A) (k : ℕ) (x : A) → list_all p xs ≡ true → slice_get xs k ≡ Some x → p x ≡ true
all_sound p [] k x h e = absurd (cc)
all_sound p (y ∷ xs) zero x h e = ap p (sym (same e)) ∙ (and_parts (p y) (list_all p xs) h).0
  where
    same : {A : Type 0} {x y : A} → Some y ≡ Some x → y ≡ x
    same e = cc
all_sound p (y ∷ xs) (suc k) x h e = all_sound p xs k x (and_parts (p y) (list_all p xs) h).1 e

not_false : (b : Bool) → not b ≡ false → b ≡ true
not_false true e = refl
not_false false e = absurd (cc)

or_false : (a b : Bool) → (a || b) ≡ false → (a ≡ false) × (b ≡ false)
or_false true b e = absurd (cc)
or_false false b e = (refl, e)

none_undefined : (p : ℕ → Bool) (xs : List Atom) (k v : ℕ) → list_any p (filter_map name_of xs) ≡ false → slice_get xs k ≡ Some (Var v) → p v ≡ false
none_undefined p [] k v h e = absurd (cc)
none_undefined p (Var w ∷ xs) zero v h e = ap p (sym (same e)) ∙ (or_false (p w) _ h).0
  where
    same : {v w : ℕ} → Some (Var w) ≡ Some (Var v) → w ≡ v
    same e = cc
none_undefined p (Lit T n ∷ xs) zero v h e = absurd (cc)
none_undefined p (Var w ∷ xs) (suc k) v h e = none_undefined p xs k v (or_false (p w) _ h).1 e
none_undefined p (Lit T n ∷ xs) (suc k) v h e = none_undefined p xs k v h e

pub instruction_atoms : (f : VersionedProgram) (k : ℕ) (i : Instr) → IsTypedForm f → k ≤ length f.lines → slice_get f.lines k ≡ Some (Step i) → AreTypedAtoms f.variables (form_types f k) i.args
instruction_atoms f k i t h e =
    let n = line_typed (length f.variables) f.lines k (Step i) t.runnable.typed e in
    record {
      own = λ j v T a b. (word_types (length f.variables) f.lines t.runnable k v T b, t.own k v T h b);
      sound = λ j atom a. all_sound is_sound_literal i.args j atom (not_false (list_all is_sound_literal i.args) n.literals) a;
    }

pub instruction_operands : (f : VersionedProgram) (k : ℕ) (i : Instr) (words : List (List ℕ)) (store : List Word) → IsTypedForm f → slice_get f.lines k ≡ Some (Step i) → i.op ≢ Nondet
    → AreTypedOperands (setting words f.variables (form_types f k) store) i.op i.ty (first_type f.variables i.args) i.args
instruction_operands f k i words store t e taken =
    let n = line_typed (length f.variables) f.lines k (Step i) t.runnable.typed e in
    let shape = instruction_shape i (line_shape (length f.variables) f.lines k (Step i) t.runnable e) in
    record { of_words = shape.ty; taken = taken; count = shape.args; suit = n.agrees; any = λ atom a. (mapped_found (atom_ty (types_of f.variables)) i.args 0 atom _ a, all_sound is_atom i.args 0 atom shape.atoms a, defined atom a n.defined) }
  where
    defined : (atom : Atom) → slice_get i.args 0 ≡ Some atom → list_any (λ name. is_none (type_at (form_types f k) name)) (filter_map name_of i.args) ≡ false → is_none (atom_type (form_types f k) atom) ≡ false
    defined (Var v) a h = none_undefined (λ name. is_none (type_at (form_types f k) name)) i.args 0 v h a
    defined (Lit T m) a h = refl

-- what typing says of a range predicate that a line states
pub record IsTypedRange (f : VersionedProgram) (k : ℕ) (p : RngPred) : Type 0 where
  pub sides : sides_agree (form_types f k) p ≡ true
  pub shape : is_range p ≡ true
  pub atoms : AreTypedAtoms f.variables (form_types f k) (range_atoms p)

pub range_typed : (f : VersionedProgram) (k : ℕ) (l : Line) (p : RngPred) → IsTypedForm f → k ≤ length f.lines → slice_get f.lines k ≡ Some l → predicate_of l ≡ Some (Rng p) → IsTypedRange f k p
range_typed f k l p t h e s =
    let n = line_typed (length f.variables) f.lines k l t.runnable.typed e in
    let atoms : line_atoms l ≡ range_atoms p = ap (λ o. stated_atoms o (instruction_of l)) s in
    record {
      sides = sym (ap (λ o. stated_agrees (form_types f k) o (instruction_of l)) s) ∙ n.agrees;
      shape = shape_of l s (line_shape (length f.variables) f.lines k l t.runnable e);
      atoms = record {
        own = λ j v T a b. (word_types (length f.variables) f.lines t.runnable k v T b, t.own k v T h b);
        sound = λ j atom a. all_sound is_sound_literal (range_atoms p) j atom (sym (ap (list_all is_sound_literal) atoms) ∙ not_false (list_all is_sound_literal (line_atoms l)) n.literals) a;
      };
    }
  where
    shape_of : (l : Line) → predicate_of l ≡ Some (Rng p) → is_line l ≡ true → is_range p ≡ true
    shape_of (Input T x) s h = absurd (cc)
    shape_of (Step i) s h = absurd (cc)
    shape_of (Pre q) s h = sym (ap is_stated s) ∙ h
    shape_of (Assert q) s h = sym (ap is_stated s) ∙ h
    shape_of (Assume q) s h = sym (ap is_stated s) ∙ h
    shape_of (Cut q) s h = sym (ap is_stated s) ∙ h
    shape_of (Post q) s h = sym (ap is_stated s) ∙ h

-- each form of a well-typed program keeps that
taken_get : (variables : List Variable) (n v : ℕ) (T d : Ty) → slice_get (types_of (take n variables)) v ≡ Some T → get_or (types_of variables) v d ≡ T
taken_get variables zero v T d e = absurd (none_some e)
taken_get [] (suc n) v T d e = absurd (none_some e)
taken_get (x ∷ variables) (suc n) zero T d e = some_same e
taken_get (x ∷ variables) (suc n) (suc v) T d e = taken_get variables n v T d e

pub typed_form : (f : VersionedProgram) → IsWellFormed f → IsTypedForm f
typed_form f w = record {
  runnable = w.runnable;
  own = λ k v T h e. taken_get f.variables (definitions_before f.lines k) v T _ (sym (w.types k v h) ∙ e);
  results = λ k i e.
      let m = definitions_before f.lines k in
      let next = definitions_go f.lines k (Step i) e in
      let within = slice_get_within f.lines k (Step i) e in
      let rest : (k + 1) + (length f.lines - (k + 1)) ≡ length f.lines = omega (arith, within) in
      let grow = definitions_grow f.lines (k + 1) (length f.lines - (k + 1)) (omega (arith, rest)) in
      let all : definitions_before f.lines ((k + 1) + (length f.lines - (k + 1))) ≡ length f.variables = ap (definitions_before f.lines) rest ∙ all_definitions f.lines ∙ w.count in
      (m, w.defines k (Step i) e, omega (arith, next, grow, all));
}

-- the first operand of a typed instruction is narrow
atom_narrow : (f : VersionedProgram) (k : ℕ) (i : Instr) (words : List (List ℕ)) (atom : Atom) → IsTypedForm f → slice_get f.lines k ≡ Some (Step i) → HaveWidths words f.variables i.args → slice_get i.args 0 ≡ Some atom → length (atom_lits words atom) ≤ 64
atom_narrow f k i words (Var v) t e h a =
    let n = line_typed (length f.variables) f.lines k (Step i) t.runnable.typed e in
    let found = has_type (type_at (form_types f k) v) (none_undefined (λ name. is_none (type_at (form_types f k) name)) i.args 0 v n.defined a) in
    let own = t.own k v found.0 (omega (arith, slice_get_within f.lines k (Step i) e)) found.1 in
    let ok = word_types (length f.variables) f.lines t.runnable k v found.0 found.1 in
    omega (arith, h.each 0 v a, ap (λ (T : Ty). T.width) own, ok.1)
atom_narrow f k i words (Lit T n) t e h a =
    let shape = instruction_shape i (line_shape (length f.variables) f.lines k (Step i) t.runnable e) in
    let ok : IsTy T = is_ty_sound T (and_parts (is_ty T) _ (and_parts (is_ty T && _) _ (all_sound is_atom i.args 0 (Lit T n) shape.atoms a)).0).0 in
    omega (arith, length_constant T.width n, ok.1)

pub instruction_narrow : (f : VersionedProgram) (k : ℕ) (i : Instr) (words : List (List ℕ)) → IsTypedForm f → slice_get f.lines k ≡ Some (Step i) → HaveWidths words f.variables i.args → length (operand_lits words i.args 0) ≤ 64
instruction_narrow f k i words t e h = narrow_of words i.args (λ atom a. atom_narrow f k i words atom t e h a)

-- the law of a range predicate that a line states
pub range_law : (f : VersionedProgram) (gates gates1 : List Gate) (words : List (List ℕ)) (p : RngPred) (lit : ℕ) → IsForm f → gates1 ≡ (pred_lit words (types_of f.variables) p gates).gates → lit ≡ (pred_lit words (types_of f.variables) p gates).lit
    → (k : ℕ) (l : Line) → slice_get f.lines k ≡ Some l → predicate_of l ≡ Some (Rng p) → (free : List Bool) (store : List Word) → ShowsOperands gates free words f.variables store (range_atoms p) → lit_bit gates1 free lit ≡ range_truth store p
range_law f gates gates1 words p lit form e g k l at states free store h =
    let t = range_typed f k l p (typed_form f (well_formed f form)) (omega (arith, slice_get_within f.lines k l at)) at states in
    ap₂ (λ gs m. lit_bit gs free m) e g ∙ range_shown (form_types f k) p t.sides t.shape t.atoms h

-- the law of an exactness condition
no_condition : (gates : List Gate) (op : Op) (T S : Ty) (n : ℕ) (a b c : List ℕ) → has_condition op ≡ false → exact_lit gates op T S n a b c ≡ wire gates 0
no_condition gates Add T S n a b c e = absurd (cc)
no_condition gates Adc T S n a b c e = absurd (cc)
no_condition gates Sub T S n a b c e = absurd (cc)
no_condition gates Sbb T S n a b c e = absurd (cc)
no_condition gates Mul T S n a b c e = absurd (cc)
no_condition gates Shl T S n a b c e = absurd (cc)
no_condition gates Vpc T S n a b c e = absurd (cc)
no_condition gates _ T S n a b c e = refl

takes_none : (op : Op) → has_condition op ≡ true → op ≢ Nondet
takes_none op e h = absurd (no_true (sym e ∙ ap has_condition h))
  where
    no_true : true ≡ false → ⊥
    no_true e = cc

condition_law_at : (f : VersionedProgram) (k : ℕ) (i : Instr) (gates : List Gate) (words : List (List ℕ)) (b : Bool) → IsTypedForm f → slice_get f.lines k ≡ Some (Step i) → has_condition i.op ≡ b → (free : List Bool) (store : List Word)
    → ShowsOperands gates free words f.variables store i.args
    → lit_bit (condition_wire gates words f.variables i).gates free (condition_wire gates words f.variables i).lit ≡ is_exact i.op i.ty i.amount (values_of store i.args)
condition_law_at f k i gates words true t at e free store h =
    let within = slice_get_within f.lines k (Step i) at in
    condition_shown (form_types f k) i (instruction_operands f k i words store t at (takes_none i.op e)) e (instruction_atoms f k i t (omega (arith, within)) at) h
condition_law_at f k i gates words false t at e free store h =
    let w = no_condition gates i.op i.ty (first_type f.variables i.args) i.amount (operand_lits words i.args 0) (operand_lits words i.args 1) (operand_lits words i.args 2) e in
    ap (λ (x : Wire). lit_bit x.gates free x.lit) w ∙ (true_shows gates free).value ∙ ap (λ b. not b || is_in_type i.ty (exact_value i.op i.amount (nth (values_of store i.args) 0) (nth (values_of store i.args) 1) (nth (values_of store i.args) 2))) (sym e)

pub condition_law : (f : VersionedProgram) (k : ℕ) (gates gates1 : List Gate) (words : List (List ℕ)) (lit : ℕ) → IsForm f → gates1 ≡ (step_condition gates words f.variables (slice_get f.lines k)).gates → lit ≡ (step_condition gates words f.variables (slice_get f.lines k)).lit
    → (i : Instr) → slice_get f.lines k ≡ Some (Step i) → (free : List Bool) (store : List Word) → ShowsOperands gates free words f.variables store i.args → lit_bit gates1 free lit ≡ is_exact i.op i.ty i.amount (values_of store i.args)
condition_law f k gates gates1 words lit form e g i at free store h =
    let at_line = ap (λ o. step_condition gates words f.variables o) at in
    ap₂ (λ gs m. lit_bit gs free m) (e ∙ ap (λ (x : Wire). x.gates) at_line) (g ∙ ap (λ (x : Wire). x.lit) at_line)
    ∙ condition_law_at f k i gates words (has_condition i.op) (typed_form f (well_formed f form)) at refl free store h

-- the law of an instruction
results_found : (words words1 : List (List ℕ)) (outs : List ℕ) (lists : List (List ℕ)) (m : ℕ) → outs ≡ numbers_from m outs → m + length outs ≤ length words → length outs ≡ length lists → words1 ≡ set_words words outs lists
    → map (λ v. get_or words1 v []) outs ≡ lists
results_found words words1 outs lists m e room count f =
    ap₂ (λ (ws : List (List ℕ)) (os : List ℕ). map (λ v. get_or ws v []) os) (f ∙ ap (λ os. set_words words os lists) e) e ∙ set_found outs lists words m count room

pub step_law : (f : VersionedProgram) (k : ℕ) (gates gates1 : List Gate) (words words1 : List (List ℕ)) → IsForm f → length words ≡ length f.variables → gates1 ≡ step_gates gates words f.variables (slice_get f.lines k) → words1 ≡ step_words gates words f.variables (slice_get f.lines k)
    → (i : Instr) → slice_get f.lines k ≡ Some (Step i) → i.op ≢ Nondet → ShowsResults gates words gates1 words1 f.variables i
step_law f k gates gates1 words words1 form count e g i at taken =
    let t = typed_form f (well_formed f form) in
    let within = slice_get_within f.lines k (Step i) at in
    let n = line_typed (length f.variables) f.lines k (Step i) t.runnable.typed at in
    let shape = instruction_shape i (line_shape (length f.variables) f.lines k (Step i) t.runnable at) in
    let o = instruction_lits gates words f.variables i in
    let r = t.results k i at in
    let made : gates1 ≡ o.gates = e ∙ ap (λ l. step_gates gates words f.variables l) at in
    let set : words1 ≡ set_words words i.outs o.words = g ∙ ap (λ l. step_words gates words f.variables l) at ∙ words_set i.op words i.outs o.words taken in
    let as_many : length i.outs ≡ length o.words = shape.outs ∙ sym (result_words_count gates i.op i.ty (first_type f.variables i.args) i.amount (operand_lits words i.args 0) (operand_lits words i.args 1) (operand_lits words i.args 2)) in
    let found : map (λ v. get_or words1 v []) i.outs ≡ o.words = results_found words words1 i.outs o.words r.0 r.1 (omega (arith, r.2, count)) as_many set in
    record {
      results = λ free store h.
          subst (λ gs. ShowWords gs free (result_types i.op i.ty) (map (λ v. get_or words1 v []) i.outs) (results_of i.op i.ty i.amount (values_of store i.args))) (sym made)
          (subst (λ lists. ShowWords o.gates free (result_types i.op i.ty) lists (results_of i.op i.ty i.amount (values_of store i.args))) (sym found)
          (results_shown (form_types f k) i (instruction_operands f k i words store t at taken) n.kind n.amount (instruction_atoms f k i t (omega (arith, within)) at) h));
    }

-- what a line's instruction keeps in a form: its first operand is narrow, its type and amount are small, and its results have room
pub line_narrow : (f : VersionedProgram) (k : ℕ) (l : Line) (words : List (List ℕ)) → IsForm f → slice_get f.lines k ≡ Some l → HaveWidths words f.variables (atoms_of (slice_get f.lines k)) → (i : Instr) → l ≡ Step i → length (operand_lits words i.args 0) ≤ 64
line_narrow f k l words form at h i e =
    let here = at ∙ ap Some e in
    instruction_narrow f k i words (typed_form f (well_formed f form)) here (subst (λ o. HaveWidths words f.variables (atoms_of o)) here h)

pub line_small : (f : VersionedProgram) (k : ℕ) (l : Line) → IsForm f → slice_get f.lines k ≡ Some l → (i : Instr) → l ≡ Step i → i.ty.width ≤ 64
line_small f k l form at i e =
    let t = typed_form f (well_formed f form) in
    (instruction_shape i (line_shape (length f.variables) f.lines k (Step i) t.runnable (at ∙ ap Some e))).ty.1

pub line_amount : (f : VersionedProgram) (k : ℕ) (l : Line) → IsForm f → slice_get f.lines k ≡ Some l → (i : Instr) → l ≡ Step i → i.amount ≤ 64
line_amount f k l form at i e =
    let t = typed_form f (well_formed f form) in
    let here = at ∙ ap Some e in
    let n = line_typed (length f.variables) f.lines k (Step i) t.runnable.typed here in
    let s = line_shape (length f.variables) f.lines k (Step i) t.runnable here in
    amount_small i.op i.ty i.amount (instruction_shape i s).ty n.amount (and_parts _ (is_amount i.op i.amount) s).1

numbers_below : (outs : List ℕ) (m j v : ℕ) → slice_get (numbers_from m outs) j ≡ Some v → v < m + length outs
numbers_below [] m j v e = absurd (cc)
numbers_below (o ∷ outs) m zero v e = omega (arith, same e)
  where
    same : {m v : ℕ} → Some m ≡ Some v → m ≡ v
    same e = cc
numbers_below (o ∷ outs) m (suc j) v e = omega (arith, numbers_below outs (m + 1) j v e)

pub line_room : (f : VersionedProgram) (k : ℕ) (l : Line) (words : List (List ℕ)) → IsForm f → length words ≡ length f.variables → slice_get f.lines k ≡ Some l → (i : Instr) → l ≡ Step i → (j v : ℕ) → slice_get i.outs j ≡ Some v → v < length words
line_room f k l words form count at i e j v h =
    let r = (typed_form f (well_formed f form)).results k i (at ∙ ap Some e) in
    omega (arith, numbers_below i.outs r.0 j v (sym (ap (λ os. slice_get os j) r.1) ∙ h), r.2, count)
