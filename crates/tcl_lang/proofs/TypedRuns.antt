-- In a run from a fitting input each name holds a word of its type, and each instruction can be executed.
use Rattle.std.proofs.Common.{◌≡◌, inl, inr, ℕ, zero, suc, ◌+◌, ◌<◌, ◌≤◌, refl, sym, ◌∙◌, ap, subst, arith, ℤ, pos, Bool, true, false, not, ◌&&◌, cond, List, [], ◌∷◌, ◌++◌, length, get_or, replicate, Option, Some, None, nat_eq, nat_le, max, filter_map, take}
use Rattle.std.specs.Option.{is_some}
use Rattle.std.specs.List.{slice_get, list_all, All, cons_option, flat_map}
use Rattle.std.proofs.lemmas.Int.{ints}
use Rattle.std.proofs.lemmas.Bool.{and_parts, eqb-true, not-false, cases_lt}
use Rattle.std.proofs.lemmas.List.{length-replicate, get_or-replicate, get_or_past}
use Rattle.std.proofs.lemmas.List.Sums.{sum_by-cons}
use Rattle.std.proofs.lemmas.Option.{slice_get_within, slice_get_cases}
use Rattle.tcl_lang.specs.declared.ty.Ty.{Ty}
use Rattle.tcl_lang.specs.declared.ty.Word.{Word}
use Rattle.tcl_lang.specs.declared.instr.Instr.{Instr}
use Rattle.tcl_lang.specs.declared.pred.Line.{Line}
use Rattle.tcl_lang.specs.declared.pred.Line.TheVariants.{Input, Step}
use Rattle.tcl_lang.specs.declared.reason.Reason.{Reason}
use Rattle.tcl_lang.specs.Types.{IsTy, InType, is_ty}
use Rattle.tcl_lang.specs.Store.{empty_word, word_at}
use Rattle.tcl_lang.specs.Names.{name_of, occurrences, all_occurrences}
use Rattle.tcl_lang.specs.Line.{taken_type, choice_type, values_of, predicate_of}
use Rattle.tcl_lang.specs.Results.{results_of, result_types}
use Rattle.tcl_lang.specs.Run.{Fits, taken_types, taken_before, store_at, store_after, operands_of}
use Rattle.tcl_lang.specs.Typing.{type_at, types_at, types_after, reason_of, reason_in, reason_at, IsWellTyped, has_undefined, has_unsound_literal, agrees_in_types, repeats, has_sound_modulus, allows_line, allows_line_amount, is_sound_literal, operand_types}
use Rattle.tcl_lang.specs.Shape.{is_line, is_instruction, is_atom, is_amount, is_numbered, HasShape}
use Rattle.tcl_lang.specs.Instruction.{result_count, operand_count}
use Rattle.tcl_lang.specs.Operands.{IsExecutable}
use Rattle.tcl_lang.specs.Execution.{HoldsValues, CanExecute, CanPass, IsRunnable}
use Rattle.tcl_lang.proofs.Runs.{one_if}
use Rattle.tcl_lang.proofs.ResultTypes.{results_fit, result_types_are}
use Rattle.tcl_lang.proofs.TypedStores.{IsTypedStore, is_ty_sound, type_is, operands_stand, asked_operands, operand_types_count, typed_set, typed_all}

-- a line without a reason has none of them
pub record HasNoReason (types : List (Option Ty)) (l : Line) : Type 0 where
  pub kind : allows_line l ≡ true
  pub amount : allows_line_amount l ≡ true
  pub defined : has_undefined types l ≡ false
  pub literals : has_unsound_literal l ≡ false
  pub agrees : agrees_in_types types l ≡ true
  pub once : repeats types l ≡ false
  pub modulus : has_sound_modulus (predicate_of l) ≡ true

not_reason : (b : Bool) (r : Reason) (o : Option Reason) → cond b (Some r) o ≡ None → (b ≡ false) × (o ≡ None)
not_reason true r o e = absurd (cc)
not_reason false r o e = (refl, e)

pub no_reason : (types : List (Option Ty)) (l : Line) → reason_of types l ≡ None → HasNoReason types l
unfolding reason_of
no_reason types l e =
    let kind = not_reason (not (allows_line l)) _ _ e in
    let amount = not_reason (not (allows_line_amount l)) _ _ kind.1 in
    let defined = not_reason (has_undefined types l) _ _ amount.1 in
    let literals = not_reason (has_unsound_literal l) _ _ defined.1 in
    let agrees = not_reason (not (agrees_in_types types l)) _ _ literals.1 in
    let once = not_reason (repeats types l) _ _ agrees.1 in
    let modulus = not_reason (not (has_sound_modulus (predicate_of l))) _ _ once.1 in
    record {
      kind = not-false (allows_line l) kind.0;
      amount = not-false (allows_line_amount l) amount.0;
      defined = defined.0;
      literals = literals.0;
      agrees = not-false (agrees_in_types types l) agrees.0;
      once = once.0;
      modulus = not-false (has_sound_modulus (predicate_of l)) modulus.0;
    }

-- the shape of line k, and that it has no reason
all_at : (p : Line → Bool) (lines : List Line) (k : ℕ) (l : Line) → list_all p lines ≡ true → slice_get lines k ≡ Some l → p l ≡ true
all_at p [] k l a e = absurd (cc)
all_at p (m ∷ lines) zero l a e =
    let same : m ≡ l = line_same m l e in
    ap p (sym same) ∙ (and_parts (p m) (list_all p lines) a).0
  where
    line_same : (m l : Line) → Some m ≡ Some l → m ≡ l
    line_same m l e = cc
all_at p (m ∷ lines) (suc k) l a e = all_at p lines k l (and_parts (p m) (list_all p lines) a).1 e

pub line_shape : (names : ℕ) (lines : List Line) (k : ℕ) (l : Line) → IsRunnable names lines → slice_get lines k ≡ Some l → is_line l ≡ true
line_shape names lines k l r e = all_at is_line lines k l r.shapes e

pub line_typed : (names : ℕ) (lines : List Line) (k : ℕ) (l : Line) → IsWellTyped names lines → slice_get lines k ≡ Some l → HasNoReason (types_at names lines k) l
unfolding IsWellTyped reason_at
line_typed names lines k l t e =
    no_reason (types_at names lines k) l
    (ap (reason_in (types_at names lines k)) (sym e) ∙ t k (slice_get_within lines k l e))

-- the parts of the shape of an instruction
pub record HasInstructionShape (i : Instr) : Type 0 where
  pub ty : IsTy i.ty
  pub outs : length i.outs ≡ result_count i.op
  pub args : length i.args ≡ operand_count i.op
  pub atoms : list_all is_atom i.args ≡ true

pub instruction_shape : (i : Instr) → is_instruction i ≡ true → HasInstructionShape i
instruction_shape i e =
    let p = and_parts (((is_ty i.ty && nat_eq (length i.outs) (result_count i.op)) && nat_eq (length i.args) (operand_count i.op)) && list_all is_atom i.args) (is_amount i.op i.amount) e in
    let q = and_parts ((is_ty i.ty && nat_eq (length i.outs) (result_count i.op)) && nat_eq (length i.args) (operand_count i.op)) (list_all is_atom i.args) p.0 in
    let r = and_parts (is_ty i.ty && nat_eq (length i.outs) (result_count i.op)) (nat_eq (length i.args) (operand_count i.op)) q.0 in
    let s = and_parts (is_ty i.ty) (nat_eq (length i.outs) (result_count i.op)) r.0 in
    record {
      ty = is_ty_sound i.ty s.0;
      outs = eqb-true (length i.outs) (result_count i.op) s.1;
      args = eqb-true (length i.args) (operand_count i.op) r.1;
      atoms = q.1;
    }

-- an instruction of a well typed line can be executed
pub typed_operands : (names : ℕ) (types : List (Option Ty)) (store : List Word) (i : Instr) (choice : ℤ) → IsTypedStore names types store → HasNoReason types (Step i) → is_instruction i ≡ true → ((U : Ty) → choice_type i.op i.ty ≡ Some U → InType U choice) → IsExecutable i.op i.ty i.amount (operands_of i.op (values_of store i.args) choice)
typed_operands names types store i choice t n s f =
    let shape = instruction_shape i s in
    record {
      type_of_words = shape.ty;
      allowed = n.kind;
      amount = n.amount;
      values = asked_operands i.op i.ty (values_of store i.args) choice f
          (operands_stand names types store (operand_types i.op i.ty) i.args t n.defined (not-false (list_all is_sound_literal i.args) n.literals) shape.atoms n.agrees
          (shape.args ∙ sym (operand_types_count i.op i.ty)));
    }

-- the next value of the input is in the type of the line that takes it
taken_cons : (o : Option Ty) (Ts : List Ty) (input : List ℤ) (j n : ℕ) (T : Ty) → n ≡ one_if (is_some o) + j → Fits (cons_option o Ts) input → ((rest : List ℤ) → Fits Ts rest → InType T (get_or rest j (pos 0))) → InType T (get_or input n (pos 0))
taken_cons None Ts input j n T e f g =
    let same : j ≡ n = omega (arith, e) in subst (λ m. InType T (get_or input m (pos 0))) same (g input f)
taken_cons (Some U) Ts [] j n T e f g = absurd f
taken_cons (Some U) Ts (v ∷ input) j n T e f g =
    let same : suc j ≡ n = omega (arith, e) in subst (λ m. InType T (get_or (v ∷ input) m (pos 0))) same (g input f.1)

pub taken_fits : (lines : List Line) (input : List ℤ) (k : ℕ) (l : Line) (T : Ty) → Fits (taken_types lines) input → slice_get lines k ≡ Some l → taken_type l ≡ Some T → InType T (get_or input (taken_before lines k) (pos 0))
unfolding taken_before
taken_fits [] input k l T f e t = absurd (cc)
taken_fits (m ∷ lines) input zero l T f e t = first (taken_type m) (taken_types lines) input T (ap taken_type (line_same m l e) ∙ t) f
  where
    line_same : (m l : Line) → Some m ≡ Some l → m ≡ l
    line_same m l e = cc

    first : (o : Option Ty) (Ts : List Ty) (input : List ℤ) (T : Ty) → o ≡ Some T → Fits (cons_option o Ts) input → InType T (get_or input 0 (pos 0))
    first None Ts input T e f = absurd (cc)
    first (Some U) Ts [] T e f = absurd f
    first (Some U) Ts (v ∷ input) T e f = subst (λ X. InType X v) (type_same U T e) f.0
      where
        type_same : (U T : Ty) → Some U ≡ Some T → U ≡ T
        type_same U T e = cc
taken_fits (m ∷ lines) input (suc k) l T f e t =
    taken_cons (taken_type m) (taken_types lines) input (taken_before lines k) (taken_before (m ∷ lines) (suc k)) T
    (sum_by-cons (λ x. one_if (is_some (taken_type x))) m (take k lines)) f
    (λ rest g. taken_fits lines rest k l T g e t)

-- before the first line no name has a type
typed_begins : (names : ℕ) → IsTypedStore names (replicate names None) (replicate names empty_word)
typed_begins names = record {
  type_count = length-replicate names None;
  word_count = length-replicate names empty_word;
  typed = λ m T e. absurd (no_type m T e);
  values = λ m. subst (λ (w : Word). InType w.ty w.value) (sym (word_is m)) (omega (arith, ints), omega (arith, ints));
}
  where
    word_is : (m : ℕ) → word_at (replicate names empty_word) m ≡ empty_word
    word_is m = elim (cases_lt m names) [
      | inl h ↦ get_or-replicate names m empty_word empty_word h
      | inr h ↦ get_or_past (replicate names empty_word) m empty_word (omega (arith, h, length-replicate names empty_word))
    ]

    none_is : (m : ℕ) → type_at (replicate names None) m ≡ None
    none_is m = type_is (replicate names None) m ∙ elim (cases_lt m names) [
      | inl h ↦ get_or-replicate names m None None h
      | inr h ↦ get_or_past (replicate names None) m None (omega (arith, h, length-replicate {A = Option Ty} names None))
    ]

    no_type : (m : ℕ) (T : Ty) → type_at (replicate names None) m ≡ Some T → ⊥
    no_type m T e = none_some T (sym (none_is m) ∙ e)
      where
        none_some : (T : Ty) → None ≡ Some T → ⊥
        none_some T e = cc

-- a well typed line keeps that
pub typed_line : (names : ℕ) (types : List (Option Ty)) (store : List Word) (l : Line) (taken : ℤ) → IsTypedStore names types store → HasNoReason types l → is_line l ≡ true → ((U : Ty) → taken_type l ≡ Some U → InType U taken) → IsTypedStore names (types_after types (Some l)) (store_after (Some l) taken store)
typed_line names types store (Input T name) taken t n s f = typed_set names types store name T taken t (is_ty_sound T s) (f T refl)
typed_line names types store (Step i) taken t n s f =
    let shape = instruction_shape i s in
    let operands = operands_of i.op (values_of store i.args) taken in
    typed_all names i.outs (result_types i.op i.ty) (results_of i.op i.ty i.amount operands) types store t
    (result_types_are i.op i.ty shape.ty n.kind)
    (results_fit i.op i.ty i.amount operands (typed_operands names types store i taken t n s f))
typed_line names types store _ taken t n s f = t

-- in a run from a fitting input each name holds a word of its type before every line
pub typed_run : (names : ℕ) (lines : List Line) (input : List ℤ) → IsRunnable names lines → Fits (taken_types lines) input → (k : ℕ) → IsTypedStore names (types_at names lines k) (store_at names lines input k)
unfolding store_at types_at
typed_run names lines input r f zero = typed_begins names
typed_run names lines input r f (suc k) = elim (slice_get_cases lines k).1 [
  | inl p ↦
      let line = p.0 in
      let taken = get_or input (taken_before lines k) (pos 0) in
      let next : IsTypedStore names (types_after (types_at names lines k) (Some line)) (store_after (Some line) taken (store_at names lines input k)) =
      typed_line names (types_at names lines k) (store_at names lines input k) line taken (typed_run names lines input r f k)
      (line_typed names lines k line r.typed p.2) (line_shape names lines k line r p.2) (λ U e. taken_fits lines input k line U f p.2 e) in
      let at : (o : Option Line) → Type 0 = λ o. IsTypedStore names (types_after (types_at names lines k) o) (store_after o taken (store_at names lines input k)) in
      subst at (sym p.2) next
  | inr p ↦
      let taken = get_or input (taken_before lines k) (pos 0) in
      let at : (o : Option Line) → Type 0 = λ o. IsTypedStore names (types_after (types_at names lines k) o) (store_after o taken (store_at names lines input k)) in
      subst at (sym p.1) (typed_run names lines input r f k)
]

pub runs_typed : (names : ℕ) (lines : List Line) (input : List ℤ) (k name : ℕ) (T : Ty) → IsRunnable names lines → Fits (taken_types lines) input → type_at (types_at names lines k) name ≡ Some T → ((word_at (store_at names lines input k) name).ty ≡ T) × InType T (word_at (store_at names lines input k) name).value
runs_typed names lines input k name T r f e =
    let t = typed_run names lines input r f k in
    let word = t.typed name T e in
    (word.1, subst (λ (U : Ty). InType U (word_at (store_at names lines input k) name).value) word.1 (t.values name))

pub store_length : (names : ℕ) (lines : List Line) (input : List ℤ) → IsRunnable names lines → Fits (taken_types lines) input → (k : ℕ) → length (store_at names lines input k) ≡ names
store_length names lines input r f k = (typed_run names lines input r f k).word_count

pub run_values : (names : ℕ) (lines : List Line) (input : List ℤ) → IsRunnable names lines → Fits (taken_types lines) input → (k : ℕ) → HoldsValues (store_at names lines input k)
run_values names lines input r f k = (typed_run names lines input r f k).values

-- what holds of all names of a line holds of those that it defines and of those that it reads
all_tail : (P : ℕ → Type 0) (x : ℕ) (xs : List ℕ) → All P (x ∷ xs) → All P xs
all_tail P x xs a k d h = a (suc k) d (omega arith)

pub all_left : (P : ℕ → Type 0) (xs ys : List ℕ) → All P (xs ++ ys) → All P xs
all_left P [] ys a k d h = absurd (omega arith)
all_left P (x ∷ xs) ys a zero d h = a 0 d (omega arith)
all_left P (x ∷ xs) ys a (suc k) d h = all_left P xs ys (all_tail P x (xs ++ ys) a) k d (omega arith)

pub all_right : (P : ℕ → Type 0) (xs ys : List ℕ) → All P (xs ++ ys) → All P ys
all_right P [] ys a = a
all_right P (x ∷ xs) ys a = all_right P xs ys (all_tail P x (xs ++ ys) a)

-- each instruction of a run can be executed in the store before it, with the value that it takes
pub run_executes : (names : ℕ) (lines : List Line) (input : List ℤ) (k : ℕ) (i : Instr) → IsRunnable names lines → Fits (taken_types lines) input → slice_get lines k ≡ Some (Step i) → CanExecute (store_at names lines input k) i (get_or input (taken_before lines k) (pos 0))
run_executes names lines input k i r f e =
    let t = typed_run names lines input r f k in
    let shape = line_shape names lines k (Step i) r e in
    let named : All (λ name. name < length (store_at names lines input k)) (i.outs ++ filter_map name_of i.args) =
    subst (λ n. All (λ name. name < n) (i.outs ++ filter_map name_of i.args)) (sym t.word_count) (r.named k (Step i) e) in
    record {
      shape = shape;
      defines = all_left (λ name. name < length (store_at names lines input k)) i.outs (filter_map name_of i.args) named;
      operands = typed_operands names (types_at names lines k) (store_at names lines input k) i _ t (line_typed names lines k (Step i) r.typed e) shape (λ U c. taken_fits lines input k (Step i) U f e c);
    }

-- each line of a run can be gone through
pub run_passes : (names : ℕ) (lines : List Line) (input : List ℤ) (k : ℕ) (l : Line) → IsRunnable names lines → Fits (taken_types lines) input → slice_get lines k ≡ Some l → CanPass (store_at names lines input k) l (get_or input (taken_before lines k) (pos 0))
run_passes names lines input k (Input T name) r f e =
    omega (arith, r.named k (Input T name) e 0 0 (omega arith), store_length names lines input r f k)
run_passes names lines input k (Step i) r f e = run_executes names lines input k i r f e
run_passes names lines input k _ r f e = tt

-- names that are numbered by first occurrence are numbers of names
numbered_below : (names next : ℕ) (occ : List ℕ) → is_numbered names next occ ≡ true → (next ≤ names) × All (λ name. name < names) occ
numbered_below names next [] e = (let same = eqb-true next names e in omega arith, λ k d h. absurd (omega arith))
numbered_below names next (name ∷ occ) e =
    let parts = and_parts (nat_le name next) (is_numbered names (max next (name + 1)) occ) e in
    let rest = numbered_below names (max next (name + 1)) occ parts.1 in
    let here : name < names = omega (arith, rest.0) in
    (omega (arith, rest.0), below here rest.1)
  where
    below : name < names → All (λ name. name < names) occ → All (λ name. name < names) (name ∷ occ)
    below here a zero d h = here
    below here a (suc k) d h = a k d (omega arith)

-- the names of line k are among all names
line_names : (P : ℕ → Type 0) (lines : List Line) (k : ℕ) (l : Line) → All P (flat_map occurrences lines) → slice_get lines k ≡ Some l → All P (occurrences l)
line_names P [] k l a e = absurd (cc)
line_names P (m ∷ lines) zero l a e = subst (λ x. All P (occurrences x)) (line_same m l e) (all_left P (occurrences m) (flat_map occurrences lines) a)
  where
    line_same : (m l : Line) → Some m ≡ Some l → m ≡ l
    line_same m l e = cc
line_names P (m ∷ lines) (suc k) l a e = line_names P lines k l (all_right P (occurrences m) (flat_map occurrences lines) a) e

-- a well typed program of the right shape can be run
pub shape_runnable : (names : List (List ℕ)) (lines : List Line) → HasShape names lines → IsWellTyped (length names) lines → IsRunnable (length names) lines
unfolding all_occurrences
shape_runnable names lines s t = record {
  shapes = s.shapes;
  named = λ k l e. line_names (λ name. name < length names) lines k l (numbered_below (length names) 0 (all_occurrences lines) s.numbered).1 e;
  typed = t;
}
