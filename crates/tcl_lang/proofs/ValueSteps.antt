-- A step on values in their types is the execution of the instruction on their words, and the trace of a run is its end.
use Rattle.std.proofs.Common.{◌≡◌, inl, inr, ℕ, zero, suc, ◌+◌, ◌<◌, ◌≤◌, refl, sym, ◌∙◌, ap, subst, arith, add-one, ℤ, List, [], ◌∷◌, length, take, filter_map, Option, Some, None, false, ◌||◌, nat_eq}
use Rattle.std.specs.List.{slice_get, All}
use Rattle.std.specs.Option.{option_map}
use Rattle.std.proofs.lemmas.Bool.Decides.{nat_tests}
use Rattle.std.proofs.lemmas.Int.{ints}
use Rattle.std.proofs.lemmas.Bool.{cases_lt}
use Rattle.std.proofs.lemmas.List.{length-set, length-replicate}
use Rattle.std.proofs.lemmas.Option.{slice_get_within}
use Rattle.tcl_lang.specs.declared.ty.Ty.{Ty}
use Rattle.tcl_lang.specs.declared.ty.Word.{Word}
use Rattle.tcl_lang.specs.declared.instr.Instr.{Instr}
use Rattle.tcl_lang.specs.declared.pred.Line.{Line}
use Rattle.tcl_lang.specs.declared.pred.Line.TheVariants.{Input, Pre, Step, Assert, Assume, Cut, Post}
use Rattle.tcl_lang.specs.declared.variable.Variable.{Variable}
use Rattle.tcl_lang.specs.Program.{VersionedProgram}
use Rattle.tcl_lang.specs.Types.{IsTy, InType}
use Rattle.tcl_lang.specs.Store.{word_at}
use Rattle.tcl_lang.specs.Names.{name_of, occurrences}
use Rattle.tcl_lang.specs.Line.{choice_type}
use Rattle.tcl_lang.specs.Results.{result_types}
use Rattle.tcl_lang.specs.Run.{Fits, taken_types, execute}
use Rattle.tcl_lang.specs.Goal.{truth_at, truth_in}
use Rattle.tcl_lang.specs.Checked.{computed_in, computed_at}
use Rattle.tcl_lang.specs.Typing.{types_at, types_after, define_all}
use Rattle.tcl_lang.specs.Execution.{HoldsValues, CanExecute}
use Rattle.tcl_lang.specs.Defined.{is_among}
use Rattle.tcl_lang.specs.Limit.{definitions_before}
use Rattle.tcl_lang.specs.Values.{types_of, words_of, values_in, AreValues, step_values, trace_of, truth_of, computed_of}
use Rattle.tcl_lang.specs.Versions.{numbers_from}
use Rattle.tcl_lang.specs.Form.{IsWellFormed, end_store, AreTyped}
use Rattle.tcl_lang.proofs.TypedStores.{IsTypedStore}
use Rattle.tcl_lang.proofs.TypedRuns.{all_left, line_shape, line_typed, typed_operands, typed_line, store_length}
use Rattle.tcl_lang.proofs.FormRuns.{types_begin, types_go}
use Rattle.tcl_lang.proofs.FormFacts.{definitions_go}
use Rattle.tcl_lang.proofs.RunSteps.{line_others}
use Rattle.tcl_lang.proofs.FormEnds.{end_truth, end_computed, end_typed}
use Rattle.tcl_lang.proofs.ValueRuns.{IsGiven, execute_is, values_run, given, made_of, words_count}

-- the trace of a run
trace_is : (f : VersionedProgram) (input : List ℤ) → trace_of f input ≡ values_in (end_store f input)
unfolding trace_of end_store
trace_is f input = sym (values_run (length f.variables) f.lines input (length f.lines))

end_given : (f : VersionedProgram) (input : List ℤ) → IsWellFormed f → Fits (taken_types f.lines) input → IsGiven f.variables (end_store f input)
unfolding end_store
end_given f input w fits = given f.variables (end_store f input) (store_length (length f.variables) f.lines input w.runnable fits (length f.lines)) (end_typed f input w fits)

pub trace_words : (f : VersionedProgram) (input : List ℤ) → IsWellFormed f → Fits (taken_types f.lines) input → words_of f.variables (trace_of f input) ≡ end_store f input
trace_words f input w fits = ap (words_of f.variables) (trace_is f input) ∙ (end_given f input w fits).store

pub trace_values : (f : VersionedProgram) (input : List ℤ) → IsWellFormed f → Fits (taken_types f.lines) input → AreValues f.variables (trace_of f input)
trace_values f input w fits = subst (λ values. AreValues f.variables values) (sym (trace_is f input)) (end_given f input w fits).values

pub trace_truth : (f : VersionedProgram) (input : List ℤ) (k : ℕ) → IsWellFormed f → Fits (taken_types f.lines) input → truth_of f (trace_of f input) k ≡ truth_at (length f.variables) f.lines input k
unfolding truth_of
trace_truth f input k w fits = ap (λ (s : List Word). truth_in s (slice_get f.lines k)) (trace_words f input w fits) ∙ end_truth f input k w

pub trace_computed : (f : VersionedProgram) (input : List ℤ) (k : ℕ) → IsWellFormed f → Fits (taken_types f.lines) input → computed_of f (trace_of f input) k ≡ computed_at (length f.variables) f.lines input k
unfolding computed_of
trace_computed f input k w fits = ap (λ (s : List Word). computed_in s (slice_get f.lines k)) (trace_words f input w fits) ∙ end_computed f input k w

-- the words of values in their types
words_hold : (vs : List Variable) (values : List ℤ) → AreValues vs values → HoldsValues (words_of vs values)
words_hold [] [] f name = (omega (arith, ints), omega (arith, ints))
words_hold [] (n ∷ values) f name = absurd f
words_hold (v ∷ vs) [] f name = absurd f
words_hold (v ∷ vs) (n ∷ values) f zero = f.0
words_hold (v ∷ vs) (n ∷ values) f (suc name) = words_hold vs values f.1 name

pub values_hold : (f : VersionedProgram) (values : List ℤ) → AreValues f.variables values → HoldsValues (words_of f.variables values)
values_hold f values a = words_hold f.variables values a

word_type : (vs : List Variable) (values : List ℤ) (v : ℕ) (T : Ty) → AreValues vs values → slice_get (types_of vs) v ≡ Some T → (word_at (words_of vs values) v).ty ≡ T
word_type [] values v T f e = absurd (cc)
word_type (x ∷ vs) [] v T f e = absurd f
word_type (x ∷ vs) (n ∷ values) zero T f e = same x.ty T e
  where
    same : (a b : Ty) → Some a ≡ Some b → a ≡ b
    same a b e = cc
word_type (x ∷ vs) (n ∷ values) (suc v) T f e = word_type vs values v T f.1 e

type_of_words : (vs : List Variable) (v : ℕ) (T : Ty) → All (λ x. IsTy x.ty) vs → slice_get (types_of vs) v ≡ Some T → IsTy T
type_of_words [] v T a e = absurd (cc)
type_of_words (x ∷ vs) zero T a e = subst IsTy (same x.ty T e) (a 0 x (omega arith))
  where
    same : (a b : Ty) → Some a ≡ Some b → a ≡ b
    same a b e = cc
type_of_words (x ∷ vs) (suc v) T a e = type_of_words vs v T (λ k d less. a (suc k) d (omega arith)) e

-- a type among the first variables is a type among all
pub first_types : (n : ℕ) (vs : List Variable) (v : ℕ) (T : Ty) → slice_get (types_of (take n vs)) v ≡ Some T → slice_get (types_of vs) v ≡ Some T
first_types zero [] v T e = absurd (cc)
first_types zero (x ∷ vs) v T e = absurd (cc)
first_types (suc n) [] v T e = absurd (cc)
first_types (suc n) (x ∷ vs) zero T e = e
first_types (suc n) (x ∷ vs) (suc v) T e = first_types n vs v T e

-- there is one type for each name, whatever the lines
define_count : (types : List (Option Ty)) (outs : List ℕ) (Ts : List Ty) → length (define_all types outs Ts) ≡ length types
define_count types [] Ts = refl
define_count types (x ∷ outs) [] = refl
define_count types (x ∷ outs) (T ∷ Ts) = define_count _ outs Ts ∙ length-set types x (Some T)

after_count : (types : List (Option Ty)) (o : Option Line) → length (types_after types o) ≡ length types
after_count types None = refl
after_count types (Some (Input T x)) = length-set types x (Some T)
after_count types (Some (Pre p)) = refl
after_count types (Some (Step i)) = define_count types i.outs (result_types i.op i.ty)
after_count types (Some (Assert p)) = refl
after_count types (Some (Assume p)) = refl
after_count types (Some (Cut p)) = refl
after_count types (Some (Post p)) = refl

pub types_count : (names : ℕ) (lines : List Line) (k : ℕ) → length (types_at names lines k) ≡ names
types_count names lines zero = ap length (types_begin names lines) ∙ length-replicate names None
types_count names lines (suc k) = ap length (types_go names lines k) ∙ after_count (types_at names lines k) (slice_get lines k) ∙ types_count names lines k

-- the words of values are a typed store before each line
values_typed : (f : VersionedProgram) (values : List ℤ) (k : ℕ) → IsWellFormed f → AreValues f.variables values → k ≤ length f.lines → IsTypedStore (length f.variables) (types_at (length f.variables) f.lines k) (words_of f.variables values)
values_typed f values k w a h = record {
  type_count = types_count (length f.variables) f.lines k;
  word_count = words_count f.variables values a;
  typed = λ v T e.
      let there = first_types (definitions_before f.lines k) f.variables v T (sym (w.types k v h) ∙ e) in
      (type_of_words f.variables v T w.words there, word_type f.variables values v T a there);
  values = words_hold f.variables values a;
}

pub values_execute : (f : VersionedProgram) (values : List ℤ) (k : ℕ) (i : Instr) (choice : ℤ) → IsWellFormed f → AreValues f.variables values → slice_get f.lines k ≡ Some (Step i) → ((T : Ty) → choice_type i.op i.ty ≡ Some T → InType T choice) → CanExecute (words_of f.variables values) i choice
values_execute f values k i choice w a at c =
    let M = length f.variables in
    let S = words_of f.variables values in
    let shape = line_shape M f.lines k (Step i) w.runnable at in
    let named : All (λ name. name < length S) (occurrences (Step i)) =
    subst (λ n. All (λ name. name < n) (occurrences (Step i))) (sym (words_count f.variables values a)) (w.runnable.named k (Step i) at) in
    record {
      shape = shape;
      defines = all_left (λ name. name < length S) i.outs (filter_map name_of i.args) named;
      operands = typed_operands M (types_at M f.lines k) S i choice (values_typed f values k w a (omega (arith, slice_get_within f.lines k (Step i) at))) (line_typed M f.lines k (Step i) w.runnable.typed at) shape c;
    }

-- what holds of the words before and after: each variable keeps its type
step_store : (f : VersionedProgram) (values : List ℤ) (k : ℕ) (i : Instr) (choice : ℤ) → IsWellFormed f → AreValues f.variables values → slice_get f.lines k ≡ Some (Step i) → ((T : Ty) → choice_type i.op i.ty ≡ Some T → InType T choice) → IsTypedStore (length f.variables) (types_at (length f.variables) f.lines (suc k)) (execute (words_of f.variables values) i choice)
step_store f values k i choice w a at c =
    let M = length f.variables in
    let S = words_of f.variables values in
    let types = types_at M f.lines k in
    subst (λ (Ts : List (Option Ty)). IsTypedStore M Ts (execute S i choice)) (sym (types_go M f.lines k ∙ ap (types_after types) at))
    (typed_line M types S (Step i) choice (values_typed f values k w a (omega (arith, slice_get_within f.lines k (Step i) at))) (line_typed M f.lines k (Step i) w.runnable.typed at) (line_shape M f.lines k (Step i) w.runnable at) c)

typed_before : (n : ℕ) (vs : List Variable) (v : ℕ) (x : Variable) → v < n → slice_get vs v ≡ Some x → slice_get (types_of (take n vs)) v ≡ Some x.ty
typed_before zero vs v x h e = absurd (omega arith)
typed_before (suc n) [] v x h e = absurd (cc)
typed_before (suc n) (y ∷ vs) zero x h e = ap (λ (o : Option Variable). option_map (λ (z : Variable). z.ty) o) e
typed_before (suc n) (y ∷ vs) (suc v) x h e = typed_before n vs v x (omega arith) e

all_typed : (vs : List Variable) (v : ℕ) (x : Variable) → slice_get vs v ≡ Some x → slice_get (types_of vs) v ≡ Some x.ty
all_typed [] v x e = absurd (cc)
all_typed (y ∷ vs) zero x e = ap (λ (o : Option Variable). option_map (λ (z : Variable). z.ty) o) e
all_typed (y ∷ vs) (suc v) x e = all_typed vs v x e

none_past : (n v : ℕ) (xs : List ℕ) → n + length xs ≤ v → is_among (numbers_from n xs) v ≡ false
none_past n v [] h = refl
none_past n v (x ∷ xs) h = ap (λ b. b || is_among (numbers_from (n + 1) xs) v) (apart n v (omega arith)) ∙ none_past (n + 1) v xs (omega arith)
  where
    apart : (n v : ℕ) → n < v → nat_eq n v ≡ false
    apart n v h = grind (arith, nat_tests)

step_typed : (f : VersionedProgram) (values : List ℤ) (k : ℕ) (i : Instr) (choice : ℤ) → IsWellFormed f → AreValues f.variables values → slice_get f.lines k ≡ Some (Step i) → ((T : Ty) → choice_type i.op i.ty ≡ Some T → InType T choice) → AreTyped f.variables (execute (words_of f.variables values) i choice)
step_typed f values k i choice w a at c v x e =
    let S = words_of f.variables values in
    let G = execute S i choice in
    let d = definitions_before f.lines (suc k) in
    let more : definitions_before f.lines k + length i.outs ≡ d = sym (definitions_go f.lines k (Step i) at) ∙ ap (definitions_before f.lines) (add-one k) in
    elim (cases_lt v d) [
      | inl before ↦
          let t = step_store f values k i choice w a at c in
          let type = (t.typed v x.ty (w.types (suc k) v (omega (arith, slice_get_within f.lines k (Step i) at)) ∙ typed_before d f.variables v x before e)).1 in
          (type, subst (λ (T : Ty). InType T (word_at G v).value) type (t.values v))
      | inr later ↦
          let other : is_among i.outs v ≡ false = ap (λ names. is_among names v) (w.defines k (Step i) at) ∙ none_past (definitions_before f.lines k) v i.outs (omega (arith, more)) in
          let same : word_at G v ≡ word_at S v = line_others (Step i) choice S v other in
          let type : (word_at S v).ty ≡ x.ty = word_type f.variables values v x.ty a (all_typed f.variables v x e) in
          subst (λ (u : Word). (u.ty ≡ x.ty) × InType x.ty u.value) (sym same)
          (type, subst (λ (T : Ty). InType T (word_at S v).value) type (words_hold f.variables values a v))
    ]

step_given : (f : VersionedProgram) (values : List ℤ) (k : ℕ) (i : Instr) (choice : ℤ) → IsWellFormed f → AreValues f.variables values → slice_get f.lines k ≡ Some (Step i) → ((T : Ty) → choice_type i.op i.ty ≡ Some T → InType T choice) → IsGiven f.variables (execute (words_of f.variables values) i choice)
step_given f values k i choice w a at c =
    given f.variables (execute (words_of f.variables values) i choice) (step_store f values k i choice w a at c).word_count (step_typed f values k i choice w a at c)

step_is : (f : VersionedProgram) (values : List ℤ) (i : Instr) (choice : ℤ) → AreValues f.variables values → values_in (execute (words_of f.variables values) i choice) ≡ step_values values i choice
step_is f values i choice a =
    execute_is (words_of f.variables values) i choice ∙ ap (λ ns. step_values ns i choice) (made_of f.variables values a)

-- the step on values is the execution on their words
pub step_executes : (f : VersionedProgram) (values : List ℤ) (k : ℕ) (i : Instr) (choice : ℤ) → IsWellFormed f → AreValues f.variables values → slice_get f.lines k ≡ Some (Step i) → ((T : Ty) → choice_type i.op i.ty ≡ Some T → InType T choice) → words_of f.variables (step_values values i choice) ≡ execute (words_of f.variables values) i choice
step_executes f values k i choice w a at c =
    ap (words_of f.variables) (sym (step_is f values i choice a)) ∙ (step_given f values k i choice w a at c).store

pub step_keeps_types : (f : VersionedProgram) (values : List ℤ) (k : ℕ) (i : Instr) (choice : ℤ) → IsWellFormed f → AreValues f.variables values → slice_get f.lines k ≡ Some (Step i) → ((T : Ty) → choice_type i.op i.ty ≡ Some T → InType T choice) → AreValues f.variables (step_values values i choice)
step_keeps_types f values k i choice w a at c =
    subst (λ ns. AreValues f.variables ns) (step_is f values i choice a) (step_given f values k i choice w a at c).values
