-- An assignment of the whole fact of a goal and the run from its values agree on the variables that are defined before the
-- goal, so they agree on what each line up to the goal says.
use Rattle.std.proofs.Common.{◌≡◌, ◌<◌, ◌≤◌, ◌+◌, inl, inr, ℕ, zero, suc, ℤ, pos, Bool, true, false, List, [], ◌∷◌, ◌++◌, map, length, take, get_or, set, filter_map, refl, sym, ◌∙◌, ap, subst, arith, add-one, Option, Some, None}
use Rattle.std.specs.Prelude.{is_some}
use Rattle.std.specs.List.{slice_get, All, cons_option}
use Rattle.std.proofs.lemmas.Bool.{cases_lt}
use Rattle.std.proofs.lemmas.Option.{slice_get_within, slice_get-get_or}
use Rattle.std.proofs.lemmas.List.{get_or-set_same}
use Rattle.std.proofs.lemmas.List.Sums.{sum_by-cons}
use Rattle.tcl_lang.specs.declared.ty.Ty.{Ty}
use Rattle.tcl_lang.specs.declared.ty.Word.{Word}
use Rattle.tcl_lang.specs.declared.instr.Op.{Op}
use Rattle.tcl_lang.specs.declared.instr.Op.TheVariants.{Nondet}
use Rattle.tcl_lang.specs.declared.instr.Instr.{Instr}
use Rattle.tcl_lang.specs.declared.pred.Line.{Line}
use Rattle.tcl_lang.specs.declared.pred.Line.TheVariants.{Input, Pre, Step, Assert, Assume, Cut, Post}
use Rattle.tcl_lang.specs.declared.variable.Variable.{Variable}
use Rattle.tcl_lang.specs.Program.{VersionedProgram}
use Rattle.tcl_lang.specs.Types.{InType}
use Rattle.tcl_lang.specs.Store.{word_at}
use Rattle.tcl_lang.specs.Names.{name_of, defined_names, used_names}
use Rattle.tcl_lang.specs.Line.{taken_type, taken_name, choice_type, choice_name, values_of}
use Rattle.tcl_lang.specs.Instruction.{result_count}
use Rattle.tcl_lang.specs.Results.{results_of, result_types}
use Rattle.tcl_lang.specs.Run.{Fits, taken_types, taken_before, store_at, operands_of}
use Rattle.tcl_lang.specs.Goal.{passes, truth_in}
use Rattle.tcl_lang.specs.Checked.{computed_in}
use Rattle.tcl_lang.specs.Typing.{type_at, types_at, types_after, define_all}
use Rattle.tcl_lang.specs.Shape.{is_line}
use Rattle.tcl_lang.specs.Limit.{definitions_before}
use Rattle.tcl_lang.specs.Versions.{numbers_from}
use Rattle.tcl_lang.specs.Executed.{values_at, choice_in, IsExecuted, IsExecutedAt}
use Rattle.tcl_lang.specs.Values.{value_at, types_of, words_of, AreValues, trace_of, truth_of, computed_of}
use Rattle.tcl_lang.specs.Form.{IsWellFormed, end_store}
use Rattle.tcl_lang.proofs.Runs.{one_if}
use Rattle.tcl_lang.proofs.TypedStores.{type_is}
use Rattle.tcl_lang.proofs.TypedRuns.{line_shape, instruction_shape}
use Rattle.tcl_lang.proofs.RunSteps.{run_takes, step_wrote}
use Rattle.tcl_lang.proofs.Locality.{line_local, line_computed_local, values_local}
use Rattle.tcl_lang.proofs.FormRuns.{types_go}
use Rattle.tcl_lang.proofs.FormFacts.{definitions_begin, definitions_go}
use Rattle.tcl_lang.proofs.FormEnds.{keeps, end_executed}
use Rattle.tcl_lang.proofs.ValueSteps.{first_types, types_count, trace_words, trace_values, trace_truth, trace_computed}
use Rattle.tcl_goals.specs.Numbers.{those_below}
use Rattle.tcl_goals.specs.Places.{goal_place, has_goal, is_step}
use Rattle.tcl_goals.specs.Slices.{is_step_at, whole_fact}
use Rattle.tcl_goals.specs.Assignments.{Assigns}
use Rattle.tcl_goals.proofs.GoalPlaces.{goal_place_below}
use Rattle.tcl_goals.proofs.Numbers.{those_yes, those_no}
use Rattle.tcl_slice.specs.Runs.{taken_names, input_from, IsRunOf}

-- one name for a list of one
single : (outs : List ℕ) → length outs ≡ 1 → (x : ℕ) × (outs ≡ x ∷ [])
single [] e = absurd (omega arith)
single (x ∷ []) e = (x, refl)
single (x ∷ y ∷ outs) e = absurd (omega arith)

-- a line that takes a value says for which variable and of which type
step_takes : (op : Op) (T : Ty) (outs : List ℕ) → length outs ≡ result_count op → is_some (choice_type op T) ≡ is_some (choice_name op outs)
step_takes Nondet T [] e = absurd (omega arith)
step_takes Nondet T (x ∷ outs) e = refl
step_takes _ T outs e = refl

pub line_takes : (l : Line) → is_line l ≡ true → is_some (taken_type l) ≡ is_some (taken_name l)
line_takes (Input T x) e = refl
line_takes (Pre p) e = refl
line_takes (Step i) e = step_takes i.op i.ty i.outs (instruction_shape i e).outs
line_takes (Assert p) e = refl
line_takes (Assume p) e = refl
line_takes (Cut p) e = refl
line_takes (Post p) e = refl

-- and it gives the variable this type, and defines no other
pub record Takes (l : Line) (T : Ty) (v : ℕ) : Type 0 where
  pub names : defined_names l ≡ v ∷ []
  pub types : (types : List (Option Ty)) → types_after types (Some l) ≡ set types v (Some T)

nondet_names : (op : Op) (T U : Ty) (outs : List ℕ) (v : ℕ) → length outs ≡ result_count op → choice_type op T ≡ Some U → choice_name op outs ≡ Some v → outs ≡ v ∷ []
nondet_names Nondet T U [] v len t n = absurd (omega arith)
nondet_names Nondet T U (x ∷ []) v len t n = let same : x ≡ v = cc in ap (λ y. y ∷ []) same
nondet_names Nondet T U (x ∷ y ∷ outs) v len t n = absurd (omega arith)
nondet_names _ T U outs v len t n = absurd (cc)

nondet_types : (op : Op) (T U : Ty) (outs : List ℕ) (v : ℕ) (types : List (Option Ty)) → length outs ≡ result_count op → choice_type op T ≡ Some U → choice_name op outs ≡ Some v → define_all types outs (result_types op T) ≡ set types v (Some U)
nondet_types Nondet T U [] v types len t n = absurd (omega arith)
nondet_types Nondet T U (x ∷ []) v types len t n =
    let same : x ≡ v = cc in
    let type : Some T ≡ Some U = cc in
    ap (λ y. set types y (Some T)) same ∙ ap (λ o. set types v o) type
nondet_types Nondet T U (x ∷ y ∷ outs) v types len t n = absurd (omega arith)
nondet_types _ T U outs v types len t n = absurd (cc)

pub taking : (l : Line) (T : Ty) (v : ℕ) → is_line l ≡ true → taken_type l ≡ Some T → taken_name l ≡ Some v → Takes l T v
taking (Input U x) T v e t n =
    let same : x ≡ v = cc in
    let type : Some U ≡ Some T = cc in
    record { names = ap (λ y. y ∷ []) same; types = λ types. ap (λ y. set types y (Some U)) same ∙ ap (λ o. set types v o) type }
taking (Pre p) T v e t n = absurd (cc)
taking (Step i) T v e t n =
    let outs = (instruction_shape i e).outs in
    record { names = nondet_names i.op i.ty T i.outs v outs t n; types = λ types. nondet_types i.op i.ty T i.outs v types outs t n }
taking (Assert p) T v e t n = absurd (cc)
taking (Assume p) T v e t n = absurd (cc)
taking (Cut p) T v e t n = absurd (cc)
taking (Post p) T v e t n = absurd (cc)

-- the variable has this type in the form
variable_type : (f : VersionedProgram) (k v : ℕ) (l : Line) (T : Ty) → IsWellFormed f → slice_get f.lines k ≡ Some l → Takes l T v → slice_get (types_of f.variables) v ≡ Some T
variable_type f k v l T w at takes =
    let M = length f.variables in
    let types = types_at M f.lines k in
    let named : (d : ℕ) → get_or (v ∷ used_names l) 0 d < M =
    λ d. subst (λ names. get_or (names ++ used_names l) 0 d < M) takes.names
    (w.runnable.named k l at 0 d (subst (λ names. 0 < length (names ++ used_names l)) (sym takes.names) (omega arith))) in
    let small : v < length types = omega (arith, named 0, types_count M f.lines k) in
    let next : types_at M f.lines (suc k) ≡ set types v (Some T) = types_go M f.lines k ∙ ap (types_after types) at ∙ takes.types types in
    let here : type_at (types_at M f.lines (suc k)) v ≡ Some T =
    ap (λ (Ts : List (Option Ty)). type_at Ts v) next ∙ type_is (set types v (Some T)) v ∙ get_or-set_same types v (Some T) None small in
    first_types (definitions_before f.lines (suc k)) f.variables v T (sym (w.types (suc k) v (omega (arith, slice_get_within f.lines k l at))) ∙ here)

-- a value of the type of its variable
typed_value : (vs : List Variable) (values : List ℤ) (v : ℕ) (T : Ty) → AreValues vs values → slice_get (types_of vs) v ≡ Some T → InType T (value_at values v)
typed_value [] values v T a e = absurd (cc)
typed_value (x ∷ vs) [] v T a e = absurd a
typed_value (x ∷ vs) (n ∷ values) zero T a e = subst (λ U. InType U n) (same x.ty T e) a.0
  where
    same : (a b : Ty) → Some a ≡ Some b → a ≡ b
    same a b e = cc
typed_value (x ∷ vs) (n ∷ values) (suc v) T a e = typed_value vs values v T a.1 e

-- values that fit what the lines take
abbrev TakesBy : (ℕ → ℤ) → Option Ty → Option ℕ → Type 0
TakesBy g None None = Unit {0}
TakesBy g None (Some v) = ⊥
TakesBy g (Some T) None = ⊥
TakesBy g (Some T) (Some v) = InType T (g v)

takes_by : (g : ℕ → ℤ) (o : Option Ty) (n : Option ℕ) → is_some o ≡ is_some n → ((T : Ty) (v : ℕ) → o ≡ Some T → n ≡ Some v → InType T (g v)) → TakesBy g o n
takes_by g None None e h = tt
takes_by g None (Some v) e h = absurd (cc)
takes_by g (Some T) None e h = absurd (cc)
takes_by g (Some T) (Some v) e h = h T v refl refl

fits_cons : (g : ℕ → ℤ) (o : Option Ty) (n : Option ℕ) (Ts : List Ty) (vs : List ℕ) → TakesBy g o n → Fits Ts (map g vs) → Fits (cons_option o Ts) (map g (cons_option n vs))
fits_cons g None None Ts vs t f = f
fits_cons g None (Some v) Ts vs t f = absurd t
fits_cons g (Some T) None Ts vs t f = absurd t
fits_cons g (Some T) (Some v) Ts vs t f = (t, f)

fits_by : (g : ℕ → ℤ) (lines : List Line) → ((k : ℕ) (l : Line) → slice_get lines k ≡ Some l → TakesBy g (taken_type l) (taken_name l)) → Fits (taken_types lines) (map g (taken_names lines))
fits_by g [] h = tt
fits_by g (l ∷ lines) h =
    fits_cons g (taken_type l) (taken_name l) (taken_types lines) (taken_names lines) (h 0 l refl) (fits_by g lines (λ k m e. h (suc k) m e))

pub values_fit : (f : VersionedProgram) (values : List ℤ) → IsWellFormed f → AreValues f.variables values → Fits (taken_types f.lines) (input_from f.lines values)
unfolding input_from
values_fit f values w a =
    fits_by (λ v. value_at values v) f.lines
    (λ k l at.
    let shape = line_shape (length f.variables) f.lines k l w.runnable at in
    takes_by (λ v. value_at values v) (taken_type l) (taken_name l) (line_takes l shape)
    (λ T v t n. typed_value f.variables values v T a (variable_type f k v l T w at (taking l T v shape t n))))

-- the value that a line takes is that of its variable
skip : (g : ℕ → ℤ) (o : Option Ty) (n : Option ℕ) (vs : List ℕ) (j m : ℕ) → is_some o ≡ is_some n → m ≡ one_if (is_some o) + j → get_or (map g (cons_option n vs)) m (pos 0) ≡ get_or (map g vs) j (pos 0)
skip g None None vs j m e h = let same : m ≡ j = omega (arith, h) in ap (λ x. get_or (map g vs) x (pos 0)) same
skip g None (Some v) vs j m e h = absurd (cc)
skip g (Some T) None vs j m e h = absurd (cc)
skip g (Some T) (Some v) vs j m e h = let same : m ≡ suc j = omega (arith, h) in ap (λ x. get_or (g v ∷ map g vs) x (pos 0)) same

first_taken : (g : ℕ → ℤ) (o : Option ℕ) (vs : List ℕ) (v : ℕ) → o ≡ Some v → get_or (map g (cons_option o vs)) 0 (pos 0) ≡ g v
first_taken g None vs v e = absurd (cc)
first_taken g (Some x) vs v e = let same : x ≡ v = cc in ap g same

taken_at : (g : ℕ → ℤ) (lines : List Line) (k : ℕ) (l : Line) (v : ℕ) → ((j : ℕ) (m : Line) → slice_get lines j ≡ Some m → is_some (taken_type m) ≡ is_some (taken_name m)) → slice_get lines k ≡ Some l → taken_name l ≡ Some v → get_or (map g (taken_names lines)) (taken_before lines k) (pos 0) ≡ g v
unfolding taken_before
taken_at g [] k l v same at n = absurd (cc)
taken_at g (m ∷ lines) zero l v same at n = first_taken g (taken_name m) (taken_names lines) v (ap taken_name (line_same m l at) ∙ n)
  where
    line_same : (m l : Line) → Some m ≡ Some l → m ≡ l
    line_same m l e = cc
taken_at g (m ∷ lines) (suc k) l v same at n =
    skip g (taken_type m) (taken_name m) (taken_names lines) (taken_before lines k) (taken_before (m ∷ lines) (suc k)) (same 0 m refl)
    (sum_by-cons (λ x. one_if (is_some (taken_type x))) m (take k lines))
    ∙ taken_at g lines k l v (λ j x e. same (suc j) x e) at n

pub value_taken : (f : VersionedProgram) (values : List ℤ) (k : ℕ) (l : Line) (v : ℕ) → IsWellFormed f → slice_get f.lines k ≡ Some l → taken_name l ≡ Some v → get_or (input_from f.lines values) (taken_before f.lines k) (pos 0) ≡ value_at values v
unfolding input_from
value_taken f values k l v w at n =
    taken_at (λ v. value_at values v) f.lines k l v
    (λ j m e. line_takes m (line_shape (length f.variables) f.lines j m w.runnable e)) at n

-- words of values are equal where the values are
pub words_equal : (vs : List Variable) (a b : List ℤ) (v : ℕ) → AreValues vs a → AreValues vs b → value_at a v ≡ value_at b v → word_at (words_of vs a) v ≡ word_at (words_of vs b) v
words_equal [] a b v p q e = refl
words_equal (x ∷ vs) [] b v p q e = absurd p
words_equal (x ∷ vs) (m ∷ a) [] v p q e = absurd q
words_equal (x ∷ vs) (m ∷ a) (n ∷ b) zero p q e = ap (λ c. record { ty = x.ty; value = c }) e
words_equal (x ∷ vs) (m ∷ a) (n ∷ b) (suc v) p q e = words_equal vs a b v p.1 q.1 e

word_value : (vs : List Variable) (a : List ℤ) (v : ℕ) → AreValues vs a → (word_at (words_of vs a) v).value ≡ value_at a v
word_value [] [] v p = refl
word_value [] (n ∷ a) v p = absurd p
word_value (x ∷ vs) [] v p = absurd p
word_value (x ∷ vs) (n ∷ a) zero p = refl
word_value (x ∷ vs) (n ∷ a) (suc v) p = word_value vs a v p.1

-- the numbers that pass a test are among those below their bound
in_front : (xs ys : List ℕ) (j k : ℕ) → slice_get xs j ≡ Some k → slice_get (xs ++ ys) j ≡ Some k
in_front [] ys j k e = absurd (cc)
in_front (x ∷ xs) ys zero k e = e
in_front (x ∷ xs) ys (suc j) k e = in_front xs ys j k e

at_end : (xs : List ℕ) (n : ℕ) → slice_get (xs ++ n ∷ []) (length xs) ≡ Some n
at_end [] n = refl
at_end (x ∷ xs) n = at_end xs n

those_next : (test : ℕ → Bool) (n k : ℕ) (b : Bool) → test n ≡ b → (j : ℕ) × (slice_get (those_below test n) j ≡ Some k) → (j : ℕ) × (slice_get (those_below test (suc n)) j ≡ Some k)
those_next test n k true t r = (r.0, ap (λ xs. slice_get xs r.0) (those_yes test n t) ∙ in_front (those_below test n) (n ∷ []) r.0 k r.1)
those_next test n k false t r = (r.0, ap (λ xs. slice_get xs r.0) (those_no test n t) ∙ r.1)

those_last : (test : ℕ → Bool) (n k : ℕ) → n ≡ k → test k ≡ true → (j : ℕ) × (slice_get (those_below test (suc n)) j ≡ Some k)
those_last test n k same e =
    (length (those_below test n), ap (λ xs. slice_get xs (length (those_below test n))) (those_yes test n (ap test same ∙ e)) ∙ at_end (those_below test n) n ∙ ap (λ m. Some m) same)

pub those_hold : (test : ℕ → Bool) (n k : ℕ) → k < n → test k ≡ true → (j : ℕ) × (slice_get (those_below test n) j ≡ Some k)
those_hold test zero k less e = absurd (omega arith)
those_hold test (suc n) k less e = elim (cases_lt k n) [
  | inl h ↦ those_next test n k (test n) refl (those_hold test n k h e)
  | inr h ↦ those_last test n k (omega (arith, h, less)) e
]

uses_are : (p : VersionedProgram) (i : ℕ) → (whole_fact p i).uses ≡ those_below (is_step_at p.lines) (goal_place p.lines i)
unfolding whole_fact
uses_are p i = refl

-- each instruction before the goal is executed in an assignment
assigned_step : (p : VersionedProgram) (i : ℕ) (values : List ℤ) (k : ℕ) (s : Instr) → Assigns p (whole_fact p i) values → k < goal_place p.lines i → slice_get p.lines k ≡ Some (Step s) → IsExecuted (words_of p.variables values) s
assigned_step p i values k s has less at =
    let used = those_hold (is_step_at p.lines) (goal_place p.lines i) k less (ap (passes is_step) at) in
    subst (λ o. IsExecutedAt (words_of p.variables values) o) at
    (has.executed used.0 k (ap (λ us. slice_get us used.0) (uses_are p i) ∙ used.1))

-- values that agree on the variables that are defined before line k
abbrev Agree : VersionedProgram → List ℤ → List ℤ → ℕ → Type 0
Agree f a b k = (v : ℕ) → v < definitions_before f.lines k → value_at a v ≡ value_at b v

all_agree : (f : VersionedProgram) (a b : List ℤ) (k : ℕ) (names : List ℕ) → AreValues f.variables a → AreValues f.variables b → Agree f a b k → All (λ v. v < definitions_before f.lines k) names → All (λ v. word_at (words_of f.variables a) v ≡ word_at (words_of f.variables b) v) names
all_agree f a b k names p q h n j d less = words_equal f.variables a b (get_or names j d) p q (h (get_or names j d) (n j d less))

-- a line of one result defines the next variable
next_variable : (f : VersionedProgram) (k x : ℕ) (l : Line) → IsWellFormed f → slice_get f.lines k ≡ Some l → defined_names l ≡ x ∷ [] → x < definitions_before f.lines (k + 1)
next_variable f k x l w at names =
    let d = definitions_before f.lines k in
    let listed : x ∷ [] ≡ d ∷ [] = sym names ∙ w.defines k l at ∙ ap (numbers_from d) names in
    let first : x ≡ d = cc in
    let one : length (defined_names l) ≡ 1 = ap length names in
    omega (arith, first, one, definitions_go f.lines k l at)

-- the run keeps the value that such a line takes
kept_value : (f : VersionedProgram) (input : List ℤ) (k x : ℕ) (l : Line) (n : ℤ) → IsWellFormed f → slice_get f.lines k ≡ Some l → defined_names l ≡ x ∷ [] → (word_at (store_at (length f.variables) f.lines input (k + 1)) x).value ≡ n → (word_at (end_store f input) x).value ≡ n
kept_value f input k x l n w at names e =
    ap (λ (u : Word). u.value) (keeps f input (k + 1) x w (omega (arith, slice_get_within f.lines k l at)) (next_variable f k x l w at names)) ∙ e

-- the choice of a `nondet` is that of the values
nondet_results : (op : Op) (T : Ty) (n : ℕ) (X : List ℤ) (c : ℤ) → op ≡ Nondet → results_of op T n (operands_of op X c) ≡ c ∷ []
nondet_results op T n X c e = subst (λ o. results_of o T n (operands_of o X c) ≡ c ∷ []) (sym e) refl

nondet_name : (op : Op) (outs : List ℕ) (x : ℕ) → op ≡ Nondet → outs ≡ x ∷ [] → choice_name op outs ≡ Some x
nondet_name op outs x e same = subst (λ o. choice_name o outs ≡ Some x) (sym e) (ap (λ os. slice_get os 0) same)

nondet_choice : (f : VersionedProgram) (values : List ℤ) (k : ℕ) (s : Instr) → IsWellFormed f → AreValues f.variables values → slice_get f.lines k ≡ Some (Step s) → s.op ≡ Nondet → choice_in (end_store f (input_from f.lines values)) s.outs ≡ choice_in (words_of f.variables values) s.outs
nondet_choice f values k s w a at e =
    let M = length f.variables in
    let input = input_from f.lines values in
    let fits = values_fit f values w a in
    let G = store_at M f.lines input (k + 1) in
    let c = get_or input (taken_before f.lines k) (pos 0) in
    let shape = instruction_shape s (line_shape M f.lines k (Step s) w.runnable at) in
    let x = single s.outs (shape.outs ∙ ap result_count e) in
    let written : values_at G s.outs ≡ c ∷ [] =
    (step_wrote M f.lines input k s w.runnable fits at).values
    ∙ nondet_results s.op s.ty s.amount (values_of (store_at M f.lines input k) s.args) c e in
    let value : (word_at G x.0).value ≡ c =
    ap (λ os. get_or (values_at G os) 0 (pos 0)) (sym x.1) ∙ ap (λ ns. get_or ns 0 (pos 0)) written in
    ap (λ os. choice_in (end_store f input) os) x.1
    ∙ kept_value f input k x.0 (Step s) c w at x.1 value
    ∙ value_taken f values k (Step s) x.0 w at (nondet_name s.op s.outs x.0 e x.1)
    ∙ sym (word_value f.variables values x.0 a)
    ∙ ap (λ os. choice_in (words_of f.variables values) os) (sym x.1)

choice_same : (op : Op) (X : List ℤ) (a b : ℤ) → (op ≡ Nondet → a ≡ b) → operands_of op X a ≡ operands_of op X b
choice_same Nondet X a b h = ap (λ c. c ∷ []) (h refl)
choice_same _ X a b h = refl

-- the words of the run's values, which are the store at its end
abbrev run_words : VersionedProgram → List ℤ → List Word
run_words f values = words_of f.variables (trace_of f (input_from f.lines values))

step_agrees : (f : VersionedProgram) (values : List ℤ) (k : ℕ) (s : Instr) → IsWellFormed f → AreValues f.variables values → slice_get f.lines k ≡ Some (Step s) → IsExecuted (words_of f.variables values) s → Agree f (trace_of f (input_from f.lines values)) values k → values_at (run_words f values) s.outs ≡ values_at (words_of f.variables values) s.outs
step_agrees f values k s w a at executed agree =
    let input = input_from f.lines values in
    let fits = values_fit f values w a in
    let Z = run_words f values in
    let W = words_of f.variables values in
    let ends = trace_words f input w fits in
    let own : IsExecuted Z s =
    subst (λ (S : List Word). IsExecuted S s) (sym ends) (subst (λ o. IsExecutedAt (end_store f input) o) at (end_executed f input k w fits)) in
    let read : values_of Z s.args ≡ values_of W s.args =
    values_local W Z s.args (all_agree f (trace_of f input) values k (filter_map name_of s.args) (trace_values f input w fits) a agree (w.reads k (Step s) at)) in
    let choice : s.op ≡ Nondet → choice_in Z s.outs ≡ choice_in W s.outs =
    λ e. ap (λ (S : List Word). choice_in S s.outs) ends ∙ nondet_choice f values k s w a at e in
    own
    ∙ ap (λ (ns : List ℤ). results_of s.op s.ty s.amount (operands_of s.op ns (choice_in Z s.outs))) read
    ∙ ap (λ (ns : List ℤ). results_of s.op s.ty s.amount ns) (choice_same s.op (values_of W s.args) (choice_in Z s.outs) (choice_in W s.outs) choice)
    ∙ sym executed

input_agrees : (f : VersionedProgram) (values : List ℤ) (k x : ℕ) (T : Ty) → IsWellFormed f → AreValues f.variables values → slice_get f.lines k ≡ Some (Input T x) → values_at (run_words f values) (x ∷ []) ≡ values_at (words_of f.variables values) (x ∷ [])
input_agrees f values k x T w a at =
    let input = input_from f.lines values in
    let fits = values_fit f values w a in
    let c = get_or input (taken_before f.lines k) (pos 0) in
    let taken : (word_at (store_at (length f.variables) f.lines input (k + 1)) x).value ≡ c =
    ap (λ (u : Word). u.value) (run_takes (length f.variables) f.lines input k T x w.runnable fits at) in
    ap (λ n. n ∷ [])
    (ap (λ (S : List Word). (word_at S x).value) (trace_words f input w fits)
    ∙ kept_value f input k x (Input T x) c w at refl taken
    ∙ value_taken f values k (Input T x) x w at refl
    ∙ sym (word_value f.variables values x a))

line_agrees : (f : VersionedProgram) (values : List ℤ) (k : ℕ) (l : Line) → IsWellFormed f → AreValues f.variables values → slice_get f.lines k ≡ Some l → ((s : Instr) → slice_get f.lines k ≡ Some (Step s) → IsExecuted (words_of f.variables values) s) → Agree f (trace_of f (input_from f.lines values)) values k → values_at (run_words f values) (defined_names l) ≡ values_at (words_of f.variables values) (defined_names l)
line_agrees f values k (Input T x) w a at executed agree = input_agrees f values k x T w a at
line_agrees f values k (Pre p) w a at executed agree = refl
line_agrees f values k (Step s) w a at executed agree = step_agrees f values k s w a at (executed s at) agree
line_agrees f values k (Assert p) w a at executed agree = refl
line_agrees f values k (Assume p) w a at executed agree = refl
line_agrees f values k (Cut p) w a at executed agree = refl
line_agrees f values k (Post p) w a at executed agree = refl

-- one of numbers from n on
numbered : (S F : List Word) (n : ℕ) (xs : List ℕ) (v : ℕ) → values_at S (numbers_from n xs) ≡ values_at F (numbers_from n xs) → n ≤ v → v < n + length xs → (word_at S v).value ≡ (word_at F v).value
numbered S F n [] v e low high = absurd (omega arith)
numbered S F n (x ∷ xs) v e low high =
    let here : (word_at S n).value ≡ (word_at F n).value = first e in
    let rest : values_at S (numbers_from (n + 1) xs) ≡ values_at F (numbers_from (n + 1) xs) = others e in
    elim (cases_lt n v) [
      | inl h ↦ numbered S F (n + 1) xs v rest (omega (arith, h)) (omega (arith, high))
      | inr h ↦ let same : n ≡ v = omega (arith, h, low) in subst (λ m. (word_at S m).value ≡ (word_at F m).value) same here
    ]
  where
    first : {a b : ℤ} {xs ys : List ℤ} → a ∷ xs ≡ b ∷ ys → a ≡ b
    first e = cc

    others : {a b : ℤ} {xs ys : List ℤ} → a ∷ xs ≡ b ∷ ys → xs ≡ ys
    others e = cc

agree_more : (f : VersionedProgram) (values : List ℤ) (k : ℕ) (l : Line) → IsWellFormed f → AreValues f.variables values → slice_get f.lines k ≡ Some l → ((s : Instr) → slice_get f.lines k ≡ Some (Step s) → IsExecuted (words_of f.variables values) s) → Agree f (trace_of f (input_from f.lines values)) values k → Agree f (trace_of f (input_from f.lines values)) values (suc k)
agree_more f values k l w a at executed agree v less =
    let d = definitions_before f.lines k in
    let trace = trace_of f (input_from f.lines values) in
    let more : definitions_before f.lines (suc k) ≡ d + length (defined_names l) =
    ap (definitions_before f.lines) (sym (add-one k)) ∙ definitions_go f.lines k l at in
    elim (cases_lt v d) [
      | inl h ↦ agree v h
      | inr h ↦
          sym (word_value f.variables trace v (trace_values f (input_from f.lines values) w (values_fit f values w a)))
          ∙ numbered (run_words f values) (words_of f.variables values) d (defined_names l) v
          (subst (λ names. values_at (run_words f values) names ≡ values_at (words_of f.variables values) names) (w.defines k l at) (line_agrees f values k l w a at executed agree))
          h (omega (arith, less, more))
          ∙ word_value f.variables values v a
    ]

agrees : (p : VersionedProgram) (i : ℕ) (values : List ℤ) (k : ℕ) → IsWellFormed p → goal_place p.lines i < length p.lines → Assigns p (whole_fact p i) values → k ≤ goal_place p.lines i → Agree p (trace_of p (input_from p.lines values)) values k
agrees p i values zero w within has h = λ v less. absurd (omega (arith, less, definitions_begin p.lines))
agrees p i values (suc k) w within has h =
    let none : Line = Input (record { signed = false; width = 0 }) 0 in
    let at : slice_get p.lines k ≡ Some (get_or p.lines k none) = slice_get-get_or p.lines k none (omega (arith, h, within)) in
    agree_more p values k (get_or p.lines k none) w has.typed at
    (λ s e. assigned_step p i values k s has (omega (arith, h)) e)
    (agrees p i values k w within has (omega (arith, h)))

-- so each line up to the goal says the same
same_truth : (p : VersionedProgram) (a b : List ℤ) (k : ℕ) → IsWellFormed p → AreValues p.variables a → AreValues p.variables b → Agree p a b k → truth_of p a k ≡ truth_of p b k
unfolding truth_of
same_truth p a b k w s t agree = at (slice_get p.lines k) refl
  where
    at : (o : Option Line) → slice_get p.lines k ≡ o → truth_in (words_of p.variables a) o ≡ truth_in (words_of p.variables b) o
    at None e = refl
    at (Some l) e = line_local (words_of p.variables b) (words_of p.variables a) l (all_agree p a b k (used_names l) s t agree (w.reads k l e))

same_computed : (p : VersionedProgram) (a b : List ℤ) (k : ℕ) → IsWellFormed p → AreValues p.variables a → AreValues p.variables b → Agree p a b k → computed_of p a k ≡ computed_of p b k
unfolding computed_of
same_computed p a b k w s t agree = at (slice_get p.lines k) refl
  where
    at : (o : Option Line) → slice_get p.lines k ≡ o → computed_in (words_of p.variables a) o ≡ computed_in (words_of p.variables b) o
    at None e = refl
    at (Some l) e = line_computed_local (words_of p.variables b) (words_of p.variables a) l (all_agree p a b k (used_names l) s t agree (w.reads k l e))

pub whole_runs : (p : VersionedProgram) (i : ℕ) (values : List ℤ) → IsWellFormed p → has_goal p.lines i ≡ true → Assigns p (whole_fact p i) values → IsRunOf p (goal_place p.lines i) values
whole_runs p i values w goal has =
    let input = input_from p.lines values in
    let fits = values_fit p values w has.typed in
    let typed = trace_values p input w fits in
    let within = goal_place_below p.lines i goal in
    record {
      fits = fits;
      defined = agrees p i values (goal_place p.lines i) w within has (omega arith);
      truth = λ k h.
          sym (trace_truth p input k w fits)
          ∙ same_truth p (trace_of p input) values k w typed has.typed (agrees p i values k w within has h);
      computed = λ k h.
          sym (trace_computed p input k w fits)
          ∙ same_computed p (trace_of p input) values k w typed has.typed (agrees p i values k w within has h);
    }
