-- In a run of a well formed program no variable changes after its definition, so the store at the end has for each line the
-- words that the line read and wrote: each line says there what it says in its place, and each instruction is executed.
use Rattle.std.proofs.Common.{true, Bool, add-one, nat_le, nat_lt, ◌&&◌, ◌≡◌, ℕ, zero, suc, ◌+◌, ◌-◌, ◌<◌, ◌≤◌, refl, sym, ◌∙◌, ap, subst, arith, ℤ, pos, false, ◌||◌, nat_eq, List, [], ◌∷◌, length, take, get_or, filter_map, Option, Some, None}
use Rattle.std.specs.List.{slice_get, list_all, All}
use Rattle.std.proofs.lemmas.Bool.{and_from, lt-ltb}
use Rattle.std.proofs.lemmas.Bool.Decides.{nat_tests}
use Rattle.std.proofs.lemmas.List.{take_all}
use Rattle.std.proofs.lemmas.Option.{slice_get_within, slice_get-get_or, get_or_from_slice_get}
use Rattle.std.proofs.lemmas.List.Folds.{list_any_more}
use Rattle.tcl_lang.specs.declared.ty.Ty.{Ty}
use Rattle.tcl_lang.specs.declared.ty.Word.{Word}
use Rattle.tcl_lang.specs.declared.instr.Op.{Op}
use Rattle.tcl_lang.specs.declared.instr.Op.TheVariants.{Nondet}
use Rattle.tcl_lang.specs.declared.instr.Instr.{Instr}
use Rattle.tcl_lang.specs.declared.pred.Line.{Line}
use Rattle.tcl_lang.specs.declared.pred.Line.TheVariants.{Input, Pre, Step, Assert, Assume, Cut, Post}
use Rattle.tcl_lang.specs.declared.variable.Variable.{Variable}
use Rattle.tcl_lang.specs.Program.{VersionedProgram}
use Rattle.tcl_lang.specs.Store.{word_at}
use Rattle.tcl_lang.specs.Names.{name_of, defined_names, used_names}
use Rattle.tcl_lang.specs.Line.{values_of}
use Rattle.tcl_lang.specs.Results.{results_of}
use Rattle.tcl_lang.specs.Run.{Fits, taken_types, taken_before, store_at, operands_of}
use Rattle.tcl_lang.specs.Goal.{truth_at, truth_in}
use Rattle.tcl_lang.specs.Checked.{computed_in, computed_at}
use Rattle.tcl_lang.specs.Values.{types_of}
use Rattle.tcl_lang.specs.Versions.{numbers_from}
use Rattle.tcl_lang.specs.Defined.{is_among, is_defined_before}
use Rattle.tcl_lang.specs.Limit.{definitions_before}
use Rattle.tcl_lang.specs.Executed.{values_at, IsExecuted, IsExecutedAt}
use Rattle.tcl_lang.specs.Form.{IsWellFormed, end_store, AreTyped}
use Rattle.tcl_lang.proofs.TypedRuns.{runs_typed}
use Rattle.tcl_lang.proofs.Locality.{line_local, line_computed_local, values_local}
use Rattle.tcl_lang.proofs.RunSteps.{run_others, step_wrote}
use Rattle.tcl_lang.proofs.FormFacts.{definitions_begin, definitions_go, all_definitions}

-- numbers from n on are not below n
pub none_before : (n v : ℕ) (xs : List ℕ) → v < n → is_among (numbers_from n xs) v ≡ false
none_before n v [] h = refl
none_before n v (x ∷ xs) h = ap (λ b. b || is_among (numbers_from (n + 1) xs) v) (apart n v h) ∙ none_before (n + 1) v xs (omega arith)
  where
    apart : (n v : ℕ) → v < n → nat_eq n v ≡ false
    apart n v h = grind (arith, nat_tests)

line_there : (lines : List Line) (k : ℕ) → k < length lines → (l : Line) × (slice_get lines k ≡ Some l)
line_there lines k h = (get_or lines k (Input (record { signed = false; width = 0 }) 0), slice_get-get_or lines k (Input (record { signed = false; width = 0 }) 0) h)

pub definitions_grow : (lines : List Line) (j n : ℕ) → j + n ≤ length lines → definitions_before lines j ≤ definitions_before lines (j + n)
definitions_grow lines j zero h = let same : j + 0 ≡ j = omega arith in omega (arith, ap (definitions_before lines) same)
definitions_grow lines j (suc n) h =
    let same : j + suc n ≡ j + n + 1 = omega arith in
    let l = line_there lines (j + n) (omega arith) in
    omega (arith, ap (definitions_before lines) same, definitions_go lines (j + n) l.0 l.1, definitions_grow lines j n (omega arith))

keeps_more : (f : VersionedProgram) (input : List ℤ) (j n v : ℕ) → IsWellFormed f → j + n ≤ length f.lines → v < definitions_before f.lines j → word_at (store_at (length f.variables) f.lines input (j + n)) v ≡ word_at (store_at (length f.variables) f.lines input j) v
keeps_more f input j zero v w h less = let same : j + 0 ≡ j = omega arith in ap (λ k. word_at (store_at (length f.variables) f.lines input k) v) same
keeps_more f input j (suc n) v w h less =
    let same : j + suc n ≡ j + n + 1 = omega arith in
    let l = line_there f.lines (j + n) (omega arith) in
    let before : v < definitions_before f.lines (j + n) = omega (arith, less, definitions_grow f.lines j n (omega arith)) in
    let other : is_among (defined_names l.0) v ≡ false = ap (λ names. is_among names v) (w.defines (j + n) l.0 l.1) ∙ none_before (definitions_before f.lines (j + n)) v (defined_names l.0) before in
    ap (λ k. word_at (store_at (length f.variables) f.lines input k) v) same
    ∙ run_others (length f.variables) f.lines input (j + n) v l.0 l.1 other
    ∙ keeps_more f input j n v w (omega arith) less

-- the variables that are defined before line k are those of smaller numbers
first_or_later : (m v d : ℕ) → (nat_eq m v || (nat_le (m + 1) v && nat_lt v (m + 1 + d))) ≡ (nat_le m v && nat_lt v (m + suc d))
first_or_later m v d = grind (arith, nat_tests)

none_between : (m v : ℕ) → false ≡ (nat_le m v && nat_lt v (m + 0))
none_between m v = grind (arith, nat_tests)

numbers_in : (m v : ℕ) (xs : List ℕ) → is_among (numbers_from m xs) v ≡ (nat_le m v && nat_lt v (m + length xs))
numbers_in m v [] = none_between m v
numbers_in m v (x ∷ xs) = ap (λ b. nat_eq m v || b) (numbers_in (m + 1) v xs) ∙ first_or_later m v (length xs)

grown : (v m n d : ℕ) → n ≡ m + d → (nat_lt v m || (nat_le m v && nat_lt v (m + d))) ≡ nat_lt v n
grown v m n d h = grind (arith, nat_tests)

none_less : (v n : ℕ) → n ≡ 0 → false ≡ nat_lt v n
none_less v n h = grind (arith, nat_tests)

pub defined_at : (f : VersionedProgram) (k v : ℕ) → IsWellFormed f → k ≤ length f.lines → is_defined_before f.lines k v ≡ nat_lt v (definitions_before f.lines k)
defined_at f zero v w h = nothing f.lines ∙ none_less v (definitions_before f.lines 0) (definitions_begin f.lines)
  where
    nothing : (lines : List Line) → is_defined_before lines 0 v ≡ false
    nothing [] = refl
    nothing (l ∷ lines) = refl
defined_at f (suc k) v w h =
    let l = line_there f.lines k (omega arith) in
    let d = definitions_before f.lines k in
    let there : get_or f.lines k l.0 ≡ l.0 = get_or_from_slice_get f.lines k l.0 l.0 l.1 in
    ap (λ n. is_defined_before f.lines n v) (sym (add-one k))
    ∙ list_any_more (λ m. is_among (defined_names m) v) f.lines k l.0 (slice_get_within f.lines k l.0 l.1)
    ∙ ap (λ b. b || is_among (defined_names (get_or f.lines k l.0)) v) (defined_at f k v w (omega arith))
    ∙ ap (λ m. nat_lt v d || is_among (defined_names m) v) there
    ∙ ap (λ names. nat_lt v d || is_among names v) (w.defines k l.0 l.1)
    ∙ ap (λ b. nat_lt v d || b) (numbers_in d v (defined_names l.0))
    ∙ grown v d (definitions_before f.lines (suc k)) (length (defined_names l.0)) (ap (definitions_before f.lines) (sym (add-one k)) ∙ definitions_go f.lines k l.0 l.1)

-- so each variable that a line reads is defined before it
all_true : (p : ℕ → Bool) (xs : List ℕ) → ((k d : ℕ) → k < length xs → p (get_or xs k d) ≡ true) → list_all p xs ≡ true
all_true p [] h = refl
all_true p (x ∷ xs) h = and_from _ _ (h 0 x (omega arith)) (all_true p xs (λ k d less. h (suc k) d (omega arith)))

pub reads_before : (f : VersionedProgram) (k : ℕ) (l : Line) → IsWellFormed f → slice_get f.lines k ≡ Some l → list_all (is_defined_before f.lines k) (used_names l) ≡ true
reads_before f k l w at =
    all_true (is_defined_before f.lines k) (used_names l)
    (λ j d less. defined_at f k (get_or (used_names l) j d) w (omega (arith, slice_get_within f.lines k l at)) ∙ lt-ltb (get_or (used_names l) j d) (definitions_before f.lines k) (w.reads k l at j d less))

-- a variable that is defined before line k has at the end the word that it has there
pub keeps : (f : VersionedProgram) (input : List ℤ) (k v : ℕ) → IsWellFormed f → k ≤ length f.lines → v < definitions_before f.lines k → word_at (end_store f input) v ≡ word_at (store_at (length f.variables) f.lines input k) v
unfolding end_store
keeps f input k v w h less =
    let same : length f.lines ≡ k + (length f.lines - k) = omega arith in
    ap (λ m. word_at (store_at (length f.variables) f.lines input m) v) same ∙ keeps_more f input k (length f.lines - k) v w (omega arith) less

all_kept : (f : VersionedProgram) (input : List ℤ) (k : ℕ) (names : List ℕ) → IsWellFormed f → k ≤ length f.lines → All (λ v. v < definitions_before f.lines k) names → All (λ v. word_at (end_store f input) v ≡ word_at (store_at (length f.variables) f.lines input k) v) names
all_kept f input k names w h a j d less = keeps f input k (get_or names j d) w h (a j d less)

-- so each line says at the end what it says in its place, and as much of it can be computed
pub end_truth : (f : VersionedProgram) (input : List ℤ) (k : ℕ) → IsWellFormed f → truth_in (end_store f input) (slice_get f.lines k) ≡ truth_at (length f.variables) f.lines input k
unfolding truth_at
end_truth f input k w = at (slice_get f.lines k) refl
  where
    at : (o : Option Line) → slice_get f.lines k ≡ o → truth_in (end_store f input) o ≡ truth_in (store_at (length f.variables) f.lines input k) o
    at None e = refl
    at (Some l) e =
        line_local (store_at (length f.variables) f.lines input k) (end_store f input) l
        (all_kept f input k (used_names l) w (omega (arith, slice_get_within f.lines k l e)) (w.reads k l e))

pub end_computed : (f : VersionedProgram) (input : List ℤ) (k : ℕ) → IsWellFormed f → computed_in (end_store f input) (slice_get f.lines k) ≡ computed_at (length f.variables) f.lines input k
unfolding computed_at
end_computed f input k w = at (slice_get f.lines k) refl
  where
    at : (o : Option Line) → slice_get f.lines k ≡ o → computed_in (end_store f input) o ≡ computed_in (store_at (length f.variables) f.lines input k) o
    at None e = refl
    at (Some l) e =
        line_computed_local (store_at (length f.variables) f.lines input k) (end_store f input) l
        (all_kept f input k (used_names l) w (omega (arith, slice_get_within f.lines k l e)) (w.reads k l e))

-- the choice that an instruction took is its first result, where it takes one
pub same_choice : (op : Op) (T : Ty) (n : ℕ) (values : List ℤ) (c : ℤ) → results_of op T n (operands_of op values (get_or (results_of op T n (operands_of op values c)) 0 (pos 0))) ≡ results_of op T n (operands_of op values c)
same_choice Nondet T n values c = refl
same_choice _ T n values c = refl

values_kept : (E S : List Word) (names : List ℕ) → All (λ v. word_at E v ≡ word_at S v) names → values_at E names ≡ values_at S names
values_kept E S [] a = refl
values_kept E S (x ∷ names) a =
    ap (λ (u : Word). u.value ∷ values_at E names) (a 0 x (omega arith)) ∙ ap (λ ns. (word_at S x).value ∷ ns) (values_kept E S names (λ k d less. a (suc k) d (omega arith)))

numbers_within : (n m : ℕ) (xs : List ℕ) → n + length xs ≤ m → All (λ u. u < m) (numbers_from n xs)
numbers_within n m [] h k d less = absurd (omega arith)
numbers_within n m (x ∷ xs) h zero d less = omega arith
numbers_within n m (x ∷ xs) h (suc k) d less = numbers_within (n + 1) m xs (omega arith) k d (omega arith)

-- each instruction is executed at the end
step_executed : (f : VersionedProgram) (input : List ℤ) (k : ℕ) (i : Instr) → IsWellFormed f → Fits (taken_types f.lines) input → slice_get f.lines k ≡ Some (Step i) → IsExecuted (end_store f input) i
step_executed f input k i w fits at =
    let M = length f.variables in
    let E = end_store f input in
    let S = store_at M f.lines input k in
    let G = store_at M f.lines input (k + 1) in
    let c = get_or input (taken_before f.lines k) (pos 0) in
    let results = results_of i.op i.ty i.amount (operands_of i.op (values_of S i.args) c) in
    let within = slice_get_within f.lines k (Step i) at in
    let outs : All (λ v. v < definitions_before f.lines (k + 1)) i.outs =
    subst (λ names. All (λ v. v < definitions_before f.lines (k + 1)) names) (sym (w.defines k (Step i) at))
    (numbers_within (definitions_before f.lines k) (definitions_before f.lines (k + 1)) i.outs (omega (arith, definitions_go f.lines k (Step i) at))) in
    let written : values_at E i.outs ≡ results =
    values_kept E G i.outs (all_kept f input (k + 1) i.outs w (omega arith) outs) ∙ (step_wrote M f.lines input k i w.runnable fits at).values in
    let read : values_of E i.args ≡ values_of S i.args =
    values_local S E i.args (all_kept f input k (filter_map name_of i.args) w (omega arith) (w.reads k (Step i) at)) in
    written
    ∙ sym (
    ap (λ (ns : List ℤ). results_of i.op i.ty i.amount (operands_of i.op (values_of E i.args) (get_or ns 0 (pos 0)))) written
    ∙ ap (λ (vs : List ℤ). results_of i.op i.ty i.amount (operands_of i.op vs (get_or results 0 (pos 0)))) read
    ∙ same_choice i.op i.ty i.amount (values_of S i.args) c)

pub end_executed : (f : VersionedProgram) (input : List ℤ) (k : ℕ) → IsWellFormed f → Fits (taken_types f.lines) input → IsExecutedAt (end_store f input) (slice_get f.lines k)
end_executed f input k w fits = at (slice_get f.lines k) refl
  where
    at : (o : Option Line) → slice_get f.lines k ≡ o → IsExecutedAt (end_store f input) o
    at None e = tt
    at (Some (Input T x)) e = tt
    at (Some (Pre p)) e = tt
    at (Some (Step i)) e = step_executed f input k i w fits e
    at (Some (Assert p)) e = tt
    at (Some (Assume p)) e = tt
    at (Some (Cut p)) e = tt
    at (Some (Post p)) e = tt

-- at the end each variable holds a value of its type
types_there : (vs : List Variable) (u : ℕ) (x : Variable) → slice_get vs u ≡ Some x → slice_get (types_of vs) u ≡ Some x.ty
types_there [] u x e = absurd (cc)
types_there (v ∷ vs) zero x e = ap (λ (o : Option Variable). option_ty o) e
  where
    option_ty : Option Variable → Option Ty
    option_ty None = None
    option_ty (Some v) = Some v.ty
types_there (v ∷ vs) (suc u) x e = types_there vs u x e

pub end_typed : (f : VersionedProgram) (input : List ℤ) → IsWellFormed f → Fits (taken_types f.lines) input → AreTyped f.variables (end_store f input)
unfolding end_store
end_typed f input w fits u x e =
    let all : take (definitions_before f.lines (length f.lines)) f.variables ≡ f.variables = take_all (definitions_before f.lines (length f.lines)) f.variables (omega (arith, w.count, all_definitions f.lines)) in
    runs_typed (length f.variables) f.lines input (length f.lines) u x.ty w.runnable fits
    (w.types (length f.lines) u (omega arith) ∙ ap (λ vs. slice_get (types_of vs) u) all ∙ types_there f.variables u x e)
