-- The values of an assignment: each in its type, the used instructions executed, the free variables as they were given.
use Rattle.std.proofs.Common.{◌≡◌, ℕ, zero, suc, ◌<◌, ◌≤◌, refl, sym, ◌∙◌, ap, subst, arith, ℤ, pos, Bool, true, false, ◌||◌, nat_eq, List, [], ◌∷◌, length, set, All, Option, Some, None}
use Rattle.std.specs.List.{slice_get}
use Rattle.std.proofs.lemmas.Bool.{or_parts}
use Rattle.std.proofs.lemmas.List.{length-set}
use Rattle.std.proofs.lemmas.List.Concat.{flat_map-cons}
use Rattle.std.proofs.lemmas.List.Folds.{list_any-append}
use Rattle.std.proofs.lemmas.Option.{slice_get_within, get_or_from_slice_get}
use Rattle.tcl_num.proofs.WrappedValues.{wrapped_in_range}
use Rattle.tcl_lang.specs.declared.pred.Line.{Line}
use Rattle.tcl_lang.specs.declared.pred.Line.TheVariants.{Input, Pre, Step, Assert, Assume, Cut, Post}
use Rattle.tcl_lang.specs.declared.variable.Variable.{Variable}
use Rattle.tcl_lang.specs.Program.{VersionedProgram}
use Rattle.tcl_lang.specs.Types.{IsTy, InType, least_width}
use Rattle.tcl_lang.specs.Values.{value_at, AreValues, recomputed_at, step_values}
use Rattle.tcl_lang.specs.Defined.{is_among}
use Rattle.tcl_lang.specs.Form.{IsWellFormed}
use Rattle.tcl_lang.proofs.ValueRuns.{step_others}
use Rattle.tcl_exec.proofs.Stepping.{stays_typed}
use Rattle.tcl_goals.specs.Free.{computed_in, computed_variables}
use Rattle.tcl_enum.specs.Patterns.{value_with, values_numbered, given, recomputed_all}
use Rattle.tcl_enum.proofs.Opcodes.{kept}

-- what is said of every item is said of an item
pub item_at : {X : Type 0} (P : X → Type 0) (xs : List X) (k : ℕ) (x : X) → All P xs → slice_get xs k ≡ Some x → P x
item_at P xs k x a e = subst P (get_or_from_slice_get xs k x x e) (a k x (slice_get_within xs k x e))

-- one value more, in its type
pub set_typed : (vs : List Variable) (values : List ℤ) (v : ℕ) (n : ℤ) → AreValues vs values → ((x : Variable) → slice_get vs v ≡ Some x → InType x.ty n) → AreValues vs (set values v n)
set_typed [] [] v n a i = tt
set_typed [] (m ∷ values) v n a i = absurd a
set_typed (x ∷ vs) [] v n a i = absurd a
set_typed (x ∷ vs) (m ∷ values) zero n a i = (i x refl, a.1)
set_typed (x ∷ vs) (m ∷ values) (suc v) n a i = (a.0, set_typed vs values v n a.1 i)

with_typed : (o : Option Variable) (n : ℕ) (x : Variable) → o ≡ Some x → IsTy x.ty → InType x.ty (value_with o n)
with_typed o n x e h = subst (λ (p : Option Variable). InType x.ty (value_with p n)) (sym e) (wrapped_in_range x.ty.signed x.ty.width (pos n) (positive x.ty.signed x.ty.width h.0))
  where
    positive : (s : Bool) (w : ℕ) → least_width s ≤ w → 0 < w
    positive true w p = omega (arith, p)
    positive false w p = omega (arith, p)

pub given_typed : (vs : List Variable) (xs : List ℕ) (n : ℕ) (values : List ℤ) → All (λ x. IsTy x.ty) vs → AreValues vs values → AreValues vs (given (values_numbered vs xs n) values)
unfolding values_numbered
given_typed vs [] n values h a = a
given_typed vs (v ∷ xs) n values h a =
    set_typed vs (given (values_numbered vs xs n) values) v _ (given_typed vs xs n values h a)
    (λ x e. with_typed (slice_get vs v) _ x e (item_at (λ y. IsTy y.ty) vs v x h e))

pub given_count : (vs : List Variable) (xs : List ℕ) (n : ℕ) (values : List ℤ) → length (given (values_numbered vs xs n) values) ≡ length values
unfolding values_numbered
given_count vs [] n values = refl
given_count vs (v ∷ xs) n values = length-set (given (values_numbered vs xs n) values) v _ ∙ given_count vs xs n values

pub recomputed_all_typed : (f : VersionedProgram) (uses : List ℕ) (values : List ℤ) → IsWellFormed f → AreValues f.variables values → AreValues f.variables (recomputed_all f.lines uses values)
recomputed_all_typed f [] values w a = a
recomputed_all_typed f (k ∷ uses) values w a = recomputed_all_typed f uses (recomputed_at values (slice_get f.lines k)) w (stays_typed f values k w a)

-- a variable that no instruction computes stays
line_kept : (l : Line) (values : List ℤ) (v : ℕ) → is_among (computed_in (Some l)) v ≡ false → value_at (recomputed_at values (Some l)) v ≡ value_at values v
line_kept (Input T u) values v e = refl
line_kept (Pre p) values v e = refl
line_kept (Step i) values v e = kept i.op i.outs v values (step_values values i (pos 0)) e (step_others values i (pos 0) v)
line_kept (Assert p) values v e = refl
line_kept (Assume p) values v e = refl
line_kept (Cut p) values v e = refl
line_kept (Post p) values v e = refl

pub one_kept : (o : Option Line) (values : List ℤ) (v : ℕ) → is_among (computed_in o) v ≡ false → value_at (recomputed_at values o) v ≡ value_at values v
one_kept None values v e = refl
one_kept (Some l) values v e = line_kept l values v e

pub all_kept : (lines : List Line) (uses : List ℕ) (values : List ℤ) (v : ℕ) → is_among (computed_variables lines uses) v ≡ false → value_at (recomputed_all lines uses values) v ≡ value_at values v
all_kept lines [] values v e = refl
all_kept lines (k ∷ uses) values v e =
    let here = computed_in (slice_get lines k) in
    let rest = computed_variables lines uses in
    let both : (is_among here v || is_among rest v) ≡ false =
    sym (ap (λ vs. is_among vs v) (flat_map-cons (λ j. computed_in (slice_get lines j)) k uses) ∙ list_any-append (λ u. nat_eq u v) here rest) ∙ e in
    let parts = or_parts (is_among here v) (is_among rest v) both in
    all_kept lines uses (recomputed_at values (slice_get lines k)) v parts.1 ∙ one_kept (slice_get lines k) values v parts.0
