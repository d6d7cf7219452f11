-- A value that is given to a variable is one of its type.
use Rattle.std.proofs.Common.{◌≡◌, ◌<◌, ◌≤◌, sym, subst, arith, ℕ, ℤ, pos, Bool, true, false, All, List, set}
use Rattle.std.proofs.Common.{Option, Some}
use Rattle.std.specs.List.{slice_get}
use Rattle.tcl_num.proofs.WrappedValues.{wrapped_in_range}
use Rattle.tcl_lang.specs.declared.variable.Variable.{Variable}
use Rattle.tcl_lang.specs.Types.{IsTy, InType, least_width}
use Rattle.tcl_lang.specs.Values.{AreValues}
use Rattle.tcl_enum.specs.Patterns.{value_with}
use Rattle.tcl_enum.proofs.Walks.{item_at, set_typed}

with_typed : (o : Option Variable) (n : ℕ) (x : Variable) → o ≡ Some x → IsTy x.ty → InType x.ty (value_with o n)
with_typed o n x e h =
    let wrapped = wrapped_in_range x.ty.signed x.ty.width (pos n) (positive x.ty.signed x.ty.width h.0) in
    subst (λ (p : Option Variable). InType x.ty (value_with p n)) (sym e) wrapped
  where
    positive : (s : Bool) (w : ℕ) → least_width s ≤ w → 0 < w
    positive true w p = omega (arith, p)
    positive false w p = omega (arith, p)

-- the values stay in their types where a variable is given one of its patterns
pub one_given : (vs : List Variable) (values : List ℤ) (v n : ℕ) → All (λ x. IsTy x.ty) vs → AreValues vs values
    → AreValues vs (set values v (value_with (slice_get vs v) n))
one_given vs values v n h a =
    set_typed vs values v _ a (λ x e. with_typed (slice_get vs v) n x e (item_at (λ y. IsTy y.ty) vs v x h e))
