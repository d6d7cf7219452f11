-- The wrapped value of an integer at a type: it is one, and the only one; a value of the type is its own.
use Rattle.std.proofs.Common.{◌≡◌, ℕ, ◌<◌, ◌≤◌, ◌^◌, arith, ℤ, pos, Bool, true, false}
use Rattle.tcl_num.proofs.Congruences.{congruent_sym}
use Rattle.tcl_num.proofs.WrappedValues.{wrapped_in_range, wrapped_congruent, wrapped_only, wrapped_fixed}
use Rattle.tcl_lang.specs.declared.ty.Ty.{Ty}
use Rattle.tcl_lang.specs.Types.{IsTy, InType, IsWrap, wrap_of, least_width}

some_width : (signed : Bool) (w : ℕ) → least_width signed ≤ w → 0 < w
some_width true w h = omega arith
some_width false w h = omega arith

-- a type has at least one bit
pub type_width : (T : Ty) → IsTy T → 0 < T.width
type_width T t = some_width T.signed T.width t.0

pub wrap_in_type : (T : Ty) (n : ℤ) → IsTy T → InType T (wrap_of T n)
wrap_in_type T n t = wrapped_in_range T.signed T.width n (type_width T t)

pub wrap_is_wrap : (T : Ty) (n : ℤ) → IsTy T → IsWrap T n (wrap_of T n)
wrap_is_wrap T n t = record {
  in_type = wrap_in_type T n t;
  congruent = congruent_sym (pos (2 ^ T.width)) n (wrap_of T n) (wrapped_congruent T.signed T.width n);
}

pub wrap_only : (T : Ty) (n v : ℤ) → IsTy T → IsWrap T n v → v ≡ wrap_of T n
wrap_only T n v t w =
    wrapped_only T.signed T.width n v (type_width T t) w.in_type (congruent_sym (pos (2 ^ T.width)) v n w.congruent)

pub wrap_fixed : (T : Ty) (v : ℤ) → IsTy T → InType T v → wrap_of T v ≡ v
wrap_fixed T v t h = wrapped_fixed T.signed T.width v (type_width T t) h
