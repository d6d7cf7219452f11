-- The inputs that are tried fit, and what is left of them after each line.
use Rattle.std.proofs.Common.{◌≡◌, ℕ, ◌+◌, ◌<◌, ◌≤◌, ap, arith, ℤ, pos, ◌-ℤ◌, ◌≤ℤ◌, ◌<ℤ◌, Bool, true, false, cond, nat_eq, List, [], ◌∷◌, length, drop, Option, Some, None}
use Rattle.std.specs.List.{slice_get, list_all, cons_option}
use Rattle.std.specs.Option.{IfSome}
use Rattle.std.proofs.lemmas.Bool.{and_parts}
use Rattle.std.proofs.lemmas.Int.{ints}
use Rattle.tcl_num.specs.Range.{least_value, values_end}
use Rattle.tcl_num.proofs.WrappedValues.{wrapped_in_range}
use Rattle.tcl_lang.specs.declared.ty.Ty.{Ty}
use Rattle.tcl_lang.specs.declared.pred.Line.{Line}
use Rattle.tcl_lang.specs.Types.{IsTy, InType, wrap_of, least_width}
use Rattle.tcl_lang.specs.Line.{taken_type}
use Rattle.tcl_lang.specs.Run.{Fits, taken_types}
use Rattle.tcl_lang.specs.Shape.{is_line}
use Rattle.tcl_exec.specs.Fitting.{taken_in}
use Rattle.tcl_exec.specs.Trial.{next_state, trial_value, trial_from}
use Rattle.tcl_exec.proofs.Fitting.{taken_words, types_given, types_end}
use Rattle.tcl_exec.proofs.Stepping.{zero_typed}

pick : (P : ℤ → Type 0) (b : Bool) (x y : ℤ) → P x → P y → P (cond b x y)
pick P true x y p q = p
pick P false x y p q = q

-- the ends of a type are values of it
greatest_typed : (T : Ty) → InType T (values_end T.signed T.width -ℤ pos 1)
greatest_typed T = at (least_value T.signed T.width) (values_end T.signed T.width) (zero_typed T).0 (zero_typed T).1
  where
    at : (a b : ℤ) → a ≤ℤ pos 0 → pos 0 <ℤ b → (a ≤ℤ (b -ℤ pos 1)) × ((b -ℤ pos 1) <ℤ b)
    at a b p q = (omega (arith, ints, p, q), omega (arith, ints, p, q))

least_typed : (T : Ty) → InType T (least_value T.signed T.width)
least_typed T = at (least_value T.signed T.width) (values_end T.signed T.width) (zero_typed T).0 (zero_typed T).1
  where
    at : (a b : ℤ) → a ≤ℤ pos 0 → pos 0 <ℤ b → (a ≤ℤ a) × (a <ℤ b)
    at a b p q = (omega (arith, ints, p, q), omega (arith, ints, p, q))

wrapped_typed : (T : Ty) (n : ℤ) → IsTy T → InType T (wrap_of T n)
wrapped_typed T n h = wrapped_in_range T.signed T.width n (positive T.signed T.width h.0)
  where
    positive : (s : Bool) (w : ℕ) → least_width s ≤ w → 0 < w
    positive true w p = omega (arith, p)
    positive false w p = omega (arith, p)

pub trial_typed : (k z : ℕ) (T : Ty) → IsTy T → InType T (trial_value k z T)
trial_typed k z T h =
    pick (InType T) (nat_eq k 0) _ _ (zero_typed T) (pick (InType T) (nat_eq k 1) _ _ (greatest_typed T) (pick (InType T) (nat_eq k 2) _ _ (least_typed T)
    (pick (InType T) (nat_eq k 3) _ _ (wrapped_typed T _ h) (pick (InType T) (nat_eq k 4) _ _ (wrapped_typed T _ h) (wrapped_typed T _ h)))))

-- one value for each type, in it
one_more : (k : ℕ) (o : Option Ty) (types : List Ty) → IfSome o IsTy → ((z : ℕ) → Fits types (trial_from k z types)) → (z : ℕ) → Fits (cons_option o types) (trial_from k z (cons_option o types))
one_more k None types i h z = h z
one_more k (Some T) types i h z = (trial_typed k (next_state z) T i, h (next_state z))

pub trial_fits : (k : ℕ) (lines : List Line) → list_all is_line lines ≡ true → (z : ℕ) → Fits (taken_types lines) (trial_from k z (taken_types lines))
trial_fits k [] a z = tt
trial_fits k (l ∷ lines) a z =
    let p = and_parts (is_line l) (list_all is_line lines) a in
    one_more k (taken_type l) (taken_types lines) (taken_words l p.0) (trial_fits k lines p.1) z

-- what is left after a line
pub trial_none : (k z : ℕ) (lines : List Line) (place : ℕ) → place < length lines → taken_in (slice_get lines place) ≡ None → trial_from k z (taken_types (drop place lines)) ≡ trial_from k z (taken_types (drop (place + 1) lines))
trial_none k z lines place h none = ap (λ ts. trial_from k z ts) (types_given lines place None h none)

pub trial_some : (k z : ℕ) (lines : List Line) (place : ℕ) (T : Ty) → place < length lines → taken_in (slice_get lines place) ≡ Some T → trial_from k z (taken_types (drop place lines)) ≡ trial_value k (next_state z) T ∷ trial_from k (next_state z) (taken_types (drop (place + 1) lines))
trial_some k z lines place T h some = ap (λ ts. trial_from k z ts) (types_given lines place (Some T) h some)

pub trial_end : (k z : ℕ) (lines : List Line) (place : ℕ) → length lines ≤ place → trial_from k z (taken_types (drop place lines)) ≡ []
trial_end k z lines place h = ap (λ ts. trial_from k z ts) (types_end lines place h)
