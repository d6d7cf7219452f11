-- The bits that an algebraic line fixes: `x = c` fixes all bits of x, and `x = c mod 2 ^ k` its lowest k bits, where x is a
-- variable and c a number or a negated number. Every other algebraic line fixes none.
use Rattle.std.specs.Prelude.{◌≡◌, true, ℕ, ◌/◌, ◌%◌, ◌^◌, min, nat_lt, ◌==◌, ℤ, pos, neg_ℤ, Bool, ◌&&◌, if◌then◌else◌, List, [], ◌∷◌, map, slice_get, Option, Some, None}
use Rattle.std.specs.Ordering.{int_eq}
use Rattle.tcl_lang.specs.declared.ty.Ty.{Ty}
use Rattle.tcl_lang.specs.declared.term.Term.{Term, Term-F, fold-Term}
use Rattle.tcl_lang.specs.declared.term.Term.TheOpen as layer
use Rattle.tcl_lang.specs.declared.term.Part.{Part}
use Rattle.tcl_lang.specs.declared.term.AlgPred.{AlgPred}
use Rattle.tcl_lang.specs.declared.variable.Variable.{Variable}
use Rattle.tcl_lang.specs.declared.pred.Pred.{Pred}
use Rattle.tcl_lang.specs.declared.pred.Pred.TheVariants.{Alg}
use Rattle.tcl_lang.specs.Shape.{is_term}
use Rattle.tcl_lang.specs.Types.{is_in_type}
use Rattle.tcl_lang.specs.Store.{pattern_of}
use Rattle.tcl_lang.specs.Modulus.{modulus_value}
use Rattle.tcl_goals.specs.declared.fact.BitLit.{BitLit}
use Rattle.tcl_goals.specs.Numbers.{numbers_below, those_below}

-- the right side of an equation has the shape of a term
abbrev pub HasTerm : Option Pred → Type 0
HasTerm (Some (Alg p)) = is_term p.right ≡ true
HasTerm _ = Unit {0}

-- what a term is: a variable, a number, a negated number, or something else
pub data Leaf : Type 0 where
  variable : ℕ → Leaf
  number : ℤ → Leaf
  negated : ℤ → Leaf
  other : Leaf

abbrev pub negated_leaf : Leaf → Leaf
negated_leaf (number n) = negated n
negated_leaf _ = other

abbrev pub leaf_step : Term-F Leaf → Leaf
leaf_step (layer.Var v) = variable v
leaf_step (layer.Num n) = number n
leaf_step (layer.Neg t) = negated_leaf t
leaf_step _ = other

abbrev pub leaf_of : Term → Leaf
leaf_of t = fold-Term Leaf leaf_step t

-- the integer that a number or a negated number is
abbrev pub integer_of : Leaf → Option ℤ
integer_of (number n) = Some n
integer_of (negated n) = Some (neg_ℤ n)
integer_of _ = None

abbrev pub variable_of : Leaf → Option ℕ
variable_of (variable v) = Some v
variable_of _ = None

-- the exponents k from 1 with 2 ^ k = n; the modulus of a line is below 2 ^ 1026
abbrev pub is_exponent_of : ℤ → ℕ → Bool
is_exponent_of n k = nat_lt 0 k && int_eq n (pos (2 ^ k))

abbrev pub exponents_of : ℤ → List ℕ
exponents_of n = those_below (is_exponent_of n) 1026

-- the exponent, 0 where there is none
abbrev pub first_exponent : List ℕ → ℕ
first_exponent [] = 0
first_exponent (k ∷ ks) = k

unfoldable pub exponent_of : ℤ → ℕ
exponent_of n = first_exponent (exponents_of n)

-- how many of the lowest bits of a variable of type T the congruence to c fixes; without a modulus all, where c is in T
abbrev pub fixed_count : Ty → ℤ → Option (List Part) → ℕ
fixed_count T c None = if is_in_type T c then T.width else 0
fixed_count T c (Some m) = min T.width (exponent_of (modulus_value m))

-- bit j of the two's-complement pattern of c
abbrev pub pattern_bit : Ty → ℤ → ℕ → Bool
pattern_bit T c j = pattern_of T.width c / 2 ^ j % 2 == 1

-- the first bits of variable v, lowest first, as those of c
abbrev pub bits_like : ℕ → Ty → ℤ → ℕ → List BitLit
bits_like v T c count = map (λ j. record { var = v; bit = j; value = pattern_bit T c j }) (numbers_below count)

abbrev pub fixed_in : Option Variable → ℕ → ℤ → Option (List Part) → List BitLit
fixed_in None v c m = []
fixed_in (Some x) v c m = bits_like v x.ty c (fixed_count x.ty c m)

abbrev pub fixed_by : List Variable → Option ℕ → Option ℤ → Option (List Part) → List BitLit
fixed_by variables (Some v) (Some c) m = fixed_in (slice_get variables v) v c m
fixed_by variables _ _ m = []

-- the bits that an algebraic predicate fixes
unfoldable pub fixed_bits_of : List Variable → AlgPred → List BitLit
fixed_bits_of variables p =
    fixed_by variables (variable_of (leaf_of p.left)) (integer_of (leaf_of p.right)) p.modulus
