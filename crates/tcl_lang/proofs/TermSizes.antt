-- The magnitude of a term's value is at most its size bound, in a store of words that are values of their types.
use Rattle.std.proofs.Common.{◌≡◌, ℕ, zero, suc, ◌^◌, ◌≤◌, ap, subst, arith, ℤ, neg_ℤ, unsigned_abs, Bool, true, false, List}
use Rattle.std.proofs.lemmas.Int.{ints, unsigned_abs-mul}
use Rattle.std.proofs.lemmas.Nat.{mul-le}
use Rattle.std.proofs.Math.Nat.{pow-suc, pow-zero}
use Rattle.tcl_num.specs.Range.{InRange}
use Rattle.tcl_num.proofs.IntegerOrder.{unsigned_abs_add, unsigned_abs_neg}
use Rattle.tcl_lang.specs.declared.ty.Word.{Word}
use Rattle.tcl_lang.specs.declared.term.Term.{Term, Term-F, fold-roll-Term, roll-Term, map-Term, ind-Term}
use Rattle.tcl_lang.specs.declared.term.Term.TheOpen as layer
use Rattle.tcl_lang.specs.Store.{word_at}
use Rattle.tcl_lang.specs.Term.{power_of, value_step, term_value}
use Rattle.tcl_lang.specs.Bound.{greatest_magnitude, size_step, size_in}
use Rattle.tcl_lang.specs.Execution.{HoldsValues}

-- the magnitude of a value of a type
magnitude_at : (s : Bool) (w : ℕ) (n : ℤ) → InRange s w n → unsigned_abs n ≤ greatest_magnitude (record { signed = s; width = w })
magnitude_at true w n h = omega (arith, ints, h.0, h.1)
magnitude_at false w n h = omega (arith, ints, h.0, h.1)

-- the magnitude of a power
power_magnitude : (n : ℤ) (m k : ℕ) → unsigned_abs n ≤ m → unsigned_abs (power_of n k) ≤ m ^ k
unfolding power_of
power_magnitude n m zero h = omega (arith, pow-zero m)
power_magnitude n m (suc k) h =
    omega (arith, unsigned_abs-mul n (power_of n k), mul-le (unsigned_abs n) (unsigned_abs (power_of n k)) m (m ^ k) h (power_magnitude n m k h), pow-suc m k)

abbrev IsBounded : List Word → Term → Type 0
IsBounded store t = unsigned_abs (term_value store t) ≤ size_in store t

abbrev Bounded : List Word → Type 0
Bounded store = (t : Term) × IsBounded store t

-- what the two folds give of a layer
at_layer : (store : List Word) (y : Term-F Term) (n : ℤ) (size : ℕ) → term_value store (roll-Term y) ≡ n → size_in store (roll-Term y) ≡ size → unsigned_abs n ≤ size → IsBounded store (roll-Term y)
at_layer store y n size e f h = omega (arith, ap unsigned_abs e, f, h)

bounded_step : (store : List Word) → HoldsValues store → (y : Term-F (Bounded store)) → IsBounded store (roll-Term (map-Term (Bounded store) Term (λ e. e.0) y))
bounded_step store v (layer.Var name) =
    at_layer store (layer.Var name) _ _ (fold-roll-Term ℤ (value_step store) (layer.Var name)) (fold-roll-Term ℕ (size_step (λ name. (word_at store name).ty)) (layer.Var name))
    (magnitude_at (word_at store name).ty.signed (word_at store name).ty.width (word_at store name).value (v name))
bounded_step store v (layer.Num n) =
    at_layer store (layer.Num n) _ _ (fold-roll-Term ℤ (value_step store) (layer.Num n)) (fold-roll-Term ℕ (size_step (λ name. (word_at store name).ty)) (layer.Num n)) (omega arith)
bounded_step store v (layer.Neg a) =
    at_layer store (layer.Neg a.0) _ _ (fold-roll-Term ℤ (value_step store) (layer.Neg a.0)) (fold-roll-Term ℕ (size_step (λ name. (word_at store name).ty)) (layer.Neg a.0))
    (omega (arith, a.1, unsigned_abs_neg (term_value store a.0)))
bounded_step store v (layer.Add a b) =
    at_layer store (layer.Add a.0 b.0) _ _ (fold-roll-Term ℤ (value_step store) (layer.Add a.0 b.0)) (fold-roll-Term ℕ (size_step (λ name. (word_at store name).ty)) (layer.Add a.0 b.0))
    (omega (arith, a.1, b.1, unsigned_abs_add (term_value store a.0) (term_value store b.0)))
bounded_step store v (layer.Sub a b) =
    at_layer store (layer.Sub a.0 b.0) _ _ (fold-roll-Term ℤ (value_step store) (layer.Sub a.0 b.0)) (fold-roll-Term ℕ (size_step (λ name. (word_at store name).ty)) (layer.Sub a.0 b.0))
    (omega (arith, a.1, b.1, unsigned_abs_add (term_value store a.0) (neg_ℤ (term_value store b.0)), unsigned_abs_neg (term_value store b.0)))
bounded_step store v (layer.Mul a b) =
    at_layer store (layer.Mul a.0 b.0) _ _ (fold-roll-Term ℤ (value_step store) (layer.Mul a.0 b.0)) (fold-roll-Term ℕ (size_step (λ name. (word_at store name).ty)) (layer.Mul a.0 b.0))
    (omega (arith, unsigned_abs-mul (term_value store a.0) (term_value store b.0), mul-le (unsigned_abs (term_value store a.0)) (unsigned_abs (term_value store b.0)) (size_in store a.0) (size_in store b.0) a.1 b.1))
bounded_step store v (layer.Pow a k) =
    at_layer store (layer.Pow a.0 k) _ _ (fold-roll-Term ℤ (value_step store) (layer.Pow a.0 k)) (fold-roll-Term ℕ (size_step (λ name. (word_at store name).ty)) (layer.Pow a.0 k))
    (power_magnitude (term_value store a.0) (size_in store a.0) k a.1)

pub term_bounded : (store : List Word) → HoldsValues store → (t : Term) → unsigned_abs (term_value store t) ≤ size_in store t
term_bounded store v = ind-Term (IsBounded store) (λ x y is. subst (λ z. IsBounded store (roll-Term z)) is (bounded_step store v y))
