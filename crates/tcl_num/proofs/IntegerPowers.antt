-- Powers of an integer: the next power is one factor more, and congruent numbers have congruent powers.
use Rattle.std.proofs.Common.{◌≡◌, ℕ, zero, suc, ◌+◌, ◌*◌, ◌%◌, ◌^◌, ◌==◌, refl, sym, ◌∙◌, ap, arith, ℤ, pos, negsuc, ◌+ℤ◌, ◌*ℤ◌, neg_ℤ, Bool, true, false, cond}
use Rattle.std.specs.Int.{int_pow}
use Rattle.std.proofs.lemmas.Int.{ints}
use Rattle.std.proofs.Math.Nat.{pow-suc, pow-zero}
use Rattle.tcl_num.specs.Congruence.{Congruent}
use Rattle.tcl_num.proofs.IntegerRing.{int_mul_assoc, int_one_mul, int_mul_one, int_mul_neg}
use Rattle.tcl_num.proofs.Congruences.{congruent_same, congruent_mul}

pub int_pow_zero : (z : ℤ) → int_pow z 0 ≡ pos 1
int_pow_zero (pos a) = ap pos (pow-zero a)
int_pow_zero (negsuc a) = ap pos (pow-zero (suc a))

clash : true ≡ false → ⊥
clash e = cc

-- the sign of a power of a negative number changes with each factor
sign_turns : (t u : Bool) (a n m : ℕ) → (t ≡ true → u ≡ false) → (t ≡ false → u ≡ true) → m ≡ n * suc a → cond u (pos m) (neg_ℤ (pos m)) ≡ negsuc a *ℤ cond t (pos n) (neg_ℤ (pos n))
sign_turns true true a n m p q e = absurd (clash (p refl))
sign_turns true false a n m p q e = omega (arith, ints, e)
sign_turns false true a n m p q e = omega (arith, ints, e, int_mul_neg (negsuc a) (pos n))
sign_turns false false a n m p q e = absurd (clash (sym (q refl)))

pub int_pow_suc : (z : ℤ) (e : ℕ) → int_pow z (suc e) ≡ z *ℤ int_pow z e
int_pow_suc (pos a) e = omega (arith, ints, pow-suc a e)
int_pow_suc (negsuc a) e = sign_turns (e % 2 == 0) (suc e % 2 == 0) a (suc a ^ e) (suc a ^ suc e) (grind arith) (grind arith) (pow-suc (suc a) e)

pub int_pow_one : (z : ℤ) → int_pow z 1 ≡ z
int_pow_one z = int_pow_suc z 0 ∙ ap (λ x. z *ℤ x) (int_pow_zero z) ∙ int_mul_one z

-- the factors of a power may be counted in two parts
pub int_pow_add : (z : ℤ) (i j : ℕ) → int_pow z (i + j) ≡ int_pow z i *ℤ int_pow z j
int_pow_add z zero j =
    let none : 0 + j ≡ j = omega arith in
    ap (int_pow z) none ∙ sym (ap (λ x. x *ℤ int_pow z j) (int_pow_zero z) ∙ int_one_mul (int_pow z j))
int_pow_add z (suc i) j =
    let one : suc i + j ≡ suc (i + j) = omega arith in
    ap (int_pow z) one
    ∙ int_pow_suc z (i + j)
    ∙ ap (λ x. z *ℤ x) (int_pow_add z i j)
    ∙ sym (int_mul_assoc z (int_pow z i) (int_pow z j))
    ∙ ap (λ x. x *ℤ int_pow z j) (sym (int_pow_suc z i))

pow_zero_congruent : (m a b : ℤ) → Congruent m (int_pow a 0) (int_pow b 0)
pow_zero_congruent m a b =
    let same = congruent_same m (pos 1) in
    (same.0, int_pow_zero a ∙ same.1 ∙ ap (λ x. x +ℤ m *ℤ same.0) (sym (int_pow_zero b)))

-- congruent numbers have congruent powers
pub congruent_pow : (m a b : ℤ) (e : ℕ) → Congruent m a b → Congruent m (int_pow a e) (int_pow b e)
congruent_pow m a b zero c = pow_zero_congruent m a b
congruent_pow m a b (suc e) c =
    let product = congruent_mul m a b (int_pow a e) (int_pow b e) c (congruent_pow m a b e c) in
    (product.0, int_pow_suc a e ∙ product.1 ∙ ap (λ x. x +ℤ m *ℤ product.0) (sym (int_pow_suc b e)))
