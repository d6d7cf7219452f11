-- The order of the integers: sums keep it, and so do products with a factor that is not negative.
use Rattle.std.proofs.Common.{◌≡◌, zero, suc, ◌+◌, ◌≤◌, ◌⊎◌, inl, inr, refl, ◌∙◌, arith, ℤ, pos, negsuc, ◌+ℤ◌, ◌-ℤ◌, ◌*ℤ◌, neg_ℤ, ◌≤ℤ◌, ◌<ℤ◌, unsigned_abs}
use Rattle.std.proofs.lemmas.Int.{ints, by_lt_z}
use Rattle.std.proofs.Math.Nat.{mul-le-mul_right}
use Rattle.tcl_num.proofs.IntegerRing.{int_mul_neg, int_mul_sub, int_sub_zero}

pub int_le_same : (a : ℤ) → a ≤ℤ a
int_le_same a = omega (arith, ints)

pub int_le_trans : (a b c : ℤ) → a ≤ℤ b → b ≤ℤ c → a ≤ℤ c
int_le_trans a b c p q = omega (arith, ints)

pub int_le_both : (a b : ℤ) → a ≤ℤ b → b ≤ℤ a → a ≡ b
int_le_both a b p q = omega (arith, ints)

pub int_lt_or_le : (a b : ℤ) → (a <ℤ b) ⊎ (b ≤ℤ a)
int_lt_or_le a b = by_lt_z a b inl inr

pub int_add_le : (a b c d : ℤ) → a ≤ℤ b → c ≤ℤ d → (a +ℤ c) ≤ℤ (b +ℤ d)
int_add_le a b c d p q = omega (arith, ints)

pub int_neg_le : (a b : ℤ) → a ≤ℤ b → neg_ℤ b ≤ℤ neg_ℤ a
int_neg_le a b p = omega (arith, ints)

-- a factor that is not negative keeps the order
pub int_mul_le_right : (a b c : ℤ) → a ≤ℤ b → pos 0 ≤ℤ c → (a *ℤ c) ≤ℤ (b *ℤ c)
int_mul_le_right (pos a) (pos b) (pos c) p q = let h : a ≤ b = omega (arith, ints, p) in omega (arith, ints, mul-le-mul_right c h)
int_mul_le_right (pos a) (negsuc b) (pos c) p q = absurd (omega (arith, ints, p))
int_mul_le_right (negsuc a) (pos b) (pos c) p q = omega (arith, ints)
int_mul_le_right (negsuc a) (negsuc b) (pos c) p q = let h : b ≤ a = omega (arith, ints, p) in omega (arith, ints, mul-le-mul_right c h)
int_mul_le_right a b (negsuc c) p q = absurd (omega (arith, ints, q))

-- a factor that is not positive turns it
pub int_mul_le_turned : (a b c : ℤ) → a ≤ℤ b → c ≤ℤ pos 0 → (b *ℤ c) ≤ℤ (a *ℤ c)
int_mul_le_turned a b c p q =
    let kept = int_mul_le_right a b (neg_ℤ c) p (omega (arith, ints, q)) in
    omega (arith, ints, kept, int_mul_neg a c, int_mul_neg b c)

-- the magnitude of a sum is at most the sum of the magnitudes
pub unsigned_abs_add : (a b : ℤ) → unsigned_abs (a +ℤ b) ≤ unsigned_abs a + unsigned_abs b
unsigned_abs_add a b = omega (arith, ints)

pub unsigned_abs_neg : (a : ℤ) → unsigned_abs (neg_ℤ a) ≡ unsigned_abs a
unsigned_abs_neg a = omega (arith, ints)

pub unsigned_abs_zero : (a : ℤ) → unsigned_abs a ≡ 0 → a ≡ pos 0
unsigned_abs_zero a e = omega (arith, ints)

-- a product is zero only where a factor is
pub int_mul_zero_factor : (a b : ℤ) → a *ℤ b ≡ pos 0 → (a ≡ pos 0) ⊎ (b ≡ pos 0)
int_mul_zero_factor (pos zero) b e = inl refl
int_mul_zero_factor (pos (suc a)) (pos zero) e = inr refl
int_mul_zero_factor (pos (suc a)) (pos (suc b)) e = absurd (omega (arith, ints, e))
int_mul_zero_factor (pos (suc a)) (negsuc b) e = absurd (omega (arith, ints, e))
int_mul_zero_factor (negsuc a) (pos zero) e = inr refl
int_mul_zero_factor (negsuc a) (pos (suc b)) e = absurd (omega (arith, ints, e))
int_mul_zero_factor (negsuc a) (negsuc b) e = absurd (omega (arith, ints, e))

-- a factor other than zero can be taken away
pub int_mul_cancel : (c a b : ℤ) → ¬ (c ≡ pos 0) → c *ℤ a ≡ c *ℤ b → a ≡ b
int_mul_cancel c a b n e =
    let product : c *ℤ (a -ℤ b) ≡ pos 0 = int_mul_sub c a b ∙ omega (arith, ints, e) in
    elim (int_mul_zero_factor c (a -ℤ b) product) [ inl z ↦ absurd (n z) | inr z ↦ int_sub_zero a b z ]
