-- Congruence is an equivalence that sums and products keep.
use Rattle.std.proofs.Common.{◌≡◌, ℕ, ◌<◌, ◌∙◌, ap, arith, ℤ, pos, ◌+ℤ◌, ◌-ℤ◌, ◌*ℤ◌, neg_ℤ}
use Rattle.std.specs.Int.{int_div_euclid, int_rem_euclid}
use Rattle.std.proofs.lemmas.Int.{ints}
use Rattle.tcl_num.specs.Congruence.{Congruent}
use Rattle.tcl_num.proofs.IntegerRing.{int_mul_assoc, int_mul_add, int_add_mul, int_mul_neg, int_mul_zero, int_mul_swap}
use Rattle.tcl_num.proofs.EuclideanDivision.{euclid_split, same_remainder}

pub congruent_same : (m a : ℤ) → Congruent m a a
congruent_same m a = (pos 0, omega (arith, ints, int_mul_zero m))

pub congruent_sym : (m a b : ℤ) → Congruent m a b → Congruent m b a
congruent_sym m a b (k, e) = (neg_ℤ k, omega (arith, ints, e, int_mul_neg m k))

pub congruent_trans : (m a b c : ℤ) → Congruent m a b → Congruent m b c → Congruent m a c
congruent_trans m a b c (k, e) (l, f) = (l +ℤ k, omega (arith, ints, e, f, int_mul_add m l k))

pub congruent_add : (m a b c d : ℤ) → Congruent m a b → Congruent m c d → Congruent m (a +ℤ c) (b +ℤ d)
congruent_add m a b c d (k, e) (l, f) = (k +ℤ l, omega (arith, ints, e, f, int_mul_add m k l))

pub congruent_neg : (m a b : ℤ) → Congruent m a b → Congruent m (neg_ℤ a) (neg_ℤ b)
congruent_neg m a b (k, e) = (neg_ℤ k, omega (arith, ints, e, int_mul_neg m k))

pub congruent_sub : (m a b c d : ℤ) → Congruent m a b → Congruent m c d → Congruent m (a -ℤ c) (b -ℤ d)
congruent_sub m a b c d p q = congruent_add m a b (neg_ℤ c) (neg_ℤ d) p (congruent_neg m c d q)

-- one factor of a product changes to a congruent one
pub congruent_mul_left : (m a b c : ℤ) → Congruent m a b → Congruent m (a *ℤ c) (b *ℤ c)
congruent_mul_left m a b c (k, e) =
    (k *ℤ c, ap (λ x. x *ℤ c) e ∙ int_add_mul b (m *ℤ k) c ∙ ap (λ x. b *ℤ c +ℤ x) (int_mul_assoc m k c))

pub congruent_mul_right : (m a b c : ℤ) → Congruent m a b → Congruent m (c *ℤ a) (c *ℤ b)
congruent_mul_right m a b c (k, e) =
    (c *ℤ k, ap (λ x. c *ℤ x) e ∙ int_mul_add c b (m *ℤ k) ∙ ap (λ x. c *ℤ b +ℤ x) (int_mul_swap c m k))

pub congruent_mul : (m a b c d : ℤ) → Congruent m a b → Congruent m c d → Congruent m (a *ℤ c) (b *ℤ d)
congruent_mul m a b c d p q =
    congruent_trans m (a *ℤ c) (b *ℤ c) (b *ℤ d) (congruent_mul_left m a b c p) (congruent_mul_right m c d b q)

-- a number is congruent to its remainder
pub congruent_remainder : (m : ℕ) (n : ℤ) → 0 < m → Congruent (pos m) n (int_rem_euclid n (pos m))
congruent_remainder m n p = (int_div_euclid n (pos m), euclid_split n m p)

-- congruent numbers have one remainder
pub remainder_congruent : (m : ℕ) (a b : ℤ) → 0 < m → Congruent (pos m) a b → int_rem_euclid a (pos m) ≡ int_rem_euclid b (pos m)
remainder_congruent m a b p (k, e) = same_remainder a b m k p e
