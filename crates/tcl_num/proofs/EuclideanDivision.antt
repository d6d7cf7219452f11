-- Division with a remainder from 0 up: it splits a number, its remainder is in range, and the two are the only such.
use Rattle.std.proofs.Common.{◌≡◌, ℕ, zero, suc, ◌-◌, ◌*◌, ◌/◌, ◌%◌, ◌<◌, refl, sym, ◌∙◌, ap, arith, ℤ, pos, negsuc, ◌+ℤ◌, ◌-ℤ◌, ◌*ℤ◌, neg_ℤ, ◌≤ℤ◌, ◌<ℤ◌}
use Rattle.std.specs.Int.{int_div_euclid, int_rem_euclid}
use Rattle.std.proofs.lemmas.Int.{ints}
use Rattle.std.proofs.lemmas.Nat.{div-add-mod', mod_below}
use borrow.Author.Differences.{same_in, same_out, sum_is_lem, neg_is, product_is}
use Rattle.tcl_num.proofs.IntegerRing.{int_mul_sub}

-- a number is its remainder and m times its quotient
pub euclid_split : (z : ℤ) (m : ℕ) → 0 < m → z ≡ int_rem_euclid z (pos m) +ℤ pos m *ℤ int_div_euclid z (pos m)
euclid_split (pos a) m p = omega (arith, ints, div-add-mod' a m)
euclid_split (negsuc a) m p = omega (arith, ints, div-add-mod' a m, mod_below a m p)

-- the remainder is a natural number below m
pub euclid_range : (z : ℤ) (m : ℕ) → 0 < m → (r : ℕ) × (r < m) × (int_rem_euclid z (pos m) ≡ pos r)
euclid_range (pos a) m p = (a % m, mod_below a m p, refl)
euclid_range (negsuc a) m p = (m - 1 - a % m, omega arith, refl)

pub remainder_least : (z : ℤ) (m : ℕ) → 0 < m → pos 0 ≤ℤ int_rem_euclid z (pos m)
remainder_least z m p = let r = euclid_range z m p in omega (arith, ints, r.2)

pub remainder_below : (z : ℤ) (m : ℕ) → 0 < m → int_rem_euclid z (pos m) <ℤ pos m
remainder_below z m p = let r = euclid_range z m p in omega (arith, ints, r.1, r.2)

-- two numbers below m that differ by a multiple of m are equal
pub residue_unique : (r s m : ℕ) (j : ℤ) → r < m → s < m → pos r ≡ pos s +ℤ pos m *ℤ j → r ≡ s
residue_unique r s m (pos zero) p q e = omega (arith, ints)
residue_unique r s m (pos (suc n)) p q e = absurd (omega (arith, ints))
residue_unique r s m (negsuc n) p q e = absurd (omega (arith, ints))

-- a multiple of a positive number is zero only at zero
pub multiple_zero : (m : ℕ) (j : ℤ) → 0 < m → pos m *ℤ j ≡ pos 0 → j ≡ pos 0
multiple_zero m (pos zero) p e = refl
multiple_zero m (pos (suc n)) p e = absurd (omega (arith, ints))
multiple_zero m (negsuc n) p e = absurd (omega (arith, ints))

-- numbers that differ by a multiple of m have one remainder
pub same_remainder : (z y : ℤ) (m : ℕ) (k : ℤ) → 0 < m → z ≡ y +ℤ pos m *ℤ k → int_rem_euclid z (pos m) ≡ int_rem_euclid y (pos m)
same_remainder z y m k p e =
    let a = euclid_range z m p in let b = euclid_range y m p in
    let i = int_div_euclid z (pos m) in let j = int_div_euclid y (pos m) in
    let za = euclid_split z m p ∙ ap (λ x. x +ℤ pos m *ℤ i) a.2 in
    let yb = euclid_split y m p ∙ ap (λ x. x +ℤ pos m *ℤ j) b.2 in
    let d = ap (λ x. m * x) (sum_is_lem j k) in let f = ap (λ x. m * x) (sum_is_lem (j +ℤ k) (neg_ℤ i)) in
    let g0 = ap (λ x. m * x) (neg_is i).0 in let g1 = ap (λ x. m * x) (neg_is i).1 in
    let far : pos a.0 ≡ pos b.0 +ℤ pos m *ℤ (j +ℤ k -ℤ i) = omega (arith, same_in, same_out, sum_is_lem, product_is, za, yb, e) in
    a.2 ∙ ap pos (residue_unique a.0 b.0 m (j +ℤ k -ℤ i) a.1 b.1 far) ∙ sym b.2

-- the remainder and the quotient are the only numbers that split z so
pub euclid_unique : (z : ℤ) (m r : ℕ) (q : ℤ) → r < m → z ≡ pos r +ℤ pos m *ℤ q → (int_rem_euclid z (pos m) ≡ pos r) × (int_div_euclid z (pos m) ≡ q)
euclid_unique z m r q h e =
    let p : 0 < m = omega arith in
    let a = euclid_range z m p in
    let i = int_div_euclid z (pos m) in
    let whole = euclid_split z m p ∙ ap (λ x. x +ℤ pos m *ℤ i) a.2 in
    let apart = int_mul_sub (pos m) q i in
    let far : pos a.0 ≡ pos r +ℤ pos m *ℤ (q -ℤ i) = omega (arith, ints, whole, e, apart) in
    let one = residue_unique a.0 r m (q -ℤ i) a.1 h far in
    let none : pos m *ℤ (q -ℤ i) ≡ pos 0 = omega (arith, ints, far, one) in
    let zero_apart = multiple_zero m (q -ℤ i) p none in
    (a.2 ∙ ap pos one, omega (arith, ints, zero_apart))

-- a natural number below m is its own remainder
pub remainder_small : (r m : ℕ) → r < m → int_rem_euclid (pos r) (pos m) ≡ pos r
remainder_small r m h = (euclid_unique (pos r) m r (pos 0) h (omega (arith, ints))).0

-- floor division of natural numbers is the division of natural numbers
pub euclid_natural : (a m : ℕ) → (int_div_euclid (pos a) (pos m) ≡ pos (a / m)) × (int_rem_euclid (pos a) (pos m) ≡ pos (a % m))
euclid_natural a m = (refl, refl)
