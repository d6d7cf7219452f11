-- Powers, multiples and the greater of two of counts that stay at an end.
use Rattle.std.proofs.Common.{◌≡◌, ℕ, zero, suc, ◌+◌, ◌-◌, ◌*◌, ◌^◌, ◌<◌, ◌≤◌, ◌∙◌, ap, sym, arith, add-one, min, max}
use Rattle.std.proofs.Math.Nat.{pow-suc, pow-zero, pow-le-pow_right}
use Rattle.tcl_num.proofs.SaturatingCounts.{product_saturates}

-- a power of a count that stays at the end
pub power_saturates : (n k end : ℕ) → min (min n end ^ k) end ≡ min (n ^ k) end
power_saturates n zero end = ap (λ x. min x end) (pow-zero (min n end) ∙ sym (pow-zero n))
power_saturates n (suc k) end =
    ap (λ x. min x end) (pow-suc (min n end) k)
    ∙ sym (product_saturates (min n end ^ k) (min n end) end)
    ∙ ap (λ x. min (x * min (min n end) end) end) (power_saturates n k end)
    ∙ ap (λ x. min (min (n ^ k) end * x) end) same
    ∙ product_saturates (n ^ k) n end
    ∙ sym (ap (λ x. min x end) (pow-suc n k))
  where
    same : min (min n end) end ≡ min n end
    same = omega arith

-- the greater of two
pub greater_saturates : (a b end : ℕ) → max (min a end) (min b end) ≡ min (max a b) end
greater_saturates a b end = omega arith

-- a multiple of a count that stays at the end
pub multiple_saturates : (n k end : ℕ) → min (min n end * k) end ≡ min (n * k) end
multiple_saturates n k end =
    sym (product_saturates (min n end) k end) ∙ ap (λ x. min (x * min k end) end) same ∙ product_saturates n k end
  where
    same : min (min n end) end ≡ min n end
    same = omega arith

-- the power 0, and one factor more
pub power_begins : (n end : ℕ) → min end 1 ≡ min (n ^ 0) end
power_begins n end = omega (arith, pow-zero n)

pub power_grows : (n k p r end : ℕ) → p ≡ min (n ^ k) end → r ≡ min (p * n) end → r ≡ min (n ^ (k + 1)) end
power_grows n k p r end e f =
    f ∙ ap (λ x. min (x * n) end) e ∙ multiple_saturates (n ^ k) n end ∙ sym (ap (λ x. min x end) (ap (λ j. n ^ j) (add-one k) ∙ pow-suc n k))

-- 2 to a power below the end and from it on
pub two_below : (k : ℕ) → k < 126 → 2 ^ k ≡ min (2 ^ k) (2 ^ 126)
two_below k h = omega (arith, pow-le-pow_right {n = 2} (omega arith) {i = k} {j = 126} (omega arith))

pub two_from : (k : ℕ) → 126 ≤ k → 2 ^ 126 ≡ min (2 ^ k) (2 ^ 126)
two_from k h = omega (arith, pow-le-pow_right {n = 2} (omega arith) {i = 126} {j = k} h)

-- one less than such a power
pub less_below : (k : ℕ) → k ≤ 126 → 2 ^ k - 1 ≡ min (2 ^ k - 1) (2 ^ 126)
less_below k h = omega (arith, pow-le-pow_right {n = 2} (omega arith) {i = k} {j = 126} h)

pub less_from : (k : ℕ) → 126 < k → 2 ^ 126 ≡ min (2 ^ k - 1) (2 ^ 126)
less_from k h = omega (arith, pow-le-pow_right {n = 2} (omega arith) {i = 127} {j = k} h)
