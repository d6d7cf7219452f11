-- Counts that stop at an end: what is cut off on the way does not change the result.
use Rattle.std.proofs.Common.{◌≡◌, ℕ, zero, suc, ◌+◌, ◌*◌, ◌≤◌, ◌<◌, ◌⊎◌, inl, inr, min, arith, ap, ◌∙◌}

-- a sum of counts that stop at the end
pub sum_saturates : (a b end : ℕ) → min (min a end + min b end) end ≡ min (a + b) end
sum_saturates a b end = omega arith

-- a count of n that a factor of at least one multiplies is at least n
pub product_at_least : (a b : ℕ) → 0 < b → a ≤ a * b
product_at_least a zero p = absurd (omega arith)
product_at_least a (suc b) p = omega arith

le_or_more : (a end : ℕ) → (a ≤ end) ⊎ (end < a)
le_or_more a end = grind arith

small : (a b end : ℕ) → a ≤ end → b ≤ end → min (min a end * min b end) end ≡ min (a * b) end
small a b end p q =
    let left : min a end ≡ a = omega arith in
    let right : min b end ≡ b = omega arith in
    ap (λ x. min (x * min b end) end) left ∙ ap (λ x. min (a * x) end) right

-- a product with the end itself as a factor
with_end : (a b end : ℕ) → end < b → min (a * end) end ≡ min (a * b) end
with_end zero b end q = omega arith
with_end (suc a) b end q = omega (arith, product_at_least end (suc a) (omega arith), product_at_least b (suc a) (omega arith))

second_large : (a b end : ℕ) → a ≤ end → end < b → min (min a end * min b end) end ≡ min (a * b) end
second_large a b end p q =
    let left : min a end ≡ a = omega arith in
    let right : min b end ≡ end = omega arith in
    ap (λ x. min (x * min b end) end) left ∙ ap (λ x. min (a * x) end) right ∙ with_end a b end q

-- two factors above the end
lower_factor : (a b end : ℕ) → end < a → end < b → min (end * b) end ≡ min (a * b) end
lower_factor a b end p q = omega (arith, product_at_least end b (omega arith), product_at_least a b (omega arith))

both_large : (a b end : ℕ) → end < a → end < b → min (end * end) end ≡ min (a * b) end
both_large a b end p q = with_end end b end q ∙ lower_factor a b end p q

first_large : (a b end : ℕ) → end < a → min (min a end * min b end) end ≡ min (a * b) end
first_large a zero end p =
    let none : min 0 end ≡ 0 = omega arith in
    ap (λ x. min (min a end * x) end) none ∙ omega arith
first_large a (suc b) end p = elim (le_or_more (suc b) end) [
  | inl q ↦
      let turned = second_large (suc b) a end q p in
      let one : min a end * min (suc b) end ≡ min (suc b) end * min a end = omega arith in
      let two : suc b * a ≡ a * suc b = omega arith in
      ap (λ x. min x end) one ∙ turned ∙ ap (λ x. min x end) two
  | inr q ↦
      let left : min a end ≡ end = omega arith in
      let right : min (suc b) end ≡ end = omega arith in
      ap (λ x. min (x * min (suc b) end) end) left ∙ ap (λ x. min (end * x) end) right ∙ both_large a (suc b) end p q
]

-- a product of counts that stop at the end
pub product_saturates : (a b end : ℕ) → min (min a end * min b end) end ≡ min (a * b) end
product_saturates a b end =
    elim (le_or_more a end) [
      | inl p ↦ elim (le_or_more b end) [
        | inl q ↦ small a b end p q
        | inr q ↦ second_large a b end p q
      ]
      | inr p ↦ first_large a b end p
    ]

-- a count is at its end exactly where the number is not below the end
pub saturated_from : (n end : ℕ) → end ≤ n → min n end ≡ end
saturated_from n end p = omega arith

pub below_end : (n end : ℕ) → min n end < end → min n end ≡ n
below_end n end p = omega arith
