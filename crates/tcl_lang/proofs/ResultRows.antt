-- Which results the equations of a row fix, family by family: wrapped values, sums with a carry, differences with a
-- borrow, high and low parts, bit patterns and choices.
use Rattle.std.proofs.Common.{◌≡◌, ◌↔◌, ◌⊎◌, inl, inr, ℕ, zero, suc, ◌+◌, ◌-◌, ◌^◌, ◌<◌, ◌≤◌, refl, sym, ◌∙◌, ap, subst, arith, ℤ, pos, negsuc, neg_ℤ, ◌+ℤ◌, ◌-ℤ◌, ◌*ℤ◌, ◌≤ℤ◌, ◌<ℤ◌, unsigned_abs, Bool, true, false, not, cond, List, [], ◌∷◌, length, nat_eq}
use Rattle.std.specs.Int.{int_div_euclid, int_rem_euclid}
use Rattle.std.proofs.lemmas.Int.{ints}
use Rattle.std.proofs.lemmas.Nat.{pow_pos}
use Rattle.tcl_num.specs.Congruence.{Congruent}
use Rattle.tcl_num.specs.Range.{InRange}
use Rattle.tcl_num.proofs.IntegerRing.{int_mul_neg, int_neg_neg}
use Rattle.tcl_num.proofs.EuclideanDivision.{euclid_split, euclid_range, euclid_unique, remainder_small}
use Rattle.tcl_num.proofs.Congruences.{congruent_remainder, remainder_congruent}
use Rattle.tcl_num.proofs.WrappedValues.{wrapped_congruent}
use Rattle.tcl_lang.specs.declared.ty.Ty.{Ty}
use Rattle.tcl_lang.specs.Types.{IsTy, IsWrap, wrap_of}
use Rattle.tcl_lang.specs.Store.{pattern_of}
use Rattle.tcl_lang.specs.Instruction.{IsBit, IsSumWithCarry, IsDifferenceWithBorrow, IsSplit, HasPattern, IsChoice, nth}
use Rattle.tcl_lang.specs.Results.{parts_of, borrow_of}
use Rattle.tcl_lang.proofs.WrappedWords.{wrap_is_wrap, wrap_only, wrap_in_type}

-- lists of one and of two results
one_forward : (results : List ℤ) (v : ℤ) → length results ≡ 1 → nth results 0 ≡ v → results ≡ v ∷ []
one_forward [] v l e = absurd (omega arith)
one_forward (x ∷ []) v l e = ap (λ y. y ∷ []) e
one_forward (x ∷ y ∷ ys) v l e = absurd (omega arith)

two_forward : (results : List ℤ) (v u : ℤ) → length results ≡ 2 → nth results 0 ≡ v → nth results 1 ≡ u → results ≡ v ∷ u ∷ []
two_forward [] v u l e f = absurd (omega arith)
two_forward (x ∷ []) v u l e f = absurd (omega arith)
two_forward (x ∷ y ∷ []) v u l e f = cc
two_forward (x ∷ y ∷ z ∷ zs) v u l e f = absurd (omega arith)

-- one result, which a fact fixes
pub one_result : (R : ℤ → Type 0) (results : List ℤ) (v : ℤ) → ((x : ℤ) → R x → x ≡ v) → R v → ((length results ≡ 1) × R (nth results 0)) ↔ (results ≡ v ∷ [])
one_result R results v only holds =
    (λ p. one_forward results v p.0 (only (nth results 0) p.1), λ e. (ap length e, subst (λ xs. R (nth xs 0)) (sym e) holds))

-- two results, which a fact fixes
pub two_results : (R : ℤ → ℤ → Type 0) (results : List ℤ) (v u : ℤ) → ((x y : ℤ) → R x y → (x ≡ v) × (y ≡ u)) → R v u → ((length results ≡ 2) × R (nth results 0) (nth results 1)) ↔ (results ≡ v ∷ u ∷ [])
two_results R results v u only holds = (
  λ p. let e = only (nth results 0) (nth results 1) p.1 in two_forward results v u p.0 e.0 e.1,
  λ e. (ap length e, subst (λ xs. R (nth xs 0) (nth xs 1)) (sym e) holds),
)

pub exact_row : (results : List ℤ) (v : ℤ) → ((length results ≡ 1) × (nth results 0 ≡ v)) ↔ (results ≡ v ∷ [])
exact_row results v = one_result (λ x. x ≡ v) results v (λ x e. e) refl

pub wrap_row : (T : Ty) (n : ℤ) (results : List ℤ) → IsTy T → ((length results ≡ 1) × IsWrap T n (nth results 0)) ↔ (results ≡ wrap_of T n ∷ [])
wrap_row T n results t = one_result (λ x. IsWrap T n x) results (wrap_of T n) (λ x w. wrap_only T n x t w) (wrap_is_wrap T n t)

-- a type with this sign and width
abbrev ty_of : Bool → ℕ → Ty
ty_of signed width = record { signed = signed; width = width }

-- quotients of sums and differences of two words by the number of words
carry_bit : (n : ℤ) (m : ℕ) → pos 0 ≤ℤ n → n <ℤ pos (m + m) → IsBit (int_div_euclid n (pos m))
carry_bit (negsuc a) m p q = absurd (omega (arith, ints, p))
carry_bit (pos a) m p q = elim (less_or_not a m) [
  | inl h ↦ inl (euclid_unique (pos a) m a (pos 0) h (omega (arith, ints))).1
  | inr h ↦ inr (euclid_unique (pos a) m (a - m) (pos 1) (omega (arith, ints, q)) (omega (arith, ints))).1
]
  where
    less_or_not : (a m : ℕ) → (a < m) ⊎ (m ≤ a)
    less_or_not a m = grind arith

borrow_bit : (n : ℤ) (m : ℕ) → neg_ℤ (pos m) ≤ℤ n → n <ℤ pos m → IsBit (neg_ℤ (int_div_euclid n (pos m)))
borrow_bit (pos a) m p q = inl (ap neg_ℤ (euclid_unique (pos a) m a (pos 0) (omega (arith, ints, q)) (omega (arith, ints))).1)
borrow_bit (negsuc a) m p q =
    inr (ap neg_ℤ (euclid_unique (negsuc a) m (m - suc a) (negsuc 0) (omega (arith, ints, p)) (omega (arith, ints, p))).1)

-- a sum with its carry
carry_only : (s : Bool) (w : ℕ) (n k x : ℤ) → not s ≡ true → IsSumWithCarry (ty_of s w) n k x → (k ≡ int_div_euclid n (pos (2 ^ w))) × (x ≡ int_rem_euclid n (pos (2 ^ w)))
carry_only true w n k x u c = absurd (cc)
carry_only false w n k (negsuc r) u c = absurd (omega (arith, ints, c.low.0))
carry_only false w n k (pos r) u c =
    let e = euclid_unique n (2 ^ w) r k (omega (arith, ints, c.low.1)) (sym c.whole) in (sym e.1, sym e.0)

remainder_in : (w : ℕ) (n : ℤ) → InRange false w (int_rem_euclid n (pos (2 ^ w)))
remainder_in w n =
    let r = euclid_range n (2 ^ w) (pow_pos w) in (omega (arith, ints, r.2), omega (arith, ints, r.1, r.2))

carry_holds : (s : Bool) (w : ℕ) (n : ℤ) → not s ≡ true → pos 0 ≤ℤ n → n <ℤ pos (2 ^ w + 2 ^ w) → IsSumWithCarry (ty_of s w) n (int_div_euclid n (pos (2 ^ w))) (int_rem_euclid n (pos (2 ^ w)))
carry_holds true w n u p q = absurd (cc)
carry_holds false w n u p q = record {
  carry = carry_bit n (2 ^ w) p q;
  low = remainder_in w n;
  whole = sym (euclid_split n (2 ^ w) (pow_pos w));
}

pub carry_row : (T : Ty) (n : ℤ) (results : List ℤ) → not T.signed ≡ true → pos 0 ≤ℤ n → n <ℤ pos (2 ^ T.width + 2 ^ T.width) → ((length results ≡ 2) × IsSumWithCarry T n (nth results 0) (nth results 1)) ↔ (results ≡ parts_of T.width n)
carry_row T n results u p q =
    two_results (λ k x. IsSumWithCarry T n k x) results (int_div_euclid n (pos (2 ^ T.width))) (int_rem_euclid n (pos (2 ^ T.width)))
    (λ k x c. carry_only T.signed T.width n k x u c) (carry_holds T.signed T.width n u p q)

-- a difference with its borrow
borrow_only : (s : Bool) (w : ℕ) (n k x : ℤ) → not s ≡ true → IsDifferenceWithBorrow (ty_of s w) n k x → (k ≡ neg_ℤ (int_div_euclid n (pos (2 ^ w)))) × (x ≡ int_rem_euclid n (pos (2 ^ w)))
borrow_only true w n k x u c = absurd (cc)
borrow_only false w n k (negsuc r) u c = absurd (omega (arith, ints, c.low.0))
borrow_only false w n k (pos r) u c =
    let e = euclid_unique n (2 ^ w) r (neg_ℤ k) (omega (arith, ints, c.low.1)) (sym c.whole ∙ ap (λ y. pos r +ℤ y) (sym (int_mul_neg (pos (2 ^ w)) k))) in
    (sym (ap neg_ℤ e.1 ∙ int_neg_neg k), sym e.0)

borrow_holds : (s : Bool) (w : ℕ) (n : ℤ) → not s ≡ true → neg_ℤ (pos (2 ^ w)) ≤ℤ n → n <ℤ pos (2 ^ w) → IsDifferenceWithBorrow (ty_of s w) n (neg_ℤ (int_div_euclid n (pos (2 ^ w)))) (int_rem_euclid n (pos (2 ^ w)))
borrow_holds true w n u p q = absurd (cc)
borrow_holds false w n u p q = record {
  borrow = borrow_bit n (2 ^ w) p q;
  low = remainder_in w n;
  whole = whole;
}
  where
    m : ℤ
    m = pos (2 ^ w)

    whole : int_rem_euclid n (pos (2 ^ w)) -ℤ pos (2 ^ w) *ℤ neg_ℤ (int_div_euclid n (pos (2 ^ w))) ≡ n
    whole = omega (arith, ints, int_mul_neg (pos (2 ^ w)) (int_div_euclid n (pos (2 ^ w))), euclid_split n (2 ^ w) (pow_pos w))

pub borrow_row : (T : Ty) (n : ℤ) (results : List ℤ) → not T.signed ≡ true → neg_ℤ (pos (2 ^ T.width)) ≤ℤ n → n <ℤ pos (2 ^ T.width) → ((length results ≡ 2) × IsDifferenceWithBorrow T n (nth results 0) (nth results 1)) ↔ (results ≡ borrow_of T.width n)
borrow_row T n results u p q =
    two_results (λ k x. IsDifferenceWithBorrow T n k x) results (neg_ℤ (int_div_euclid n (pos (2 ^ T.width)))) (int_rem_euclid n (pos (2 ^ T.width)))
    (λ k x c. borrow_only T.signed T.width n k x u c) (borrow_holds T.signed T.width n u p q)

-- a high and a low part
split_only : (k : ℕ) (n h l : ℤ) → IsSplit k n h l → (h ≡ int_div_euclid n (pos (2 ^ k))) × (l ≡ int_rem_euclid n (pos (2 ^ k)))
split_only k n h (negsuc r) c = absurd (omega (arith, ints, c.low.0))
split_only k n h (pos r) c =
    let e = euclid_unique n (2 ^ k) r h (omega (arith, ints, c.low.1)) (omega (arith, ints, c.whole)) in (sym e.1, sym e.0)

split_holds : (k : ℕ) (n : ℤ) → IsSplit k n (int_div_euclid n (pos (2 ^ k))) (int_rem_euclid n (pos (2 ^ k)))
split_holds k n = record { low = remainder_in k n; whole = omega (arith, ints, euclid_split n (2 ^ k) (pow_pos k)) }

pub split_row : (k : ℕ) (n : ℤ) (results : List ℤ) → ((length results ≡ 2) × IsSplit k n (nth results 0) (nth results 1)) ↔ (results ≡ parts_of k n)
split_row k n results =
    two_results (λ h l. IsSplit k n h l) results (int_div_euclid n (pos (2 ^ k))) (int_rem_euclid n (pos (2 ^ k)))
    (split_only k n) (split_holds k n)

-- a bit pattern is the remainder
pub pattern_remainder : (w : ℕ) (v : ℤ) → int_rem_euclid v (pos (2 ^ w)) ≡ pos (pattern_of w v)
pattern_remainder w v = let r = euclid_range v (2 ^ w) (pow_pos w) in r.2 ∙ ap pos (sym (ap unsigned_abs r.2))

pub pattern_below : (w : ℕ) (v : ℤ) → pattern_of w v < 2 ^ w
pattern_below w v = let r = euclid_range v (2 ^ w) (pow_pos w) in subst (λ n. n < 2 ^ w) (sym (ap unsigned_abs r.2)) r.1

pattern_only : (T : Ty) (p : ℕ) (x : ℤ) → IsTy T → HasPattern T p x → x ≡ wrap_of T (pos p)
pattern_only T p x t h =
    let m = pos (2 ^ T.width) in
    let left : int_rem_euclid x m ≡ pos p = pattern_remainder T.width x ∙ ap pos h.bits in
    wrap_only T (pos p) x t (record {
      in_type = h.in_type;
      congruent = subst (λ y. Congruent m x y) left (congruent_remainder (2 ^ T.width) x (pow_pos T.width));
    })

pattern_holds : (T : Ty) (p : ℕ) → IsTy T → p < 2 ^ T.width → HasPattern T p (wrap_of T (pos p))
pattern_holds T p t h = record { in_type = wrap_in_type T (pos p) t; bits = bits }
  where
    same : int_rem_euclid (wrap_of T (pos p)) (pos (2 ^ T.width)) ≡ int_rem_euclid (pos p) (pos (2 ^ T.width))
    same =
        sym (remainder_congruent (2 ^ T.width) (pos p) (wrap_of T (pos p)) (pow_pos T.width) (wrapped_congruent T.signed T.width (pos p)))

    bits : pattern_of T.width (wrap_of T (pos p)) ≡ p
    bits = ap unsigned_abs (same ∙ remainder_small p (2 ^ T.width) h)

pub pattern_row : (T : Ty) (p : ℕ) (results : List ℤ) → IsTy T → p < 2 ^ T.width → ((length results ≡ 1) × HasPattern T p (nth results 0)) ↔ (results ≡ wrap_of T (pos p) ∷ [])
pattern_row T p results t h = one_result (λ x. HasPattern T p x) results (wrap_of T (pos p)) (λ x w. pattern_only T p x t w) (pattern_holds T p t h)

-- a choice by a bit
choice_only : (c a b x : ℤ) → pos 0 ≤ℤ c → c <ℤ pos 2 → IsChoice c a b x → x ≡ cond (nat_eq (unsigned_abs c) 1) a b
choice_only (pos zero) a b x p q h = h.otherwise (λ e. cc)
choice_only (pos (suc zero)) a b x p q h = h.chosen refl
choice_only (pos (suc (suc n))) a b x p q h = absurd (omega (arith, ints, q))
choice_only (negsuc n) a b x p q h = absurd (omega (arith, ints, p))

choice_holds : (c a b : ℤ) → pos 0 ≤ℤ c → c <ℤ pos 2 → IsChoice c a b (cond (nat_eq (unsigned_abs c) 1) a b)
choice_holds (pos zero) a b p q = record { chosen = λ e. absurd (cc); otherwise = λ e. refl }
choice_holds (pos (suc zero)) a b p q = record { chosen = λ e. refl; otherwise = λ e. absurd (e refl) }
choice_holds (pos (suc (suc n))) a b p q = absurd (omega (arith, ints, q))
choice_holds (negsuc n) a b p q = absurd (omega (arith, ints, p))

pub choice_row : (c a b : ℤ) (results : List ℤ) → pos 0 ≤ℤ c → c <ℤ pos 2 → ((length results ≡ 1) × IsChoice c a b (nth results 0)) ↔ (results ≡ cond (nat_eq (unsigned_abs c) 1) a b ∷ [])
choice_row c a b results p q =
    one_result (λ x. IsChoice c a b x) results (cond (nat_eq (unsigned_abs c) 1) a b) (λ x h. choice_only c a b x p q h) (choice_holds c a b p q)
