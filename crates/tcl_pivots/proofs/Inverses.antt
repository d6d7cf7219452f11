-- The inverse that a ring gives is that of the definition.
use Rattle.std.proofs.Common.{◌≡◌, ◌⊎◌, inl, inr, ℕ, zero, suc, ◌<◌, ◌≤◌, ◌==◌, if◌then◌else◌, refl, sym, ◌∙◌, ap, subst, arith, Bool, true, ℤ, pos, ◌*ℤ◌, unsigned_abs, Option, Some, None}
use Rattle.std.specs.Int.{int_rem_euclid}
use Rattle.std.proofs.lemmas.Bool.{eqb-true, eq-eqb}
use Rattle.tcl_num.proofs.EuclideanDivision.{euclid_range, remainder_small}
use Rattle.tcl_num.proofs.IntegerRing.{int_mul_comm, int_mul_one, int_one_mul, int_mul_assoc, int_mul_swap}
use Rattle.tcl_ring.specs.Reduction.{IsReduction, reduced_by, IsModulus, IsElement}
use Rattle.tcl_ring.proofs.Reductions.{is_reduction}
use Rattle.tcl_reduce.specs.Inverse.{or_else, residue_inverse, inverse_of}
use Rattle.tcl_pivots.proofs.Inverting.{OnSome, on_if, inverse_is, square}
use Rattle.tcl_pivots.proofs.Quotients.{unit_magnitude}

-- none is found where there is none
nothing : (m : Option ℕ) (c : ℤ) (o : Option ℤ) → OnSome (λ i. reduced_by m (i *ℤ c) ≡ reduced_by m (pos 1)) o → ((n : ℤ) → reduced_by m (c *ℤ n) ≡ reduced_by m (pos 1) → ⊥) → o ≡ None
nothing m c None s h = refl
nothing m c (Some i) s h = absurd (h i (ap (reduced_by m) (int_mul_comm c i) ∙ s))

pub no_inverse : (m : Option ℕ) (c : ℤ) → IsModulus m → ((n : ℤ) → reduced_by m (c *ℤ n) ≡ reduced_by m (pos 1) → ⊥) → inverse_of m c ≡ None
no_inverse m c modulus h = nothing m c (inverse_of m c) (inverse_is m c modulus) h

-- ---- residues

-- two inverses of one number are equal in the ring
alike : (r : ℤ → ℤ) → IsReduction r → (c k n : ℤ) → r (c *ℤ k) ≡ r (pos 1) → r (c *ℤ n) ≡ r (pos 1) → r k ≡ r n
alike r ring c k n h j =
    ap r (sym (int_mul_one k))
    ∙ ring.products (pos 1) (c *ℤ n) k (sym j)
    ∙ ap r (int_mul_swap k c n ∙ ap (λ z. c *ℤ z) (int_mul_comm k n) ∙ int_mul_swap c n k)
    ∙ ring.products (c *ℤ k) (pos 1) n h
    ∙ ap r (int_mul_one n)

alike_below : (m : ℕ) (c : ℤ) (k n : ℕ) → IsModulus (Some m) → k < m → n < m → int_rem_euclid (c *ℤ pos k) (pos m) ≡ int_rem_euclid (pos 1) (pos m) → int_rem_euclid (c *ℤ pos n) (pos m) ≡ int_rem_euclid (pos 1) (pos m) → k ≡ n
alike_below m c k n modulus a b h j =
    ap unsigned_abs (sym (remainder_small k m a) ∙ alike (reduced_by (Some m)) (is_reduction (Some m) modulus) c (pos k) (pos n) h j ∙ remainder_small n m b)

same_magnitude : (a b : ℤ) (m : ℕ) → 0 < m → unsigned_abs (int_rem_euclid a (pos m)) ≡ unsigned_abs (int_rem_euclid b (pos m)) → int_rem_euclid a (pos m) ≡ int_rem_euclid b (pos m)
same_magnitude a b m p e =
    let x = euclid_range a m p in let y = euclid_range b m p in
    x.2 ∙ ap pos (sym (ap unsigned_abs x.2) ∙ e ∙ ap unsigned_abs y.2) ∙ sym y.2

-- below the inverse there is none
none_before : (m : ℕ) (c : ℤ) (n : ℕ) → IsModulus (Some m) → n < m → int_rem_euclid (c *ℤ pos n) (pos m) ≡ int_rem_euclid (pos 1) (pos m) → (k : ℕ) → k ≤ n → residue_inverse m c k ≡ None
none_before m c n modulus b j zero l = refl
none_before m c n modulus b j (suc k) l =
    let x = unsigned_abs (int_rem_euclid (c *ℤ pos k) (pos m)) in
    let one = unsigned_abs (int_rem_euclid (pos 1) (pos m)) in
    let P : Option ℤ → Type 0 = λ o. or_else (residue_inverse m c k) o ≡ None in
    on_if P (x == one) (Some (pos k)) None
    (λ t. absurd (let e = alike_below m c k n modulus (omega (arith, l, b)) b (same_magnitude (c *ℤ pos k) (pos 1) m modulus.0 (eqb-true x one t)) j in omega (arith, e, l)))
    (λ _. ap (λ o. or_else o None) (none_before m c n modulus b j k (omega (arith, l))))

taken : (b : Bool) (o p : Option ℤ) → b ≡ true → (if b then o else p) ≡ o
taken b o p e = ap (λ c. if c then o else p) e

next_bound : (n k : ℕ) → (n < k) ⊎ (n ≡ k) → (suc n < suc k) ⊎ (suc n ≡ suc k)
next_bound n k (inl h) = inl (omega (arith, h))
next_bound n k (inr h) = inr (ap suc h)

below_or_at : (n k : ℕ) → n < suc k → (n < k) ⊎ (n ≡ k)
below_or_at zero zero l = inr refl
below_or_at zero (suc k) l = inl (omega arith)
below_or_at (suc n) zero l = absurd (omega (arith, l))
below_or_at (suc n) (suc k) l = next_bound n k (below_or_at n k (omega (arith, l)))

abbrev is_inverse_at : ℕ → ℤ → ℕ → Bool
is_inverse_at m c k = unsigned_abs (int_rem_euclid (c *ℤ pos k) (pos m)) == unsigned_abs (int_rem_euclid (pos 1) (pos m))

one_more : (m : ℕ) (c : ℤ) (n k : ℕ) → IsModulus (Some m) → n < m → int_rem_euclid (c *ℤ pos n) (pos m) ≡ int_rem_euclid (pos 1) (pos m) → (n < k → residue_inverse m c k ≡ Some (pos n)) → (n < k) ⊎ (n ≡ k) → residue_inverse m c (suc k) ≡ Some (pos n)
one_more m c n k modulus b j before (inl h) = ap (λ o. or_else o (if is_inverse_at m c k then Some (pos k) else None)) (before h)
one_more m c n k modulus b j before (inr h) =
    let here : int_rem_euclid (c *ℤ pos k) (pos m) ≡ int_rem_euclid (pos 1) (pos m) = (let P : ℕ → Type 0 = λ z. int_rem_euclid (c *ℤ pos z) (pos m) ≡ int_rem_euclid (pos 1) (pos m) in subst P h j) in
    ap (λ o. or_else o (if is_inverse_at m c k then Some (pos k) else None)) (none_before m c n modulus b j k (omega (arith, h)))
    ∙ taken (is_inverse_at m c k) (Some (pos k)) None (eq-eqb (unsigned_abs (int_rem_euclid (c *ℤ pos k) (pos m))) (unsigned_abs (int_rem_euclid (pos 1) (pos m))) (ap unsigned_abs here))
    ∙ ap (λ z. Some (pos z)) (sym h)

least : (m : ℕ) (c : ℤ) (n : ℕ) → IsModulus (Some m) → n < m → int_rem_euclid (c *ℤ pos n) (pos m) ≡ int_rem_euclid (pos 1) (pos m) → (k : ℕ) → n < k → residue_inverse m c k ≡ Some (pos n)
least m c n modulus b j zero l = absurd (omega (arith, l))
least m c n modulus b j (suc k) l = one_more m c n k modulus b j (least m c n modulus b j k) (below_or_at n k l)

-- ---- every ring

pub inverse_found : (m : Option ℕ) (c e : ℤ) → IsModulus m → IsElement m e → reduced_by m (c *ℤ e) ≡ reduced_by m (pos 1) → inverse_of m c ≡ Some e
inverse_found None c e modulus h j =
    let one = unit_magnitude c e j in
    taken (unsigned_abs c == 1) (Some c) None (eq-eqb (unsigned_abs c) 1 one)
    ∙ ap Some (sym (int_mul_one c) ∙ ap (λ z. c *ℤ z) (sym j) ∙ sym (int_mul_assoc c c e) ∙ ap (λ z. z *ℤ e) (square c one) ∙ int_one_mul e)
inverse_found (Some m) c e modulus h j =
    let x = euclid_range e m modulus.0 in
    let is : e ≡ pos x.0 = sym h.0 ∙ x.2 in
    least m c x.0 modulus x.1 (ap (λ z. int_rem_euclid (c *ℤ z) (pos m)) (sym is) ∙ j) m x.1 ∙ ap Some (sym is)
