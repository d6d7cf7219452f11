-- The polynomial of a term is over its ring, its degree is at most the term's degree bound, and over the integers its norm at
-- most the term's norm bound.
use Rattle.std.proofs.Common.{◌≡◌, ◌⊎◌, inl, inr, ℕ, zero, suc, ◌+◌, ◌*◌, ◌^◌, ◌≤◌, max, refl, sym, ◌∙◌, ap, subst, arith, ℤ, pos, negsuc, unsigned_abs, [], ◌∷◌, None}
use Rattle.std.proofs.lemmas.Int.{ints}
use Rattle.std.proofs.lemmas.Nat.{mul-le}
use Rattle.std.proofs.Math.Nat.{pow-suc, pow-zero}
use Rattle.tcl_ring.specs.Reduction.{IsReduction, reduced_by}
use Rattle.tcl_poly.specs.Unknown.{variable_key}
use Rattle.tcl_poly.specs.Polynomial.{Polynomial, IsPolynomial, front, sum_of, scaled, product_of, number_of, power_of, raised_by, norm_of, degree_of}
use Rattle.tcl_poly.proofs.Canonical.{number_is, power_is, sum_is, scaled_is, product_is}
use Rattle.tcl_poly.proofs.Degrees.{IsWithin, within_more, within_degree, within_sum, within_scaled, within_product}
use Rattle.tcl_poly.proofs.Norms.{norm_sum, norm_scaled, norm_product}
use Rattle.tcl_lang.specs.declared.term.Term.{Term, Term-F, fold-roll-Term, roll-Term, map-Term, ind-Term}
use Rattle.tcl_lang.specs.declared.term.Term.TheOpen as layer
use Rattle.tcl_lang.specs.Bound as bound
use Rattle.tcl_term_poly.proofs.Negations.{negation_norm}
use Rattle.tcl_term_poly.specs.TermPolynomial.{difference_of, variable_of, polynomial_step, polynomial_of, quotient_key, less_multiple}

-- over the ring and of a degree of at most n
abbrev pub IsFit : (ℤ → ℤ) → ℕ → Polynomial → Type 0
IsFit r n p = IsPolynomial r p × IsWithin n p

-- the same for a greater degree
pub fit_more : (r : ℤ → ℤ) (n k : ℕ) (p : Polynomial) → n ≤ k → IsFit r n p → IsFit r k p
fit_more r n k p h f = (f.0, within_more n k p h f.1)

-- the degree and the norm of an unknown
pub unknown_within : (r : ℤ → ℤ) (key : ℕ) → IsWithin 1 (power_of r key 1)
unknown_within r key = at (r (pos 1))
  where
    at : (c : ℤ) → IsWithin 1 (front ((key, 1) ∷ []) c [])
    at (pos zero) = tt
    at (pos (suc k)) = (omega arith, tt)
    at (negsuc k) = (omega arith, tt)

unknown_norm : (key : ℕ) → norm_of (power_of (reduced_by None) key 1) ≡ 1
unknown_norm key = refl

-- nothing times p
pub product_nothing : (r : ℤ → ℤ) (p : Polynomial) → product_of r p [] ≡ []
product_nothing r [] = refl
product_nothing r (t ∷ p) = product_nothing r p

front_within : (n : ℕ) (c : ℤ) → IsWithin n (front [] c [])
front_within n (pos zero) = tt
front_within n (pos (suc k)) = (omega arith, tt)
front_within n (negsuc k) = (omega arith, tt)

pub unknown_fit : (r : ℤ → ℤ) → IsReduction r → (key : ℕ) → IsFit r 1 (power_of r key 1)
unknown_fit r ring key = (power_is r ring key 1, unknown_within r key)

pub number_fit : (r : ℤ → ℤ) → IsReduction r → (n : ℤ) (d : ℕ) → IsFit r d (number_of r n)
number_fit r ring n d = (number_is r ring n, front_within d (r n))

pub sum_fit : (r : ℤ → ℤ) → IsReduction r → (j k : ℕ) (p q : Polynomial) → IsFit r j p → IsFit r k q → IsFit r (max j k) (sum_of r p q)
sum_fit r ring j k p q h i =
    (sum_is r ring p q h.0 i.0, within_sum r (max j k) p q (within_more j (max j k) p (omega arith) h.1) (within_more k (max j k) q (omega arith) i.1))

pub scaled_fit : (r : ℤ → ℤ) → IsReduction r → (c : ℤ) (n : ℕ) (p : Polynomial) → IsFit r n p → IsFit r n (scaled r ([], c) p)
scaled_fit r ring c n p h = (scaled_is r ring ([], c) p tt h.0, within_more (0 + n) n (scaled r ([], c) p) (omega arith) (within_scaled r n ([], c) p h.1))

pub negation_fit : (r : ℤ → ℤ) → IsReduction r → (n : ℕ) (p : Polynomial) → IsFit r n p → IsFit r n (scaled r ([], negsuc 0) p)
negation_fit r ring n p h = scaled_fit r ring (negsuc 0) n p h

pub difference_fit : (r : ℤ → ℤ) → IsReduction r → (j k : ℕ) (p q : Polynomial) → IsFit r j p → IsFit r k q → IsFit r (max j k) (difference_of r p q)
difference_fit r ring j k p q h i = sum_fit r ring j k p (scaled r ([], negsuc 0) q) h (negation_fit r ring k q i)

pub less_multiple_fit : (r : ℤ → ℤ) → IsReduction r → (m : ℤ) (place n : ℕ) (p : Polynomial) → IsFit r n p → IsFit r (max n 1) (less_multiple r p m place)
less_multiple_fit r ring m place n p h =
    difference_fit r ring n 1 p (scaled r ([], r m) (power_of r (quotient_key place) 1)) h
    (scaled_fit r ring (r m) 1 (power_of r (quotient_key place) 1) (unknown_fit r ring (quotient_key place)))

pub product_fit : (r : ℤ → ℤ) → IsReduction r → (j k : ℕ) (p q : Polynomial) → IsFit r j p → IsFit r k q → IsFit r (j + k) (product_of r p q)
product_fit r ring j k p q h i = (product_is r ring p q h.0 i.0, within_product r j k p q h.1 i.1)

pub raised_fit : (r : ℤ → ℤ) → IsReduction r → (n : ℕ) (p : Polynomial) (k : ℕ) → IsFit r n p → IsFit r (n * k) (raised_by r p k)
raised_fit r ring n p zero h = number_fit r ring (pos 1) (n * zero)
raised_fit r ring n p (suc k) h =
    let both = product_fit r ring (n * k) n (raised_by r p k) p (raised_fit r ring n p k h) h in
    (both.0, within_more (n * k + n) (n * suc k) (product_of r (raised_by r p k) p) (omega arith) both.1)

abbrev IsTermFit : (ℤ → ℤ) → Term → Type 0
IsTermFit r t = IsFit r (bound.degree_of t) (polynomial_of r t)

abbrev Fitting : (ℤ → ℤ) → Type 0
Fitting r = (t : Term) × IsTermFit r t

at_layer : (r : ℤ → ℤ) (y : Term-F Term) (p : Polynomial) (n : ℕ) → polynomial_of r (roll-Term y) ≡ p → bound.degree_of (roll-Term y) ≡ n → IsFit r n p → IsTermFit r (roll-Term y)
at_layer r y p n e f h = subst (λ m. IsFit r m (polynomial_of r (roll-Term y))) (sym f) (subst (λ q. IsFit r n q) (sym e) h)

fit_step : (r : ℤ → ℤ) → IsReduction r → (y : Term-F (Fitting r)) → IsTermFit r (roll-Term (map-Term (Fitting r) Term (λ e. e.0) y))
fit_step r ring (layer.Var v) =
    at_layer r (layer.Var v) (variable_of r v) 1 (fold-roll-Term Polynomial (polynomial_step r) (layer.Var v)) (fold-roll-Term ℕ bound.degree_step (layer.Var v)) (unknown_fit r ring (variable_key v))
fit_step r ring (layer.Num n) =
    at_layer r (layer.Num n) (number_of r n) 0 (fold-roll-Term Polynomial (polynomial_step r) (layer.Num n)) (fold-roll-Term ℕ bound.degree_step (layer.Num n)) (number_fit r ring n 0)
fit_step r ring (layer.Neg a) =
    at_layer r (layer.Neg a.0) (scaled r ([], negsuc 0) (polynomial_of r a.0)) (bound.degree_of a.0) (fold-roll-Term Polynomial (polynomial_step r) (layer.Neg a.0)) (fold-roll-Term ℕ bound.degree_step (layer.Neg a.0)) (negation_fit r ring (bound.degree_of a.0) (polynomial_of r a.0) a.1)
fit_step r ring (layer.Add a b) =
    at_layer r (layer.Add a.0 b.0) (sum_of r (polynomial_of r a.0) (polynomial_of r b.0)) (max (bound.degree_of a.0) (bound.degree_of b.0)) (fold-roll-Term Polynomial (polynomial_step r) (layer.Add a.0 b.0)) (fold-roll-Term ℕ bound.degree_step (layer.Add a.0 b.0)) (sum_fit r ring (bound.degree_of a.0) (bound.degree_of b.0) (polynomial_of r a.0) (polynomial_of r b.0) a.1 b.1)
fit_step r ring (layer.Sub a b) =
    at_layer r (layer.Sub a.0 b.0) (difference_of r (polynomial_of r a.0) (polynomial_of r b.0)) (max (bound.degree_of a.0) (bound.degree_of b.0)) (fold-roll-Term Polynomial (polynomial_step r) (layer.Sub a.0 b.0)) (fold-roll-Term ℕ bound.degree_step (layer.Sub a.0 b.0)) (difference_fit r ring (bound.degree_of a.0) (bound.degree_of b.0) (polynomial_of r a.0) (polynomial_of r b.0) a.1 b.1)
fit_step r ring (layer.Mul a b) =
    at_layer r (layer.Mul a.0 b.0) (product_of r (polynomial_of r a.0) (polynomial_of r b.0)) (bound.degree_of a.0 + bound.degree_of b.0) (fold-roll-Term Polynomial (polynomial_step r) (layer.Mul a.0 b.0)) (fold-roll-Term ℕ bound.degree_step (layer.Mul a.0 b.0)) (product_fit r ring (bound.degree_of a.0) (bound.degree_of b.0) (polynomial_of r a.0) (polynomial_of r b.0) a.1 b.1)
fit_step r ring (layer.Pow a k) =
    at_layer r (layer.Pow a.0 k) (raised_by r (polynomial_of r a.0) k) (bound.degree_of a.0 * k) (fold-roll-Term Polynomial (polynomial_step r) (layer.Pow a.0 k)) (fold-roll-Term ℕ bound.degree_step (layer.Pow a.0 k)) (raised_fit r ring (bound.degree_of a.0) (polynomial_of r a.0) k a.1)

pub term_fit : (r : ℤ → ℤ) → IsReduction r → (t : Term) → IsTermFit r t
term_fit r ring = ind-Term (IsTermFit r) (λ x y is. subst (λ z. IsTermFit r (roll-Term z)) is (fit_step r ring y))

pub term_degree : (r : ℤ → ℤ) → IsReduction r → (t : Term) → degree_of (polynomial_of r t) ≤ bound.degree_of t
term_degree r ring t = within_degree (bound.degree_of t) (polynomial_of r t) (term_fit r ring t).1

-- norms over the integers
abbrev pub whole : ℤ → ℤ
whole = reduced_by None

front_norm : (c : ℤ) → norm_of (front [] c []) ≤ unsigned_abs c
front_norm (pos zero) = omega arith
front_norm (pos (suc k)) = omega (arith, ints)
front_norm (negsuc k) = omega (arith, ints)

pub raised_norm : (p : Polynomial) (n k : ℕ) → norm_of p ≤ n → norm_of (raised_by whole p k) ≤ n ^ k
raised_norm p n zero h = omega (arith, front_norm (pos 1), pow-zero n)
raised_norm p n (suc k) h =
    omega (arith, norm_product (raised_by whole p k) p, mul-le (norm_of (raised_by whole p k)) (norm_of p) (n ^ k) n (raised_norm p n k h) h, pow-suc n k)

abbrev HasNorm : Term → Type 0
HasNorm t = norm_of (polynomial_of whole t) ≤ bound.norm_of t

abbrev Normed : Type 0
Normed = (t : Term) × HasNorm t

normed_at : (y : Term-F Term) (p : Polynomial) (n : ℕ) → polynomial_of whole (roll-Term y) ≡ p → bound.norm_of (roll-Term y) ≡ n → norm_of p ≤ n → HasNorm (roll-Term y)
normed_at y p n e f h = omega (arith, ap norm_of e, f, h)

norm_step : (y : Term-F Normed) → HasNorm (roll-Term (map-Term Normed Term (λ e. e.0) y))
norm_step (layer.Var v) = normed_at (layer.Var v) _ _ (fold-roll-Term Polynomial (polynomial_step whole) (layer.Var v)) (fold-roll-Term ℕ bound.norm_step (layer.Var v)) (omega (arith, unknown_norm (variable_key v)))
norm_step (layer.Num n) = normed_at (layer.Num n) _ _ (fold-roll-Term Polynomial (polynomial_step whole) (layer.Num n)) (fold-roll-Term ℕ bound.norm_step (layer.Num n)) (front_norm n)
norm_step (layer.Neg a) = normed_at (layer.Neg a.0) _ _ (fold-roll-Term Polynomial (polynomial_step whole) (layer.Neg a.0)) (fold-roll-Term ℕ bound.norm_step (layer.Neg a.0)) (omega (arith, negation_norm (polynomial_of whole a.0), a.1))
norm_step (layer.Add a b) = normed_at (layer.Add a.0 b.0) _ _ (fold-roll-Term Polynomial (polynomial_step whole) (layer.Add a.0 b.0)) (fold-roll-Term ℕ bound.norm_step (layer.Add a.0 b.0)) (omega (arith, norm_sum (polynomial_of whole a.0) (polynomial_of whole b.0), a.1, b.1))
norm_step (layer.Sub a b) =
    normed_at (layer.Sub a.0 b.0) _ _ (fold-roll-Term Polynomial (polynomial_step whole) (layer.Sub a.0 b.0)) (fold-roll-Term ℕ bound.norm_step (layer.Sub a.0 b.0))
    (omega (arith, norm_sum (polynomial_of whole a.0) (scaled whole ([], negsuc 0) (polynomial_of whole b.0)), negation_norm (polynomial_of whole b.0), a.1, b.1))
norm_step (layer.Mul a b) =
    normed_at (layer.Mul a.0 b.0) _ _ (fold-roll-Term Polynomial (polynomial_step whole) (layer.Mul a.0 b.0)) (fold-roll-Term ℕ bound.norm_step (layer.Mul a.0 b.0))
    (omega (arith, norm_product (polynomial_of whole a.0) (polynomial_of whole b.0), mul-le (norm_of (polynomial_of whole a.0)) (norm_of (polynomial_of whole b.0)) (bound.norm_of a.0) (bound.norm_of b.0) a.1 b.1))
norm_step (layer.Pow a k) = normed_at (layer.Pow a.0 k) _ _ (fold-roll-Term Polynomial (polynomial_step whole) (layer.Pow a.0 k)) (fold-roll-Term ℕ bound.norm_step (layer.Pow a.0 k)) (raised_norm (polynomial_of whole a.0) (bound.norm_of a.0) k a.1)

pub term_norm : (t : Term) → norm_of (polynomial_of whole t) ≤ bound.norm_of t
term_norm = ind-Term HasNorm (λ x y is. subst (λ z. HasNorm (roll-Term z)) is (norm_step y))

-- a term whose norm bound is 0 has the zero polynomial in every ring: so a factor need not be made where the other is 0
abbrev IsNothing : (ℤ → ℤ) → Term → Type 0
IsNothing r t = bound.norm_of t ≡ 0 → polynomial_of r t ≡ []

abbrev Nothing : (ℤ → ℤ) → Type 0
Nothing r = (t : Term) × IsNothing r t

nothing_at : (r : ℤ → ℤ) (y : Term-F Term) (p : Polynomial) (n : ℕ) → polynomial_of r (roll-Term y) ≡ p → bound.norm_of (roll-Term y) ≡ n → (n ≡ 0 → p ≡ []) → IsNothing r (roll-Term y)
nothing_at r y p n e f h g = e ∙ h (sym f ∙ g)

no_number : (r : ℤ → ℤ) → IsReduction r → (n : ℤ) → unsigned_abs n ≡ 0 → number_of r n ≡ []
no_number r ring n e = let zero_n : n ≡ pos 0 = omega (arith, ints, e) in ap (λ k. front [] k []) (ap r zero_n ∙ ring.null)

zero_factor : (a b : ℕ) → a * b ≡ 0 → (a ≡ 0) ⊎ (b ≡ 0)
zero_factor zero b e = inl refl
zero_factor (suc a) zero e = inr refl
zero_factor (suc a) (suc b) e = absurd (omega (arith, e, mul-le 1 1 (suc a) (suc b) (omega arith) (omega arith)))

zero_power : (n k : ℕ) → n ^ suc k ≡ 0 → n ≡ 0
zero_power zero k e = refl
zero_power (suc n) k e = absurd (omega (arith, e, pow-suc (suc n) k, mul-le 1 1 (suc n) (suc n ^ k) (omega arith) (at k)))
  where
    at : (k : ℕ) → 1 ≤ suc n ^ k
    at k = positive (suc n) k (omega arith)
      where
        positive : (m k : ℕ) → 1 ≤ m → 1 ≤ m ^ k
        positive m zero h = omega (arith, pow-zero m)
        positive m (suc k) h = omega (arith, pow-suc m k, mul-le 1 1 m (m ^ k) h (positive m k h))

no_power : (r : ℤ → ℤ) (p : Polynomial) (n k : ℕ) → (n ≡ 0 → p ≡ []) → n ^ k ≡ 0 → raised_by r p k ≡ []
no_power r p n zero h e = absurd (omega (arith, e, pow-zero n))
no_power r p n (suc k) h e = ap (product_of r (raised_by r p k)) (h (zero_power n k e)) ∙ product_nothing r (raised_by r p k)

nothing_step : (r : ℤ → ℤ) → IsReduction r → (y : Term-F (Nothing r)) → IsNothing r (roll-Term (map-Term (Nothing r) Term (λ e. e.0) y))
nothing_step r ring (layer.Var v) = nothing_at r (layer.Var v) (variable_of r v) 1 (fold-roll-Term Polynomial (polynomial_step r) (layer.Var v)) (fold-roll-Term ℕ bound.norm_step (layer.Var v)) (λ e. absurd (omega (arith, e)))
nothing_step r ring (layer.Num n) = nothing_at r (layer.Num n) (number_of r n) (unsigned_abs n) (fold-roll-Term Polynomial (polynomial_step r) (layer.Num n)) (fold-roll-Term ℕ bound.norm_step (layer.Num n)) (no_number r ring n)
nothing_step r ring (layer.Neg a) =
    nothing_at r (layer.Neg a.0) (scaled r ([], negsuc 0) (polynomial_of r a.0)) (bound.norm_of a.0) (fold-roll-Term Polynomial (polynomial_step r) (layer.Neg a.0)) (fold-roll-Term ℕ bound.norm_step (layer.Neg a.0)) (λ e. ap (scaled r ([], negsuc 0)) (a.1 e))
nothing_step r ring (layer.Add a b) =
    nothing_at r (layer.Add a.0 b.0) (sum_of r (polynomial_of r a.0) (polynomial_of r b.0)) (bound.norm_of a.0 + bound.norm_of b.0) (fold-roll-Term Polynomial (polynomial_step r) (layer.Add a.0 b.0)) (fold-roll-Term ℕ bound.norm_step (layer.Add a.0 b.0))
    (λ e. let p = a.1 (omega (arith, e)) in let q = b.1 (omega (arith, e)) in λ i. sum_of r (p i) (q i))
nothing_step r ring (layer.Sub a b) =
    nothing_at r (layer.Sub a.0 b.0) (difference_of r (polynomial_of r a.0) (polynomial_of r b.0)) (bound.norm_of a.0 + bound.norm_of b.0) (fold-roll-Term Polynomial (polynomial_step r) (layer.Sub a.0 b.0)) (fold-roll-Term ℕ bound.norm_step (layer.Sub a.0 b.0))
    (λ e. let p = a.1 (omega (arith, e)) in let q = b.1 (omega (arith, e)) in λ i. difference_of r (p i) (q i))
nothing_step r ring (layer.Mul a b) =
    nothing_at r (layer.Mul a.0 b.0) (product_of r (polynomial_of r a.0) (polynomial_of r b.0)) (bound.norm_of a.0 * bound.norm_of b.0) (fold-roll-Term Polynomial (polynomial_step r) (layer.Mul a.0 b.0)) (fold-roll-Term ℕ bound.norm_step (layer.Mul a.0 b.0))
    (λ e. elim (zero_factor (bound.norm_of a.0) (bound.norm_of b.0) e) [
      | inl p ↦ ap (λ q. product_of r q (polynomial_of r b.0)) (a.1 p)
      | inr p ↦ ap (product_of r (polynomial_of r a.0)) (b.1 p) ∙ product_nothing r (polynomial_of r a.0)
    ])
nothing_step r ring (layer.Pow a k) =
    nothing_at r (layer.Pow a.0 k) (raised_by r (polynomial_of r a.0) k) (bound.norm_of a.0 ^ k) (fold-roll-Term Polynomial (polynomial_step r) (layer.Pow a.0 k)) (fold-roll-Term ℕ bound.norm_step (layer.Pow a.0 k)) (no_power r (polynomial_of r a.0) (bound.norm_of a.0) k a.1)

pub term_nothing : (r : ℤ → ℤ) → IsReduction r → (t : Term) → IsNothing r t
term_nothing r ring = ind-Term (IsNothing r) (λ x y is. subst (λ z. IsNothing r (roll-Term z)) is (nothing_step r ring y))

-- a multiple of the unknown of a line adds its factor to the norm
pub less_multiple_norm : (p : Polynomial) (m : ℤ) (place : ℕ) → norm_of (less_multiple whole p m place) ≤ norm_of p + unsigned_abs m
less_multiple_norm p m place =
    let u = power_of whole (quotient_key place) 1 in
    omega (arith, norm_sum p (scaled whole ([], negsuc 0) (scaled whole ([], m) u)), negation_norm (scaled whole ([], m) u), norm_scaled ([], m) u, unknown_norm (quotient_key place))
