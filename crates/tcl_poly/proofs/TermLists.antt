-- Lists of terms by places: what a loop over them reads.
use Rattle.std.proofs.Common.{◌≡◌, ℕ, zero, suc, ◌+◌, ◌<◌, ◌≤◌, min, refl, sym, ◌∙◌, ap, arith, List, [], ◌∷◌, ◌++◌, length, drop, get_or, append_assoc, drop-cons, add-one, ℤ, pos, negsuc, ◌*ℤ◌, neg_ℤ, unsigned_abs}
use Rattle.std.proofs.lemmas.Int.{ints}
use Rattle.tcl_poly.specs.Monomial.{Monomial, degree}
use Rattle.tcl_poly.specs.Polynomial.{Polynomial, IsPolynomial, terms_of, front, scaled, norm_of, degree_of}
use Rattle.tcl_num.proofs.IntegerRing.{int_minus_one_mul}
use Rattle.tcl_poly.proofs.Degrees.{IsWithin, degree_within}

pub terms_append : {E : Type 0} (value : E → ℤ) (p q : List (Monomial × E)) → terms_of value (p ++ q) ≡ terms_of value p ++ terms_of value q
terms_append value [] q = refl
terms_append value (t ∷ p) q = ap (λ x. (t.0, value t.1) ∷ x) (terms_append value p q)

-- the terms from place k on begin with the term at k
pub terms_from : {E : Type 0} (value : E → ℤ) (p : List (Monomial × E)) (k : ℕ) (d : Monomial × E) → k < length p → terms_of value (drop k p) ≡ ((get_or p k d).0, value (get_or p k d).1) ∷ terms_of value (drop (k + 1) p)
terms_from value p k d h = ap (terms_of value) (drop-cons p k d h ∙ ap (λ n. get_or p k d ∷ drop n p) (sym (add-one k)))

pub terms_at : {E : Type 0} (value : E → ℤ) (p : List (Monomial × E)) (k : ℕ) (s : Monomial × E) → s ≡ get_or p k s → k < length p → terms_of value (drop k p) ≡ (s.0, value s.1) ∷ terms_of value (drop (k + 1) p)
terms_at value p k s e h = terms_from value p k s h ∙ ap (λ x. (x.0, value x.1) ∷ terms_of value (drop (k + 1) p)) (sym e)

pub polynomial_from : {E : Type 0} (r : ℤ → ℤ) (value : E → ℤ) (p : List (Monomial × E)) (k : ℕ) → IsPolynomial r (terms_of value p) → IsPolynomial r (terms_of value (drop k p))
polynomial_from r value [] zero h = h
polynomial_from r value [] (suc k) h = h
polynomial_from r value (t ∷ p) zero h = h
polynomial_from r value (t ∷ p) (suc k) h = polynomial_from r value p k h.4

-- a coefficient's magnitude is at most the norm
coefficient_norm_at : {E : Type 0} (value : E → ℤ) (p : List (Monomial × E)) (k : ℕ) (d : Monomial × E) → k < length p → unsigned_abs (value (get_or p k d).1) ≤ norm_of (terms_of value p)
coefficient_norm_at value [] k d h = absurd (omega arith)
coefficient_norm_at value (t ∷ p) zero d h = omega arith
coefficient_norm_at value (t ∷ p) (suc k) d h = omega (arith, coefficient_norm_at value p k d (omega arith))

pub coefficient_norm : {E : Type 0} (value : E → ℤ) (p : List (Monomial × E)) (k : ℕ) (s : Monomial × E) → s ≡ get_or p k s → k < length p → unsigned_abs (value s.1) ≤ norm_of (terms_of value p)
coefficient_norm value p k s e h = omega (arith, coefficient_norm_at value p k s h, ap (λ x. unsigned_abs (value x.1)) e)

-- the same for a term that stands at a place
pub coefficient_norm_from : {E : Type 0} (value : E → ℤ) (p : List (Monomial × E)) (k : ℕ) (s : Monomial × E) → drop k p ≡ s ∷ drop (k + 1) p → unsigned_abs (value s.1) ≤ norm_of (terms_of value p)
coefficient_norm_from value p k s e = omega (arith, norm_from value p k, ap (λ x. norm_of (terms_of value x)) e)
  where
    norm_from : {E : Type 0} (value : E → ℤ) (p : List (Monomial × E)) (k : ℕ) → norm_of (terms_of value (drop k p)) ≤ norm_of (terms_of value p)
    norm_from value [] zero = omega arith
    norm_from value [] (suc k) = omega arith
    norm_from value (t ∷ p) zero = omega arith
    norm_from value (t ∷ p) (suc k) = omega (arith, norm_from value p k)

-- a term's degree is at most that of the polynomial
within_at : {E : Type 0} (n : ℕ) (value : E → ℤ) (p : List (Monomial × E)) (k : ℕ) (d : Monomial × E) → k < length p → IsWithin n (terms_of value p) → degree (get_or p k d).0 ≤ n
within_at n value [] k d h i = absurd (omega arith)
within_at n value (t ∷ p) zero d h i = i.0
within_at n value (t ∷ p) (suc k) d h i = within_at n value p k d (omega arith) i.1

pub degree_at : {E : Type 0} (r : ℤ → ℤ) (value : E → ℤ) (p : List (Monomial × E)) (k : ℕ) (d : Monomial × E) → k < length p → IsPolynomial r (terms_of value p) → degree (get_or p k d).0 ≤ degree_of (terms_of value p)
degree_at r value p k d h i = within_at (degree_of (terms_of value p)) value p k d h (degree_within r (terms_of value p) i)

-- a norm that stops at the limit, counted term by term
pub norm_step : {E : Type 0} (value : E → ℤ) (p : List (Monomial × E)) (k : ℕ) (d : Monomial × E) (norm limit : ℕ) → k < length p → min (min (norm + unsigned_abs (value (get_or p k d).1)) limit + norm_of (terms_of value (drop (k + 1) p))) limit ≡ min (norm + norm_of (terms_of value (drop k p))) limit
norm_step value p k d norm limit h = omega (arith, ap norm_of (terms_from value p k d h))

-- the term in front is left out exactly where its coefficient is 0
pub front_zero : (m : Monomial) (c : ℤ) → c ≡ pos 0 → front m c [] ≡ []
front_zero m (pos zero) e = refl
front_zero m (pos (suc n)) e = absurd (omega (arith, ints, e))
front_zero m (negsuc n) e = absurd (omega (arith, ints, e))

pub front_other : (m : Monomial) (c : ℤ) → (c ≡ pos 0 → ⊥) → front m c [] ≡ (m, c) ∷ []
front_other m (pos zero) n = absurd (n refl)
front_other m (pos (suc k)) n = refl
front_other m (negsuc k) n = refl

-- integers are their own values
pub terms_itself : (p : Polynomial) → terms_of (λ n. n) p ≡ p
terms_itself [] = refl
terms_itself (t ∷ p) = ap (λ x. t ∷ x) (terms_itself p)

-- the degree does not depend on the coefficients
pub degree_of_values : {E : Type 0} (value : E → ℤ) (p : List (Monomial × E)) → degree_of (terms_of value p) ≡ degree_of p
degree_of_values value [] = refl
degree_of_values value (t ∷ p) = refl

pub term_degree : {E : Type 0} (r : ℤ → ℤ) (value : E → ℤ) (p : List (Monomial × E)) (k : ℕ) (s : Monomial × E) → s ≡ get_or p k s → k < length p → IsPolynomial r (terms_of value p) → degree s.0 ≤ degree_of p
term_degree r value p k s e h i = omega (arith, degree_at r value p k s h i, degree_of_values value p, ap (λ x. degree x.0) e)

front_append : (m : Monomial) (c : ℤ) (p : Polynomial) → front m c p ≡ front m c [] ++ p
front_append m (pos zero) p = refl
front_append m (pos (suc n)) p = refl
front_append m (negsuc n) p = refl

-- one turn of a negation, term by term
pub negated_turn : {E : Type 0} (r : ℤ → ℤ) (value : E → ℤ) (p : List (Monomial × E)) (k : ℕ) (t : Monomial × E) (done after : List (Monomial × E)) → t ≡ get_or p k t → k < length p → terms_of value after ≡ terms_of value done ++ front t.0 (r (neg_ℤ (value t.1))) [] → terms_of value after ++ scaled r ([], negsuc 0) (terms_of value (drop (k + 1) p)) ≡ terms_of value done ++ scaled r ([], negsuc 0) (terms_of value (drop k p))
negated_turn r value p k t done after e h pushed =
    let rest = scaled r ([], negsuc 0) (terms_of value (drop (k + 1) p)) in
    ap (λ x. x ++ rest) (pushed ∙ ap (λ x. terms_of value done ++ front t.0 (r x) []) (sym (int_minus_one_mul (value t.1))))
    ∙ append_assoc (terms_of value done) (front t.0 (r (negsuc 0 *ℤ value t.1)) []) rest
    ∙ ap (λ x. terms_of value done ++ x) (sym (front_append t.0 (r (negsuc 0 *ℤ value t.1)) rest) ∙ ap (scaled r ([], negsuc 0)) (sym (terms_at value p k t e h)))
