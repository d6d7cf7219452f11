-- The degree of a polynomial bounds that of each monomial, and degrees of products add.
use Rattle.std.proofs.Common.{ℕ, ◌+◌, ◌≤◌, inl, inr, arith, [], ◌∷◌, Ordering, Less, Equal, Greater, ℤ, pos, negsuc, zero, suc, ◌+ℤ◌, ◌*ℤ◌}
use Rattle.tcl_poly.specs.Monomial.{Monomial, degree, times, order, IsLess}
use Rattle.tcl_poly.specs.Polynomial.{Term, Polynomial, IsUnder, IsPolynomial, front, add_at, add_term, sum_of, scaled, product_of, degree_of}
use Rattle.tcl_poly.proofs.MonomialLaws.{times_degree}

-- every monomial of p has a degree of at most n
abbrev pub IsWithin : ℕ → Polynomial → Type 0
IsWithin n [] = Unit {0}
IsWithin n (t ∷ p) = (degree t.0 ≤ n) × IsWithin n p

pub within_more : (n k : ℕ) (p : Polynomial) → n ≤ k → IsWithin n p → IsWithin k p
within_more n k [] h i = tt
within_more n k (t ∷ p) h i = (omega (arith, i.0), within_more n k p h i.1)

less_degree : (m n : Monomial) → IsLess m n → degree m ≤ degree n
less_degree m n (inl d) = omega arith
less_degree m n (inr (e, s)) = omega arith

under_within : (m : Monomial) (p : Polynomial) → IsUnder m p → IsWithin (degree m) p
under_within m [] u = tt
under_within m (t ∷ p) u = (less_degree t.0 m u.0, under_within m p u.1)

-- the first term has the greatest degree
pub degree_within : (r : ℤ → ℤ) (p : Polynomial) → IsPolynomial r p → IsWithin (degree_of p) p
degree_within r [] h = tt
degree_within r (t ∷ p) h = (omega arith, under_within t.0 p h.3)

pub within_degree : (n : ℕ) (p : Polynomial) → IsWithin n p → degree_of p ≤ n
within_degree n [] i = omega arith
within_degree n (t ∷ p) i = i.0

within_front : (n : ℕ) (m : Monomial) (c : ℤ) (p : Polynomial) → degree m ≤ n → IsWithin n p → IsWithin n (front m c p)
within_front n m (pos zero) p h i = i
within_front n m (pos (suc k)) p h i = (h, i)
within_front n m (negsuc k) p h i = (h, i)

within_add_at : (r : ℤ → ℤ) (n : ℕ) (o : Ordering) (t u : Term) (p further : Polynomial) → degree t.0 ≤ n → IsWithin n (u ∷ p) → IsWithin n further → IsWithin n (add_at r o t u p further)
within_add_at r n Less t u p further h i j = (i.0, j)
within_add_at r n Equal t u p further h i j = within_front n u.0 (r (t.1 +ℤ u.1)) p i.0 i.1
within_add_at r n Greater t u p further h i j = (h, i)

within_add_term : (r : ℤ → ℤ) (n : ℕ) (t : Term) (p : Polynomial) → degree t.0 ≤ n → IsWithin n p → IsWithin n (add_term r t p)
within_add_term r n t [] h i = (h, tt)
within_add_term r n t (u ∷ p) h i = within_add_at r n (order t.0 u.0) t u p (add_term r t p) h i (within_add_term r n t p h i.1)

pub within_sum : (r : ℤ → ℤ) (n : ℕ) (p q : Polynomial) → IsWithin n p → IsWithin n q → IsWithin n (sum_of r p q)
within_sum r n [] q i j = j
within_sum r n (t ∷ p) q i j = within_add_term r n t (sum_of r p q) i.0 (within_sum r n p q i.1 j)

pub within_scaled : (r : ℤ → ℤ) (n : ℕ) (t : Term) (p : Polynomial) → IsWithin n p → IsWithin (degree t.0 + n) (scaled r t p)
within_scaled r n t [] i = tt
within_scaled r n t (u ∷ p) i =
    within_front (degree t.0 + n) (times t.0 u.0) (r (t.1 *ℤ u.1)) (scaled r t p) (omega (arith, times_degree t.0 u.0, i.0)) (within_scaled r n t p i.1)

pub within_product : (r : ℤ → ℤ) (j k : ℕ) (p q : Polynomial) → IsWithin j p → IsWithin k q → IsWithin (j + k) (product_of r p q)
within_product r j k [] q h i = tt
within_product r j k (t ∷ p) q h i =
    within_sum r (j + k) (scaled r t q) (product_of r p q)
    (within_more (degree t.0 + k) (j + k) (scaled r t q) (omega (arith, h.0)) (within_scaled r k t q i))
    (within_product r j k p q h.1 i)
