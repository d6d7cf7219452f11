-- Every unknown of what polynomials make is one of theirs; so a reduction brings in no unknown of its own.
use Rattle.std.proofs.Common.{◌≡◌, ℕ, zero, suc, ◌==◌, Bool, true, false, if◌then◌else◌, [], ◌∷◌, ℤ, pos, negsuc, ◌+ℤ◌, ◌*ℤ◌}
use Rattle.std.specs.Ordering.{nat_cmp}
use Rattle.std.specs.declared.cmp.Ordering.{Ordering}
use Rattle.std.specs.declared.cmp.Ordering.TheVariants.{Less, Equal, Greater}
use Rattle.tcl_poly.specs.Monomial.{Monomial, put_at, put, times, order, exponent}
use Rattle.tcl_poly.specs.Polynomial.{Term, Polynomial, front, number_of, add_at, add_term, sum_of, scaled, product_of, raised_by, power_of}
use Rattle.tcl_reduce.specs.Parts.{without, part, coefficients}
use Rattle.tcl_reduce.specs.Substitution.{quotient_by, substituted, cofactor_by}
use Rattle.tcl_remainder.specs.Names.{has_name}
use Rattle.tcl_plain.specs.Named.{HasNames, AreNamed}

-- ---- monomials

put_named : (f : ℕ × ℕ) (m : Monomial) → has_name f.0 ≡ true → HasNames m → HasNames (put f m)
put_named f [] h i = (h, tt)
put_named f (g ∷ m) h i = at (nat_cmp f.0 g.0) (put_named f m h i.1)
  where
    at : (o : Ordering) → HasNames (put f m) → HasNames (put_at o f g m (put f m))
    at Less further = (h, i)
    at Equal further = i
    at Greater further = (i.0, further)

times_named : (m n : Monomial) → HasNames m → HasNames n → HasNames (times m n)
times_named [] n h i = i
times_named (f ∷ m) n h i = put_named f (times m n) h.0 (times_named m n h.1 i)

without_named : (u : ℕ) (m : Monomial) → HasNames m → HasNames (without u m)
without_named u [] h = tt
without_named u (f ∷ m) h = at (f.0 == u) (without_named u m h.1)
  where
    at : (b : Bool) → HasNames (without u m) → HasNames (if b then without u m else f ∷ without u m)
    at true rest = rest
    at false rest = (h.0, rest)

-- ---- polynomials

front_named : (m : Monomial) (c : ℤ) (p : Polynomial) → HasNames m → AreNamed p → AreNamed (front m c p)
front_named m (pos zero) p h i = i
front_named m (pos (suc n)) p h i = (h, i)
front_named m (negsuc n) p h i = (h, i)

pub number_named : (r : ℤ → ℤ) (n : ℤ) → AreNamed (number_of r n)
number_named r n = front_named [] (r n) [] tt tt

pub power_named : (r : ℤ → ℤ) (u k : ℕ) → has_name u ≡ true → AreNamed (power_of r u k)
power_named r u zero h = number_named r (pos 1)
power_named r u (suc k) h = front_named ((u, suc k) ∷ []) (r (pos 1)) [] (h, tt) tt

term_named : (r : ℤ → ℤ) (t : Term) (p : Polynomial) → HasNames t.0 → AreNamed p → AreNamed (add_term r t p)
term_named r t [] h i = (h, tt)
term_named r t (u ∷ p) h i = at (order t.0 u.0) (term_named r t p h i.1)
  where
    at : (o : Ordering) → AreNamed (add_term r t p) → AreNamed (add_at r o t u p (add_term r t p))
    at Less further = (i.0, further)
    at Equal further = front_named u.0 (r (t.1 +ℤ u.1)) p i.0 i.1
    at Greater further = (h, i)

pub sum_named : (r : ℤ → ℤ) (p q : Polynomial) → AreNamed p → AreNamed q → AreNamed (sum_of r p q)
sum_named r [] q h i = i
sum_named r (t ∷ p) q h i = term_named r t (sum_of r p q) h.0 (sum_named r p q h.1 i)

pub scaled_named : (r : ℤ → ℤ) (t : Term) (p : Polynomial) → HasNames t.0 → AreNamed p → AreNamed (scaled r t p)
scaled_named r t [] h i = tt
scaled_named r t (u ∷ p) h i =
    front_named (times t.0 u.0) (r (t.1 *ℤ u.1)) (scaled r t p) (times_named t.0 u.0 h i.0) (scaled_named r t p h i.1)

pub product_named : (r : ℤ → ℤ) (p q : Polynomial) → AreNamed p → AreNamed q → AreNamed (product_of r p q)
product_named r [] q h i = tt
product_named r (t ∷ p) q h i =
    sum_named r (scaled r t q) (product_of r p q) (scaled_named r t q h.0 i) (product_named r p q h.1 i)

pub raised_named : (r : ℤ → ℤ) (p : Polynomial) (k : ℕ) → AreNamed p → AreNamed (raised_by r p k)
raised_named r p zero h = number_named r (pos 1)
raised_named r p (suc k) h = product_named r (raised_by r p k) p (raised_named r p k h) h

-- ---- substitutions

part_named : (u k : ℕ) (p : Polynomial) → AreNamed p → AreNamed (part u k p)
part_named u k [] h = tt
part_named u k (t ∷ p) h = at (exponent t.0 u == k) (part_named u k p h.1)
  where
    at : (b : Bool) → AreNamed (part u k p) → AreNamed (if b then (without u t.0, t.1) ∷ part u k p else part u k p)
    at true rest = (without_named u t.0 h.0, rest)
    at false rest = rest

quotient_named : (r : ℤ → ℤ) (u : ℕ) (d : Polynomial) (k : ℕ) → has_name u ≡ true → AreNamed d → AreNamed (quotient_by r u d k)
quotient_named r u d zero h i = tt
quotient_named r u d (suc k) h i =
    sum_named r (product_of r (quotient_by r u d k) d) (power_of r u k) (product_named r (quotient_by r u d k) d (quotient_named r u d k h i) i) (power_named r u k h)

pub substituted_named : (r : ℤ → ℤ) (u : ℕ) (d f : Polynomial) (k : ℕ) → AreNamed d → AreNamed f → AreNamed (substituted r d (coefficients u f) k)
substituted_named r u d f zero h i = tt
substituted_named r u d f (suc k) h i =
    sum_named r (substituted r d (coefficients u f) k) (product_of r (part u k f) (raised_by r d k)) (substituted_named r u d f k h i)
    (product_named r (part u k f) (raised_by r d k) (part_named u k f i) (raised_named r d k h))

pub cofactor_named : (r : ℤ → ℤ) (u : ℕ) (d f : Polynomial) (k : ℕ) → has_name u ≡ true → AreNamed d → AreNamed f → AreNamed (cofactor_by r u d (coefficients u f) k)
cofactor_named r u d f zero n h i = tt
cofactor_named r u d f (suc k) n h i =
    sum_named r (cofactor_by r u d (coefficients u f) k) (product_of r (part u k f) (quotient_by r u d k)) (cofactor_named r u d f k n h i)
    (product_named r (part u k f) (quotient_by r u d k) (part_named u k f i) (quotient_named r u d k n h))
