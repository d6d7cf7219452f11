-- The degrees of one substitution, on the way too, are at most 1,024 where it is not large.
use Rattle.std.proofs.Common.{◌≡◌, ℕ, zero, suc, max, ◌+◌, ◌*◌, ◌<◌, ◌≤◌, ◌==◌, refl, sym, ap, subst, arith, inl, inr, Bool, true, false, if◌then◌else◌, [], ◌∷◌, leb, eqb-true, ℤ, pos, negsuc}
use Rattle.std.proofs.Math.Nat.{mul-le-mul_right}
use Rattle.std.proofs.lemmas.Bool.Decides.{nat_tests}
use Rattle.tcl_poly.specs.Monomial.{Monomial, exponent, degree}
use Rattle.tcl_poly.specs.Polynomial.{Term, Polynomial, IsPolynomial, front, scaled, product_of, norm_of, degree_of, power_of, raised_by}
use Rattle.tcl_poly.proofs.Degrees.{IsWithin, within_more, degree_within, within_sum, within_scaled, within_product}
use Rattle.tcl_reduce.specs.Parts.{without, part, top, coefficients}
use Rattle.tcl_reduce.specs.Substitution.{quotient_by, substituted, cofactor_by, if_any, degree_by}
use Rattle.tcl_reduce.specs.Reduction.{Definition, equation_of}
use Rattle.tcl_reduce.proofs.PartLemmas.{power_monomial, power_is_front, degree_without}
use Rattle.tcl_reduce.proofs.Gathering.{last_or_before}

-- the degree that one factor of the definition, or of its equation, adds at most
abbrev pub depth : Polynomial → ℕ
depth d = max 1 (degree_of d)

within_front : (n : ℕ) (m : Monomial) (c : ℤ) (p : Polynomial) → degree m ≤ n → IsWithin n p → IsWithin n (front m c p)
within_front n m (pos zero) p h i = i
within_front n m (pos (suc k)) p h i = (h, i)
within_front n m (negsuc k) p h i = (h, i)

power_degree : (u k : ℕ) → degree (power_monomial u k) ≤ k
power_degree u zero = omega arith
power_degree u (suc k) = omega arith

pub unknown_within : (r : ℤ → ℤ) (u k : ℕ) → IsWithin k (power_of r u k)
unknown_within r u k =
    let P : Polynomial → Type 0 = λ p. IsWithin k p in
    subst P (sym (power_is_front r u k)) (within_front k (power_monomial u k) (r (pos 1)) [] (power_degree u k) tt)

-- ---- powers and quotients

definition_within : (r : ℤ → ℤ) (d : Polynomial) → IsPolynomial r d → IsWithin (depth d) d
definition_within r d h = within_more (degree_of d) (depth d) d (omega arith) (degree_within r d h)

pub power_within : (r : ℤ → ℤ) (d : Polynomial) (k : ℕ) → IsPolynomial r d → IsWithin (k * depth d) (raised_by r d k)
power_within r d zero h = within_front (0 * depth d) [] (r (pos 1)) [] (omega arith) tt
power_within r d (suc k) h =
    within_more (k * depth d + depth d) (suc k * depth d) (raised_by r d (suc k)) (omega arith)
    (within_product r (k * depth d) (depth d) (raised_by r d k) d (power_within r d k h) (definition_within r d h))

at_least : (k n : ℕ) → k ≤ k * max 1 n
at_least k zero = omega arith
at_least k (suc n) =
    let one : max 1 (suc n) ≡ suc n = omega arith in
    omega (arith, ap (λ x. k * x) one)

pub quotient_within : (r : ℤ → ℤ) (u : ℕ) (d : Polynomial) (k : ℕ) → IsPolynomial r d → IsWithin (k * depth d) (quotient_by r u d (suc k))
quotient_within r u d zero h = within_more 0 (0 * depth d) (power_of r u 0) (omega arith) (unknown_within r u 0)
quotient_within r u d (suc k) h =
    within_sum r (suc k * depth d) (product_of r (quotient_by r u d (suc k)) d) (power_of r u (suc k))
    (within_more (k * depth d + depth d) (suc k * depth d) (product_of r (quotient_by r u d (suc k)) d) (omega arith)
    (within_product r (k * depth d) (depth d) (quotient_by r u d (suc k)) d (quotient_within r u d k h) (definition_within r d h)))
    (within_more (suc k) (suc k * depth d) (power_of r u (suc k)) (at_least (suc k) (degree_of d)) (unknown_within r u (suc k)))

pub equation_within : (r : ℤ → ℤ) (x : Definition) → IsPolynomial r x.2 → IsWithin (depth x.2) (equation_of r x)
equation_within r x h =
    within_sum r (depth x.2) (power_of r x.1 1) (scaled r ([], negsuc 0) x.2)
    (within_more 1 (depth x.2) (power_of r x.1 1) (omega arith) (unknown_within r x.1 1))
    (within_more (0 + depth x.2) (depth x.2) (scaled r ([], negsuc 0) x.2) (omega arith) (within_scaled r (depth x.2) ([], negsuc 0) x.2 (definition_within r x.2 h)))

-- ---- rows

part_degree_at : (b : Bool) (n u k : ℕ) (t : Term) (p : Polynomial) → (exponent t.0 u == k) ≡ b → degree t.0 ≤ n → if_any (part u k p) (degree_of (part u k p) + k) ≤ n → if_any (if b then (without u t.0, t.1) ∷ part u k p else part u k p) (degree_of (if b then (without u t.0, t.1) ∷ part u k p else part u k p) + k) ≤ n
part_degree_at true n u k t p e h i = omega (arith, h, degree_without u t.0, eqb-true (exponent t.0 u) k e)
part_degree_at false n u k t p e h i = i

-- a part's degree with the power that was taken out
pub part_degree : (n u k : ℕ) (p : Polynomial) → IsWithin n p → if_any (part u k p) (degree_of (part u k p) + k) ≤ n
part_degree n u k [] i = omega arith
part_degree n u k (t ∷ p) i = part_degree_at (exponent t.0 u == k) n u k t p refl i.0 (part_degree n u k p i.1)

any_depth : (p : Polynomial) (k n limit : ℕ) → if_any p (degree_of p + k * n) ≤ limit → if_any p (degree_of p + k) ≤ limit → if_any p (degree_of p + k * max 1 n) ≤ limit
any_depth [] k n limit h i = h
any_depth (t ∷ p) k zero limit h i = omega (arith, i)
any_depth (t ∷ p) k (suc n) limit h i =
    let one : max 1 (suc n) ≡ suc n = omega arith in
    omega (arith, h, ap (λ x. k * x) one)

degree_by_at : (u : ℕ) (d f : Polynomial) (j k : ℕ) → j < k → if_any (part u j f) (degree_of (part u j f) + j * degree_of d) ≤ degree_by d (coefficients u f) k
degree_by_at u d f j zero h = absurd (omega (arith, h))
degree_by_at u d f j (suc k) h = elim (last_or_before j k h) [
  | inl s ↦ omega (arith, ap (λ x. if_any (part u x f) (degree_of (part u x f) + x * degree_of d)) s)
  | inr l ↦ omega (arith, degree_by_at u d f j k l)
]

not_deep : (n limit : ℕ) → leb (suc limit) n ≡ false → n ≤ limit
not_deep n limit e = grind (arith, nat_tests)

any_some : (p : Polynomial) (n : ℕ) → 0 < norm_of p → if_any p n ≡ n
any_some [] n h = absurd (omega (arith, h))
any_some (t ∷ p) n h = refl

any_or_nothing : (p : Polynomial) (n k limit : ℕ) → if_any p (degree_of p + n) ≤ limit → n ≤ limit → degree_of p + n ≤ limit
any_or_nothing [] n k limit h i = omega (arith, i)
any_or_nothing (t ∷ p) n k limit h i = h

-- what is known of a substitution that is not large: every row's degree, also of one that is empty
pub row_depth : (r : ℤ → ℤ) (u : ℕ) (d f : Polynomial) (j k : ℕ) → IsPolynomial r f → degree_of f ≤ 1024 → leb 1025 (degree_by d (coefficients u f) (suc (suc k))) ≡ false → 0 < norm_of (part u (suc k) f) → j ≤ suc k → degree_of (part u j f) + j * depth d ≤ 1024
row_depth r u d f j k h deg small top l =
    let within = within_more (degree_of f) 1024 f deg (degree_within r f h) in
    let all = not_deep (degree_by d (coefficients u f) (suc (suc k))) 1024 small in
    let last = part u (suc k) f in
    let greatest : if_any last (degree_of last + suc k * depth d) ≤ 1024 =
    any_depth last (suc k) (degree_of d) 1024 (omega (arith, all, degree_by_at u d f (suc k) (suc (suc k)) (omega arith))) (part_degree 1024 u (suc k) f within) in
    let below : j * depth d ≤ suc k * depth d = mul-le-mul_right (depth d) l in
    any_or_nothing (part u j f) (j * depth d) 0 1024
    (any_depth (part u j f) j (degree_of d) 1024 (omega (arith, all, degree_by_at u d f j (suc (suc k)) (omega (arith, l)))) (part_degree 1024 u j f within))
    (omega (arith, below, greatest, any_some last (degree_of last + suc k * depth d) top))

part_within : (r : ℤ → ℤ) (u k : ℕ) (f : Polynomial) → IsPolynomial r (part u k f) → IsWithin (degree_of (part u k f)) (part u k f)
part_within r u k f h = degree_within r (part u k f) h

pub substituted_within : (r : ℤ → ℤ) (u : ℕ) (d f : Polynomial) (k n : ℕ) → IsPolynomial r d → ((j : ℕ) → IsPolynomial r (part u j f)) → ((j : ℕ) → j < k → degree_of (part u j f) + j * depth d ≤ n) → IsWithin n (substituted r d (coefficients u f) k)
substituted_within r u d f zero n h i rows = tt
substituted_within r u d f (suc k) n h i rows =
    within_sum r n (substituted r d (coefficients u f) k) (product_of r (part u k f) (raised_by r d k))
    (substituted_within r u d f k n h i (λ j l. rows j (omega (arith, l))))
    (within_more (degree_of (part u k f) + k * depth d) n (product_of r (part u k f) (raised_by r d k)) (rows k (omega arith))
    (within_product r (degree_of (part u k f)) (k * depth d) (part u k f) (raised_by r d k) (part_within r u k f (i k)) (power_within r d k h)))

pub product_nothing : (r : ℤ → ℤ) (p : Polynomial) → product_of r p [] ≡ []
product_nothing r [] = refl
product_nothing r (t ∷ p) = product_nothing r p

pub cofactor_within : (r : ℤ → ℤ) (u : ℕ) (d f : Polynomial) (k n : ℕ) → IsPolynomial r d → ((j : ℕ) → IsPolynomial r (part u j f)) → ((j : ℕ) → j < k → degree_of (part u (suc j) f) + j * depth d ≤ n) → IsWithin n (cofactor_by r u d (coefficients u f) (suc k))
cofactor_within r u d f zero n h i rows =
    let P : Polynomial → Type 0 = λ p. IsWithin n p in subst P (sym (product_nothing r (part u 0 f))) tt
cofactor_within r u d f (suc k) n h i rows =
    let a = part u (suc k) f in let q = quotient_by r u d (suc k) in
    within_sum r n (cofactor_by r u d (coefficients u f) (suc k)) (product_of r a q)
    (cofactor_within r u d f k n h i (λ j l. rows j (omega (arith, l))))
    (within_more (degree_of a + k * depth d) n (product_of r a q) (rows k (omega arith))
    (within_product r (degree_of a) (k * depth d) a q (part_within r u (suc k) f (i (suc k))) (quotient_within r u d k h)))
