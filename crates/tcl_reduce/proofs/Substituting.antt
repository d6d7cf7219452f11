-- One substitution: f is the result plus the cofactor times the equation.
use Rattle.std.proofs.Common.{◌≡◌, ℕ, zero, suc, ◌<◌, ◌==◌, Bool, true, false, eqb-true, refl, sym, ◌∙◌, ap, arith, ℤ, pos}
use Rattle.tcl_ring.specs.Reduction.{IsReduction}
use Rattle.tcl_poly.specs.Monomial.{exponent, times}
use Rattle.tcl_poly.specs.Polynomial.{Polynomial, IsPolynomial, sum_of, product_of, weigh, number_of, power_of, raised_by}
use Rattle.tcl_poly.proofs.MonomialLaws.{times_exponent, times_monomial, same_monomial}
use Rattle.tcl_poly.proofs.Weights.{weigh_product}
use Rattle.tcl_poly.proofs.Canonical.{sum_is, product_is, number_is, power_is, same_alike}
use Rattle.tcl_poly.proofs.RingLaws.{sum_comm, sum_assoc, sum_nothing, product_comm, product_sum, product_assoc}
use Rattle.tcl_reduce.specs.Parts.{part, top, coefficients}
use Rattle.tcl_reduce.specs.Substitution.{quotient_by, substituted, cofactor_by}
use Rattle.tcl_reduce.proofs.PartLemmas.{power_monomial, power_monomial_is, exponent_power, exponent_power_other, part_is}
use Rattle.tcl_reduce.proofs.Gathering.{weigh_power, gathers}
use Rattle.tcl_reduce.specs.Laws.{gathered}

-- a polynomial with its form, so that the laws below need no further argument
abbrev Canonical : (ℤ → ℤ) → Type 0
Canonical r = (p : Polynomial) × IsPolynomial r p

abbrev plus : (r : ℤ → ℤ) → IsReduction r → Canonical r → Canonical r → Canonical r
plus r ring p q = (sum_of r p.0 q.0, sum_is r ring p.0 q.0 p.1 q.1)

abbrev by : (r : ℤ → ℤ) → IsReduction r → Canonical r → Canonical r → Canonical r
by r ring p q = (product_of r p.0 q.0, product_is r ring p.0 q.0 p.1 q.1)

-- ---- ring laws

four : (r : ℤ → ℤ) → (ring : IsReduction r) → (a b c d : Canonical r) → sum_of r (sum_of r a.0 b.0) (sum_of r c.0 d.0) ≡ sum_of r (sum_of r a.0 c.0) (sum_of r b.0 d.0)
four r ring a b c d =
    let bd = plus r ring b d in let cd = plus r ring c d in
    sum_assoc r ring a.0 b.0 cd.0 a.1 b.1 cd.1
    ∙ ap (sum_of r a.0) (sym (sum_assoc r ring b.0 c.0 d.0 b.1 c.1 d.1)
    ∙ ap (λ x. sum_of r x d.0) (sum_comm r ring b.0 c.0 b.1 c.1)
    ∙ sum_assoc r ring c.0 b.0 d.0 c.1 b.1 d.1)
    ∙ sym (sum_assoc r ring a.0 c.0 bd.0 a.1 c.1 bd.1)

sum_times : (r : ℤ → ℤ) → (ring : IsReduction r) → (a b c : Canonical r) → product_of r (sum_of r a.0 b.0) c.0 ≡ sum_of r (product_of r a.0 c.0) (product_of r b.0 c.0)
sum_times r ring a b c = product_sum r ring a.0 b.0 c.0 a.1 b.1 c.1

times_sum : (r : ℤ → ℤ) → (ring : IsReduction r) → (a b c : Canonical r) → product_of r a.0 (sum_of r b.0 c.0) ≡ sum_of r (product_of r a.0 b.0) (product_of r a.0 c.0)
times_sum r ring a b c =
    let bc = plus r ring b c in
    product_comm r ring a.0 bc.0 a.1 bc.1
    ∙ sum_times r ring b c a
    ∙ (λ i. sum_of r (product_comm r ring b.0 a.0 b.1 a.1 i) (product_comm r ring c.0 a.0 c.1 a.1 i))

assoc : (r : ℤ → ℤ) → (ring : IsReduction r) → (a b c : Canonical r) → product_of r (product_of r a.0 b.0) c.0 ≡ product_of r a.0 (product_of r b.0 c.0)
assoc r ring a b c = product_assoc r ring a.0 b.0 c.0 a.1 b.1 c.1

-- the last two of three factors change places
turn : (r : ℤ → ℤ) → (ring : IsReduction r) → (a b c : Canonical r) → product_of r (product_of r a.0 b.0) c.0 ≡ product_of r (product_of r a.0 c.0) b.0
turn r ring a b c =
    assoc r ring a b c ∙ ap (product_of r a.0) (product_comm r ring b.0 c.0 b.1 c.1) ∙ sym (assoc r ring a c b)

-- ---- powers and quotients

pub power_by_is : (r : ℤ → ℤ) → IsReduction r → (d : Polynomial) (k : ℕ) → IsPolynomial r d → IsPolynomial r (raised_by r d k)
power_by_is r ring d zero h = number_is r ring (pos 1)
power_by_is r ring d (suc k) h = product_is r ring (raised_by r d k) d (power_by_is r ring d k h) h

pub quotient_by_is : (r : ℤ → ℤ) → IsReduction r → (u : ℕ) (d : Polynomial) (k : ℕ) → IsPolynomial r d → IsPolynomial r (quotient_by r u d k)
quotient_by_is r ring u d zero h = tt
quotient_by_is r ring u d (suc k) h =
    sum_is r ring (product_of r (quotient_by r u d k) d) (power_of r u k) (product_is r ring (quotient_by r u d k) d (quotient_by_is r ring u d k h) h) (power_is r ring u k)

pub substituted_is : (r : ℤ → ℤ) → IsReduction r → (u : ℕ) (d f : Polynomial) (k : ℕ) → IsPolynomial r d → IsPolynomial r f → IsPolynomial r (substituted r d (coefficients u f) k)
substituted_is r ring u d f zero h i = tt
substituted_is r ring u d f (suc k) h i =
    sum_is r ring (substituted r d (coefficients u f) k) (product_of r (part u k f) (raised_by r d k)) (substituted_is r ring u d f k h i)
    (product_is r ring (part u k f) (raised_by r d k) (part_is r u k f i) (power_by_is r ring d k h))

pub cofactor_by_is : (r : ℤ → ℤ) → IsReduction r → (u : ℕ) (d f : Polynomial) (k : ℕ) → IsPolynomial r d → IsPolynomial r f → IsPolynomial r (cofactor_by r u d (coefficients u f) k)
cofactor_by_is r ring u d f zero h i = tt
cofactor_by_is r ring u d f (suc k) h i =
    sum_is r ring (cofactor_by r u d (coefficients u f) k) (product_of r (part u k f) (quotient_by r u d k)) (cofactor_by_is r ring u d f k h i)
    (product_is r ring (part u k f) (quotient_by r u d k) (part_is r u k f i) (quotient_by_is r ring u d k h))

next_exponent : (b : Bool) (u v k : ℕ) → (u == v) ≡ b → exponent (times (power_monomial u k) (power_monomial u 1)) v ≡ exponent (power_monomial u (suc k)) v
next_exponent true u v k e =
    let same = eqb-true u v e in
    omega (arith, times_exponent (power_monomial u k) (power_monomial u 1) v, exponent_power u k, exponent_power u 1, exponent_power u (suc k), ap (exponent (power_monomial u k)) same, ap (exponent (power_monomial u 1)) same, ap (exponent (power_monomial u (suc k))) same)
next_exponent false u v k e =
    omega (arith, times_exponent (power_monomial u k) (power_monomial u 1) v, exponent_power_other u v k e, exponent_power_other u v 1 e, exponent_power_other u v (suc k) e)

-- the next power of an unknown
power_step : (r : ℤ → ℤ) → IsReduction r → (u k : ℕ) → power_of r u (suc k) ≡ product_of r (power_of r u k) (power_of r u 1)
power_step r ring u k =
    let a = power_monomial u k in let b = power_monomial u 1 in
    let monomials : times a b ≡ power_monomial u (suc k) =
    same_monomial 0 (times a b) (power_monomial u (suc k)) (times_monomial 0 a b (power_monomial_is u k) (power_monomial_is u 1)) (power_monomial_is u (suc k)) (λ v. next_exponent (u == v) u v k refl) in
    same_alike r ring (power_of r u (suc k)) (product_of r (power_of r u k) (power_of r u 1)) (power_is r ring u (suc k)) (product_is r ring (power_of r u k) (power_of r u 1) (power_is r ring u k) (power_is r ring u 1))
    (λ φ. weigh_power r ring φ u (suc k)
    ∙ ap (λ m. r (φ m)) (sym monomials)
    ∙ sym (weigh_product r ring φ (power_of r u k) (power_of r u 1)
    ∙ weigh_power r ring (λ n. weigh (λ m. φ (times n m)) (power_of r u 1)) u k
    ∙ weigh_power r ring (λ m. φ (times a m)) u 1))

-- u^k is d^k plus a multiple of the equation
pub power_quotient : (r : ℤ → ℤ) → (ring : IsReduction r) → (u : ℕ) (d e : Polynomial) (k : ℕ) → IsPolynomial r d → IsPolynomial r e → power_of r u 1 ≡ sum_of r d e → power_of r u k ≡ sum_of r (raised_by r d k) (product_of r (quotient_by r u d k) e)
power_quotient r ring u d e zero h i s = sym (sum_nothing r ring (number_of r (pos 1)) (number_is r ring (pos 1)))
power_quotient r ring u d e (suc k) h i s =
    let x : Canonical r = (power_of r u k, power_is r ring u k) in
    let p : Canonical r = (raised_by r d k, power_by_is r ring d k h) in
    let q : Canonical r = (quotient_by r u d k, quotient_by_is r ring u d k h) in
    let d' : Canonical r = (d, h) in let e' : Canonical r = (e, i) in
    let pd = by r ring p d' in let qd = by r ring q d' in let qde = by r ring qd e' in let xe = by r ring x e' in
    let first : product_of r x.0 d ≡ sum_of r pd.0 qde.0 =
    ap (λ z. product_of r z d) (power_quotient r ring u d e k h i s)
    ∙ sum_times r ring p (by r ring q e') d'
    ∙ ap (sum_of r pd.0) (turn r ring q e' d') in
    power_step r ring u k
    ∙ ap (product_of r x.0) s
    ∙ times_sum r ring x d' e'
    ∙ ap (λ z. sum_of r z xe.0) first
    ∙ sum_assoc r ring pd.0 qde.0 xe.0 pd.1 qde.1 xe.1
    ∙ ap (sum_of r pd.0) (sym (sum_times r ring qd x e'))

-- ---- the substitution

step : (r : ℤ → ℤ) → (ring : IsReduction r) → (u : ℕ) (d e f : Polynomial) (k : ℕ) → IsPolynomial r d → IsPolynomial r e → IsPolynomial r f → power_of r u 1 ≡ sum_of r d e → gathered r u f k ≡ sum_of r (substituted r d (coefficients u f) k) (product_of r (cofactor_by r u d (coefficients u f) k) e)
step r ring u d e f zero h i j s = refl
step r ring u d e f (suc k) h i j s =
    let a : Canonical r = (part u k f, part_is r u k f j) in
    let p : Canonical r = (raised_by r d k, power_by_is r ring d k h) in
    let q : Canonical r = (quotient_by r u d k, quotient_by_is r ring u d k h) in
    let e' : Canonical r = (e, i) in
    let g : Canonical r = (substituted r d (coefficients u f) k, substituted_is r ring u d f k h j) in
    let c : Canonical r = (cofactor_by r u d (coefficients u f) k, cofactor_by_is r ring u d f k h j) in
    let ap' = by r ring a p in let aq = by r ring a q in
    let row : product_of r a.0 (power_of r u k) ≡ sum_of r ap'.0 (product_of r aq.0 e) =
    ap (product_of r a.0) (power_quotient r ring u d e k h i s)
    ∙ times_sum r ring a p (by r ring q e')
    ∙ ap (sum_of r ap'.0) (sym (assoc r ring a q e')) in
    (λ t. sum_of r (step r ring u d e f k h i j s t) (row t))
    ∙ four r ring g (by r ring c e') ap' (by r ring aq e')
    ∙ ap (sum_of r (sum_of r g.0 ap'.0)) (sym (sum_times r ring c aq e'))

-- f is the substituted polynomial plus the cofactor times the equation
pub substitution_kept : (r : ℤ → ℤ) → IsReduction r → (u : ℕ) (d e f : Polynomial) (k : ℕ) → IsPolynomial r d → IsPolynomial r e → IsPolynomial r f → power_of r u 1 ≡ sum_of r d e → top u f < k → f ≡ sum_of r (substituted r d (coefficients u f) k) (product_of r (cofactor_by r u d (coefficients u f) k) e)
substitution_kept r ring u d e f k h i j s t = gathers r ring u f k j t ∙ step r ring u d e f k h i j s
