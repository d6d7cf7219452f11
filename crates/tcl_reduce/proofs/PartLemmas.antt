-- The parts of a polynomial by the powers of an unknown: each is a polynomial, and with the powers they make it again.
use Rattle.std.proofs.Common.{◌≡◌, ℕ, zero, suc, ◌+◌, ◌<◌, ◌≤◌, ◌==◌, inl, inr, refl, sym, ◌∙◌, ap, arith, Bool, true, false, if◌then◌else◌, [], ◌∷◌, eq-eqb, eqb-true, ℤ, pos}
use Rattle.tcl_poly.specs.Monomial.{Monomial, exponent, degree, IsMonomialFrom, IsMonomial, times, IsLess}
use Rattle.tcl_poly.specs.Polynomial.{Term, Polynomial, IsUnder, IsPolynomial, front, power_of}
use Rattle.tcl_poly.proofs.MonomialLaws.{weaker, times_exponent, times_monomial, same_monomial}
use Rattle.tcl_reduce.specs.Parts.{without, part}

other_key : (t : Bool) (e : ℕ) → t ≡ false → (if t then e else 0) ≡ 0
other_key t e h = ap (λ b. if b then e else 0) h

own_key : (t : Bool) (e : ℕ) → t ≡ true → (if t then e else 0) ≡ e
own_key t e h = ap (λ b. if b then e else 0) h

-- ---- the monomial without an unknown

gone_at : (b : Bool) (f : ℕ × ℕ) (m : Monomial) (u : ℕ) → (f.0 == u) ≡ b → exponent m u ≡ 0 → exponent (if b then m else f ∷ m) u ≡ 0
gone_at true f m u e h = h
gone_at false f m u e h = omega (arith, h, other_key (f.0 == u) f.1 e)

pub exponent_gone : (u : ℕ) (m : Monomial) → exponent (without u m) u ≡ 0
exponent_gone u [] = refl
exponent_gone u (f ∷ m) = gone_at (f.0 == u) f (without u m) u refl (exponent_gone u m)

kept_at : (b : Bool) (f : ℕ × ℕ) (m n : Monomial) (u v : ℕ) → (f.0 == u) ≡ b → (u == v) ≡ false → exponent m v ≡ exponent n v → exponent (if b then m else f ∷ m) v ≡ exponent (f ∷ n) v
kept_at true f m n u v e o h =
    omega (arith, h, other_key (f.0 == v) f.1 (ap (λ x. x == v) (eqb-true f.0 u e) ∙ o))
kept_at false f m n u v e o h = omega (arith, h)

pub exponent_kept : (u v : ℕ) (m : Monomial) → (u == v) ≡ false → exponent (without u m) v ≡ exponent m v
exponent_kept u v [] o = refl
exponent_kept u v (f ∷ m) o = kept_at (f.0 == u) f (without u m) m u v refl o (exponent_kept u v m o)

degree_at : (b : Bool) (f : ℕ × ℕ) (m n : Monomial) (u : ℕ) → (f.0 == u) ≡ b → degree n ≡ degree m + exponent n u → degree (f ∷ n) ≡ degree (if b then m else f ∷ m) + exponent (f ∷ n) u
degree_at true f m n u e h = omega (arith, h, own_key (f.0 == u) f.1 e)
degree_at false f m n u e h = omega (arith, h, other_key (f.0 == u) f.1 e)

pub degree_without : (u : ℕ) (m : Monomial) → degree m ≡ degree (without u m) + exponent m u
degree_without u [] = refl
degree_without u (f ∷ m) = degree_at (f.0 == u) f (without u m) m u refl (degree_without u m)

without_is_at : (b : Bool) (k : ℕ) (f : ℕ × ℕ) (m : Monomial) → k ≤ f.0 → 0 < f.1 → IsMonomialFrom (suc f.0) m → IsMonomialFrom k (if b then m else f ∷ m)
without_is_at true k f m h p i = weaker k (suc f.0) m (omega (arith, h)) i
without_is_at false k f m h p i = (h, p, i)

pub without_is : (k u : ℕ) (m : Monomial) → IsMonomialFrom k m → IsMonomialFrom k (without u m)
without_is k u [] i = tt
without_is k u (f ∷ m) i = without_is_at (f.0 == u) k f (without u m) i.0 i.1 (without_is (suc f.0) u m i.2)

-- ---- powers of an unknown

abbrev pub power_monomial : ℕ → ℕ → Monomial
power_monomial u zero = []
power_monomial u (suc k) = (u, suc k) ∷ []

pub power_is_front : (r : ℤ → ℤ) (u k : ℕ) → power_of r u k ≡ front (power_monomial u k) (r (pos 1)) []
power_is_front r u zero = refl
power_is_front r u (suc k) = refl

pub power_monomial_is : (u k : ℕ) → IsMonomial (power_monomial u k)
power_monomial_is u zero = tt
power_monomial_is u (suc k) = (omega arith, omega arith, tt)

pub exponent_power : (u k : ℕ) → exponent (power_monomial u k) u ≡ k
exponent_power u zero = refl
exponent_power u (suc k) = omega (arith, own_key (u == u) (suc k) (eq-eqb u u refl))

pub exponent_power_other : (u v k : ℕ) → (u == v) ≡ false → exponent (power_monomial u k) v ≡ 0
exponent_power_other u v zero o = refl
exponent_power_other u v (suc k) o = omega (arith, other_key (u == v) (suc k) o)

restored_at : (b : Bool) (u v : ℕ) (m : Monomial) → (u == v) ≡ b → exponent (times (without u m) (power_monomial u (exponent m u))) v ≡ exponent m v
restored_at true u v m e =
    let same = eqb-true u v e in
    let p = power_monomial u (exponent m u) in
    omega (arith, times_exponent (without u m) p v, exponent_gone u m, exponent_power u (exponent m u), ap (exponent m) same, ap (exponent (without u m)) same, ap (exponent p) same)
restored_at false u v m e =
    let p = power_monomial u (exponent m u) in
    omega (arith, times_exponent (without u m) p v, exponent_kept u v m e, exponent_power_other u v (exponent m u) e)

-- a monomial is what is left of it times the power that was taken out
pub restored : (u k : ℕ) (m : Monomial) → IsMonomial m → exponent m u ≡ k → times (without u m) (power_monomial u k) ≡ m
restored u k m i e =
    ap (λ j. times (without u m) (power_monomial u j)) (sym e)
    ∙ same_monomial 0 (times (without u m) (power_monomial u (exponent m u))) m
    (times_monomial 0 (without u m) (power_monomial u (exponent m u)) (without_is 0 u m i) (power_monomial_is u (exponent m u))) i
    (λ v. restored_at (u == v) u v m refl)

-- ---- the parts are polynomials

lower_at : (b : Bool) (u v : ℕ) (m n : Monomial) → (u == v) ≡ b → exponent m u ≡ exponent n u → exponent m v < exponent n v → exponent (without u m) v < exponent (without u n) v
lower_at true u v m n e h l =
    let same = eqb-true u v e in
    absurd (omega (arith, l, h, ap (exponent m) same, ap (exponent n) same))
lower_at false u v m n e h l = omega (arith, l, exponent_kept u v m e, exponent_kept u v n e)

equal_at : (b : Bool) (u v : ℕ) (m n : Monomial) → (u == v) ≡ b → exponent m v ≡ exponent n v → exponent (without u m) v ≡ exponent (without u n) v
equal_at true u v m n e h =
    let same = eqb-true u v e in
    omega (arith, exponent_gone u m, exponent_gone u n, ap (exponent (without u m)) same, ap (exponent (without u n)) same)
equal_at false u v m n e h = omega (arith, h, exponent_kept u v m e, exponent_kept u v n e)

-- taking out the same power keeps the order
pub less_without : (u : ℕ) (m n : Monomial) → exponent m u ≡ exponent n u → IsLess m n → IsLess (without u m) (without u n)
less_without u m n h (inl d) = inl (omega (arith, d, h, degree_without u m, degree_without u n))
less_without u m n h (inr (e, (v, (l, s)))) =
    inr (
      omega (arith, e, h, degree_without u m, degree_without u n),
      (v, (lower_at (u == v) u v m n refl h l, λ w below. equal_at (u == w) u w m n refl (s w below))),
    )

under_part_at : (b : Bool) (u k : ℕ) (n : Monomial) (t : Term) (p : Polynomial) → (exponent t.0 u == k) ≡ b → exponent n u ≡ k → IsLess t.0 n → IsUnder (without u n) p → IsUnder (without u n) (if b then (without u t.0, t.1) ∷ p else p)
under_part_at true u k n t p e h l i = (less_without u t.0 n (eqb-true (exponent t.0 u) k e ∙ sym h) l, i)
under_part_at false u k n t p e h l i = i

under_part : (u k : ℕ) (n : Monomial) (p : Polynomial) → exponent n u ≡ k → IsUnder n p → IsUnder (without u n) (part u k p)
under_part u k n [] h i = tt
under_part u k n (t ∷ p) h i = under_part_at (exponent t.0 u == k) u k n t (part u k p) refl h i.0 (under_part u k n p h i.1)

part_is_at : (r : ℤ → ℤ) (b : Bool) (u k : ℕ) (t : Term) (p : Polynomial) → (exponent t.0 u == k) ≡ b → IsPolynomial r (t ∷ p) → IsPolynomial r (part u k p) → IsPolynomial r (if b then (without u t.0, t.1) ∷ part u k p else part u k p)
part_is_at r true u k t p e h i = (without_is 0 u t.0 h.0, h.1, h.2, under_part u k t.0 p (eqb-true (exponent t.0 u) k e) h.3, i)
part_is_at r false u k t p e h i = i

pub part_is : (r : ℤ → ℤ) (u k : ℕ) (p : Polynomial) → IsPolynomial r p → IsPolynomial r (part u k p)
part_is r u k [] h = tt
part_is r u k (t ∷ p) h = part_is_at r (exponent t.0 u == k) u k t p refl h (part_is r u k p h.4)
