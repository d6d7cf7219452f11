-- A polynomial reduced by rows from the greatest leading monomial down: it changes by a combination of them, and has none
-- of their leading monomials then.
use Rattle.std.proofs.Common.{◌≡◌, refl, ◌∙◌, ap, arith, List, [], ◌∷◌, ℤ, pos, ◌+ℤ◌, ◌-ℤ◌, ◌*ℤ◌, neg_ℤ}
use Rattle.std.specs.List.{AllByRecursion}
use Rattle.std.proofs.lemmas.Int.{ints}
use Rattle.tcl_num.proofs.IntegerRing.{int_mul_assoc, int_mul_zero, int_mul_one, int_add_zero, int_neg_mul}
use Rattle.tcl_ring.specs.Reduction.{IsReduction}
use Rattle.tcl_poly.specs.Monomial.{Monomial, IsLess, order}
use Rattle.tcl_poly.specs.Polynomial.{Polynomial, IsPolynomial, sum_of, scaled, coefficient, one_at}
use Rattle.tcl_poly.proofs.Weights.{right_sum, weigh_sum, weigh_scaled}
use Rattle.tcl_poly.proofs.Canonical.{sum_is, scaled_is}
use Rattle.tcl_reduce.specs.Row.{Pivot, quotient_at}
use Rattle.tcl_reduce.specs.Span.{IsSpanned}
use Rattle.tcl_pivots.specs.Apart.{AreApart}
use Rattle.tcl_pivots.specs.RowLaws.{Lacks}
use Rattle.tcl_pivots.proofs.Residues.{two_products, same_difference}
use Rattle.tcl_pivots.proofs.Spanning.{span_alike, span_multiple, apart_chain, apart_itself}
use Rattle.tcl_pivots.specs.Kept.{lead, IsPivot}
use Rattle.tcl_pivots.proofs.Pivots.{AreDescending}

-- one step
abbrev pub less : (ℤ → ℤ) → Polynomial → Pivot → Polynomial
less r f p = sum_of r f (scaled r ([], neg_ℤ (quotient_at r f p)) p.row.poly)

pub less_is : (r : ℤ → ℤ) → IsReduction r → (f : Polynomial) (p : Pivot) → IsPolynomial r f → IsPivot r p → IsPolynomial r (less r f p)
less_is r ring f p h i = sum_is r ring f (scaled r ([], neg_ℤ (quotient_at r f p)) p.row.poly) h (scaled_is r ring ([], neg_ℤ (quotient_at r f p)) p.row.poly tt i.over)

pub less_coefficient : (r : ℤ → ℤ) → IsReduction r → (f : Polynomial) (p : Pivot) (m : Monomial) → r (coefficient (less r f p) m) ≡ r (coefficient f m +ℤ neg_ℤ (quotient_at r f p) *ℤ coefficient p.row.poly m)
less_coefficient r ring f p m =
    let c = neg_ℤ (quotient_at r f p) in
    let φ : Monomial → ℤ = λ n. one_at (order n m) in
    weigh_sum r ring φ f (scaled r ([], c) p.row.poly)
    ∙ right_sum r ring (coefficient f m) (coefficient (scaled r ([], c) p.row.poly) m) (c *ℤ coefficient p.row.poly m) (weigh_scaled r ring φ ([], c) p.row.poly)

apart_by : (a c b : ℤ) → a -ℤ (a +ℤ neg_ℤ c *ℤ b) ≡ c *ℤ b
apart_by a c b = omega (arith, ints, int_neg_mul c b)

pub less_apart : (r : ℤ → ℤ) → IsReduction r → (K : List Polynomial) (f : Polynomial) (p : Pivot) → IsSpanned r K (coefficient p.row.poly) → AreApart r K f (less r f p)
less_apart r ring K f p h =
    let c = quotient_at r f p in
    span_alike r K (λ m. c *ℤ coefficient p.row.poly m) (λ m. coefficient f m -ℤ coefficient (less r f p) m)
    (λ m. same_difference r ring (coefficient f m) (coefficient f m) (coefficient (less r f p) m) (coefficient f m +ℤ neg_ℤ c *ℤ coefficient p.row.poly m) refl (less_coefficient r ring f p m)
    ∙ ap r (apart_by (coefficient f m) c (coefficient p.row.poly m)))
    (span_multiple r ring K c (coefficient p.row.poly) h)

opposite : (a b : ℤ) → a +ℤ neg_ℤ a *ℤ b ≡ a -ℤ a *ℤ b
opposite a b = omega (arith, ints, int_neg_mul a b)

no_more : (a : ℤ) → a -ℤ a ≡ pos 0
no_more a = omega (arith, ints)

minus_product : (a c b : ℤ) → a +ℤ neg_ℤ c *ℤ b ≡ a -ℤ c *ℤ b
minus_product a c b = omega (arith, ints, int_neg_mul c b)

-- the leading monomial of the row vanishes
pub less_lacks : (r : ℤ → ℤ) → IsReduction r → (f : Polynomial) (p : Pivot) → IsPivot r p → Lacks r (coefficient (less r f p)) p.row.poly
less_lacks r ring f p i =
    let a = coefficient f (lead p) in
    let b = coefficient p.row.poly (lead p) in
    let c = quotient_at r f p in
    let product : r (c *ℤ b) ≡ r a =
    two_products r ring c (a *ℤ p.inverse) b b (ring.twice (a *ℤ p.inverse)) refl
    ∙ ap r (int_mul_assoc a p.inverse b)
    ∙ ring.products (p.inverse *ℤ b) (pos 1) a i.unit
    ∙ ap r (int_mul_one a) in
    less_coefficient r ring f p (lead p)
    ∙ ap r (minus_product a c b)
    ∙ same_difference r ring a a (c *ℤ b) a refl product
    ∙ ap r (no_more a)

-- greater monomials stay
pub less_other : (r : ℤ → ℤ) → IsReduction r → (f : Polynomial) (p : Pivot) (m : Monomial) → IsPivot r p → IsLess (lead p) m → r (coefficient (less r f p) m) ≡ r (coefficient f m)
less_other r ring f p m i h =
    let c = neg_ℤ (quotient_at r f p) in
    less_coefficient r ring f p m
    ∙ ap (λ x. r (coefficient f m +ℤ c *ℤ x)) (i.under m h)
    ∙ ap r (ap (λ x. coefficient f m +ℤ x) (int_mul_zero c) ∙ int_add_zero (coefficient f m))

-- ---- all steps, over rows that K spans; S says that all were made

pub record IsCleared (r : ℤ → ℤ) (K : List Polynomial) (ps : List Pivot) (f g : Polynomial) (S : Type 0) : Type 0 where
  pub over : IsPolynomial r g
  pub apart : AreApart r K f g
  pub gone : S → AllByRecursion (λ p. Lacks r (coefficient g) p.row.poly) ps
  pub other : (m : Monomial) → AllByRecursion (λ p. IsLess (lead p) m) ps → r (coefficient g m) ≡ r (coefficient f m)

pub cleared_end : (r : ℤ → ℤ) (K : List Polynomial) (f : Polynomial) (S : Type 0) → IsPolynomial r f → IsCleared r K [] f f S
cleared_end r K f S h = record { over = h; apart = apart_itself r K f; gone = λ _. tt; other = λ m _. refl }

pub cleared_skip : (r : ℤ → ℤ) (K : List Polynomial) (p : Pivot) (ps : List Pivot) (f g : Polynomial) (S : Type 0) → AreDescending (p ∷ ps) → coefficient f (lead p) ≡ pos 0 → IsCleared r K ps f g S → IsCleared r K (p ∷ ps) f g S
cleared_skip r K p ps f g S d e h = record {
  over = h.over;
  apart = h.apart;
  gone = λ s. (h.other (lead p) d.0 ∙ ap r e, h.gone s);
  other = λ m b. h.other m b.1;
}

pub cleared_wide : (r : ℤ → ℤ) (K : List Polynomial) (p : Pivot) (ps : List Pivot) (f g : Polynomial) (S : Type 0) → (S → ⊥) → IsCleared r K ps f g S → IsCleared r K (p ∷ ps) f g S
cleared_wide r K p ps f g S n h = record {
  over = h.over;
  apart = h.apart;
  gone = λ s. absurd (n s);
  other = λ m b. h.other m b.1;
}

pub cleared_step : (r : ℤ → ℤ) → IsReduction r → (K : List Polynomial) (p : Pivot) (ps : List Pivot) (f g : Polynomial) (S : Type 0) → IsPivot r p → IsSpanned r K (coefficient p.row.poly) → AreDescending (p ∷ ps) → IsCleared r K ps (less r f p) g S → IsCleared r K (p ∷ ps) f g S
cleared_step r ring K p ps f g S i k d h = record {
  over = h.over;
  apart = apart_chain r ring K f (less r f p) g (less_apart r ring K f p k) h.apart;
  gone = λ s. (h.other (lead p) d.0 ∙ less_lacks r ring f p i, h.gone s);
  other = λ m b. h.other m b.1 ∙ less_other r ring f p m i b.0;
}
