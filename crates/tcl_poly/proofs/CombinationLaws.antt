-- The value of a combination is the sum of the products' values, in the ring and at every point.
use Rattle.std.proofs.Common.{◌≡◌, ℕ, refl, sym, ◌∙◌, ap, List, [], ◌∷◌, ℤ, pos, ◌+ℤ◌, ◌*ℤ◌, Option}
use Rattle.tcl_num.proofs.IntegerRing.{int_add_zero, int_mul_zero}
use Rattle.tcl_ring.specs.Reduction.{IsReduction, reduced_by, IsModulus}
use Rattle.tcl_ring.proofs.Reductions.{is_reduction}
use Rattle.tcl_poly.specs.Polynomial.{Polynomial, terms_of, value_of, product_of}
use Rattle.tcl_poly.specs.Combination.{Terms, equation_at, combination_of}
use Rattle.tcl_poly.specs.Laws.{combined_value, CombinationValues, CombinationVanishes}
use Rattle.tcl_poly.proofs.Values.{value_sum, value_product}
use Rattle.tcl_poly.proofs.Weights.{two_sums}
use Rattle.tcl_poly.proofs.TermLists.{terms_itself}

pub value_combination : {E : Type 0} (r : ℤ → ℤ) → IsReduction r → (value : E → ℤ) (point : ℕ → ℤ) (equations : List (Terms E)) (cs : List (ℕ × Terms E)) → r (value_of point (combination_of r value equations cs)) ≡ r (combined_value value point equations cs)
value_combination r ring value point equations [] = refl
value_combination r ring value point equations (c ∷ cs) =
    let a = terms_of value c.1 in let e = terms_of value (equation_at equations c.0) in
    value_sum r ring point (product_of r a e) (combination_of r value equations cs)
    ∙ two_sums r ring (value_of point (product_of r a e)) (value_of point a *ℤ value_of point e) (value_of point (combination_of r value equations cs)) (combined_value value point equations cs)
    (value_product r ring point a e) (value_combination r ring value point equations cs)

pub combination_values : CombinationValues
combination_values m equations f cs point modulus e =
    ap (λ x. reduced_by m (value_of point x)) e ∙ value_combination (reduced_by m) (is_reduction m modulus) (λ n. n) point equations cs

-- a sum of products with 0
vanishes : (r : ℤ → ℤ) → IsReduction r → (point : ℕ → ℤ) (equations : List Polynomial) (cs : List (ℕ × Polynomial)) → ((k : ℕ) → r (value_of point (equation_at equations k)) ≡ r (pos 0)) → r (combined_value (λ n. n) point equations cs) ≡ r (pos 0)
vanishes r ring point equations [] h = refl
vanishes r ring point equations (c ∷ cs) h =
    let a = value_of point (terms_of (λ n. n) c.1) in let e = value_of point (terms_of (λ n. n) (equation_at equations c.0)) in
    let same : r e ≡ r (pos 0) = ap (λ x. r (value_of point x)) (terms_itself (equation_at equations c.0)) ∙ h c.0 in
    let nothing : r (a *ℤ e) ≡ r (pos 0) = ring.products e (pos 0) a same ∙ ap r (int_mul_zero a) in
    two_sums r ring (a *ℤ e) (pos 0) (combined_value (λ n. n) point equations cs) (pos 0) nothing (vanishes r ring point equations cs h)

pub combination_vanishes : CombinationVanishes
combination_vanishes m equations f cs point modulus e h =
    combination_values m equations f cs point modulus e ∙ vanishes (reduced_by m) (is_reduction m modulus) point equations cs h
