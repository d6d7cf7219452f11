-- Combinations, weights and lines that fit are the same where polynomials are read with their coefficients' values.
use Rattle.std.proofs.Common.{◌≡◌, ℕ, zero, suc, ◌+◌, ◌*◌, nat_lt, nat_le, refl, ◌∙◌, ap, ◌&&◌, List, [], ◌∷◌, length, map, ℤ}
use Rattle.tcl_poly.specs.Polynomial.{Polynomial, terms_of, sum_of, product_of, norm_of, degree_of}
use Rattle.tcl_poly.specs.Combination.{Terms, equation_at, combination_of, weight_of}
use Rattle.tcl_poly.proofs.TermLists.{terms_itself, degree_of_values}
use Rattle.tcl_remainder.specs.declared.lines.CofactorLine.{CofactorLine}
use Rattle.tcl_remainder.specs.Terms.{polynomial_of}
use Rattle.tcl_remainder.specs.Lines.{valued, is_fitting, are_fitting}

-- the equations with their coefficients' values
abbrev pub values_of : {E : Type 0} → (E → ℤ) → List (Terms E) → List Polynomial
values_of value equations = map (λ f. terms_of value f) equations

pub equation_value : {E : Type 0} (value : E → ℤ) (equations : List (Terms E)) (k : ℕ) → equation_at (values_of value equations) k ≡ terms_of value (equation_at equations k)
equation_value value [] zero = refl
equation_value value [] (suc k) = refl
equation_value value (f ∷ equations) zero = refl
equation_value value (f ∷ equations) (suc k) = equation_value value equations k

same_count : {E : Type 0} (value : E → ℤ) (equations : List (Terms E)) → length (values_of value equations) ≡ length equations
same_count value [] = refl
same_count value (f ∷ equations) = ap suc (same_count value equations)

-- an equation's value read once more is the equation's value
read_value : {E : Type 0} (value : E → ℤ) (equations : List (Terms E)) (k : ℕ) → terms_of (λ n. n) (equation_at (values_of value equations) k) ≡ terms_of value (equation_at equations k)
read_value value equations k = terms_itself (equation_at (values_of value equations) k) ∙ equation_value value equations k

pub combination_valued : {E : Type 0} (r : ℤ → ℤ) (value : E → ℤ) (equations : List (Terms E)) (cs : List (ℕ × Terms E)) → combination_of r (λ n. n) (values_of value equations) (valued value cs) ≡ combination_of r value equations cs
combination_valued r value equations [] = refl
combination_valued r value equations (c ∷ cs) =
    λ i. sum_of r (product_of r (terms_itself (terms_of value c.1) i) (read_value value equations c.0 i)) (combination_valued r value equations cs i)

pub weight_valued : {E : Type 0} (value : E → ℤ) (equations : List (Terms E)) (cs : List (ℕ × Terms E)) → weight_of (λ n. n) (values_of value equations) (valued value cs) ≡ weight_of value equations cs
weight_valued value equations [] = refl
weight_valued value equations (c ∷ cs) =
    λ i. norm_of (terms_itself (terms_of value c.1) i) * norm_of (read_value value equations c.0 i) + weight_valued value equations cs i

equation_degree : {E : Type 0} (value : E → ℤ) (equations : List (Terms E)) (k : ℕ) → degree_of (equation_at (values_of value equations) k) ≡ degree_of (equation_at equations k)
equation_degree value equations k = ap degree_of (equation_value value equations k) ∙ degree_of_values value (equation_at equations k)

fitting_line : {E : Type 0} (r : ℤ → ℤ) (value : E → ℤ) (equations : List (Terms E)) (l : CofactorLine) → is_fitting r (values_of value equations) l ≡ is_fitting r equations l
fitting_line r value equations l =
    λ i. nat_lt l.equation (same_count value equations i) && nat_le (degree_of (polynomial_of r l.cofactor) + equation_degree value equations l.equation i) 1024

pub fitting_valued : {E : Type 0} (r : ℤ → ℤ) (value : E → ℤ) (equations : List (Terms E)) (lines : List CofactorLine) → are_fitting r (values_of value equations) lines ≡ are_fitting r equations lines
fitting_valued r value equations [] = refl
fitting_valued r value equations (l ∷ lines) = λ i. fitting_line r value equations l i && fitting_valued r value equations lines i
