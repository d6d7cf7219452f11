-- Whether two polynomials are the same, as a test.
use Rattle.std.specs.Prelude.{nat_eq, Bool, true, false, ◌&&◌, [], ◌∷◌}
use Rattle.std.specs.Ordering.{int_eq}
use Rattle.tcl_poly.specs.Monomial.{Monomial}
use Rattle.tcl_poly.specs.Polynomial.{Polynomial}

-- factors by their unknowns and exponents
unfoldable pub same_monomial : Monomial → Monomial → Bool
same_monomial [] [] = true
same_monomial (a ∷ m) (b ∷ n) = nat_eq a.0 b.0 && nat_eq a.1 b.1 && same_monomial m n
same_monomial _ _ = false

-- terms by their monomials and coefficients
unfoldable pub same_polynomial : Polynomial → Polynomial → Bool
same_polynomial [] [] = true
same_polynomial (a ∷ p) (b ∷ q) = same_monomial a.0 b.0 && int_eq a.1 b.1 && same_polynomial p q
same_polynomial _ _ = false
