-- The greatest monomial at which two polynomials differ, and the answers of their comparison.
use Rattle.std.specs.Prelude.{◌≡◌, Bool, true, false}
use Rattle.tcl_cofactor.specs.declared.answer.CofactorAnswer.{CofactorAnswer}
use Rattle.tcl_cofactor.specs.declared.answer.CofactorAnswer.TheVariants.{Equal, Differs, Wide, Memory}
use Rattle.tcl_poly.specs.Monomial.{Monomial, IsLess}
use Rattle.tcl_poly.specs.Polynomial.{Polynomial, coefficient}

-- m is the greatest monomial whose coefficients in p and q differ
abbrev pub IsGreatestDifference : Polynomial → Polynomial → Monomial → Type 0
IsGreatestDifference p q m =
    (coefficient p m ≡ coefficient q m → ⊥) × ((n : Monomial) → IsLess m n → coefficient p n ≡ coefficient q n)

-- what an answer of the comparison says; an answer that memory has run out says nothing
abbrev pub IsComparison : Bool → Polynomial → Polynomial → CofactorAnswer → Type 0
IsComparison wide f combination Equal = (wide ≡ false) × (f ≡ combination)
IsComparison wide f combination (Differs m) = (wide ≡ false) × IsGreatestDifference f combination m
IsComparison wide f combination Wide = wide ≡ true
IsComparison wide f combination Memory = Unit {0}
