-- What the answers of plain reduction say.
use Rattle.std.specs.Prelude.{◌≡◌, ℕ, List, [], map, ℤ, Option}
use Rattle.tcl_poly.specs.declared.cofactors.Cofactor.{Cofactor}
use Rattle.tcl_poly.specs.Unknown.{variable_key}
use Rattle.tcl_poly.specs.Polynomial.{Polynomial, terms_of}
use Rattle.tcl_poly.specs.Combination.{Terms}
use Rattle.tcl_reduce.specs.declared.answer.Plain.{Plain}
use Rattle.tcl_reduce.specs.declared.answer.Plain.TheVariants.{Zero, Rest, Wide, Large, Memory}
use Rattle.tcl_reduce.specs.Definitions.{Defined}
use Rattle.tcl_reduce.specs.Reduction.{Definition, Reduced}
use Rattle.tcl_reduce.specs.Reduction.Reduced.{Done, TooWide, TooLarge}
use Rattle.tcl_reduce.specs.Remainder.{pairs_of, IsRemainder}

-- the definitions with the keys of their variables and their coefficients' values
abbrev pub definitions_of : {E : Type 0} → (E → ℤ) → List (Defined E) → List Definition
definitions_of value xs = map (λ x. (x.0, variable_key x.1, terms_of value x.2)) xs

-- cofactors as pairs of a number and a polynomial
abbrev pub numbered : {R E : Type 0} → List (Cofactor R E) → List (ℕ × Terms E)
numbered cs = map (λ c. (c.equation, c.poly)) cs

-- the answer is how the reduction ends; an answer that memory has run out says nothing
abbrev pub IsPlain : {R E : Type 0} → (E → ℤ) → Reduced → Plain R E → Type 0
IsPlain value end (Zero cs spent) = end ≡ Done [] (pairs_of value (numbered cs)) spent
IsPlain value end (Rest rest cs spent) = (rest ≡ [] → ⊥) × (end ≡ Done (terms_of value rest) (pairs_of value (numbered cs)) spent)
IsPlain value end (Wide at) = end ≡ TooWide at
IsPlain value end (Large what n) = end ≡ TooLarge what n
IsPlain value end Memory = Unit {0}

-- what an answer shows over a list of equations
abbrev pub IsShown : {R E : Type 0} → Option ℕ → (E → ℤ) → List (Terms E) → Polynomial → Plain R E → Type 0
IsShown m value equations f (Zero cs spent) = IsRemainder m value equations f [] (numbered cs)
IsShown m value equations f (Rest rest cs spent) = IsRemainder m value equations f (terms_of value rest) (numbered cs)
IsShown m value equations f (Wide at) = Unit {0}
IsShown m value equations f (Large what n) = Unit {0}
IsShown m value equations f Memory = Unit {0}
