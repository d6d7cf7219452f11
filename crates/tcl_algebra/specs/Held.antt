-- Equations as the code holds them, polynomials beside the places of their lines, and what is added to them.
use Rattle.std.specs.Prelude.{◌≡◌, ℕ, List, ◌++◌, map, ℤ}
use Rattle.tcl_poly.specs.Polynomial.{terms_of}
use Rattle.tcl_poly.specs.Combination.{Terms}
use Rattle.tcl_algebra.specs.Equations.{Placed, places_of, polynomials_of}

-- to the polynomials and their places these equations were added
pub record IsAdded {E : Type 0} (value : E → ℤ) (before after : List (Terms E)) (old new : List ℕ) (es : List Placed) : Type 0 where
  pub list : map (terms_of value) after ≡ map (terms_of value) before ++ polynomials_of es
  pub places : new ≡ old ++ places_of es
