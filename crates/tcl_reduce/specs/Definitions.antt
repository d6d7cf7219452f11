-- Definitions of variables as the code holds them: triples of a place, a variable and a polynomial.
use Rattle.std.specs.Prelude.{ℕ, suc, ◌≤◌, List, [], ◌∷◌}
use Rattle.tcl_poly.specs.Monomial.{Monomial}

abbrev pub Defined : Type 0 → Type 0
Defined E = ℕ × ℕ × List (Monomial × E)

-- the places rise from the least one on
abbrev pub RiseByPlace : {E : Type 0} → ℕ → List (Defined E) → Type 0
RiseByPlace least [] = Unit {0}
RiseByPlace least (x ∷ xs) = (least ≤ x.0) × RiseByPlace (suc x.0) xs

abbrev pub AreRising : {E : Type 0} → List (Defined E) → Type 0
AreRising xs = RiseByPlace 0 xs
