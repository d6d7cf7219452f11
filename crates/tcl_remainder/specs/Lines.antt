-- Cofactors as plain data and in a ring.
use Rattle.std.specs.Prelude.{ℕ, ◌+◌, ◌^◌, nat_lt, nat_le, ℤ, Bool, ◌&&◌, List, [], ◌∷◌, length, map, Option}
use Rattle.std.specs.List.{list_all}
use Rattle.tcl_goals.specs.Numbers.{numbers_rise}
use Rattle.tcl_poly.specs.declared.cofactors.Cofactor.{Cofactor}
use Rattle.tcl_poly.specs.Polynomial.{Polynomial, terms_of, degree_of, IsOver}
use Rattle.tcl_poly.specs.Combination.{Terms, equation_at}
use Rattle.tcl_remainder.specs.declared.lines.CofactorLine.{CofactorLine}
use Rattle.tcl_remainder.specs.Terms.{polynomial_of, summands_of, is_plain}

-- the equations' numbers rise
abbrev pub are_rising : List CofactorLine → Bool
are_rising lines = numbers_rise (map (λ l. l.equation) lines)

-- cofactors as pairs of a number and a polynomial, and these with their coefficients' values
abbrev pub numbered : {R E : Type 0} → List (Cofactor R E) → List (ℕ × Terms E)
numbered cs = map (λ c. (c.equation, c.poly)) cs

abbrev pub valued : {E : Type 0} → (E → ℤ) → List (ℕ × Terms E) → List (ℕ × Polynomial)
valued value cs = map (λ c. (c.0, terms_of value c.1)) cs

-- every cofactor is over the ring
abbrev pub AreOver : {E : Type 0} → Option ℕ → (E → ℤ) → List (ℕ × Terms E) → Type 0
AreOver m value [] = Unit {0}
AreOver m value (c ∷ cs) = IsOver m value c.1 × AreOver m value cs

-- the cofactors in the ring of a reduction r
abbrev pub cofactors_of : (ℤ → ℤ) → List CofactorLine → List (ℕ × Polynomial)
cofactors_of r lines = map (λ l. (l.equation, polynomial_of r l.cofactor)) lines

-- the plain data of cofactors
abbrev pub line_of : ℕ × Polynomial → CofactorLine
line_of c = record { equation = c.0; cofactor = summands_of c.1 }

abbrev pub lines_of : List (ℕ × Polynomial) → List CofactorLine
lines_of cs = map line_of cs

-- each degree in the ring is one of 32 bits
abbrev pub are_narrow : (ℤ → ℤ) → List CofactorLine → Bool
are_narrow r lines = list_all (λ l. nat_lt (degree_of (polynomial_of r l.cofactor)) (2 ^ 32)) lines

-- each line's equation is one of these, and the degrees of cofactor and equation add to at most 1,024
abbrev pub is_fitting : {E : Type 0} → (ℤ → ℤ) → List (Terms E) → CofactorLine → Bool
is_fitting r equations l =
    nat_lt l.equation (length equations) && nat_le (degree_of (polynomial_of r l.cofactor) + degree_of (equation_at equations l.equation)) 1024

abbrev pub are_fitting : {E : Type 0} → (ℤ → ℤ) → List (Terms E) → List CofactorLine → Bool
are_fitting r equations lines = list_all (λ l. is_fitting r equations l) lines

-- plain data has each cofactor
abbrev pub all_plain : List (ℕ × Polynomial) → Bool
all_plain cs = list_all (λ c. is_plain c.1) cs

-- plain data has the list of cofactors: it has each, and their numbers rise
abbrev pub are_plain : List (ℕ × Polynomial) → Bool
are_plain cs = numbers_rise (map (λ c. c.0) cs) && all_plain cs
