-- Laws of rows and their combinations.
use Rattle.std.specs.Prelude.{◌≡◌, List, [], ◌∷◌, ℤ, pos, ◌*ℤ◌, Option, None, ℕ, ◌≤◌, false, length, ◌-◌}
use Rattle.std.specs.List.{AllByRecursion}
use Rattle.tcl_ring.specs.Reduction.{reduced_by, IsModulus, is_wide}
use Rattle.tcl_poly.specs.Monomial.{Monomial}
use Rattle.tcl_poly.specs.Polynomial.{Polynomial, IsPolynomial, coefficient, degree_of}
use Rattle.tcl_poly.specs.Combination.{combination_of, AreCofactors, weight_of}
use Rattle.tcl_reduce.specs.Reduction.{Definition, Reduced, reduced_of}
use Rattle.tcl_reduce.specs.Remainder.{AreDefinitions, BeginsWith}
use Rattle.tcl_reduce.specs.Row.{leading, rows_of, plain_rows}
use Rattle.tcl_reduce.specs.Membership.{Open, Cofactors, found_of}
use Rattle.tcl_reduce.specs.Span.{total, IsCombination}
use Rattle.tcl_pivots.specs.Tried.{polynomials_of, polynomials_in, tried_for}

-- the leading coefficient has an inverse in the ring
abbrev pub HasInverse : (ℤ → ℤ) → Polynomial → Type 0
HasInverse r p = (i : ℤ) × (r (i *ℤ coefficient p (leading p)) ≡ r (pos 1))

-- the coefficient of p's leading monomial is 0
abbrev pub Lacks : (ℤ → ℤ) → (Monomial → ℤ) → Polynomial → Type 0
Lacks r φ p = r (φ (leading p)) ≡ r (pos 0)

-- each leading coefficient has an inverse, and each leading monomial occurs in no later row
abbrev pub AreRows : (ℤ → ℤ) → List Polynomial → Type 0
AreRows r [] = Unit {0}
AreRows r (p ∷ ps) = HasInverse r p × AllByRecursion (λ q. Lacks r (coefficient q) p) ps × AreRows r ps

-- a combination of rows that has none of their leading monomials is zero
abbrev pub RowsVanish : Type 0
RowsVanish =
    (m : Option ℕ) (ps : List Polynomial) (cs : List ℤ) → IsModulus m → AreRows (reduced_by m) ps →
    AllByRecursion (Lacks (reduced_by m) (total cs ps)) ps →
    (n : Monomial) → reduced_by m (total cs ps n) ≡ reduced_by m (pos 0)

-- every polynomial of the list is a combination of the others
abbrev pub AreSpanned : (ℤ → ℤ) → List Polynomial → List Polynomial → Type 0
AreSpanned r ps qs = AllByRecursion (λ q. IsCombination r ps q) qs

-- without a note each equation after the definitions has a plain remainder, and the kept rows have the same combinations
-- as these remainders
abbrev pub RowsSpan : Type 0
RowsSpan =
    (m : Option ℕ) (defs : List Definition) (equations : List Polynomial) (places : List ℕ) →
    IsModulus m → AreDefinitions (reduced_by m) defs → AllByRecursion (IsPolynomial (reduced_by m)) equations →
    (rows_of m defs equations places).notes ≡ [] →
    (length (plain_rows m defs equations places) ≡ length equations - length defs)
    × AreSpanned (reduced_by m) (polynomials_of (rows_of m defs equations places).kept) (polynomials_in (plain_rows m defs equations places))
    × AreSpanned (reduced_by m) (polynomials_in (plain_rows m defs equations places)) (polynomials_of (rows_of m defs equations places).kept)

-- where the search leaves something open without a note, each equation after the definitions has a plain remainder, and
-- what plain reduction leaves of the claim is no combination of what was tried
abbrev pub OpenIsApart : Type 0
OpenIsApart =
    (m : Option ℕ) (defs : List Definition) (equations : List Polynomial) (places : List ℕ) (claim : Polynomial) (place budget : ℕ) (rest : Polynomial) (cofactors : List (ℕ × Polynomial)) →
    IsModulus m → AreDefinitions (reduced_by m) defs → AllByRecursion (IsPolynomial (reduced_by m)) equations → IsPolynomial (reduced_by m) rest →
    found_of m defs equations places claim place budget rest cofactors ≡ Open None →
    (length (plain_rows m defs equations places) ≡ length equations - length defs)
    × (IsCombination (reduced_by m) (tried_for m defs equations places rest) rest → ⊥)

-- every equation has a degree of at most 1,024
abbrev pub AreLow : List Polynomial → Type 0
AreLow es = AllByRecursion (λ e. degree_of e ≤ 1024) es

-- cofactors that the search finds show the claim to the exact comparison
abbrev pub CofactorsShow : Type 0
CofactorsShow =
    (m : Option ℕ) (defs : List Definition) (equations : List Polynomial) (places : List ℕ) (claim : Polynomial) (place budget : ℕ) (rest : Polynomial) (cofactors found : List (ℕ × Polynomial)) (spent : ℕ) →
    IsModulus m → AreDefinitions (reduced_by m) defs → AllByRecursion (IsPolynomial (reduced_by m)) equations → AreLow equations →
    BeginsWith m (λ n. n) defs equations → IsPolynomial (reduced_by m) claim → degree_of claim ≤ 1024 →
    reduced_of m defs claim ≡ Reduced.Done rest cofactors spent →
    found_of m defs equations places claim place budget rest cofactors ≡ Cofactors found →
    (claim ≡ combination_of (reduced_by m) (λ n. n) equations found)
    × AreCofactors m (λ n. n) equations found
    × (is_wide m (weight_of (λ n. n) equations found) ≡ false)
