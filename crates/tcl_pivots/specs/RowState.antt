-- Rows of the code with their coefficients' values, and what is known of them.
use Rattle.std.specs.Prelude.{◌≡◌, ℕ, List, [], ℤ, Option, None, Some}
use Rattle.std.specs.List.{AllByRecursion}
use Rattle.tcl_ring.specs.Reduction.{reduced_by}
use Rattle.tcl_poly.specs.Polynomial.{Polynomial, IsPolynomial, terms_of}
use Rattle.tcl_poly.specs.Combination.{equation_at}
use Rattle.tcl_pivots.specs.declared.row.Row.{Row}
use Rattle.tcl_pivots.specs.declared.row.Pivot.{Pivot}
use Rattle.tcl_reduce.specs.Answer.{numbered}
use Rattle.tcl_reduce.specs.Remainder.{pairs_of, IsRemainder}
use Rattle.tcl_reduce.specs.Row as s

abbrev pub row_shown : {R E : Type 0} → (E → ℤ) → Row R E → s.Row
row_shown value a = record { poly = terms_of value a.poly; cofactors = pairs_of value (numbered a.cofactors); place = a.place }

abbrev pub pivot_shown : {R E : Type 0} → (E → ℤ) → Pivot R E → s.Pivot
pivot_shown value p = record { row = row_shown value p.row; inverse = value p.inverse }

-- over the integers no cofactor is of an equation that is zero: so a cofactor's size shows in the sum of the products
abbrev pub AreCounted : Option ℕ → List Polynomial → List (ℕ × Polynomial) → Type 0
AreCounted None equations cs = AllByRecursion (λ c. equation_at equations c.0 ≡ [] → ⊥) cs
AreCounted (Some m) equations cs = Unit {0}

-- a row is the sum of its cofactors times the equations, as the exact comparison can show
pub record IsSound (m : Option ℕ) (equations : List Polynomial) (a : s.Row) : Type 0 where
  pub over : IsPolynomial (reduced_by m) a.poly
  pub shown : IsRemainder m (λ n. n) equations a.poly [] a.cofactors
  pub counted : AreCounted m equations a.cofactors

-- a row that one kept row has reduced is reduced by the further ones; nothing is where the step was wide
abbrev pub reduced_further : {R E : Type 0} → Option ℕ → List Polynomial → (E → ℤ) → List s.Pivot → Option (Row R E) → Option s.Row
reduced_further m equations value ps None = None
reduced_further m equations value ps (Some a) = s.row_by m equations ps (row_shown value a)
