-- Kept rows: each has an inverse in front, and no later one has its leading monomial.
use Rattle.std.specs.Prelude.{◌≡◌, List, [], ◌∷◌, ℤ, pos, ◌*ℤ◌}
use Rattle.std.specs.List.{AllByRecursion}
use Rattle.tcl_poly.specs.Monomial.{Monomial, IsMonomial, IsLess}
use Rattle.tcl_poly.specs.Polynomial.{IsPolynomial, coefficient}
use Rattle.tcl_reduce.specs.Row.{Pivot, leading}
use Rattle.tcl_pivots.specs.RowLaws.{Lacks}

abbrev pub lead : Pivot → Monomial
lead p = leading p.row.poly

-- over the ring, with a leading coefficient other than 0 whose inverse is given
pub record IsPivot (r : ℤ → ℤ) (p : Pivot) : Type 0 where
  pub over : IsPolynomial r p.row.poly
  pub some : coefficient p.row.poly (lead p) ≡ pos 0 → ⊥
  pub monomial : IsMonomial (lead p)
  pub under : (m : Monomial) → IsLess (lead p) m → coefficient p.row.poly m ≡ pos 0
  pub unit : r (p.inverse *ℤ coefficient p.row.poly (lead p)) ≡ r (pos 1)

-- q has not the leading monomial of p
abbrev pub LacksLead : (ℤ → ℤ) → Pivot → Pivot → Type 0
LacksLead r p q = Lacks r (coefficient q.row.poly) p.row.poly

abbrev pub AreKept : (ℤ → ℤ) → List Pivot → Type 0
AreKept r [] = Unit {0}
AreKept r (p ∷ ps) = IsPivot r p × AllByRecursion (LacksLead r p) ps × AreKept r ps
