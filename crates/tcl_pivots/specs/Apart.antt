-- Polynomials that differ by a constant combination of others.
use Rattle.std.specs.Prelude.{List, ℤ, ◌-ℤ◌}
use Rattle.tcl_poly.specs.Polynomial.{Polynomial, coefficient}
use Rattle.tcl_reduce.specs.Span.{IsSpanned}

-- f and g differ by a constant combination of the polynomials
abbrev pub AreApart : (ℤ → ℤ) → List Polynomial → Polynomial → Polynomial → Type 0
AreApart r ps f g = IsSpanned r ps (λ m. coefficient f m -ℤ coefficient g m)
