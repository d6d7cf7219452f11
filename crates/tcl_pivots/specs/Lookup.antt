-- Which rows' leading monomials do not occur in a polynomial.
use Rattle.std.specs.Prelude.{◌≡◌, ℕ, ◌<◌, ◌≤◌, List, slice_index_or, pos}
use Rattle.std.specs.declared.cmp.Ordering.TheVariants.{Greater}
use Rattle.tcl_poly.specs.Monomial.{Monomial, IsLess, order}
use Rattle.tcl_poly.specs.Polynomial.{Polynomial, coefficient}
use Rattle.tcl_reduce.specs.Row.{Pivot}
use Rattle.tcl_pivots.specs.Kept.{lead}
use Rattle.tcl_pivots.specs.Held.{no_pivot}

-- the terms before place k have greater monomials
abbrev pub AreGreater : {E : Type 0} → List (Monomial × E) → Monomial → ℕ → Type 0
AreGreater {E = E} p m k = (j : ℕ) → j < k → (d : Monomial × E) → order (slice_index_or p j d).0 m ≡ Greater

-- the rows at the places from the first to before the last have greater leading monomials
abbrev pub AreAbove : List Pivot → Monomial → ℕ → ℕ → Type 0
AreAbove qs m first last = (k : ℕ) → first ≤ k → k < last → IsLess m (lead (slice_index_or qs k no_pivot))

-- the leading monomials of the rows at these places do not occur in the polynomial
abbrev pub AreAbsent : Polynomial → List Pivot → ℕ → ℕ → Type 0
AreAbsent f qs first last = (k : ℕ) → first ≤ k → k < last → coefficient f (lead (slice_index_or qs k no_pivot)) ≡ pos 0
