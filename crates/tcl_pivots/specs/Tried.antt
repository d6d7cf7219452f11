-- The polynomials that the membership search tries: the plain remainders of the equations after the definitions, and the
-- listed products of kept rows.
use Rattle.std.specs.Prelude.{ℕ, List, ◌++◌, map, ℤ, pos, Option}
use Rattle.tcl_ring.specs.Reduction.{reduced_by}
use Rattle.tcl_poly.specs.Polynomial.{Polynomial, scaled}
use Rattle.tcl_reduce.specs.Reduction.{Definition}
use Rattle.tcl_reduce.specs.Row.{Row, Pivot, rows_of, plain_rows}
use Rattle.tcl_reduce.specs.Multiple.{Multiple, multiples_of}

-- the polynomials of kept rows, and of rows
abbrev pub polynomials_of : List Pivot → List Polynomial
polynomials_of ps = map (λ p. p.row.poly) ps

abbrev pub polynomials_in : List Row → List Polynomial
polynomials_in rows = map (λ a. a.poly) rows

abbrev pub product_at : (ℤ → ℤ) → Multiple → Polynomial
product_at r x = scaled r (x.1, r (pos 1)) x.0.row.poly

abbrev pub products_of : (ℤ → ℤ) → List Multiple → List Polynomial
products_of r xs = map (product_at r) xs

-- all that is tried for what plain reduction leaves of the claim
abbrev pub tried_for : Option ℕ → List Definition → List Polynomial → List ℕ → Polynomial → List Polynomial
tried_for m defs equations places rest =
    products_of (reduced_by m) (multiples_of (rows_of m defs equations places).kept rest) ++ polynomials_in (plain_rows m defs equations places)
