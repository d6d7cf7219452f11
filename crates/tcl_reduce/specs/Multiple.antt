-- The products of rows with monomials that the membership search tries, in their order.
use Rattle.std.specs.Prelude.{ℕ, zero, suc, ◌+◌, ◌-◌, nat_le, if◌then◌else◌, List, [], ◌∷◌, ◌++◌, map, ℤ, pos, Option}
use Rattle.std.specs.Ordering.{nat_cmp}
use Rattle.std.specs.declared.cmp.Ordering.{Ordering}
use Rattle.std.specs.declared.cmp.Ordering.TheVariants.{Less, Equal, Greater}
use Rattle.tcl_ring.specs.Reduction.{reduced_by}
use Rattle.tcl_poly.specs.Monomial.{Monomial}
use Rattle.tcl_poly.specs.Polynomial.{Polynomial, scaled, degree_of}
use Rattle.tcl_reduce.specs.CofactorSum.{scaled_cofactors, are_wide}
use Rattle.tcl_reduce.specs.Row.{Row, Pivot, Rows, WideAt, with_note, add_row}

abbrev pub insert_key_at : Ordering → ℕ → ℕ → List ℕ → List ℕ → List ℕ
insert_key_at Less u v vs further = u ∷ (v ∷ vs)
insert_key_at Equal u v vs further = v ∷ vs
insert_key_at Greater u v vs further = v ∷ further

abbrev pub insert_key : ℕ → List ℕ → List ℕ
insert_key u [] = u ∷ []
insert_key u (v ∷ vs) = insert_key_at (nat_cmp u v) u v vs (insert_key u vs)

-- the unknowns of a monomial, of a polynomial and of rows, rising, added to others
abbrev pub keys_of : Monomial → List ℕ → List ℕ
keys_of [] us = us
keys_of (f ∷ m) us = insert_key f.0 (keys_of m us)

abbrev pub unknowns_of : Polynomial → List ℕ → List ℕ
unknowns_of [] us = us
unknowns_of (t ∷ p) us = keys_of t.0 (unknowns_of p us)

abbrev pub row_unknowns : List Pivot → List ℕ → List ℕ
row_unknowns [] us = us
row_unknowns (p ∷ ps) us = unknowns_of p.row.poly (row_unknowns ps us)

abbrev pub with_power : ℕ → ℕ → Monomial → Monomial
with_power u zero m = m
with_power u (suc k) m = (u, suc k) ∷ m

-- the monomials of degree d in which u has an exponent below n, the others being given by their degree
abbrev pub powers_below : (ℕ → List Monomial) → ℕ → ℕ → ℕ → List Monomial
powers_below others u d zero = []
powers_below others u d (suc k) = powers_below others u d k ++ map (with_power u k) (others (d - k))

-- the monomials of degree d over these rising unknowns, from the least up
abbrev pub monomials_over : List ℕ → ℕ → List Monomial
monomials_over [] zero = [] ∷ []
monomials_over [] (suc d) = []
monomials_over (u ∷ us) d = powers_below (monomials_over us) u d (suc d)

-- a row with the monomial that multiplies it
abbrev pub Multiple : Type 0
Multiple = Pivot × Monomial

-- the products with monomials of degree d, by rows, of a degree of at most the limit
abbrev pub multiples_at : List ℕ → ℕ → ℕ → List Pivot → List Multiple
multiples_at us limit d [] = []
multiples_at us limit d (p ∷ ps) =
    (if nat_le (degree_of p.row.poly + d) limit then map (λ m. (p, m)) (monomials_over us d) else []) ++ multiples_at us limit d ps

-- those of degrees from 1 to n
abbrev pub multiples_to : List ℕ → ℕ → List Pivot → ℕ → List Multiple
multiples_to us limit ps zero = []
multiples_to us limit ps (suc k) = multiples_to us limit ps k ++ multiples_at us limit (suc k) ps

-- the products that are tried, of the kept rows of the equations, for what plain reduction leaves of the claim
abbrev pub multiples_of : List Pivot → Polynomial → List Multiple
multiples_of ps f = multiples_to (unknowns_of f (row_unknowns ps [])) (degree_of f) ps (degree_of f)

abbrev pub multiplied : (ℤ → ℤ) → Monomial → Row → Row
multiplied r m a = record {
  poly = scaled r (m, r (pos 1)) a.poly;
  cofactors = scaled_cofactors r (m, r (pos 1)) a.cofactors;
  place = a.place;
}

-- a product is added as a row, unless it is wide
abbrev pub add_multiple : Option ℕ → List Polynomial → Multiple → Rows → Rows
add_multiple m equations x rows =
    let a = multiplied (reduced_by m) x.1 x.0.row in
    if are_wide m equations 0 a.cofactors then with_note (WideAt a.place) rows else add_row m equations a rows
