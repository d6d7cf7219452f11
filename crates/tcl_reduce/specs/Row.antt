-- The rows of the membership search: what plain reduction leaves of the equations after the definitions, each reduced by
-- the rows before it, and the notes of what was left out. Rows are reduced as matrices are (Macaulay matrices; Lazard,
-- EUROCAL 1983), never by multiples of one another.
use Rattle.std.specs.Prelude.{ℕ, zero, suc, ◌+◌, ◌-◌, ◌==◌, if◌then◌else◌, List, [], ◌∷◌, ◌++◌, length, slice_index_or, ℤ, pos, negsuc, ◌*ℤ◌, neg_ℤ, unsigned_abs, Option, None, Some}
use Rattle.std.specs.declared.cmp.Ordering.{Ordering}
use Rattle.std.specs.declared.cmp.Ordering.TheVariants.{Less, Equal, Greater}
use Rattle.tcl_ring.specs.Reduction.{reduced_by}
use Rattle.tcl_poly.specs.Monomial.{Monomial, order}
use Rattle.tcl_poly.specs.Polynomial.{Polynomial, sum_of, scaled, number_of, coefficient}
use Rattle.tcl_poly.specs.Combination.{equation_at}
use Rattle.tcl_reduce.specs.Reduction.{Definition, Reduced, reduced_of}
use Rattle.tcl_reduce.specs.Reduction.Reduced.{Done, TooWide, TooLarge}
use Rattle.tcl_reduce.specs.Inverse.{inverse_of}
use Rattle.tcl_reduce.specs.CofactorSum.{put_cofactor, sum_cofactors, scaled_cofactors, are_wide}

-- a polynomial that is the sum of its cofactors times the equations, with the place of the line that it comes from
pub record Row : Type 0 where
  pub poly : Polynomial
  pub cofactors : List (ℕ × Polynomial)
  pub place : ℕ

-- a row that is kept, with the inverse of its leading coefficient
pub record Pivot : Type 0 where
  pub row : Row
  pub inverse : ℤ

-- why a row was left out, or a step on the claim not made
pub data Note : Type 0 where
  NoInverse : ℤ → Note
  WideAt : ℕ → Note

-- the rows that are kept, in the order in which they were found, and the notes in order
pub record Rows : Type 0 where
  pub kept : List Pivot
  pub notes : List Note

abbrev pub leading : Polynomial → Monomial
leading [] = []
leading (t ∷ p) = t.0

-- the kept rows from the greatest leading monomial down
abbrev pub insert_at : Ordering → Pivot → Pivot → List Pivot → List Pivot → List Pivot
insert_at Less p q qs further = q ∷ further
insert_at Equal p q qs further = q ∷ further
insert_at Greater p q qs further = p ∷ (q ∷ qs)

abbrev pub insert_pivot : Pivot → List Pivot → List Pivot
insert_pivot p [] = p ∷ []
insert_pivot p (q ∷ qs) = insert_at (order (leading p.row.poly) (leading q.row.poly)) p q qs (insert_pivot p qs)

abbrev pub by_leading : List Pivot → List Pivot
by_leading [] = []
by_leading (p ∷ ps) = insert_pivot p (by_leading ps)

-- the constant that makes p's leading monomial vanish
abbrev pub quotient_at : (ℤ → ℤ) → Polynomial → Pivot → ℤ
quotient_at r f p = r (coefficient f (leading p.row.poly) *ℤ p.inverse)

-- the row less that constant times p
abbrev pub row_less : (ℤ → ℤ) → Row → Pivot → Row
row_less r a p =
    let c = neg_ℤ (quotient_at r a.poly p) in
    record {
      poly = sum_of r a.poly (scaled r ([], c) p.row.poly);
      cofactors = sum_cofactors r a.cofactors (scaled_cofactors r ([], c) p.row.cofactors);
      place = a.place;
    }

-- the row reduced by kept rows from the greatest leading monomial down, or nothing where a step is wide
abbrev pub row_by : Option ℕ → List Polynomial → List Pivot → Row → Option Row
row_by m equations [] a = Some a
row_by m equations (p ∷ ps) a =
    if unsigned_abs (coefficient a.poly (leading p.row.poly)) == 0 then row_by m equations ps a else
    (if are_wide m equations 0 (row_less (reduced_by m) a p).cofactors then None else row_by m equations ps (row_less (reduced_by m) a p))

abbrev pub with_note : Note → Rows → Rows
with_note note rows = record { kept = rows.kept; notes = rows.notes ++ note ∷ [] }

abbrev pub keep_by : Row → ℤ → Option ℤ → Rows → Rows
keep_by a c None rows = with_note (NoInverse c) rows
keep_by a c (Some inverse) rows = record { kept = rows.kept ++ (record { row = a; inverse = inverse }) ∷ []; notes = rows.notes }

-- a reduced row is dropped where it is 0, and kept where its leading coefficient has an inverse
abbrev pub keep : Option ℕ → Row → Polynomial → Rows → Rows
keep m a [] rows = rows
keep m a (t ∷ p) rows = keep_by a t.1 (inverse_of m t.1) rows

abbrev pub add_reduced : Option ℕ → ℕ → Option Row → Rows → Rows
add_reduced m place None rows = with_note (WideAt place) rows
add_reduced m place (Some a) rows = keep m a a.poly rows

abbrev pub add_row : Option ℕ → List Polynomial → Row → Rows → Rows
add_row m equations a rows = add_reduced m a.place (row_by m equations (by_leading rows.kept) a) rows

-- the row of the equation of that number: what plain reduction leaves of it, which is the equation less the cofactors' products
abbrev pub row_of : (ℤ → ℤ) → ℕ → ℕ → Polynomial → List (ℕ × Polynomial) → Row
row_of r number place rest cs = record {
  poly = rest;
  cofactors = put_cofactor r (number, number_of r (pos 1)) (scaled_cofactors r ([], negsuc 0) cs);
  place = place;
}

-- the row where plain reduction has an end
abbrev pub plain_row : Option ℕ → ℕ → ℕ → Reduced → List Row
plain_row m number place (Done rest cs spent) = row_of (reduced_by m) number place rest cs ∷ []
plain_row m number place (TooWide at) = []
plain_row m number place (TooLarge what n) = []

-- the rows of the first n equations after the definitions, as plain reduction leaves them
abbrev pub plain_rows_to : Option ℕ → List Definition → List Polynomial → List ℕ → ℕ → List Row
plain_rows_to m defs equations places zero = []
plain_rows_to m defs equations places (suc k) =
    let number = length defs + k in
    plain_rows_to m defs equations places k ++ plain_row m number (slice_index_or places number 0) (reduced_of m defs (equation_at equations number))

-- the rows that the search begins with, before any is reduced by another
abbrev pub plain_rows : Option ℕ → List Definition → List Polynomial → List ℕ → List Row
plain_rows m defs equations places = plain_rows_to m defs equations places (length equations - length defs)

-- an equation's row is added, with a note where plain reduction has no end
abbrev pub add_plain : Option ℕ → List Polynomial → ℕ → ℕ → Reduced → Rows → Rows
add_plain m equations number place (Done rest cs spent) rows = add_row m equations (row_of (reduced_by m) number place rest cs) rows
add_plain m equations number place (TooWide at) rows = with_note (WideAt place) rows
add_plain m equations number place (TooLarge what n) rows = with_note (WideAt place) rows

-- the rows of the first n equations after the definitions
abbrev pub rows_to : Option ℕ → List Definition → List Polynomial → List ℕ → ℕ → Rows
rows_to m defs equations places zero = record { kept = []; notes = [] }
rows_to m defs equations places (suc k) =
    let number = length defs + k in
    add_plain m equations number (slice_index_or places number 0) (reduced_of m defs (equation_at equations number)) (rows_to m defs equations places k)

abbrev pub rows_of : Option ℕ → List Definition → List Polynomial → List ℕ → Rows
rows_of m defs equations places = rows_to m defs equations places (length equations - length defs)
