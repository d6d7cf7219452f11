-- Kept rows as the code holds them, and what is known of them.
use Rattle.std.specs.Prelude.{◌≡◌, ℕ, ◌<◌, List, [], ◌∷◌, ◌++◌, map, length, take, drop, slice_index_or, ℤ, pos, Option, None, Some}
use Rattle.std.specs.List.{AllByRecursion}
use Rattle.tcl_ring.specs.Reduction.{reduced_by}
use Rattle.tcl_poly.specs.Monomial.{Monomial}
use Rattle.tcl_poly.specs.Polynomial.{Polynomial}
use Rattle.tcl_reduce.specs.Row as s
use Rattle.tcl_pivots.specs.declared.row.Row.{Row}
use Rattle.tcl_pivots.specs.declared.row.Pivot.{Pivot}
use Rattle.tcl_pivots.specs.declared.rows.Note.{Note}
use Rattle.tcl_pivots.specs.declared.rows.Note.TheVariants.{NoInverse, Wide}
use Rattle.tcl_pivots.specs.RowState.{row_shown, pivot_shown, IsSound}
use Rattle.tcl_pivots.specs.Kept.{AreKept}

-- the kept rows in the order in which they were found, their places from the greatest leading monomial down, and the notes
pub record Held (R E : Type 0) : Type 0 where
  pub kept : List (Pivot R E)
  pub order : List ℕ
  pub notes : List Note

abbrev pub note_shown : Note → s.Note
note_shown (NoInverse c) = s.NoInverse c
note_shown (Wide place) = s.WideAt place

-- the kept rows with their coefficients' values
abbrev pub pivots_shown : {R E : Type 0} → (E → ℤ) → List (Pivot R E) → List s.Pivot
pivots_shown value ps = map (pivot_shown value) ps

abbrev pub rows_shown : {R E : Type 0} → (E → ℤ) → Held R E → s.Rows
rows_shown value h = record { kept = pivots_shown value h.kept; notes = map note_shown h.notes }

-- a row where there is one, with its coefficients' values
abbrev pub shown_where : {R E : Type 0} → (E → ℤ) → Option (Row R E) → Option s.Row
shown_where value None = None
shown_where value (Some a) = Some (row_shown value a)

-- a row for places that have none
abbrev pub no_pivot : s.Pivot
no_pivot = record { row = record { poly = []; cofactors = []; place = 0 }; inverse = pos 0 }

-- the rows at these places
abbrev pub pivots_at : List s.Pivot → List ℕ → List s.Pivot
pivots_at ps places = map (λ k. slice_index_or ps k no_pivot) places

-- every row is sound and kept
abbrev pub AreSound : Option ℕ → List Polynomial → List s.Pivot → Type 0
AreSound m equations ps = AllByRecursion (λ p. IsSound m equations p.row) ps × AreKept (reduced_by m) ps

-- the places are those of the rows from the greatest leading monomial down
abbrev pub AreSorted : List s.Pivot → List ℕ → Type 0
AreSorted ps places = AllByRecursion (λ k. k < length ps) places × (pivots_at ps places ≡ s.by_leading ps)

-- what is known of held rows
pub record AreHeld {R E : Type 0} (m : Option ℕ) (equations : List Polynomial) (value : E → ℤ) (h : Held R E) : Type 0 where
  pub sound : AreSound m equations (pivots_shown value h.kept)
  pub sorted : AreSorted (pivots_shown value h.kept) h.order

-- the monomial in front, and the coefficient where there is one
abbrev pub front_monomial : {E : Type 0} → List (Monomial × E) → Monomial
front_monomial [] = []
front_monomial (t ∷ p) = t.0

abbrev pub front_coefficient : {E : Type 0} → List (Monomial × E) → Option E
front_coefficient [] = None
front_coefficient (t ∷ p) = Some t.1

-- no row is zero
abbrev pub HaveTerms : {R E : Type 0} → List (Pivot R E) → Type 0
HaveTerms ps = AllByRecursion (λ p. p.row.poly ≡ [] → ⊥) ps

-- that row goes to that place of the order by its leading monomial
abbrev pub IsPlace : List s.Pivot → List ℕ → s.Pivot → ℕ → Type 0
IsPlace ps order p i = s.insert_pivot p (pivots_at ps order) ≡ pivots_at ps (take i order) ++ p ∷ pivots_at ps (drop i order)

-- the number was put in at the place of that row
abbrev pub IsInserted : List s.Pivot → List ℕ → List ℕ → ℕ → s.Pivot → Type 0
IsInserted ps order after n p = (i : ℕ) × (after ≡ take i order ++ n ∷ drop i order) × IsPlace ps order p i
