-- Kept rows read by place.
use Rattle.std.proofs.Common.{◌≡◌, ℕ, zero, suc, ◌+◌, ◌<◌, ◌≤◌, refl, sym, ◌∙◌, ap, subst, arith, List, [], ◌∷◌, length, drop, get_or, ℤ, Option, Some}
use Rattle.std.specs.List.{AllByRecursion}
use Rattle.std.proofs.lemmas.List.{length-map, get_or-map}
use Rattle.tcl_ring.specs.Reduction.{reduced_by}
use Rattle.tcl_poly.specs.Polynomial.{Polynomial}
use Rattle.tcl_reduce.specs.Row as s
use Rattle.tcl_pivots.specs.declared.row.Row.{Row}
use Rattle.tcl_pivots.specs.declared.row.Pivot.{Pivot}
use Rattle.tcl_pivots.specs.RowState.{row_shown, pivot_shown, reduced_further, IsSound}
use Rattle.tcl_pivots.specs.Kept.{IsPivot}
use Rattle.tcl_pivots.specs.Held.{pivots_shown, no_pivot, pivots_at, AreSound, AreSorted}
use Rattle.tcl_pivots.proofs.CofactorTurns.{from_place}
use Rattle.tcl_pivots.proofs.Pivots.{all_pivots}

-- what holds of all holds of the one at a place
pub all_at : {X : Type 0} (P : X → Type 0) (xs : List X) (k : ℕ) (x : X) → x ≡ get_or xs k x → k < length xs → AllByRecursion P xs → P x
all_at P [] k x e l h = absurd (omega (arith, l))
all_at P (y ∷ xs) zero x e l h = subst P (sym e) h.0
all_at P (y ∷ xs) (suc k) x e l h = all_at P xs k x e (omega (arith, l)) h.1

-- a place of the order is below the number of rows
pub place_below : {R E : Type 0} (value : E → ℤ) (ps : List (Pivot R E)) (order : List ℕ) (i k : ℕ) → k ≡ get_or order i k → i < length order → AreSorted (pivots_shown value ps) order → k < length ps
place_below value ps order i k e l h =
    omega (arith, all_at (λ n. n < length (pivots_shown value ps)) order i k e l h.0, length-map ps (pivot_shown value))

-- the row at a place, with its coefficients' values
pub shown_at : {R E : Type 0} (value : E → ℤ) (ps : List (Pivot R E)) (k : ℕ) (p : Pivot R E) (d : s.Pivot) → p ≡ get_or ps k p → k < length ps → get_or (pivots_shown value ps) k d ≡ pivot_shown value p
shown_at value ps k p d e l = get_or-map (pivot_shown value) ps k p d l ∙ ap (pivot_shown value) (sym e)

shown_read : {R E : Type 0} (value : E → ℤ) (ps : List (Pivot R E)) (k : ℕ) (p : Pivot R E) → p ≡ get_or ps k p → k < length ps → pivot_shown value p ≡ get_or (pivots_shown value ps) k (pivot_shown value p)
shown_read value ps k p e l = sym (shown_at value ps k p (pivot_shown value p) e l)

pub sound_at : {R E : Type 0} (m : Option ℕ) (es : List Polynomial) (value : E → ℤ) (ps : List (Pivot R E)) (k : ℕ) (p : Pivot R E) → p ≡ get_or ps k p → k < length ps → AreSound m es (pivots_shown value ps) → IsSound m es (row_shown value p.row)
sound_at m es value ps k p e l h =
    all_at (λ q. IsSound m es q.row) (pivots_shown value ps) k (pivot_shown value p) (shown_read value ps k p e l) (omega (arith, l, length-map ps (pivot_shown value))) h.0

pub pivot_at : {R E : Type 0} (m : Option ℕ) (es : List Polynomial) (value : E → ℤ) (ps : List (Pivot R E)) (k : ℕ) (p : Pivot R E) → p ≡ get_or ps k p → k < length ps → AreSound m es (pivots_shown value ps) → IsPivot (reduced_by m) (pivot_shown value p)
pivot_at m es value ps k p e l h =
    all_at (IsPivot (reduced_by m)) (pivots_shown value ps) k (pivot_shown value p) (shown_read value ps k p e l) (omega (arith, l, length-map ps (pivot_shown value)))
    (all_pivots (reduced_by m) (pivots_shown value ps) h.1)

-- the rows from a place of the order on begin with the row there
pub rows_from : {R E : Type 0} (value : E → ℤ) (ps : List (Pivot R E)) (order : List ℕ) (i k : ℕ) (p : Pivot R E) → k ≡ get_or order i k → i < length order → p ≡ get_or ps k p → k < length ps → pivots_at (pivots_shown value ps) (drop i order) ≡ pivot_shown value p ∷ pivots_at (pivots_shown value ps) (drop (i + 1) order)
rows_from value ps order i k p e l f b =
    ap (pivots_at (pivots_shown value ps)) (from_place order i k e l)
    ∙ ap (λ q. q ∷ pivots_at (pivots_shown value ps) (drop (i + 1) order)) (shown_at value ps k p no_pivot f b)

none_left : {X : Type 0} (xs : List X) (i : ℕ) → length xs ≤ i → drop i xs ≡ []
none_left [] zero h = refl
none_left [] (suc i) h = refl
none_left (x ∷ xs) zero h = absurd (omega (arith, h))
none_left (x ∷ xs) (suc i) h = none_left xs i (omega (arith, h))

pub rows_ended : (ps : List s.Pivot) (order : List ℕ) (i : ℕ) → length order ≤ i → pivots_at ps (drop i order) ≡ []
rows_ended ps order i h = ap (pivots_at ps) (none_left order i h)

-- one row more
pub row_turn : {R E : Type 0} (m : Option ℕ) (es : List Polynomial) (value : E → ℤ) (ps : List (Pivot R E)) (order : List ℕ) (i k : ℕ) (p : Pivot R E) (a : s.Row) (o : Option (Row R E)) (whole : Option s.Row) → k ≡ get_or order i k → i < length order → p ≡ get_or ps k p → k < length ps → s.row_by m es (pivot_shown value p ∷ pivots_at (pivots_shown value ps) (drop (i + 1) order)) a ≡ reduced_further m es value (pivots_at (pivots_shown value ps) (drop (i + 1) order)) o → s.row_by m es (pivots_at (pivots_shown value ps) (drop i order)) a ≡ whole → reduced_further m es value (pivots_at (pivots_shown value ps) (drop (i + 1) order)) o ≡ whole
row_turn m es value ps order i k p a o whole e l f b further h =
    sym further ∙ ap (λ qs. s.row_by m es qs a) (sym (rows_from value ps order i k p e l f b)) ∙ h

-- all rows are left
pub rows_whole : (ps : List s.Pivot) (order : List ℕ) → AreSorted ps order → pivots_at ps (drop 0 order) ≡ s.by_leading ps
rows_whole ps [] h = h.1
rows_whole ps (k ∷ order) h = h.1

-- no row is left
pub row_end : (m : Option ℕ) (es : List Polynomial) (ps : List s.Pivot) (order : List ℕ) (i : ℕ) (a : s.Row) (whole : Option s.Row) → length order ≤ i → s.row_by m es (pivots_at ps (drop i order)) a ≡ whole → whole ≡ Some a
row_end m es ps order i a whole l h = sym h ∙ ap (λ qs. s.row_by m es qs a) (rows_ended ps order i l)
