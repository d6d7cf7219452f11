-- Lists that are kept one behind another in one vector, beside the place where each ends. No public clause cites this file.
use Rattle.std.specs.Prelude.{◌≡◌, ℕ, ◌-◌, ◌≤◌, ◌==◌, if◌then◌else◌, List, [], ◌∷◌, slice_range, slice_index}

-- the lists that end at these places, where the first one starts at `start`
unfoldable pub rows_from : {X : Type 0} → ℕ → List ℕ → List X → List (List X)
rows_from start [] items = []
rows_from start (end ∷ ends) items = slice_range items start end ∷ rows_from end ends items

-- the ends do not fall, and the last one is the number of all items
unfoldable pub AreEnds : ℕ → List ℕ → ℕ → Type 0
AreEnds start [] count = start ≡ count
AreEnds start (end ∷ ends) count = (start ≤ end) × (end ≤ count) × AreEnds end ends count

-- where list k starts
abbrev pub row_start : List ℕ → ℕ → ℕ
row_start ends k = if k == 0 then 0 else slice_index ends (k - 1)
