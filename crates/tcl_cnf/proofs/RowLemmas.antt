-- Lists kept one behind another: one list more, and the list at a place.
use Rattle.std.proofs.Common.{◌≡◌, ℕ, ◌+◌, ◌-◌, ◌<◌, ◌≤◌, zero, suc, List, [], ◌∷◌, ◌++◌, length, take, drop, get_or, Some, slice_get, slice_range, refl, sym, ◌∙◌, ap, subst, arith, length-append, length-drop}
use Rattle.std.proofs.lemmas.Bool.{ne_eqb}
use Rattle.std.proofs.lemmas.List.{take-append-le, take_all, drop-append-le, drop_at}
use Rattle.tcl_cnf.specs.Rows.{rows_from, AreEnds, row_start}

pub rows_none : {X : Type 0} → rows_from {X = X} 0 [] [] ≡ []
unfolding rows_from
rows_none = refl

pub ends_none : AreEnds 0 [] 0
unfolding AreEnds
ends_none = refl

-- the range of a list is one of it with more behind
range_kept : {X : Type 0} (items more : List X) (a b : ℕ) → a ≤ b → b ≤ length items → slice_range (items ++ more) a b ≡ slice_range items a b
range_kept items more a b h g =
    ap (take (b - a)) (drop-append-le a items more (omega (arith, h, g))) ∙ take-append-le (b - a) (drop a items) more (omega (arith, h, g, length-drop a items))

-- the range behind a list
range_behind : {X : Type 0} (items more : List X) → slice_range (items ++ more) (length items) (length items + length more) ≡ more
range_behind items more =
    ap (take (length items + length more - length items)) (drop_at items more (length items) refl) ∙ take_all (length items + length more - length items) more (omega arith)

-- one list more
pub rows_push_at : {X : Type 0} (start : ℕ) (ends : List ℕ) (items more : List X) → AreEnds start ends (length items)
    → rows_from start (ends ++ (length items + length more) ∷ []) (items ++ more) ≡ rows_from start ends items ++ more ∷ []
unfolding rows_from AreEnds
rows_push_at start [] items more a = ap (λ t. t ∷ []) (ap (λ s. slice_range (items ++ more) s (length items + length more)) a ∙ range_behind items more)
rows_push_at start (end ∷ ends) items more a =
    ap (λ t. t ∷ rows_from end (ends ++ (length items + length more) ∷ []) (items ++ more)) (range_kept items more start end a.0 a.1)
    ∙ ap (λ t. slice_range items start end ∷ t) (rows_push_at end ends items more a.2)

-- the end of one list more
pub ends_push_at : (start : ℕ) (ends : List ℕ) (n m : ℕ) → AreEnds start ends n → AreEnds start (ends ++ (n + m) ∷ []) (n + m)
unfolding AreEnds
ends_push_at start [] n m a = (omega (arith, a), omega arith, refl)
ends_push_at start (end ∷ ends) n m a = (a.0, omega (arith, a.1), ends_push_at end ends n m a.2)

-- the same in the words of the code, where the number of all items is read after they are put behind
pub rows_push : {X : Type 0} (ends room after : List ℕ) (items more all : List X) (end : ℕ) → AreEnds 0 ends (length items)
    → room ≡ ends → after ≡ room ++ end ∷ [] → all ≡ items ++ more → end ≡ length all → rows_from 0 after all ≡ rows_from 0 ends items ++ more ∷ []
rows_push ends room after items more all end a r f e n =
    let last : end ≡ length items + length more = n ∙ ap length e ∙ length-append items more in
    let there : after ≡ ends ++ (length items + length more) ∷ [] = f ∙ ap (λ t. t ++ end ∷ []) r ∙ ap (λ t. ends ++ t ∷ []) last in
    ap (λ t. rows_from 0 after t) e ∙ ap (λ t. rows_from 0 t (items ++ more)) there ∙ rows_push_at 0 ends items more a

pub ends_push : {X : Type 0} (ends room after : List ℕ) (items more all : List X) (end : ℕ) → AreEnds 0 ends (length items)
    → room ≡ ends → after ≡ room ++ end ∷ [] → all ≡ items ++ more → end ≡ length all → AreEnds 0 after (length all)
ends_push ends room after items more all end a r f e n =
    let count : length all ≡ length items + length more = ap length e ∙ length-append items more in
    let last : end ≡ length items + length more = n ∙ count in
    let there : after ≡ ends ++ (length items + length more) ∷ [] = f ∙ ap (λ t. t ++ end ∷ []) r ∙ ap (λ t. ends ++ t ∷ []) last in
    subst (λ t. AreEnds 0 t (length all)) (sym there) (subst (λ t. AreEnds 0 (ends ++ (length items + length more) ∷ []) t) (sym count) (ends_push_at 0 ends (length items) (length more) a))

-- as many lists as ends
pub length-rows_from : {X : Type 0} (start : ℕ) (ends : List ℕ) (items : List X) → length (rows_from start ends items) ≡ length ends
unfolding rows_from
length-rows_from start [] items = refl
length-rows_from start (end ∷ ends) items = ap suc (length-rows_from end ends items)

-- where list k starts, if the first one starts here
start_at : ℕ → List ℕ → ℕ → ℕ
start_at start ends zero = start
start_at start ends (suc k) = get_or ends k 0

start_is : (ends : List ℕ) (k : ℕ) → start_at 0 ends k ≡ row_start ends k
unfolding start_at
start_is ends zero = refl
start_is ends (suc k) = rw (ne_eqb (suc k) 0 (λ e. omega (arith, e))) (ap (λ t. get_or ends t 0) (omega arith))

row_at_from : {X : Type 0} (start : ℕ) (ends : List ℕ) (items : List X) (k : ℕ) → k < length ends
    → slice_get (rows_from start ends items) k ≡ Some (slice_range items (start_at start ends k) (get_or ends k 0))
unfolding rows_from start_at
row_at_from start [] items k h = absurd (omega (arith, h))
row_at_from start (end ∷ ends) items zero h = refl
row_at_from start (end ∷ ends) items (suc zero) h = row_at_from end ends items zero (omega (arith, h))
row_at_from start (end ∷ ends) items (suc (suc k)) h = row_at_from end ends items (suc k) (omega (arith, h))

-- the list at a place
pub row_at : {X : Type 0} (ends : List ℕ) (items : List X) (k : ℕ) → k < length ends
    → slice_get (rows_from 0 ends items) k ≡ Some (slice_range items (row_start ends k) (get_or ends k 0))
row_at ends items k h = row_at_from 0 ends items k h ∙ ap (λ s. Some (slice_range items s (get_or ends k 0))) (start_is ends k)

-- the range of a list is one of all items
pub record IsRange (start end count : ℕ) : Type 0 where
  pub rises : start ≤ end
  pub within : end ≤ count

range_from : (start : ℕ) (ends : List ℕ) (n k : ℕ) → AreEnds start ends n → k < length ends → IsRange (start_at start ends k) (get_or ends k 0) n
unfolding AreEnds start_at
range_from start [] n k a h = absurd (omega (arith, h))
range_from start (end ∷ ends) n zero a h = record { rises = a.0; within = a.1 }
range_from start (end ∷ ends) n (suc zero) a h = range_from end ends n zero a.2 (omega (arith, h))
range_from start (end ∷ ends) n (suc (suc k)) a h = range_from end ends n (suc k) a.2 (omega (arith, h))

pub row_range : (ends : List ℕ) (n k : ℕ) → AreEnds 0 ends n → k < length ends → IsRange (row_start ends k) (get_or ends k 0) n
row_range ends n k a h = subst (λ s. IsRange s (get_or ends k 0) n) (start_is ends k) (range_from 0 ends n k a h)

-- the list at a place, in the words of the code
pub row_is : {X : Type 0} (value : List (List X)) (ends seen_ends : List ℕ) (items seen_items row : List X) (k : ℕ) → k < length value
    → rows_from 0 ends items ≡ value → seen_ends ≡ ends → seen_items ≡ items → row ≡ slice_range seen_items (row_start seen_ends k) (get_or seen_ends k 0)
    → slice_get value k ≡ Some row
row_is value ends seen_ends items seen_items row k h v e f r =
    let within : k < length ends = subst (λ n. k < n) (sym (ap length v) ∙ length-rows_from 0 ends items) h in
    ap (λ t. slice_get t k) (sym v) ∙ row_at ends items k within
    ∙ sym (ap Some (r ∙ ap (λ t. slice_range t (row_start seen_ends k) (get_or seen_ends k 0)) f ∙ ap (λ t. slice_range items (row_start t k) (get_or t k 0)) e))
