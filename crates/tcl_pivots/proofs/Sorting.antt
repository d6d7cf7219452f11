-- The sorted rows with one more, which the order of their places shows.
use Rattle.std.proofs.Common.{◌≡◌, ℕ, zero, suc, ◌+◌, ◌<◌, ◌≤◌, refl, sym, ◌∙◌, ap, arith, List, [], ◌∷◌, ◌++◌, take, drop, length, get_or, ℤ, Ordering, Less, Equal, Greater}
use Rattle.std.specs.List.{AllByRecursion}
use Rattle.std.proofs.lemmas.List.{map-append, get_or_append_left, get_or_at, length-append}
use Rattle.tcl_ring.specs.Reduction.{IsReduction}
use Rattle.tcl_poly.specs.Monomial.{Monomial, IsMonomial, IsLess, order}
use Rattle.tcl_poly.proofs.MonomialLaws.{order_says, OrderSays, order_less, order_greater, less_chain}
use Rattle.tcl_reduce.specs.Row.{Pivot, insert_at, insert_pivot, by_leading}
use Rattle.tcl_pivots.specs.Kept.{lead, IsPivot, AreKept}
use Rattle.tcl_pivots.specs.Held.{no_pivot, pivots_at, AreSorted}
use Rattle.tcl_pivots.proofs.Pivots.{AreOther, others, all_pivots, all_sorted}

-- ---- rows with different leading monomials may be put in in any order

before : (p q : Pivot) (qs : List Pivot) → IsMonomial (lead p) → IsMonomial (lead q) → IsLess (lead q) (lead p) → insert_pivot p (q ∷ qs) ≡ p ∷ (q ∷ qs)
before p q qs h i l = ap (λ o. insert_at o p q qs (insert_pivot p qs)) (order_greater (lead p) (lead q) h i l)

pub after : (p q : Pivot) (qs : List Pivot) → IsMonomial (lead p) → IsMonomial (lead q) → IsLess (lead p) (lead q) → insert_pivot p (q ∷ qs) ≡ q ∷ insert_pivot p qs
after p q qs h i l = ap (λ o. insert_at o p q qs (insert_pivot p qs)) (order_less (lead p) (lead q) h i l)

by_order : (P : Type 0) (m n : Monomial) → IsMonomial m → IsMonomial n → (m ≡ n → ⊥) → (IsLess m n → P) → (IsLess n m → P) → P
by_order P m n i j d f g = at (order m n) (order_says m n i j) where
  at : (o : Ordering) → OrderSays o m n → P
  at Less s = f s
  at Equal s = absurd (d s)
  at Greater s = g s

-- p is put in before the rows where q goes first or is passed
both_before : (p q x : Pivot) (qs : List Pivot) → IsMonomial (lead p) → IsMonomial (lead q) → IsMonomial (lead x) → IsLess (lead x) (lead p) → IsLess (lead x) (lead q) → IsLess (lead q) (lead p) → insert_pivot p (insert_pivot q (x ∷ qs)) ≡ insert_pivot q (insert_pivot p (x ∷ qs))
both_before p q x qs i j k a b l =
    ap (insert_pivot p) (before q x qs j k b)
    ∙ before p q (x ∷ qs) i j l
    ∙ sym (ap (insert_pivot q) (before p x qs i k a) ∙ after q p (x ∷ qs) j i l ∙ ap (λ rest. p ∷ rest) (before q x qs j k b))

between : (p q x : Pivot) (qs : List Pivot) → IsMonomial (lead p) → IsMonomial (lead q) → IsMonomial (lead x) → IsLess (lead x) (lead p) → IsLess (lead q) (lead x) → insert_pivot p (insert_pivot q (x ∷ qs)) ≡ insert_pivot q (insert_pivot p (x ∷ qs))
between p q x qs i j k a b =
    ap (insert_pivot p) (after q x qs j k b)
    ∙ before p x (insert_pivot q qs) i k a
    ∙ sym (ap (insert_pivot q) (before p x qs i k a) ∙ after q p (x ∷ qs) j i (less_chain (lead q) (lead x) (lead p) b a) ∙ ap (λ rest. p ∷ rest) (after q x qs j k b))

pub swap_inserts : (p q : Pivot) (qs : List Pivot) → IsMonomial (lead p) → IsMonomial (lead q) → (lead p ≡ lead q → ⊥) → AllByRecursion (AreOther p) qs → AllByRecursion (AreOther q) qs → insert_pivot p (insert_pivot q qs) ≡ insert_pivot q (insert_pivot p qs)
swap_inserts p q [] i j d h k =
    by_order (insert_pivot p (q ∷ []) ≡ insert_pivot q (p ∷ [])) (lead p) (lead q) i j d
    (λ l. after p q [] i j l ∙ sym (before q p [] j i l))
    (λ l. before p q [] i j l ∙ sym (after q p [] j i l))
swap_inserts p q (x ∷ qs) i j d h k =
    let G : Type 0 = insert_pivot p (insert_pivot q (x ∷ qs)) ≡ insert_pivot q (insert_pivot p (x ∷ qs)) in
    let n = h.0.1 in
    let rest = swap_inserts p q qs i j d h.1 k.1 in
    by_order G (lead p) (lead x) i n h.0.0
    (λ below. by_order G (lead q) (lead x) j n k.0.0
    (λ also.
    ap (insert_pivot p) (after q x qs j n also) ∙ after p x (insert_pivot q qs) i n below ∙ ap (λ z. x ∷ z) rest
    ∙ sym (ap (insert_pivot q) (after p x qs i n below) ∙ after q x (insert_pivot p qs) j n also))
    (λ above. sym (between q p x qs j i n above below)))
    (λ above. by_order G (lead q) (lead x) j n k.0.0
    (λ below. between p q x qs i j n above below)
    (λ also. by_order G (lead p) (lead q) i j d
    (λ l. sym (both_before q p x qs j i n also above l))
    (λ l. both_before p q x qs i j n above also l)))

-- ---- one more at the end

split_all : {X : Type 0} (P : X → Type 0) (xs : List X) (x : X) → AllByRecursion P (xs ++ x ∷ []) → AllByRecursion P xs × P x
split_all P [] x h = (tt, h.0)
split_all P (y ∷ xs) x h = let k = split_all P xs x h.1 in ((h.0, k.0), k.1)

-- the last row differs from those before it
last_other : (r : ℤ → ℤ) → IsReduction r → (ps : List Pivot) (p : Pivot) → AreKept r (ps ++ p ∷ []) → AllByRecursion (AreOther p) ps
last_other r ring [] p h = tt
last_other r ring (q ∷ ps) p h =
    let own = (split_all (AreOther q) ps p (others r ring q (ps ++ p ∷ []) h.1 (all_pivots r (ps ++ p ∷ []) h.2))).1 in
    (((λ e. own.0 (sym e)), h.0.monomial), last_other r ring ps p h.2)

last_pivot : (r : ℤ → ℤ) (ps : List Pivot) (p : Pivot) → AreKept r (ps ++ p ∷ []) → IsPivot r p
last_pivot r ps p h = (split_all (IsPivot r) ps p (all_pivots r (ps ++ p ∷ []) h)).1

pub sorted_more : (r : ℤ → ℤ) → IsReduction r → (ps : List Pivot) (p : Pivot) → AreKept r (ps ++ p ∷ []) → by_leading (ps ++ p ∷ []) ≡ insert_pivot p (by_leading ps)
sorted_more r ring [] p h = refl
sorted_more r ring (q ∷ ps) p h =
    let own = split_all (AreOther q) ps p (others r ring q (ps ++ p ∷ []) h.1 (all_pivots r (ps ++ p ∷ []) h.2)) in
    ap (insert_pivot q) (sorted_more r ring ps p h.2)
    ∙ swap_inserts q p (by_leading ps) h.0.monomial (last_pivot r ps p h.2).monomial own.1.0
    (all_sorted (AreOther q) ps own.0) (all_sorted (AreOther p) ps (last_other r ring ps p h.2))

-- ---- places

more_places : (ps : List Pivot) (p : Pivot) (order : List ℕ) → AllByRecursion (λ k. k < length ps) order → pivots_at (ps ++ p ∷ []) order ≡ pivots_at ps order
more_places ps p [] h = refl
more_places ps p (k ∷ order) h =
    let first = get_or_append_left ps (p ∷ []) no_pivot k h.0 in let rest = more_places ps p order h.1 in
    λ i. first i ∷ rest i

all_take : {X : Type 0} (P : X → Type 0) (xs : List X) (k : ℕ) → AllByRecursion P xs → AllByRecursion P (take k xs)
all_take P [] zero h = tt
all_take P [] (suc k) h = tt
all_take P (x ∷ xs) zero h = tt
all_take P (x ∷ xs) (suc k) h = (h.0, all_take P xs k h.1)

all_drop : {X : Type 0} (P : X → Type 0) (xs : List X) (k : ℕ) → AllByRecursion P xs → AllByRecursion P (drop k xs)
all_drop P [] zero h = tt
all_drop P [] (suc k) h = tt
all_drop P (x ∷ xs) zero h = h
all_drop P (x ∷ xs) (suc k) h = all_drop P xs k h.1

all_joined : {X : Type 0} (P : X → Type 0) (xs ys : List X) → AllByRecursion P xs → AllByRecursion P ys → AllByRecursion P (xs ++ ys)
all_joined P [] ys h j = j
all_joined P (x ∷ xs) ys h j = (h.0, all_joined P xs ys h.1 j)

below_more : (n m : ℕ) (order : List ℕ) → n ≤ m → AllByRecursion (λ k. k < n) order → AllByRecursion (λ k. k < m) order
below_more n m [] l h = tt
below_more n m (k ∷ order) l h = (omega (arith, l, h.0), below_more n m order l h.1)

-- the new row's place put in where it goes by its leading monomial
pub sorted_by_places : (r : ℤ → ℤ) → IsReduction r → (ps : List Pivot) (p : Pivot) (order : List ℕ) (i n : ℕ) → n ≡ length ps → AreKept r (ps ++ p ∷ []) → AreSorted ps order → insert_pivot p (pivots_at ps order) ≡ pivots_at ps (take i order) ++ p ∷ pivots_at ps (drop i order) → AreSorted (ps ++ p ∷ []) (take i order ++ n ∷ drop i order)
sorted_by_places r ring ps p order i n e kept sorted put =
    let qs = ps ++ p ∷ [] in
    let long : length qs ≡ length ps + 1 = length-append ps (p ∷ []) in
    let first = all_take (λ k. k < length ps) order i sorted.0 in
    let last = all_drop (λ k. k < length ps) order i sorted.0 in
    let at_end : get_or qs n no_pivot ≡ p = get_or_at ps p [] no_pivot n (sym e) in (
      all_joined (λ k. k < length qs) (take i order) (n ∷ drop i order) (below_more (length ps) (length qs) (take i order) (omega (arith, long)) first)
          ((omega (arith, long, e)), below_more (length ps) (length qs) (drop i order) (omega (arith, long)) last),
      map-append (λ k. get_or qs k no_pivot) (take i order) (n ∷ drop i order)
          ∙ (let one = more_places ps p (take i order) first in let two = more_places ps p (drop i order) last in
          λ j. one j ++ at_end j ∷ two j)
          ∙ sym put
          ∙ ap (insert_pivot p) sorted.1
          ∙ sym (sorted_more r ring ps p kept),
    )
