-- A table of marks: what it has, and what a mark more or less changes.
use Rattle.std.proofs.Common.{◌≡◌, ℕ, ◌+◌, ◌-◌, ◌<◌, ◌≤◌, zero, suc, Bool, true, false, not, ◌&&◌, ◌||◌, eqb, List, [], ◌∷◌, ◌++◌, length, take, get_or, set, filter, refl, sym, ◌∙◌, ap, subst, arith, inl, inr, replicate}
use Rattle.std.proofs.lemmas.List.{take_all, get_or-set_other, get_or-set_same, get_or_past}
use Rattle.std.proofs.lemmas.Bool.{eqb-true, eq-eqb, ne_eqb, cases_Bool, cases_eq, or_left, or_right, false_from_ne_true}
use Rattle.std.specs.List.{AllPairs, dedup, dedup_from}
use Rattle.std.specs.List.Sorted.{IsPermutation, IsSorted}
use Rattle.std.specs.Ordering.{nat_cmp}
use Rattle.std.proofs.lemmas.List.Sorted.{list_any-IsPermutation, IsPermutation-sym}
use Rattle.std.proofs.lemmas.List.Kept.{AllPairs-from_increasing}
use Rattle.std.proofs.lemmas.Map.Keys.{IsStrictlyIncreasing-dedup}
use Rattle.tcl_cnf.specs.Clause.{has, without, put, IsIncreasing}
use Rattle.tcl_cnf.specs.Marks.{marked_from, marked, AreTouched, SameMarks, TakesMark}
use Rattle.tcl_cnf.proofs.Bools.{true-false}
use Rattle.tcl_cnf.proofs.Members.{has-append, has-put, has-without, has-filter}
use Rattle.tcl_cnf.proofs.Ordered.{same_increasing, increasing-put, increasing-filter, has-first, first_or_rest}

-- a marked place is not below the first one
from_marked : (n : ℕ) (table : List Bool) (l : ℕ) → has l (marked_from n table) ≡ true → n ≤ l
unfolding marked_from
from_marked n [] l h = absurd (true-false false h refl)
from_marked n (true ∷ table) l h = elim (first_or_rest n l (marked_from (n + 1) table) h) [ inl e ↦ omega (arith, e) | inr e ↦ let i : n + 1 ≤ l = from_marked (n + 1) table l e in omega (arith, i) ]
from_marked n (false ∷ table) l h = let i : n + 1 ≤ l = from_marked (n + 1) table l h in omega (arith, i)

-- the marked places increase
increasing_from : (n : ℕ) (table : List Bool) → IsIncreasing (marked_from n table)
unfolding marked_from
increasing_from n [] = tt
increasing_from n (true ∷ table) = ((λ m h. let i : n + 1 ≤ m = from_marked (n + 1) table m h in omega (arith, i)), increasing_from (n + 1) table)
increasing_from n (false ∷ table) = increasing_from (n + 1) table

-- place n + k is marked where the table has the mark at k
has_from : (n : ℕ) (table : List Bool) (k : ℕ) → has (n + k) (marked_from n table) ≡ get_or table k false
unfolding marked_from
has_from n [] k = refl
has_from n (true ∷ table) zero = ap (λ b. b || has (n + 0) (marked_from (n + 1) table)) (eq-eqb n (n + 0) (omega arith))
has_from n (true ∷ table) (suc k) =
    ap (λ b. b || has (n + suc k) (marked_from (n + 1) table)) (ne_eqb n (n + suc k) (λ e. omega (arith, e)))
    ∙ ap (λ t. has t (marked_from (n + 1) table)) (omega arith) ∙ has_from (n + 1) table k
has_from n (false ∷ table) zero = false_from_ne_true (has (n + 0) (marked_from (n + 1) table)) (λ h. let i : n + 1 ≤ n + 0 = from_marked (n + 1) table (n + 0) h in absurd (omega (arith, i)))
has_from n (false ∷ table) (suc k) = ap (λ t. has t (marked_from (n + 1) table)) (omega arith) ∙ has_from (n + 1) table k

-- the marked places are those where the table has a mark
pub has-marked : (table : List Bool) (l : ℕ) → has l (marked table) ≡ get_or table l false
unfolding marked
has-marked table l = ap (λ t. has t (marked_from 0 table)) (omega arith) ∙ has_from 0 table l

pub increasing-marked : (table : List Bool) → IsIncreasing (marked table)
unfolding marked
increasing-marked table = increasing_from 0 table

-- the increasing list with these members is the list of the marked places
pub marked_is : (table : List Bool) (c : List ℕ) → IsIncreasing c → ((l : ℕ) → get_or table l false ≡ has l c) → marked table ≡ c
marked_is table c i h = same_increasing (marked table) c (increasing-marked table) i (λ l. has-marked table l ∙ h l)

pub marked_none : marked [] ≡ []
unfolding marked marked_from
marked_none = refl

pub touched_none : AreTouched [] []
touched_none = record { each = λ l h. absurd (true-false false h refl) }

-- the test of a place, in the words of the code
pub marked_has : (table seen : List Bool) (value : List ℕ) (l place : ℕ) (b : Bool) → b ≡ get_or seen place false → seen ≡ table → place ≡ l → marked table ≡ value → b ≡ has l value
marked_has table seen value l place b e s p v =
    e ∙ ap (λ t. get_or t place false) s ∙ ap (λ t. get_or table t false) p ∙ sym (has-marked table l) ∙ ap (has l) v

pub same_refl : (table : List Bool) → SameMarks table table
same_refl table = record { at_each = λ l. refl }

pub marked_same : (table after : List Bool) → SameMarks table after → marked after ≡ marked table
marked_same table after s = marked_is after (marked table) (increasing-marked table) (λ l. s.at_each l ∙ sym (has-marked table l))

pub touched_same : (table after : List Bool) (touched : List ℕ) → SameMarks table after → AreTouched table touched → AreTouched after touched
touched_same table after touched s a = record { each = λ l h. a.each l (sym (s.at_each l) ∙ h) }

get_or-unmarked : (n l : ℕ) → get_or (replicate n false) l false ≡ false
get_or-unmarked zero l = refl
get_or-unmarked (suc n) zero = refl
get_or-unmarked (suc n) (suc l) = get_or-unmarked n l

get_or-longer : (table : List Bool) (n l : ℕ) → get_or (table ++ replicate n false) l false ≡ get_or table l false
get_or-longer [] n l = get_or-unmarked n l
get_or-longer (b ∷ table) n zero = refl
get_or-longer (b ∷ table) n (suc l) = get_or-longer table n l

-- a longer table with no mark in what is new has the same marks
pub same_longer : (table after : List Bool) (n : ℕ) → after ≡ take n table ++ replicate (n - length table) false → length table ≤ n → SameMarks table after
same_longer table after n e h =
    record { at_each = λ l. ap (λ t. get_or t l false) (e ∙ ap (λ t. t ++ replicate (n - length table) false) (take_all n table h)) ∙ get_or-longer table (n - length table) l }

-- a literal that is marked already
pub put_there : (table : List Bool) (l : ℕ) → get_or table l false ≡ true → put l (marked table) ≡ marked table
put_there table l h =
    same_increasing (put l (marked table)) (marked table) (increasing-put l (marked table) (increasing-marked table)) (increasing-marked table)
    (λ x. has-put x l (marked table) ∙ elim (cases_Bool (eqb l x)) [
      | inl e ↦ ap (λ b. b || has x (marked table)) e ∙ sym (subst (λ t. has t (marked table) ≡ true) (eqb-true l x e) (has-marked table l ∙ h))
      | inr e ↦ ap (λ b. b || has x (marked table)) e
    ])

-- a mark more
pub put_marked : (table : List Bool) (l : ℕ) → l < length table → marked (set table l true) ≡ put l (marked table)
put_marked table l h =
    marked_is (set table l true) (put l (marked table)) (increasing-put l (marked table) (increasing-marked table))
    (λ x. elim (cases_eq l x) [
      | inl e ↦ ap (λ t. get_or (set table l true) t false) (sym e) ∙ get_or-set_same table l true false h ∙ sym (has-put x l (marked table) ∙ ap (λ b. b || has x (marked table)) (eq-eqb l x e))
      | inr d ↦ get_or-set_other table l x true false (λ e. d (sym e)) ∙ sym (has-marked table x) ∙ sym (has-put x l (marked table) ∙ ap (λ b. b || has x (marked table)) (ne_eqb l x d))
    ])

pub touched_marked : (table : List Bool) (touched : List ℕ) (l : ℕ) → AreTouched table touched → AreTouched (set table l true) (touched ++ l ∷ [])
touched_marked table touched l a = record {
  each = λ x h. has-append x touched (l ∷ []) ∙ elim (cases_eq l x) [
    | inl e ↦ or_right (has x touched) (has x (l ∷ [])) (subst (λ t. has t (l ∷ []) ≡ true) e (has-first l []))
    | inr d ↦ or_left (has x touched) (has x (l ∷ [])) (a.each x (sym (get_or-set_other table l x true false (λ e. d (sym e))) ∙ h))
  ];
}

-- the same after a table was made longer
pub put_known : (table after : List Bool) (l : ℕ) → SameMarks table after → get_or after l false ≡ true → marked after ≡ put l (marked table)
put_known table after l s h = marked_same table after s ∙ sym (put_there table l (sym (s.at_each l) ∙ h))

pub put_new : (table after : List Bool) (l : ℕ) → SameMarks table after → l < length after → marked (set after l true) ≡ put l (marked table)
put_new table after l s h = put_marked after l h ∙ ap (put l) (marked_same table after s)

-- a mark less, where the table has the place or not
pub takes_set : (table : List Bool) (l : ℕ) → l < length table → TakesMark table (set table l false) l
takes_set table l h = record { gone = get_or-set_same table l false false h; others = λ x d. get_or-set_other table l x false false d }

pub takes_none : (table : List Bool) (l : ℕ) → length table ≤ l → TakesMark table table l
takes_none table l h = record { gone = get_or_past table l false h; others = λ x d. refl }

pub without_marked : (table after : List Bool) (l : ℕ) → TakesMark table after l → marked after ≡ without l (marked table)
without_marked table after l t =
    marked_is after (without l (marked table)) (increasing-filter (λ m. not (eqb m l)) (marked table) (increasing-marked table))
    (λ x. elim (cases_eq x l) [
      | inl e ↦ ap (λ p. get_or after p false) e ∙ t.gone ∙ sym (has-without x l (marked table) ∙ ap (λ b. not b && has x (marked table)) (eq-eqb x l e))
      | inr d ↦ t.others x d ∙ sym (has-marked table x) ∙ sym (has-without x l (marked table) ∙ ap (λ b. not b && has x (marked table)) (ne_eqb x l d))
    ])

pub touched_without : (table after : List Bool) (touched : List ℕ) (l : ℕ) → TakesMark table after l → AreTouched table touched → AreTouched after touched
touched_without table after touched l t a = record {
  each = λ x h. elim (cases_eq x l) [
    | inl e ↦ absurd (true-false (get_or after x false) h (ap (λ p. get_or after p false) e ∙ t.gone))
    | inr d ↦ a.each x (sym (t.others x d) ∙ h)
  ];
}

-- one place of the touched ones is cleared
pub touched_next : (table after : List Bool) (l : ℕ) (touched : List ℕ) → TakesMark table after l → AreTouched table (l ∷ touched) → AreTouched after touched
touched_next table after l touched t a = record {
  each = λ x h. elim (cases_eq x l) [
    | inl e ↦ absurd (true-false (get_or after x false) h (ap (λ p. get_or after p false) e ∙ t.gone))
    | inr d ↦ elim (first_or_rest l x touched (a.each x (sym (t.others x d) ∙ h))) [ inl e ↦ absurd (d (sym e)) | inr i ↦ i ]
  ];
}

-- with no touched place there is no mark
pub untouched : (table : List Bool) → AreTouched table [] → marked table ≡ []
untouched table a = marked_is table [] tt (λ l. false_from_ne_true (get_or table l false) (λ h. true-false false (a.each l h) refl))

-- a member stands at a place
has_place : (m : ℕ) (xs : List ℕ) → has m xs ≡ true → (k : ℕ) × (k < length xs) × (get_or xs k 0 ≡ m)
has_place m [] h = absurd (true-false false h refl)
has_place m (x ∷ xs) h = elim (first_or_rest x m xs h) [
  | inl e ↦ (0, omega arith, e)
  | inr i ↦ let r = has_place m xs i in (suc r.0, omega (arith, r.1), r.2)
]

pub increasing_from_pairs : (xs : List ℕ) → AllPairs (λ x y. x < y) xs → IsIncreasing xs
increasing_from_pairs [] p = tt
increasing_from_pairs (x ∷ xs) p = (
  (λ m h. let k = has_place m xs h in subst (λ t. x < t) k.2 (p 0 (suc k.0) 0 (omega arith) (omega (arith, k.1)))),
  increasing_from_pairs xs (λ i j d a b. p (suc i) (suc j) d (omega (arith, a)) (omega (arith, b))),
)

has-dedup_from : (x k : ℕ) (xs : List ℕ) → has x (dedup_from eqb k xs) ≡ (eqb k x || has x xs)
has-dedup_from x k [] = refl
has-dedup_from x k (y ∷ xs) = elim (cases_Bool (eqb y k)) [
  | inl e ↦ rw e (has-dedup_from x k xs ∙ elim (cases_Bool (eqb k x)) [ inl f ↦ rw f refl | inr f ↦ rw (f, eqb-true y k e, f) refl ])
  | inr e ↦ rw e (ap (λ b. eqb k x || b) (has-dedup_from x y xs))
]

pub has-dedup : (x : ℕ) (xs : List ℕ) → has x (dedup eqb xs) ≡ has x xs
has-dedup x [] = refl
has-dedup x (y ∷ xs) = has-dedup_from x y xs

-- the touched places that are marked, sorted and each once, are the marked places
pub settled : (table : List Bool) (touched kept sorted after : List ℕ) → AreTouched table touched → kept ≡ filter (λ l. get_or table l false) touched
    → IsPermutation kept sorted → IsSorted nat_cmp sorted → after ≡ dedup eqb sorted → after ≡ marked table
settled table touched kept sorted after a f p s d =
    d ∙ sym (marked_is table (dedup eqb sorted)
    (increasing_from_pairs (dedup eqb sorted) (AllPairs-from_increasing (dedup eqb sorted) (IsStrictlyIncreasing-dedup sorted s)))
    (λ l. sym (has-dedup l sorted ∙ list_any-IsPermutation (λ m. eqb m l) sorted kept (IsPermutation-sym kept sorted p) ∙ ap (has l) f
    ∙ has-filter (λ m. get_or table m false) l touched
    ∙ elim (cases_Bool (get_or table l false)) [
      | inl e ↦ rw (e, a.each l e) refl
      | inr e ↦ rw e refl
    ])))

-- the marked places are all touched
pub touched_all : (table seen : List Bool) (touched numbers : List ℕ) → touched ≡ marked seen → seen ≡ table → numbers ≡ touched → AreTouched table numbers
touched_all table seen touched numbers e s n = record { each = λ l h. ap (has l) (n ∙ e ∙ ap marked s) ∙ has-marked table l ∙ h }
