-- A clause's number moved from one watch list into another.
use Rattle.std.proofs.Common.{◌≡◌, ◌≢◌, ℕ, zero, suc, ◌+◌, ◌-◌, ◌<◌, ◌≤◌, Bool, true, false, List, [], ◌∷◌, ◌++◌, length, take, get_or, set, Option, Some, None, slice_get, refl, sym, ap, subst, ◌∙◌, arith, ◌⊎◌, inl, inr, length-append, length-take, length-set, get_or-set_same, get_or-set_other}
use Rattle.std.specs.Prelude.{swap_remove}
use Rattle.std.proofs.lemmas.Bool.{cases_eq, cases_lt}
use Rattle.std.proofs.lemmas.List.{take_all, take-append-le, get_or_default}
use Rattle.std.proofs.lemmas.Option.{none-some, same_Some, slice_get_within, slice_get-get_or, get_or_from_slice_get}
use Rattle.tcl_cnf.specs.Clause.{has}
use Rattle.tcl_cnf.proofs.Members.{has-append}
use Rattle.tcl_cnf.proofs.Entries.{get-in_take, get-take, get-last}
use Rattle.tcl_trail.specs.declared.pair.Watch.{Watch}
use Rattle.tcl_trail.specs.Watching.{watches, numbers_of, listed, IsTakenAt, IsTaken, IsShifted, MoreLists}
use Rattle.tcl_trail.proofs.Entries.{get_has, has_get}
use Rattle.tcl_trail.proofs.Facts.{get-set_same, get-set_other}
use Rattle.tcl_trail.proofs.Looks.{still, added}

-- what stays where one number is taken out
pub swap_front : (xs : List ℕ) (i j : ℕ) → j < i → i < length xs → slice_get (swap_remove xs i 0) j ≡ slice_get xs j
swap_front xs i j h w =
    get-in_take (length xs - 1) (set xs i (get_or xs (length xs - 1) 0)) j (omega (arith, h, w)) ∙ get-set_other xs i j (get_or xs (length xs - 1) 0) (λ e. omega (arith, h, e))

pub swap_kept : (xs : List ℕ) (i number k : ℕ) → slice_get xs i ≡ Some number → has k xs ≡ true → (k ≡ number → ⊥) → has k (swap_remove xs i 0) ≡ true
swap_kept xs i number k at h d =
    let r = has_get xs k h in
    let last = length xs - 1 in
    let end = get_or xs last 0 in
    let within = slice_get_within xs i number at in
    let apart : i ≡ r.0 → ⊥ = λ e. d (same_Some k number (sym r.1 ∙ ap (λ j. slice_get xs j) (sym e) ∙ at)) in
    elim (cases_lt r.0 last) [
      | inl below ↦ get_has (swap_remove xs i 0) r.0 k (get-in_take last (set xs i end) r.0 below ∙ get-set_other xs i r.0 end apart ∙ r.1)
      | inr above ↦
          let there : r.0 ≡ last = omega (arith, above, slice_get_within xs r.0 k r.1) in
          let is : end ≡ k = ap (λ j. get_or xs j 0) (sym there) ∙ get_or_from_slice_get xs r.0 k 0 r.1 in
          get_has (swap_remove xs i 0) i k (get-in_take last (set xs i end) i (omega (arith, within, apart, there)) ∙ get-set_same xs i end within ∙ ap Some is)
    ]

pub swap_length : (xs : List ℕ) (i : ℕ) → i < length xs → length (swap_remove xs i 0) + 1 ≡ length xs
swap_length xs i h = omega (arith, h, length-take (length xs - 1) (set xs i (get_or xs (length xs - 1) 0)), length-set xs i (get_or xs (length xs - 1) 0))

pub set_there : (xs : List (List Watch)) (a : ℕ) (v : List Watch) → a < length xs → watches (set xs a v) a ≡ v
set_there xs a v h = rw get_or-set_same refl

pub set_other : (xs : List (List Watch)) (a l : ℕ) (v : List Watch) → (l ≡ a → ⊥) → watches (set xs a v) l ≡ watches xs l
set_other xs a l v d = let apart : l ≢ a = d in rw get_or-set_other refl

numbers-take : (n : ℕ) (xs : List Watch) → numbers_of (take n xs) ≡ take n (numbers_of xs)
numbers-take zero xs = refl
numbers-take (suc n) [] = refl
numbers-take (suc n) (x ∷ xs) = ap (λ t. x.number ∷ t) (numbers-take n xs)

pub numbers-length : (xs : List Watch) → length (numbers_of xs) ≡ length xs
numbers-length [] = refl
numbers-length (x ∷ xs) = ap suc (numbers-length xs)

numbers-append : (xs ys : List Watch) → numbers_of (xs ++ ys) ≡ numbers_of xs ++ numbers_of ys
numbers-append [] ys = refl
numbers-append (x ∷ xs) ys = ap (λ t. x.number ∷ t) (numbers-append xs ys)

pub numbers-set : (xs : List Watch) (i : ℕ) (y : Watch) → numbers_of (set xs i y) ≡ set (numbers_of xs) i y.number
numbers-set [] i y = refl
numbers-set (x ∷ xs) zero y = refl
numbers-set (x ∷ xs) (suc i) y = ap (λ t. x.number ∷ t) (numbers-set xs i y)

numbers-get : (xs : List Watch) (k : ℕ) (d : Watch) → k < length xs → get_or (numbers_of xs) k 0 ≡ (get_or xs k d).number
numbers-get [] k d h = absurd (omega (arith, h))
numbers-get (x ∷ xs) zero d h = refl
numbers-get (x ∷ xs) (suc k) d h = numbers-get xs k d (omega (arith, h))

pub numbers_at : (xs : List Watch) (k : ℕ) (w : Watch) → slice_get xs k ≡ Some w → slice_get (numbers_of xs) k ≡ Some w.number
numbers_at [] k w e = absurd (none-some w e)
numbers_at (x ∷ xs) zero w e = ap (λ t. Some t) (ap (λ (t : Watch). t.number) (same_Some x w e))
numbers_at (x ∷ xs) (suc k) w e = numbers_at xs k w e

-- one watch taken out
pub taken_is : (old new : List Watch) (i : ℕ) (r : Watch) → i < length old → new ≡ swap_remove old i r → IsTakenAt old new i
taken_is old new i r h e =
    let last = length old - 1 in
    let y : Watch = get_or old last r in
    let long : length (numbers_of old) ≡ length old = numbers-length old in
    record {
      numbers =
          ap numbers_of e ∙ numbers-take last (set old i y) ∙ ap (take last) (numbers-set old i y) ∙ ap (λ t. take last (set (numbers_of old) i t)) (sym (numbers-get old last r (omega (arith, h))))
          ∙ ap (λ n. take (n - 1) (set (numbers_of old) i (get_or (numbers_of old) (n - 1) 0))) (sym long);
      are_of = record {
        each = λ j w at.
            let in_set : slice_get (set old i y) j ≡ Some w = get-take last (set old i y) j w (ap (λ (x : List Watch). slice_get x j) (sym e) ∙ at) in
            elim (cases_eq i j) [
              | inl s ↦ (last, slice_get-get_or old last r (omega (arith, h)) ∙ sym (get-set_same old i y h) ∙ ap (slice_get (set old i y)) s ∙ in_set)
              | inr d ↦ (j, sym (get-set_other old i j y d) ∙ in_set)
            ];
      };
    }

pub taken_set : (old new : List (List Watch)) (from i : ℕ) (x v : List Watch) → from < length old → x ≡ get_or old from x → IsTakenAt x v i → new ≡ set old from v → IsTaken old new from i
taken_set old new from i x v h r t e =
    let there : x ≡ watches old from = r ∙ get_or_default old from x [] h in
    record {
      there = subst (λ (y : List Watch). IsTakenAt y (watches new from) i) there (subst (λ (y : List Watch). IsTakenAt x y i) (sym (ap (λ (z : List (List Watch)). watches z from) e ∙ set_there old from v h)) t);
      others = λ l d. ap (λ (z : List (List Watch)). watches z l) e ∙ set_other old from l v d;
    }

pub shift_is : (old mid new : List (List Watch)) (from i to : ℕ) (w : Watch) → slice_get (listed old from) i ≡ Some w.number → (from ≡ to → ⊥) → to < length old → from < length old
    → mid ≡ set old to (watches old to ++ w ∷ []) → IsTaken mid new from i → IsShifted old new from i w.number to w
shift_is old mid new from i to w at d h g m t =
    let number = w.number in
    let within = slice_get_within (listed old from) i number at in
    let at_mid : watches mid to ≡ watches old to ++ w ∷ [] = ap (λ (x : List (List Watch)). watches x to) m ∙ set_there old to (watches old to ++ w ∷ []) h in
    let to_mid : listed mid to ≡ listed old to ++ number ∷ [] = ap numbers_of at_mid ∙ numbers-append (watches old to) (w ∷ []) in
    let mid_at : (l : ℕ) → (l ≡ to → ⊥) → watches mid l ≡ watches old l = λ l e. ap (λ (x : List (List Watch)). watches x l) m ∙ set_other old to l (watches old to ++ w ∷ []) e in
    let mid_other : (l : ℕ) → (l ≡ to → ⊥) → listed mid l ≡ listed old l = λ l e. ap numbers_of (mid_at l e) in
    let from_new : listed new from ≡ swap_remove (listed old from) i 0 = t.there.numbers ∙ ap (λ (x : List ℕ). swap_remove x i 0) (mid_other from d) in
    let new_other : (l : ℕ) → (l ≡ from → ⊥) → listed new l ≡ listed mid l = λ l e. ap numbers_of (t.others l e) in
    let put : has number (listed new to) ≡ true = ap (has number) (new_other to (λ e. d (sym e)) ∙ to_mid) ∙ added (listed old to) number in
    record {
      each = λ l j v at_new. elim (cases_eq l from) [
        | inl s ↦
            let r = t.there.are_of.each j v (ap (λ x. slice_get (watches new x) j) (sym s) ∙ at_new) in
            inl (r.0, ap (λ x. slice_get (watches old x) r.0) s ∙ ap (λ (x : List Watch). slice_get x r.0) (sym (mid_at from d)) ∙ r.1)
        | inr e ↦
            let in_mid : slice_get (watches mid l) j ≡ Some v = ap (λ (x : List Watch). slice_get x j) (sym (t.others l e)) ∙ at_new in
            elim (cases_eq l to) [
              | inl s ↦ elim (get-last (watches old to) w j v (ap (λ (x : List Watch). slice_get x j) (sym at_mid) ∙ ap (λ x. slice_get (watches mid x) j) (sym s) ∙ in_mid)) [
                | inl a ↦ inl (j, ap (λ x. slice_get (watches old x) j) s ∙ a)
                | inr a ↦ inr a.1
              ]
              | inr s ↦ inl (j, ap (λ (x : List Watch). slice_get x j) (sym (mid_at l s)) ∙ in_mid)
            ]
      ];
      kept = λ l k t e. elim (cases_eq l from) [
        | inl s ↦ ap (has k) (ap (listed new) s ∙ from_new) ∙ swap_kept (listed old from) i number k at (subst (λ (x : ℕ). has k (listed old x) ≡ true) s t) e
        | inr s ↦ elim (cases_eq l to) [
          | inl r ↦ ap (has k) (ap (listed new) r ∙ new_other to (λ f. d (sym f)) ∙ to_mid) ∙ still k (listed old to) number (subst (λ (x : ℕ). has k (listed old x) ≡ true) r t)
          | inr r ↦ ap (has k) (new_other l s ∙ mid_other l r) ∙ t
        ]
      ];
      others = λ l e t. elim (cases_eq l to) [
        | inl r ↦ ap (λ x. has number (listed new x)) r ∙ put
        | inr r ↦ ap (has number) (new_other l e ∙ mid_other l r) ∙ t
      ];
      got = put;
      front = λ j b. ap (λ x. slice_get x j) from_new ∙ swap_front (listed old from) i j b within;
      shorter = omega (arith, ap length from_new, swap_length (listed old from) i within);
    }

-- one watch more in a list
pub record IsEnlisted (old new : List (List Watch)) (to : ℕ) (w : Watch) : Type 0 where
  pub kept : (l k : ℕ) → has k (listed old l) ≡ true → has k (listed new l) ≡ true
  pub there : has w.number (listed new to) ≡ true
  pub at_end : watches new to ≡ watches old to ++ w ∷ []
  pub long : length new ≡ length old
  pub each : (l j : ℕ) (v : Watch) → slice_get (watches new l) j ≡ Some v → ((k : ℕ) × (slice_get (watches old l) k ≡ Some v)) ⊎ (v ≡ w)

pub enlisted : (old new : List (List Watch)) (to : ℕ) (w : Watch) → to < length old → new ≡ set old to (watches old to ++ w ∷ []) → IsEnlisted old new to w
enlisted old new to w h e =
    let at_new : watches new to ≡ watches old to ++ w ∷ [] = ap (λ (x : List (List Watch)). watches x to) e ∙ set_there old to (watches old to ++ w ∷ []) h in
    let there : listed new to ≡ listed old to ++ w.number ∷ [] = ap numbers_of at_new ∙ numbers-append (watches old to) (w ∷ []) in
    let other : (l : ℕ) → (l ≡ to → ⊥) → watches new l ≡ watches old l = λ l d. ap (λ (x : List (List Watch)). watches x l) e ∙ set_other old to l (watches old to ++ w ∷ []) d in
    record {
      kept = λ l k t. elim (cases_eq l to) [
        | inl s ↦ ap (has k) (ap (listed new) s ∙ there) ∙ still k (listed old to) w.number (subst (λ (x : ℕ). has k (listed old x) ≡ true) s t)
        | inr d ↦ ap (has k) (ap numbers_of (other l d)) ∙ t
      ];
      there = ap (has w.number) there ∙ added (listed old to) w.number;
      at_end = at_new;
      long = ap length e ∙ length-set old to (watches old to ++ w ∷ []);
      each = λ l j v at. elim (cases_eq l to) [
        | inl s ↦ elim (get-last (watches old to) w j v (ap (λ (x : List Watch). slice_get x j) (sym at_new) ∙ ap (λ x. slice_get (watches new x) j) (sym s) ∙ at)) [
          | inl a ↦ inl (j, ap (λ x. slice_get (watches old x) j) s ∙ a)
          | inr a ↦ inr a.1
        ]
        | inr d ↦ inl (j, ap (λ (x : List Watch). slice_get x j) (sym (other l d)) ∙ at)
      ];
    }

pub both_enlisted : (old mid new : List (List Watch)) (a b : ℕ) (v w : Watch) → IsEnlisted old mid a v → IsEnlisted mid new b w → MoreLists old new v w
both_enlisted old mid new a b v w f g = record {
  kept = λ l k t. g.kept l k (f.kept l k t);
  long = g.long ∙ f.long;
  each = λ l j x at. elim (g.each l j x at) [
    | inl r ↦ elim (f.each l r.0 x r.1) [ inl s ↦ inl s | inr s ↦ inr (inl s) ]
    | inr r ↦ inr (inr r)
  ];
}

set_back : (xs : List (List Watch)) (a : ℕ) (v : List Watch) → set (set xs a v) a (get_or xs a []) ≡ xs
set_back [] a v = refl
set_back (x ∷ xs) zero v = refl
set_back (x ∷ xs) (suc a) v = ap (λ t. x ∷ t) (set_back xs a v)

-- the last watch taken out again
pub unlisted : (old mid new : List (List Watch)) (to : ℕ) (w : Watch) → to < length old → mid ≡ set old to (watches old to ++ w ∷ []) → new ≡ set mid to (take (length (watches mid to) - 1) (watches mid to)) → new ≡ old
unlisted old mid new to w h m n =
    let at_end = (enlisted old mid to w h m).at_end in
    let xs = watches old to in
    let less : take (length (watches mid to) - 1) (watches mid to) ≡ xs =
    ap (λ (x : List Watch). take (length x - 1) x) at_end ∙ ap (λ k. take k (xs ++ w ∷ [])) (omega (arith, length-append xs (w ∷ []))) ∙ take-append-le (length xs) xs (w ∷ []) (omega arith) ∙ take_all (length xs) xs (omega arith) in
    n ∙ ap (λ t. set mid to t) less ∙ ap (λ x. set x to xs) m ∙ set_back old to (xs ++ w ∷ [])

-- the same in the words of the code
pub enlist_ok : (old mid new : List (List Watch)) (number first second n m : ℕ) → n ≡ first → m ≡ second → first < length old → second < length old
    → mid ≡ set old n (watches old n ++ record { number = number; blocker = second } ∷ []) → new ≡ set mid m (watches mid m ++ record { number = number; blocker = first } ∷ [])
    → (MoreLists old new (record { number = number; blocker = second }) (record { number = number; blocker = first })) × (has number (listed new first) ≡ true)
enlist_ok old mid new number first second n m p q h g e f =
    let one : Watch = record { number = number; blocker = second } in
    let two : Watch = record { number = number; blocker = first } in
    let a : IsEnlisted old mid first one = enlisted old mid first one h (e ∙ ap (λ (k : ℕ). set old k (watches old k ++ one ∷ [])) p) in
    let b : IsEnlisted mid new second two = enlisted mid new second two (omega (arith, g, a.long)) (f ∙ ap (λ (k : ℕ). set mid k (watches mid k ++ two ∷ [])) q) in
    (both_enlisted old mid new first second one two a b, b.kept first number a.there)

pub enlist_err : (old mid again new : List (List Watch)) (n first : ℕ) (w : Watch) → n ≡ first → first < length old → mid ≡ set old n (watches old n ++ w ∷ []) → again ≡ mid
    → new ≡ set again n (take (length (watches again n) - 1) (watches again n)) → new ≡ old
enlist_err old mid again new n first w p h e a f =
    unlisted old mid new n w (omega (arith, p, h)) e (f ∙ ap (λ (x : List (List Watch)). set x n (take (length (watches x n) - 1) (watches x n))) a)
