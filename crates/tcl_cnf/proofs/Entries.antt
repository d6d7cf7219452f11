-- Entries of lists by their number.
use Rattle.std.proofs.Common.{◌≡◌, ℕ, ◌<◌, zero, suc, List, [], ◌∷◌, ◌++◌, length, take, Some, refl, sym, ap, arith, slice_get, ◌⊎◌, inl, inr}
use Rattle.std.proofs.lemmas.Option.{same_Some, none-some}

-- an entry of a list stays where more is appended
pub get-kept : {A : Type 0} (xs ys : List A) (k : ℕ) (x : A) → slice_get xs k ≡ Some x → slice_get (xs ++ ys) k ≡ Some x
get-kept [] ys k x e = absurd (none-some x e)
get-kept (z ∷ xs) ys zero x e = e
get-kept (z ∷ xs) ys (suc k) x e = get-kept xs ys k x e

-- the entry behind a list
pub get-behind : {A : Type 0} (xs : List A) (x : A) (ys : List A) → slice_get (xs ++ x ∷ ys) (length xs) ≡ Some x
get-behind [] x ys = refl
get-behind (z ∷ xs) x ys = get-behind xs x ys

-- an entry of a list with one more is one of the list or the last
pub get-last : {A : Type 0} (xs : List A) (y : A) (k : ℕ) (x : A) → slice_get (xs ++ y ∷ []) k ≡ Some x → (slice_get xs k ≡ Some x) ⊎ ((k ≡ length xs) × (x ≡ y))
get-last [] y zero x e = inr (refl, sym (same_Some y x e))
get-last [] y (suc k) x e = absurd (none-some x e)
get-last (z ∷ xs) y zero x e = inl e
get-last (z ∷ xs) y (suc k) x e = elim (get-last xs y k x e) [ inl f ↦ inl f | inr p ↦ inr (ap suc p.0, p.1) ]

-- an entry below the length of the first list is one of it
pub get-append : {A : Type 0} (xs ys : List A) (k : ℕ) → k < length xs → slice_get (xs ++ ys) k ≡ slice_get xs k
get-append [] ys k h = absurd (omega (arith, h))
get-append (z ∷ xs) ys zero h = refl
get-append (z ∷ xs) ys (suc k) h = get-append xs ys k (omega (arith, h))

-- an entry of a front of the list
pub get-take : {A : Type 0} (n : ℕ) (xs : List A) (k : ℕ) (x : A) → slice_get (take n xs) k ≡ Some x → slice_get xs k ≡ Some x
get-take zero xs k x e = absurd (none-some x e)
get-take (suc n) [] k x e = absurd (none-some x e)
get-take (suc n) (z ∷ xs) zero x e = e
get-take (suc n) (z ∷ xs) (suc k) x e = get-take n xs k x e

-- an entry below n is one of the front of n entries
pub get-in_take : {A : Type 0} (n : ℕ) (xs : List A) (k : ℕ) → k < n → slice_get (take n xs) k ≡ slice_get xs k
get-in_take zero xs k h = absurd (omega (arith, h))
get-in_take (suc n) [] k h = refl
get-in_take (suc n) (z ∷ xs) zero h = refl
get-in_take (suc n) (z ∷ xs) (suc k) h = get-in_take n xs k (omega (arith, h))

-- an entry of two lists, one behind the other, is one of the first or of the second
pub get-either : {A : Type 0} (xs ys : List A) (k : ℕ) (x : A) → slice_get (xs ++ ys) k ≡ Some x → (slice_get xs k ≡ Some x) ⊎ ((j : ℕ) × (slice_get ys j ≡ Some x))
get-either [] ys k x e = inr (k, e)
get-either (z ∷ xs) ys zero x e = inl e
get-either (z ∷ xs) ys (suc k) x e = get-either xs ys k x e
