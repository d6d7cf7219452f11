-- Totals over lists, and how many events may still come.
use Rattle.std.proofs.Common.{◌≡◌, ap, ℕ, zero, suc, ◌+◌, ◌*◌, arith, List, [], ◌∷◌, ◌++◌, Some}
use Rattle.std.specs.List.{slice_get, slice_set}
use Rattle.std.specs.Prelude.{replicate}
use Rattle.tcl_board.specs.Rooms.{total}

some_is : {X : Type 0} (x y : X) → Some x ≡ Some y → x ≡ y
some_is x y e = cc

pub total_set : {X : Type 0} (f : X → ℕ) (xs : List X) (k : ℕ) (x y : X) → slice_get xs k ≡ Some x → total f (slice_set xs k y) + f x ≡ total f xs + f y
unfolding total
total_set f [] k x y e = absurd (cc)
total_set f (a ∷ xs) zero x y e = let same = ap f (some_is a x e) in omega (arith, same)
total_set f (a ∷ xs) (suc k) x y e = omega (arith, total_set f xs k x y e)

pub total_more : {X : Type 0} (f : X → ℕ) (xs : List X) (y : X) → total f (xs ++ y ∷ []) ≡ total f xs + f y
unfolding total
total_more f [] y = omega arith
total_more f (a ∷ xs) y = omega (arith, total_more f xs y)

pub total_replicate : {X : Type 0} (f : X → ℕ) (n : ℕ) (x : X) → total f (replicate n x) ≡ n * f x
unfolding total
total_replicate f zero x = omega arith
total_replicate f (suc n) x = omega (arith, total_replicate f n x)
