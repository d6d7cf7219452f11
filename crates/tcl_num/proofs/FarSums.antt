-- A product of magnitude 2^128 or more is too far from a number of magnitude at most 2^127.
use Rattle.std.proofs.Common.{◌≡◌, ℕ, ◌+◌, ◌*◌, ◌<◌, ◌≤◌, subst, arith, Bool, true, false, ℤ, ◌+ℤ◌, ◌*ℤ◌, unsigned_abs}
use Rattle.std.proofs.lemmas.Int.{ints}
use Rattle.tcl_num.specs.Signed.{signed}

far : (a : ℤ) (below : Bool) (n limit : ℕ) → unsigned_abs a ≤ limit → limit + limit ≤ n → unsigned_abs (a +ℤ signed below n) < limit → ⊥
far a true n limit h i j = absurd (omega (arith, ints, h, i, j))
far a false n limit h i j = absurd (omega (arith, ints, h, i, j))

pub too_far : (a b c : ℤ) (below : Bool) (limit : ℕ) → b *ℤ c ≡ signed below (unsigned_abs b * unsigned_abs c) → unsigned_abs a ≤ limit → limit + limit ≤ unsigned_abs b * unsigned_abs c → unsigned_abs (a +ℤ b *ℤ c) < limit → ⊥
too_far a b c below limit e h i j =
    let n = unsigned_abs b * unsigned_abs c in
    let k : unsigned_abs (a +ℤ signed below n) < limit = subst (λ x. unsigned_abs (a +ℤ x) < limit) e j in
    far a below n limit h i k
