-- What is named stays named, so a count only grows.
use Rattle.std.proofs.Common.{◌≡◌, ◌≤◌, ◌<◌, ◌+◌, ℕ, nat_le, refl, ap, arith, Bool, true, false, if◌then◌else◌, List, [], ◌∷◌, ◌++◌, length}
use Rattle.std.specs.List.{list_any}
use Rattle.std.proofs.lemmas.List.{length-append}
use Rattle.std.proofs.lemmas.Bool.{leb-true}
use Rattle.tcl_goals.specs.declared.fact.BitLit.{BitLit}
use Rattle.tcl_goals.specs.Order.{same_bit}
use Rattle.tcl_cubes.specs.Covering.{named_after, named_in, count_bits}

-- one more literal
one_more : (named : List BitLit) (b : BitLit) → length (named ++ b ∷ []) ≡ length named + 1
one_more named b = length-append named (b ∷ [])

after_step : (named bits : List BitLit) (b : BitLit) → length named ≤ length (named_after named bits) → length (named ++ b ∷ []) ≤ length (named_after (named ++ b ∷ []) bits) → (t : Bool) → length named ≤ length (if t then named_after named bits else named_after (named ++ b ∷ []) bits)
after_step named bits b kept added true = kept
after_step named bits b kept added false = let more = one_more named b in omega (arith, more, added)

named_grows : (named bits : List BitLit) → length named ≤ length (named_after named bits)
unfolding named_after
named_grows named [] = omega arith
named_grows named (b ∷ bits) =
    after_step named bits b (named_grows named bits) (named_grows (named ++ b ∷ []) bits) (list_any (same_bit b) named)

all_grow : (named : List BitLit) (cubes : List (List BitLit)) → length named ≤ length (named_in named cubes)
unfolding named_in
all_grow named [] = omega arith
all_grow named (c ∷ cubes) =
    let here = named_grows named c in
    let further = all_grow (named_after named c) cubes in
    omega (arith, here, further)

above : (n limit : ℕ) → limit < n → (t : Bool) → nat_le n limit ≡ t → false ≡ t
above n limit h true e = let low = leb-true n limit e in absurd (omega (arith, h, low))
above n limit h false e = refl

-- where more are named already, the cubes name too many
pub too_many : (named : List BitLit) (rest all : List (List BitLit)) (limit : ℕ) → named_in named rest ≡ named_in [] all → limit < length named → false ≡ nat_le (count_bits all) limit
too_many named rest all limit same h =
    let grown = all_grow named rest in
    let equal : length (named_in named rest) ≡ count_bits all = ap length same in
    above (count_bits all) limit (omega (arith, h, grown, equal)) (nat_le (count_bits all) limit) refl
