-- The integers that a word of some width holds, and the one of them that is congruent to a given integer.
-- A word of w bits has the values from 0 to 2 ^ w - 1, a signed one those from -2 ^ (w - 1) to 2 ^ (w - 1) - 1.
use Rattle.std.specs.Prelude.{ℕ, ℤ, pos, neg_ℤ, ◌-◌, ◌^◌, ◌-ℤ◌, ◌≤ℤ◌, ◌<ℤ◌, int_lt, Bool, if◌then◌else◌}
use Rattle.std.specs.Int.{int_rem_euclid}

-- the least value of a word
abbrev pub least_value : Bool → ℕ → ℤ
least_value signed width = if signed then neg_ℤ (pos (2 ^ (width - 1))) else pos 0

-- the first integer above the values of a word
abbrev pub values_end : Bool → ℕ → ℤ
values_end signed width = if signed then pos (2 ^ (width - 1)) else pos (2 ^ width)

-- n is a value of such a word
abbrev pub InRange : Bool → ℕ → ℤ → Type 0
InRange signed width n = (least_value signed width ≤ℤ n) × (n <ℤ values_end signed width)

-- the value of such a word that is congruent to n modulo 2 ^ width
unfoldable pub wrapped : Bool → ℕ → ℤ → ℤ
wrapped signed width n =
    let left = int_rem_euclid n (pos (2 ^ width)) in
    if signed
    then (if int_lt left (pos (2 ^ (width - 1))) then left else left -ℤ pos (2 ^ width))
    else left
