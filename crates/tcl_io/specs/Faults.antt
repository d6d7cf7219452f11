-- Counts of faults: they never fall, and they stand still at the greatest value of 64 bits.
use Rattle.std.specs.Prelude.{◌⊎◌, ℕ, ◌+◌, ◌-◌, ◌^◌, ◌<◌, ◌≤◌, min}

-- the count rose, or stands at the greatest value of 64 bits
abbrev pub Rose : ℕ → ℕ → Type 0
Rose old new = (old < new) ⊎ (2 ^ 64 ≤ new + 1)

-- a count of 64 bits after one more, standing still at its end
abbrev pub count_up : ℕ → ℕ
count_up n = min (n + 1) (2 ^ 64 - 1)
