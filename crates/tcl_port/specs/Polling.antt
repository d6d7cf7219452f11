-- Counts of polls and of cancellations, which never fall, and stand still from the greatest u64 on.
use Rattle.std.specs.Prelude.{ℕ, ◌+◌, ◌-◌, ◌^◌, ◌<◌, ◌≤◌, ◌⊎◌, min, max}
use Rattle.tcl_port.specs.declared.port.Poll.{Poll}
use Rattle.tcl_port.specs.declared.port.Poll.TheVariants.{Go, Cancelled}

-- one more up to the greatest u64, and the same from there on
abbrev pub counted : ℕ → ℕ
counted n = max n (min (n + 1) (2 ^ 64 - 1))

-- the count of cancellations after an answer
abbrev pub cancelled_after : ℕ → Poll → ℕ
cancelled_after n Go = n
cancelled_after n Cancelled = counted n

-- a count rose, or stands at the greatest u64
abbrev pub Rose : ℕ → ℕ → Type 0
Rose old new = (old < new) ⊎ (2 ^ 64 ≤ new + 1)
