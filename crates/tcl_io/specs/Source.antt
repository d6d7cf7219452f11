-- What one read does to the bytes that a source has left, where it tells them.
use Rattle.std.specs.Prelude.{◌≡◌, ℕ, ◌+◌, ◌<◌, Option, Some, None, List, [], ◌++◌, length, drop}
use Rattle.tcl_io.specs.Faults.{count_up}
use Rattle.tcl_io.specs.declared.source.Taken.{Taken}
use Rattle.tcl_io.specs.declared.source.Taken.TheVariants.{Bytes, End, Failed}

-- how many bytes the read gave
abbrev pub given_by : Taken → ℕ
given_by (Bytes n) = n
given_by End = 0
given_by Failed = 0

-- the read, into a slice of this length, says that nothing is left
abbrev pub SaysEnd : Taken → ℕ → Type 0
SaysEnd (Bytes n) room = (n ≡ 0) × (0 < room)
SaysEnd End room = Unit {0}
SaysEnd Failed room = ⊥

-- a source's count of faults after the read, where it rises by one at each failure
abbrev pub faults_after_read : Taken → ℕ → ℕ
faults_after_read (Bytes n) faults = faults
faults_after_read End faults = faults
faults_after_read Failed faults = count_up faults

-- these bytes, and then those of a source that tells them
abbrev pub then_left : List ℕ → Option (List ℕ) → Option (List ℕ)
then_left bytes None = None
then_left bytes (Some others) = Some (bytes ++ others)

-- what is told to be left after the first n bytes
abbrev pub left_after : ℕ → Option (List ℕ) → Option (List ℕ)
left_after n None = None
left_after n (Some bytes) = Some (drop n bytes)

-- nothing is left, where it is told
abbrev pub IsEmptied : Option (List ℕ) → Type 0
IsEmptied None = Unit {0}
IsEmptied (Some bytes) = bytes ≡ []

-- where bytes are told: as many as were given and are left
abbrev pub total_of : Option (List ℕ) → ℕ → Option ℕ
total_of None given = None
total_of (Some bytes) given = Some (given + length bytes)
