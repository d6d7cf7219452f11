-- What one write does to the bytes that a sink has taken, where it tells them.
use Rattle.std.specs.Prelude.{◌≡◌, ℕ, ◌<◌, Option, Some, None, List, ◌++◌}
use Rattle.tcl_io.specs.Faults.{count_up}
use Rattle.tcl_io.specs.declared.sink.Put.{Put}
use Rattle.tcl_io.specs.declared.sink.Put.TheVariants.{Bytes, Failed}

-- how many bytes the write took
abbrev pub taken_by : Put → ℕ
taken_by (Bytes n) = n
taken_by Failed = 0

-- the write, of a piece of this length, made no headway
abbrev pub SaysFault : Put → ℕ → Type 0
SaysFault (Bytes n) size = (n ≡ 0) × (0 < size)
SaysFault Failed size = Unit {0}

-- a sink's count of faults after the write, where it rises by one at each failure
abbrev pub faults_after_write : Put → ℕ → ℕ
faults_after_write (Bytes n) faults = faults
faults_after_write Failed faults = count_up faults

-- the bytes of a sink that tells them, and then these
abbrev pub and_then : Option (List ℕ) → List ℕ → Option (List ℕ)
and_then None bytes = None
and_then (Some taken) bytes = Some (taken ++ bytes)
