-- The rules of the source and the sink in memory: which calls fail, and how much each other call moves.
use Rattle.std.specs.Prelude.{ℕ, ◌-◌, ◌^◌, ◌==◌, ◌&&◌, ◌||◌, nat_lt, min, max, Bool, if◌then◌else◌, List, length, count_by}
use Rattle.std.specs.List.{list_any}
use Rattle.tcl_io.specs.declared.source.Taken.{Taken}
use Rattle.tcl_io.specs.declared.source.Taken.TheVariants.{Bytes as GiveBytes, End, Failed as GiveFailed}
use Rattle.tcl_io.specs.declared.sink.Put.{Put}
use Rattle.tcl_io.specs.declared.sink.Put.TheVariants.{Bytes as TakeBytes, Failed as TakeFailed}

-- whether the call of this number fails: it is listed, and below the greatest value of 64 bits
abbrev pub fails_at : List ℕ → ℕ → Bool
fails_at failing call = nat_lt call (2 ^ 64 - 1) && list_any (λ k. k == call) failing

-- how many of the listed numbers are below this one
unfoldable pub failures_below : List ℕ → ℕ → ℕ
failures_below failing calls = count_by (λ k. nat_lt k calls) failing

-- how many bytes one call moves: a cut of 0 counts as 1
abbrev pub moved : ℕ → ℕ → ℕ → ℕ
moved cut asked available = min (min (max cut 1) asked) available

-- what a read into a slice of this length answers
abbrev pub read_answer : List ℕ → ℕ → List ℕ → ℕ → ℕ → Taken
read_answer bytes cut failing call asked =
    if fails_at failing call then GiveFailed
    else (if length bytes == 0 then End else GiveBytes (moved cut asked (length bytes)))

-- what a write of a piece of this length answers, where this much room is left
abbrev pub write_answer : ℕ → ℕ → List ℕ → ℕ → ℕ → Put
write_answer room cut failing call size =
    if fails_at failing call || (room == 0 && nat_lt 0 size) then TakeFailed
    else TakeBytes (moved cut size room)

-- the count of bytes given, from an arbitrary start: it rises by one for each byte that is gone
abbrev pub given_count : List ℕ → ℕ
given_count bytes = 2 ^ 64 - length bytes
