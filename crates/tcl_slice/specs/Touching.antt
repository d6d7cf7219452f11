-- The lines that name each variable, and the search that grows the set of a slice by them. No public clause cites this module.
use Rattle.std.specs.Prelude.{ℕ, zero, suc, ◌+◌, nat_lt, false, not, ◌&&◌, if◌then◌else◌, List, [], ◌∷◌, ◌++◌, length, replicate, slice_get, slice_set, slice_index_or, Option, Some, nat_le}
use Rattle.std.specs.List.{fold, list_any}
use Rattle.tcl_lang.specs.declared.pred.Line.{Line}
use Rattle.tcl_lang.specs.Program.{VersionedProgram}
use Rattle.tcl_goals.specs.declared.cuts.Starts.{Starts}
use Rattle.tcl_goals.specs.Closure.{is_marked, mark_one}
use Rattle.tcl_lang.specs.Goal.{passes}
use Rattle.tcl_goals.specs.Places.{is_step}
use Rattle.tcl_goals.specs.Defaults.{is_default, first_start}
use Rattle.tcl_goals.specs.Slices.{read_in, defined_in, named_in}
use Rattle.tcl_slice.specs.declared.search.Search.{Search}

-- line j names a variable, names these
abbrev pub touched : List (List ℕ) → ℕ → ℕ → List (List ℕ)
touched rows j v = slice_set rows v (slice_index_or rows v [] ++ j ∷ [])

abbrev pub touched_all : List (List ℕ) → ℕ → List ℕ → List (List ℕ)
touched_all rows j [] = rows
touched_all rows j (v ∷ vs) = touched_all (touched rows j v) j vs

-- for each variable the places of the lines that name it, those of these lines added, which have the places from j on
unfoldable pub rows_from : List (List ℕ) → ℕ → List Line → List (List ℕ)
rows_from rows j [] = rows
rows_from rows j (l ∷ lines) = rows_from (touched_all rows j (named_in (Some l))) (j + 1) lines

abbrev pub rows_of : ℕ → List Line → List (List ℕ)
rows_of count lines = rows_from (replicate count []) 0 lines

-- the set with one more variable, with these; what is reached is kept in the order in which it came
abbrev pub reached : Search → ℕ → Search
reached s v =
    if nat_lt v (length s.marks) && not (is_marked s.marks v)
    then record { marks = mark_one s.marks v; order = s.order ++ v ∷ []; taken = s.taken }
    else s

abbrev pub reached_all : Search → List ℕ → Search
reached_all s vs = fold reached s vs

-- a line as an instruction: it is taken where it counts and defines a variable of the set
abbrev pub step_at : Option Line → Starts → Search → ℕ → Search
step_at o starts s j =
    if (passes is_step o && nat_le (first_start starts) j) && list_any (is_marked s.marks) (defined_in o)
    then reached_all s (named_in o)
    else s

abbrev pub step_taken : List Line → Starts → Search → ℕ → Search
step_taken lines starts s j = step_at (slice_get lines j) starts s j

-- a line as a hypothesis: it is taken where it counts, reads a variable of the set and was not taken before
abbrev pub with_taken : Search → ℕ → Search
with_taken s j = record { marks = s.marks; order = s.order; taken = mark_one s.taken j }

abbrev pub hyp_at : Option Line → Starts → Search → ℕ → Search
hyp_at o starts s j =
    if passes (is_default starts j) o && (not (is_marked s.taken j) && list_any (is_marked s.marks) (read_in o))
    then with_taken (reached_all s (read_in o)) j
    else s

abbrev pub hyp_taken : List Line → Starts → Search → ℕ → Search
hyp_taken lines starts s j = hyp_at (slice_get lines j) starts s j

abbrev pub line_taken : List Line → Starts → ℕ → Search → ℕ → Search
line_taken lines starts place s j =
    if nat_lt j place then hyp_taken lines starts (step_taken lines starts s j) j else s

-- all lines that name a variable
abbrev pub variable_followed : List Line → Starts → ℕ → List (List ℕ) → Search → ℕ → Search
variable_followed lines starts place rows s v = fold (line_taken lines starts place) s (slice_index_or rows v [])

-- the variables are followed in the order in which they were reached, the first n of them
abbrev pub next_followed : List Line → Starts → ℕ → List (List ℕ) → Search → ℕ → Search
next_followed lines starts place rows s n =
    if nat_lt n (length s.order)
    then variable_followed lines starts place rows s (slice_index_or s.order n 0)
    else s

unfoldable pub grown : List Line → Starts → ℕ → List (List ℕ) → Search → ℕ → Search
grown lines starts place rows s zero = s
grown lines starts place rows s (suc n) = next_followed lines starts place rows (grown lines starts place rows s n) n

-- the search from the variables that the line of the place reads
abbrev pub begun : VersionedProgram → ℕ → Search
begun p place =
    reached_all
    (record { marks = replicate (length p.variables) false; order = []; taken = replicate (length p.lines) false })
    (read_in (slice_get p.lines place))

abbrev pub searched : VersionedProgram → Starts → ℕ → Search
searched p starts place =
    grown p.lines starts place (rows_of (length p.variables) p.lines) (begun p place) (length p.variables)
