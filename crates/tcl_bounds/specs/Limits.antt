-- How the program narrows a row: it keeps the narrowed interval of each type, and meets the row with it. Within the type
-- both ways of narrowing are one.
use Rattle.std.specs.Prelude.{ℕ, List, Option, Some, None}
use Rattle.tcl_bounds.specs.declared.interval.Interval.{Interval}
use Rattle.tcl_bounds.specs.Intervals.{meet}
use Rattle.tcl_bounds.specs.Narrowing.{interval_at}
use Rattle.tcl_bounds.specs.Bounds.{set_row}

-- what an interval and the limit of variable v have in common
abbrev pub met_with : List Interval → ℕ → Interval → Interval
met_with limits v i = meet i (interval_at limits v)

-- the intervals once the result that is there has its row
abbrev pub set_at : (ℕ → Interval → Interval) → List Interval → Option ℕ → Option Interval → List Interval
set_at narrow bounds None r = bounds
set_at narrow bounds (Some v) r = set_row narrow bounds v r
