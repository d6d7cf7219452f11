use Rattle.std.proofs.Common.{◌≡◌, ◌-◌, length}
use Rattle.tcl_trail.specs.Trail.{variable_count}
use Rattle.tcl_sat.specs.State.{WasQuiet}
use Rattle.tcl_sat.proofs.descent.descend.Given as goal

abbrev pub invariant-levels : goal.invariant-levels
invariant-levels l = record { same : l.trail.clauses ≡ l.fn.trail.clauses; quiet : WasQuiet l.trail.clauses l.trail.entries }

abbrev pub decreases-levels : goal.decreases-levels
decreases-levels l = variable_count l.trail.clauses - length l.trail.entries
