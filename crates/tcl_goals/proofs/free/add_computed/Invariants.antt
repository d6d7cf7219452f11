-- What is left gives the same set.
use Rattle.std.proofs.Common.{◌≡◌, drop}
use Rattle.tcl_goals.specs.Closure as closures
use Rattle.tcl_goals.specs.Free as free
use Rattle.tcl_goals.proofs.free.add_computed.Given as goal

abbrev pub invariant-loop-j : goal.invariant-loop-j
invariant-loop-j l =
    closures.mark_all l.marks.marks (free.computed_variables l.lines (drop l.j l.uses))
    ≡ closures.mark_all l.fn.marks.marks (free.computed_variables l.lines l.uses)
