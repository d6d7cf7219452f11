-- What is left gives the same set.
use Rattle.std.proofs.Common.{◌≡◌, drop}
use Rattle.tcl_goals.specs.Closure as closures
use Rattle.tcl_goals.proofs.marks.Marks.add_all.Given as goal

abbrev pub invariant-loop-k : goal.invariant-loop-k
invariant-loop-k l =
    closures.mark_all l.self.marks (drop l.k l.vs) ≡ closures.mark_all l.fn.self.marks l.vs
