use Rattle.tcl_trail.specs.Assignment.{lits_of}
use Rattle.tcl_trail.specs.Watching.{AreFalseBetween}
use Rattle.tcl_trail.proofs.visiting.free_between.Given as goal

abbrev pub invariant-loop-k : goal.invariant-loop-k
invariant-loop-k l = AreFalseBetween (lits_of l.assigned.entries) l.lits l.other l.from l.k
