use Rattle.std.proofs.Common.{◌≡◌, [], take}
use Rattle.tcl_cnf.specs.Clause.{union}
use Rattle.tcl_cnf.proofs.resolution.start.Given as goal

abbrev pub invariant-loop-lit : goal.invariant-loop-lit
invariant-loop-lit l = l.marks ≡ union [] (take l.lit-index l.lits)
