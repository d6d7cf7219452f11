use Rattle.std.proofs.Common.{◌≡◌, take}
use Rattle.tcl_cnf.specs.Clause.{union, without}
use Rattle.tcl_cnf.proofs.resolution.add_others.Given as goal

abbrev pub invariant-loop-lit : goal.invariant-loop-lit
invariant-loop-lit l = l.marks ≡ union l.initial.marks (without l.pivot (take l.lit-index l.lits))
