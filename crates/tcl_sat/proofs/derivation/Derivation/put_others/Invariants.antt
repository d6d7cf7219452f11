use Rattle.std.proofs.Common.{◌≡◌, take}
use Rattle.tcl_cnf.specs.Clause.{union, without}
use Rattle.tcl_sat.proofs.derivation.Derivation.put_others.Given as goal

abbrev pub invariant-loop-other : goal.invariant-loop-other
invariant-loop-other l = l.self ≡ record l.fn.self { clause = union l.fn.self.clause (without l.lit (take l.other-index l.lits)) }
