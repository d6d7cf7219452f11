use Rattle.std.proofs.Common.{◌≡◌, [], take}
use Rattle.tcl_cnf.specs.Clause.{union}
use Rattle.tcl_sat.proofs.derivation.Derivation.put_all.Given as goal

abbrev pub invariant-loop-lit : goal.invariant-loop-lit
invariant-loop-lit l = l.self ≡ record l.fn.self { clause = union [] (take l.lit-index l.lits) }
