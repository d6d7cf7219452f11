use Rattle.std.proofs.Common.{◌≡◌, take}
use Rattle.tcl_cnf.specs.Clause.{union, without}
use Rattle.tcl_trail.specs.Assignment.{lits_of}
use Rattle.tcl_sat.specs.Analysis.{open_count}
use Rattle.tcl_sat.proofs.analysis.put_others_counted.Given as goal

abbrev pub invariant-loop-other : goal.invariant-loop-other
invariant-loop-other l =
    (l.derivation ≡ record l.initial.derivation { clause = union l.initial.derivation.clause (without l.lit (take l.other-index l.lits)) })
    × (l.open ≡ open_count (take l.floor (lits_of l.trail.entries)) l.derivation.clause)
