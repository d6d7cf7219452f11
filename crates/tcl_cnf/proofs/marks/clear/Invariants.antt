use Rattle.std.proofs.Common.{drop}
use Rattle.tcl_cnf.specs.Marks.{AreTouched}
use Rattle.tcl_cnf.proofs.marks.clear.Given as goal

-- the marks that are left are among the touched places that are left
abbrev pub invariant-loop-number : goal.invariant-loop-number
invariant-loop-number l = AreTouched l.table.items (drop l.number-index l.touched)
