-- The numbers so far, and then those of the results that are left.
use Rattle.std.proofs.Common.{◌≡◌, ◌++◌, drop}
use Rattle.tcl_lang.specs.Versions as versions
use Rattle.tcl_ssa.proofs.lines.numbers_from.Given as goal

abbrev pub invariant-loop-out : goal.invariant-loop-out
invariant-loop-out l = l.numbers ++ versions.numbers_from l.next (drop l.out-index l.outs) ≡ versions.numbers_from l.first l.outs
