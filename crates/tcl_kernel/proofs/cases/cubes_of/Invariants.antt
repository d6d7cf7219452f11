-- The cubes so far.
use Rattle.std.proofs.Common.{◌≡◌, take}
use Rattle.tcl_kernel.specs.CasesCertificate as words
use Rattle.tcl_kernel.proofs.cases.cubes_of.Given as goal

abbrev pub invariant-loop-k : goal.invariant-loop-k
invariant-loop-k l = l.cubes.items ≡ words.cubes_of l.facts (take l.k l.items)
