-- The used instructions so far have their gates.
use Rattle.std.proofs.Common.{◌≡◌, fold, take}
use Rattle.tcl_blast.specs.Begin.{begun}
use Rattle.tcl_blast.specs.Blasted.{blank}
use Rattle.tcl_blast.specs.Clauses.{with_use}
use Rattle.tcl_blast.proofs.encoding.add_uses.Given as goal

abbrev pub invariant-loop-k : goal.invariant-loop-k
invariant-loop-k l = l.blasted ≡ fold (with_use l.ssa) (blank (begun l.ssa l.lemmas.items l.fact)) (take l.k l.fact.uses)
