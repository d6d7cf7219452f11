-- The lemmas so far and those that are left.
use Rattle.std.proofs.Common.{◌≡◌, ◌++◌, drop}
use Rattle.tcl_kernel.specs.Cited as cited
use Rattle.tcl_kernel.proofs.cited.cited_lemmas.Given as goal

abbrev pub invariant-loop-k : goal.invariant-loop-k
invariant-loop-k l = l.found ++ cited.cited_lemmas l.hyps (drop l.k l.lemmas) ≡ cited.cited_lemmas l.hyps l.lemmas
