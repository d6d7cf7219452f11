-- The lemmas that are left.
use Rattle.std.proofs.Common.{◌≡◌, drop}
use Rattle.tcl_goals.specs.LemmaList as lists
use Rattle.tcl_kernel.proofs.evidence.lemma_in.Given as goal

abbrev pub invariant-loop-k : goal.invariant-loop-k
invariant-loop-k l = lists.lemma_of (drop l.k l.lemmas) l.number ≡ lists.lemma_of l.lemmas l.number
