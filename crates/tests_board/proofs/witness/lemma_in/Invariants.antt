use Rattle.std.proofs.Common.{◌≡◌, drop}
use Rattle.tcl_goals.specs.LemmaList as lists
use Rattle.tests_board.proofs.witness.lemma_in.Given as goal

abbrev pub invariant-loop-k : goal.invariant-loop-k
invariant-loop-k l = lists.lemma_of (drop l.k l.lemmas) l.number ≡ lists.lemma_of l.lemmas l.number
