-- What is done and what is left make the whole.
use Rattle.std.proofs.Common.{◌≡◌, ◌++◌, drop}
use Rattle.tcl_worker.specs.Candidates as words
use Rattle.tcl_worker.proofs.candidates.bits_of_all.Given as goal

abbrev pub invariant-loop-k : goal.invariant-loop-k
invariant-loop-k l = l.bits ++ words.bits_of_all l.variables (drop l.k l.chosen) ≡ words.bits_of_all l.variables l.chosen
