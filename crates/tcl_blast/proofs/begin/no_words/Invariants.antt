-- As many empty words as were counted.
use Rattle.std.proofs.Common.{◌≡◌, [], replicate}
use Rattle.tcl_blast.proofs.begin.no_words.Given as goal

abbrev pub invariant-loop-v : goal.invariant-loop-v
invariant-loop-v l = l.words ≡ replicate l.v []
