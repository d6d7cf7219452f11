-- The words are within the gates.
use Rattle.std.proofs.Common.{length}
use Rattle.tcl_words.specs.Ranges.{AllWithin}
use Rattle.tests_words.proofs.ranges.lits_of.Given as goal

abbrev pub invariant-loop-line : goal.invariant-loop-line
invariant-loop-line l = AllWithin (length l.gates) l.words
