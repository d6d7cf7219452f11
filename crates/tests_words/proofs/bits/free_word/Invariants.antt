-- The word is within the gates, and has a literal for each turn.
use Rattle.std.proofs.Common.{◌≡◌, ◌≤◌, length}
use Rattle.tcl_gates.specs.Meaning.{AreWithin}
use Rattle.tests_words.proofs.bits.free_word.Given as goal

abbrev pub invariant-loop-k : goal.invariant-loop-k
invariant-loop-k l = AreWithin (length l.gates) l.word × (length l.fn.gates ≤ length l.gates) × (length l.word ≡ l.k)
