-- The lemmas from here on.
use Rattle.std.proofs.Common.{◌≡◌, ◌≤◌, length, drop}
use Rattle.tcl_goals.specs.LemmaList as lists
use Rattle.tests_blast.proofs.tables.next_number.Given as goal

abbrev pub invariant-loop-k : goal.invariant-loop-k
invariant-loop-k l = (l.next ≡ lists.next_number (drop l.k l.lemmas)) × (l.k ≤ length l.lemmas)

abbrev pub decreases-loop-k : goal.decreases-loop-k
decreases-loop-k l = l.k
