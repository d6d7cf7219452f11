-- What is made, followed by what the factors from k on leave, is what all leave.
use Rattle.std.proofs.Common.{◌≡◌, ◌++◌, drop}
use Rattle.tcl_reduce.specs.Parts as s
use Rattle.tcl_reduce.proofs.parts.without.Given as goal

abbrev pub invariant-loop-k : goal.invariant-loop-k
invariant-loop-k l = l.rest ++ s.without l.key (drop l.k l.mono) ≡ s.without l.key l.mono
