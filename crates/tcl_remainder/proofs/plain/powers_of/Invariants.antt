-- The powers so far, followed by those of the factors from k on, are all.
use Rattle.std.proofs.Common.{◌≡◌, ◌++◌, drop}
use Rattle.tcl_remainder.specs.Terms as t
use Rattle.tcl_remainder.proofs.plain.powers_of.Given as goal

abbrev pub invariant-loop-k : goal.invariant-loop-k
invariant-loop-k l = l.powers ++ t.powers_of (drop l.k l.mono) ≡ t.powers_of l.mono
