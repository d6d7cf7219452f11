-- Whether all unknowns have names is decided by those from k on.
use Rattle.std.proofs.Common.{◌≡◌, drop}
use Rattle.tcl_remainder.specs.Terms as t
use Rattle.tcl_remainder.proofs.plain.has_names.Given as goal

abbrev pub invariant-loop-k : goal.invariant-loop-k
invariant-loop-k l = t.has_names (drop l.k l.mono) ≡ t.has_names l.mono
