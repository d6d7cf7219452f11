-- What is left of the parts answers as all after the first do.
use Rattle.std.proofs.Common.{◌≡◌, drop}
use Rattle.tcl_lang.specs.Modulus.{falls_from}
use Rattle.tcl_types.proofs.modulus.falls_after_first.Given as goal

abbrev pub invariant-loop-k : goal.invariant-loop-k
invariant-loop-k l = falls_from l.last (drop l.k l.parts) ≡ falls_from l.exponent (drop 1 l.parts)
