-- The number of terms over the powers so far, and the power of the definition's number of terms.
use Rattle.std.proofs.Common.{◌≡◌, ◌^◌, length, min}
use Rattle.tcl_reduce.specs.Parts.{by_power}
use Rattle.tcl_reduce.specs.Substitution.{terms_by}
use Rattle.tcl_reduce.proofs.size.count.Given as goal

abbrev pub invariant-loop-k : goal.invariant-loop-k
invariant-loop-k g l =
    (l.count ≡ min (terms_by l.d (by_power l.parts) l.k) 4294967295)
    × (l.power ≡ min (length l.d ^ l.k) 4294967295)
