-- The norms of the equations from k on are not too great.
use Rattle.std.proofs.Common.{◌≤◌, length, drop}
use Rattle.tcl_pivots.specs.CofactorLists.{equations_of}
use Rattle.tcl_member.specs.Fit.{AreNarrow}
use Rattle.tcl_member.proofs.fit.are_narrow.Given as goal

abbrev pub invariant-loop-k : goal.invariant-loop-k
invariant-loop-k g l =
    (l.k ≤ length l.equations)
    × AreNarrow (g.R.Ring.modulus_of l.ring) (equations_of (g.R.Ring.amount l.ring) (drop l.k l.equations))

abbrev pub decreases-loop-k : goal.decreases-loop-k
decreases-loop-k g l = l.k
