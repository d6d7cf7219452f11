-- Whether a cofactor from k on is deep.
use Rattle.std.proofs.Common.{◌≡◌, ◌≤◌, length, drop}
use Rattle.tcl_reduce.specs.CofactorSum.{is_deep}
use Rattle.tcl_pivots.specs.CofactorLists.{equations_of}
use Rattle.tcl_pivots.proofs.CofactorTurns.{valued}
use Rattle.tcl_pivots.proofs.weight.is_deep.Given as goal

abbrev pub invariant-loop-k : goal.invariant-loop-k
invariant-loop-k g l =
    (l.k ≤ length l.cofactors)
    × (l.deep ≡ is_deep (equations_of (g.R.Ring.amount l.ring) l.equations) (valued (g.R.Ring.amount l.ring) (drop l.k l.cofactors)))

abbrev pub decreases-loop-k : goal.decreases-loop-k
decreases-loop-k g l = l.k
