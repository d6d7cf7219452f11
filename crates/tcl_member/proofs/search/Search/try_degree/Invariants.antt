-- The products of the rows so far were tried.
use Rattle.std.proofs.Common.{◌≤◌, ◌-◌, length, take}
use Rattle.tcl_poly.specs.Polynomial as p
use Rattle.tcl_reduce.specs.Multiple.{multiples_at}
use Rattle.tcl_pivots.specs.CofactorLists.{equations_of}
use Rattle.tcl_pivots.specs.Held.{pivots_shown}
use Rattle.tcl_member.specs.declared.search.Turn.TheVariants.{Going}
use Rattle.tcl_member.specs.Course.{keys_in, IsGone}
use Rattle.tcl_member.proofs.search.Search.try_degree.Given as goal

abbrev pub invariant-loop-i : goal.invariant-loop-i
invariant-loop-i g l =
    let m = g.R.Ring.modulus_of l.ring in let value = g.R.Ring.amount l.ring in
    (l.i ≤ length l.pivots)
    × IsGone m value (equations_of value l.equations) (p.terms_of value l.claim) l.place l.budget (multiples_at (keys_in l.unknowns) l.limit l.by (take l.i (pivots_shown value l.pivots))) l.fn.self l.self
    (g.P.Port.polls l.fn.port) (g.P.Port.polls l.port) (g.P.Port.cancels l.fn.port) (g.P.Port.cancels l.port) Going

abbrev pub decreases-loop-i : goal.decreases-loop-i
decreases-loop-i g l = length l.pivots - l.i
