-- The reduction by the rows from place i on goes on to that by all.
use Rattle.std.proofs.Common.{◌≡◌, ◌-◌, ◌≤◌, length, drop, false}
use Rattle.tcl_poly.specs.Polynomial as p
use Rattle.tcl_reduce.specs.Row as rows
use Rattle.tcl_reduce.specs.Membership as s
use Rattle.tcl_pivots.specs.CofactorLists.{equations_of}
use Rattle.tcl_pivots.specs.TargetState.{target_shown}
use Rattle.tcl_pivots.specs.Aim.{IsAimed}
use Rattle.tcl_pivots.specs.Held.{pivots_shown, pivots_at}
use Rattle.tcl_pivots.proofs.target_reduction.reduce_by_places.Given as goal

abbrev pub invariant-loop-i : goal.invariant-loop-i
invariant-loop-i g l =
    let m = g.R.Ring.modulus_of l.ring in let value = g.R.Ring.amount l.ring in
    let es = equations_of value l.equations in let ps = pivots_shown value l.kept in let claim = p.terms_of value l.claim in
    (l.i ≤ length l.order)
    × IsAimed m es claim (target_shown value false l.f)
    × (s.target_by m es (p.norm_of claim) (pivots_at ps (drop l.i l.order)) (target_shown value l.noted l.f) ≡ s.target_by m es (p.norm_of claim) (rows.by_leading ps) (target_shown value false l.fn.f))

abbrev pub decreases-loop-i : goal.decreases-loop-i
decreases-loop-i g l = length l.order - l.i
