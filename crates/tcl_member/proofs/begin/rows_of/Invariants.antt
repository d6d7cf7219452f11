-- The rows of the equations before the number are added.
use Rattle.std.proofs.Common.{◌≡◌, ◌-◌, length}
use Rattle.tcl_reduce.specs.Answer.{definitions_of}
use Rattle.tcl_reduce.specs.Row as s
use Rattle.tcl_pivots.specs.CofactorLists.{equations_of}
use Rattle.tcl_pivots.specs.Held.{rows_shown, AreHeld}
use Rattle.tcl_member.proofs.begin.rows_of.Given as goal

abbrev pub invariant-loop-number : goal.invariant-loop-number
invariant-loop-number g l =
    let m = g.R.Ring.modulus_of l.ring in let value = g.R.Ring.amount l.ring in
    (rows_shown value l.rows ≡ s.rows_to m (definitions_of value l.defs) (equations_of value l.list) l.equations.places (l.number - length l.defs))
    × AreHeld m (equations_of value l.list) value l.rows
