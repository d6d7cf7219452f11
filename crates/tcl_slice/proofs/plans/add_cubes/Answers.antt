-- One cube more.
use Rattle.std.proofs.Common.{◌∙◌, ◌++◌, ◌∷◌, [], ap, length}
use Rattle.tcl_slice.proofs.Planning.{cubes_none, cubes_more}
use Rattle.tcl_slice.proofs.plans.add_cubes.Goals as goal

pub loop-n-init : goal.loop-n-init
loop-n-init c = cubes_none c.args.plan.now c.args.goal c.args.route c.args.bits.now

pub loop-n-preserved : goal.loop-n-preserved
loop-n-preserved c =
    c.in_ok-add_piece.ensures
    ∙ ap (λ cube. c.loop-n.plan ++ record { number = length c.loop-n.plan; goal = c.args.goal; route = c.args.route; cube = cube } ∷ []) c.in_ok-cube.ensures
    ∙ cubes_more c.args.plan.now c.loop-n.plan c.args.goal c.args.route c.args.bits.now c.loop-n.n c.loop-n.invariant
