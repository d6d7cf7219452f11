-- The gates are at least as many as were counted.
use Rattle.std.proofs.Common.{◌+◌, ◌*◌, ◌<◌, ◌≤◌, length, refl, arith}
use Rattle.tcl_blast.specs.Clauses.{clause_limit}
use Rattle.tcl_blast.specs.Sizes.{pred_size}
use Rattle.tcl_blast.proofs.Counts.{range_many}
use Rattle.tcl_blast.proofs.lines.check_room.Goals as goal

pub returns-then-made-pred_size : goal.returns-then-made-pred_size
returns-then-made-pred_size c =
    let many : clause_limit < c.min-made.result + 2 * pred_size c.args.blasted.now.words c.args.pred.now = omega (arith, c.if-made-pred_size.true, c.pred_size.ensures.size) in
    let few : c.min-made.result ≤ length c.args.blasted.now.clauses = omega (arith, c.min-made.ensures, c.len.ensures) in
    (refl, range_many c.args.ssa.now c.args.blasted.now c.args.pred.now c.min-made.result c.requires c.known.ensures.gates few many)
