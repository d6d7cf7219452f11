-- One line more.
use Rattle.std.proofs.Common.{◌∙◌, ◌+◌, ap, drop}
use Rattle.tcl_slice.specs.Touching.{rows_from, rows_of}
use Rattle.tcl_slice.proofs.Joining.{rows_more}
use Rattle.tcl_slice.proofs.links.rows_of.Goals as goal

pub loop-k-preserved : goal.loop-k-preserved
loop-k-preserved c =
    let lines = c.args.lines.now in
    let k = c.loop-k.k in
    ap (λ rows. rows_from rows (k + 1) (drop (k + 1) lines)) c.in_ok-touch_line.ensures
    ∙ rows_more lines k c.at.result.now c.loop-k.rows.items (rows_of c.args.variables lines) c.at.ensures c.loop-k.invariant
