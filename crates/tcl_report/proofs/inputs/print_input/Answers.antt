-- At the end nothing is left.
use Rattle.std.proofs.Common.{◌∙◌, ap, arith}
use Rattle.tcl_report.specs.Report.{values_text}
use Rattle.tcl_report.proofs.Growing.{ended, replaced}
use Rattle.tcl_report.proofs.ReportLemmas.{values_done}
use Rattle.tcl_report.proofs.inputs.print_input.Goals as goal

pub returns : goal.returns
returns c =
    let p = c.args.typed.now in
    let input = c.args.input.now in
    let lines = c.lines-lines.result.now in
    replaced
    (ended (values_done p.program.names p.places input lines c.loop-k.k c.loop-k.j (omega (arith, c.loop-k-test.false, c.len-k-end.ensures)))
    c.loop-k.invariant.0)
    (ap (λ ls. values_text p.program.names p.places input 0 0 ls) (c.lines-lines.ensures.lines ∙ ap (λ q. q.lines) c.program.ensures.program))
