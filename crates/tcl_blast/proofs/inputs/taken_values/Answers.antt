-- One line on, and at the end nothing is left.
use Rattle.std.proofs.Common.{◌≡◌, ◌∙◌, refl, ap, arith, length, drop, ◌++◌, ◌+◌, Some}
use Rattle.std.specs.List.{slice_get}
use Rattle.std.proofs.lemmas.Option.{slice_get_read}
use Rattle.tcl_slice.specs.Runs.{input_from}
use Rattle.tcl_blast.specs.FreeBits.{taken_value}
use Rattle.tcl_blast.proofs.TakenValues.{input_more, input_done}
use Rattle.tcl_blast.proofs.inputs.taken_values.Goals as goal

pub loop-k-preserved : goal.loop-k-preserved
loop-k-preserved c =
    let lines = c.args.lines.now in
    let values = c.args.values.now in
    let k = c.loop-k.k in
    let line = c.index-lines-k.result in
    let at : slice_get lines k ≡ Some line = slice_get_read lines (length lines) k line refl (omega arith) c.index-lines-k.is in
    ap (λ ns. ns ++ input_from (drop (k + 1) lines) values) (c.in_ok-add_value.ensures.ok ∙ ap (λ o. c.loop-k.input ++ taken_value values o) c.taken_name.ensures)
    ∙ input_more values lines k line c.loop-k.input (input_from lines values) at c.loop-k.invariant

pub returns : goal.returns
returns c =
    input_done c.args.values.now c.args.lines.now c.loop-k.k c.loop-k.input (input_from c.args.lines.now c.args.values.now)
    (omega (arith, c.loop-k-test.false)) c.loop-k.invariant
