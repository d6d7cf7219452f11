use Rattle.std.proofs.Common.{◌<◌, ◌+◌, ◌∷◌, length, drop, sym, ap, ◌∙◌, arith}
use Rattle.std.proofs.lemmas.Bool.{eqb-true, eqb-false}
use Rattle.tcl_text.specs.Lines.{without_return, lines_of}
use Rattle.tcl_parse.proofs.TextLines.{no_lines, a_line, last_line}
use Rattle.tcl_parse.proofs.text.lines.split_line.Goals as goal

pub returns-then-is_empty-clause-pieces : goal.returns-then-is_empty-clause-pieces
returns-then-is_empty-clause-pieces c = no_lines c.args.bytes.now (eqb-true _ _ (sym c.if-is_empty.ensures))

pub returns-then-length-bytes-clause-pieces : goal.returns-then-length-bytes-clause-pieces
returns-then-length-bytes-clause-pieces c =
    let some = eqb-false _ _ (sym c.if-is_empty.ensures) in
    let positive : 0 < length c.args.bytes.now = omega (arith, some) in
    last_line c.args.bytes.now c.line_length-length.result positive c.line_length-length.ensures.length c.if-length-bytes.true
    ∙ ap (λ rest. c.args.bytes.now ∷ lines_of rest) (sym c.behind.ensures)

pub returns-clause-pieces : goal.returns-clause-pieces
returns-clause-pieces c =
    let apart = c.if-length-bytes.false in
    let within : c.line_length-length.result < length c.args.bytes.now = omega (arith, apart, c.line_length-length.ensures.within) in
    a_line c.args.bytes.now c.line_length-length.result c.line_length-length.ensures.length within
    ∙ (ap (λ line. line ∷ lines_of (drop (c.line_length-length.result + 1) c.args.bytes.now)) (ap without_return (sym c.front.ensures) ∙ sym c.without_return.ensures)
    ∙ ap (λ rest. c.without_return.result.now ∷ lines_of rest) (sym c.behind-2.ensures))
