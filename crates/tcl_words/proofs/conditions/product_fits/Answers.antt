use Rattle.std.proofs.Common.{rules, length}
use Rattle.tcl_circuits.proofs.Within.{on_err}
use Rattle.tcl_words.proofs.Parts.{product_first, product_second}
use Rattle.tcl_words.proofs.conditions.product_fits.Goals as goal

pub returns-in_err-word-clause-part : goal.returns-in_err-word-clause-part
returns-in_err-word-clause-part c =
    on_err c.from_residual.result (product_first c.args.gates.now c.wide_product.new.gates c.args.signed (length c.args.a.now) c.args.a.now c.args.b.now c.in_err-word.ensures.part)

pub returns-in_err-lit-clause-part : goal.returns-in_err-lit-clause-part
returns-in_err-lit-clause-part c =
    on_err c.from_residual-in_err-lit.result (product_second c.args.gates.now c.wide_product.new.gates c.in_range.new.gates c.in_ok-word.word c.args.signed (length c.args.a.now) _ c.args.a.now c.args.b.now c.in_ok-word.ensures.made c.in_ok-word.ensures.word
    c.in_err-lit.ensures.part (search rules))
