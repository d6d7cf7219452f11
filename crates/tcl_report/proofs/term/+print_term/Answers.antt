use Rattle.std.proofs.Common.{◌++◌, ◌∙◌, codes}
use Rattle.tcl_lang.specs.declared.term.Term.TheOpen as layer
use Rattle.tcl_lang.specs.declared.term.Term.TheVariants as rolled
use Rattle.tcl_text.specs.Canonical.{bracket, term_text}
use Rattle.tcl_report.specs.Parts.{exponent_text}
use Rattle.tcl_report.proofs.Growing.{three, four, five, replaced}
use Rattle.tcl_report.proofs.Layers.{term_is}
use Rattle.tcl_report.proofs.term.+print_term.Goals as goal

pub returns-in-Neg : goal.returns-in-Neg
returns-in-Neg t c =
    let names = c.args.names.now in
    let place = c.args.place in
    replaced (four c.print_bracket.ensures c.print.ensures c.print_term.ensures c.print_bracket-in-Neg.ensures)
    ((λ i. bracket 40 2 place ++ (codes "-" ++ (term_text names (c.get.ensures i) 1 ++ bracket 41 2 place)))
    ∙ term_is names place (layer.Neg c.in-Neg.inner) c.in-Neg.is (rolled.rolls-Neg c.in-Neg.inner))

pub returns-in-Add : goal.returns-in-Add
returns-in-Add t c =
    let names = c.args.names.now in
    let place = c.args.place in
    replaced (five c.print_bracket-in-Add.ensures c.print_term-in-Add.ensures c.print-in-Add.ensures c.print_term-in-Add-2.ensures
    c.print_bracket-in-Add-2.ensures)
    ((λ i. bracket 40 4 place ++ (term_text names (c.get-in-Add.ensures i) 4 ++ (codes " + "
    ++ (term_text names (c.get-in-Add-2.ensures i) 3 ++ bracket 41 4 place))))
    ∙ term_is names place (layer.Add c.in-Add.left c.in-Add.right) c.in-Add.is (rolled.rolls-Add c.in-Add.left c.in-Add.right))

pub returns-in-Sub : goal.returns-in-Sub
returns-in-Sub t c =
    let names = c.args.names.now in
    let place = c.args.place in
    replaced (five c.print_bracket-in-Sub.ensures c.print_term-in-Sub.ensures c.print-in-Sub.ensures c.print_term-in-Sub-2.ensures
    c.print_bracket-in-Sub-2.ensures)
    ((λ i. bracket 40 4 place ++ (term_text names (c.get-in-Sub.ensures i) 4 ++ (codes " - "
    ++ (term_text names (c.get-in-Sub-2.ensures i) 3 ++ bracket 41 4 place))))
    ∙ term_is names place (layer.Sub c.in-Sub.left c.in-Sub.right) c.in-Sub.is (rolled.rolls-Sub c.in-Sub.left c.in-Sub.right))

pub returns-in-Mul : goal.returns-in-Mul
returns-in-Mul t c =
    let names = c.args.names.now in
    let place = c.args.place in
    replaced (five c.print_bracket-in-Mul.ensures c.print_term-in-Mul.ensures c.print-in-Mul.ensures c.print_term-in-Mul-2.ensures
    c.print_bracket-in-Mul-2.ensures)
    ((λ i. bracket 40 3 place ++ (term_text names (c.get-in-Mul.ensures i) 3 ++ (codes " * "
    ++ (term_text names (c.get-in-Mul-2.ensures i) 2 ++ bracket 41 3 place))))
    ∙ term_is names place (layer.Mul c.in-Mul.left c.in-Mul.right) c.in-Mul.is (rolled.rolls-Mul c.in-Mul.left c.in-Mul.right))

pub returns-in-Pow : goal.returns-in-Pow
returns-in-Pow t c =
    let names = c.args.names.now in
    let place = c.args.place in
    replaced (three c.print_bracket-in-Pow.ensures c.print_term-in-Pow.ensures c.print_exponent.ensures)
    ((λ i. bracket 40 1 place ++ (term_text names (c.get-in-Pow.ensures i) 0 ++ exponent_text c.in-Pow.power place))
    ∙ term_is names place (layer.Pow c.in-Pow.base c.in-Pow.power) c.in-Pow.is (rolled.rolls-Pow c.in-Pow.base c.in-Pow.power))
