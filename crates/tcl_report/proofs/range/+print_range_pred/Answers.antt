use Rattle.std.proofs.Common.{◌++◌, ◌∙◌, codes}
use Rattle.tcl_lang.specs.declared.range.RngPred.TheOpen as layer
use Rattle.tcl_lang.specs.declared.range.RngPred.TheVariants as rolled
use Rattle.tcl_text.specs.Canonical.{bracket, range_term_text}
use Rattle.tcl_report.specs.Parts.{range_pred_text}
use Rattle.tcl_report.proofs.Growing.{three, four, five, replaced}
use Rattle.tcl_report.proofs.Layers.{pred_is}
use Rattle.tcl_report.proofs.range.+print_range_pred.Goals as goal

pub returns-in-Cmp : goal.returns-in-Cmp
returns-in-Cmp t c =
    let names = c.args.names.now in
    let m = c.as_bytes.ensures.value ∙ c.comparison_text.ensures in
    replaced (three c.print_range_term.ensures c.print-in-Cmp.ensures c.print_range_term-in-Cmp.ensures)
    ((λ i. range_term_text names c.in-Cmp.left 7 ++ (m i ++ range_term_text names c.in-Cmp.right 7))
    ∙ pred_is names c.args.place (layer.Cmp c.in-Cmp.op c.in-Cmp.left c.in-Cmp.right) c.in-Cmp.is
    (rolled.rolls-Cmp c.in-Cmp.op c.in-Cmp.left c.in-Cmp.right))

pub returns-in-Not : goal.returns-in-Not
returns-in-Not t c =
    let names = c.args.names.now in
    let place = c.args.place in
    replaced (four c.print_bracket.ensures c.print-in-Not.ensures c.print_range_pred.ensures c.print_bracket-in-Not.ensures)
    ((λ i. bracket 91 1 place ++ (codes "!" ++ (range_pred_text names (c.get.ensures i) 0 ++ bracket 93 1 place)))
    ∙ pred_is names place (layer.Not c.in-Not.inner) c.in-Not.is (rolled.rolls-Not c.in-Not.inner))

pub returns-in-Both : goal.returns-in-Both
returns-in-Both t c =
    let names = c.args.names.now in
    let place = c.args.place in
    replaced (five c.print_bracket-in-Both.ensures c.print_range_pred-in-Both.ensures c.print-in-Both.ensures c.print_range_pred-in-Both-2.ensures
    c.print_bracket-in-Both-2.ensures)
    ((λ i. bracket 91 2 place ++ (range_pred_text names (c.get-in-Both.ensures i) 2 ++ (codes " && "
    ++ (range_pred_text names (c.get-in-Both-2.ensures i) 1 ++ bracket 93 2 place))))
    ∙ pred_is names place (layer.Both c.in-Both.left c.in-Both.right) c.in-Both.is (rolled.rolls-Both c.in-Both.left c.in-Both.right))

pub returns-in-Either : goal.returns-in-Either
returns-in-Either t c =
    let names = c.args.names.now in
    let place = c.args.place in
    replaced (five c.print_bracket-in-Either.ensures c.print_range_pred-in-Either.ensures c.print-in-Either.ensures c.print_range_pred-in-Either-2.ensures
    c.print_bracket-in-Either-2.ensures)
    ((λ i. bracket 91 3 place ++ (range_pred_text names (c.get-in-Either.ensures i) 3 ++ (codes " || "
    ++ (range_pred_text names (c.get-in-Either-2.ensures i) 2 ++ bracket 93 3 place))))
    ∙ pred_is names place (layer.Either c.in-Either.left c.in-Either.right) c.in-Either.is (rolled.rolls-Either c.in-Either.left c.in-Either.right))
