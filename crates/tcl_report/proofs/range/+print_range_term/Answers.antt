use Rattle.std.proofs.Common.{◌++◌, ◌∙◌, ap, codes}
use mathlib.Core.List.{append_assoc}
use Rattle.tcl_lang.specs.declared.range.RngTerm.TheOpen as layer
use Rattle.tcl_lang.specs.declared.range.RngTerm.TheVariants as rolled
use Rattle.tcl_text.specs.Canonical.{bracket, type_text, range_term_text}
use Rattle.tcl_report.proofs.Growing.{three, four, five, replaced}
use Rattle.tcl_report.proofs.Layers.{range_is}
use Rattle.tcl_report.proofs.range.+print_range_term.Goals as goal

pub returns-in-Neg : goal.returns-in-Neg
returns-in-Neg t c =
    let names = c.args.names.now in
    let place = c.args.place in
    replaced (four c.print_bracket.ensures c.print.ensures c.print_range_term.ensures c.print_bracket-in-Neg.ensures)
    ((λ i. bracket 40 2 place ++ (codes "-" ++ (range_term_text names (c.get.ensures i) 0 ++ bracket 41 2 place)))
    ∙ range_is names place (layer.Neg c.in-Neg.inner) c.in-Neg.is (rolled.rolls-Neg c.in-Neg.inner))

pub returns-in-Flip : goal.returns-in-Flip
returns-in-Flip t c =
    let names = c.args.names.now in
    let place = c.args.place in
    replaced (four c.print_bracket-in-Flip.ensures c.print-in-Flip.ensures c.print_range_term-in-Flip.ensures c.print_bracket-in-Flip-2.ensures)
    ((λ i. bracket 40 2 place ++ (codes "~" ++ (range_term_text names (c.get-in-Flip.ensures i) 1 ++ bracket 41 2 place)))
    ∙ range_is names place (layer.Flip c.in-Flip.inner) c.in-Flip.is (rolled.rolls-Flip c.in-Flip.inner))

pub returns-in-Bin : goal.returns-in-Bin
returns-in-Bin t c =
    let names = c.args.names.now in
    let place = c.args.place in
    let m = c.as_bytes.ensures.value ∙ c.operator_text.ensures in
    replaced (five c.print_bracket-in-Bin.ensures c.print_range_term-in-Bin.ensures c.print-in-Bin.ensures c.print_range_term-in-Bin-2.ensures
    c.print_bracket-in-Bin-2.ensures)
    ((λ i. bracket 40 (c.operator_place.ensures i) place ++ (range_term_text names (c.get-in-Bin.ensures i) (c.operator_place-in-Bin.ensures i)
    ++ (m i ++ (range_term_text names (c.get-in-Bin-2.ensures i) (c.right_place.ensures i) ++ bracket 41 (c.operator_place-in-Bin-2.ensures i) place))))
    ∙ range_is names place (layer.Bin c.in-Bin.op c.in-Bin.left c.in-Bin.right) c.in-Bin.is (rolled.rolls-Bin c.in-Bin.op c.in-Bin.left c.in-Bin.right))

pub returns-in-Cast : goal.returns-in-Cast
returns-in-Cast t c =
    let names = c.args.names.now in
    replaced (three c.print_cast.ensures c.print_range_term-in-Cast.ensures c.print-in-Cast.ensures)
    ((ap (λ r. codes "cast(" ++ r) (append_assoc (type_text c.in-Cast.ty) (codes ", ") _)
    ∙ (λ i. codes "cast(" ++ (type_text c.in-Cast.ty ++ (codes ", " ++ (range_term_text names (c.get-in-Cast.ensures i) 7 ++ codes ")")))))
    ∙ range_is names c.args.place (layer.Cast c.in-Cast.ty c.in-Cast.inner) c.in-Cast.is (rolled.rolls-Cast c.in-Cast.ty c.in-Cast.inner))
