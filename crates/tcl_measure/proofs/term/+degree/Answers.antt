-- A bound of the whole from the bounds of the parts, each of which stays at its end.
use Rattle.std.proofs.Common.{◌≡◌, ◌*◌, ◌^◌, ◌∙◌, ap, sym, min}
use Rattle.tcl_lang.specs.declared.term.Term.{Term}
use Rattle.tcl_lang.specs.Bound.{degree_of, count_end}
use Rattle.tcl_measure.proofs.Layers.{degree_power}
use Rattle.tcl_measure.proofs.Saturation.{multiple_saturates}
use Rattle.tcl_measure.proofs.term.+degree.Goals as goal

pub returns-in-Pow : goal.returns-in-Pow
returns-in-Pow t c =
    let base : c.degree-in-Pow.result ≡ min (degree_of c.in-Pow.base) count_end = c.degree-in-Pow.ensures ∙ ap (λ (z : Term). min (degree_of z) count_end) c.get-in-Pow.ensures in
    let last : min ((degree_of c.in-Pow.base) * c.in-Pow.power) count_end ≡ min (degree_of c.args.term.now) count_end = ap (λ x. min x count_end) (sym (degree_power c.args.term.now c.in-Pow.base c.in-Pow.power c.in-Pow.is)) in
    c.product_of_counts.ensures
    ∙ ap (λ x. min (x * c.in-Pow.power) count_end) base
    ∙ multiple_saturates (degree_of c.in-Pow.base) c.in-Pow.power count_end
    ∙ last
