-- A bound of the whole from the bounds of the parts, each of which stays at its end.
use Rattle.std.proofs.Common.{◌≡◌, ◌*◌, ◌^◌, ◌∙◌, ap, sym, min}
use Rattle.tcl_num.proofs.SaturatingCounts.{product_saturates}
use Rattle.tcl_lang.specs.declared.term.Term.{Term}
use Rattle.tcl_lang.specs.Bound.{terms_of, count_end}
use Rattle.tcl_measure.proofs.Layers.{terms_power, terms_product}
use Rattle.tcl_measure.proofs.Saturation.{power_saturates}
use Rattle.tcl_measure.proofs.term.+terms.Goals as goal

pub returns-in-Mul : goal.returns-in-Mul
returns-in-Mul t c =
    let left : c.terms-in-Mul.result ≡ min (terms_of c.in-Mul.left) count_end = c.terms-in-Mul.ensures ∙ ap (λ (z : Term). min (terms_of z) count_end) c.get-in-Mul.ensures in
    let right : c.terms-in-Mul-2.result ≡ min (terms_of c.in-Mul.right) count_end = c.terms-in-Mul-2.ensures ∙ ap (λ (z : Term). min (terms_of z) count_end) c.get-in-Mul-2.ensures in
    let last : min ((terms_of c.in-Mul.left) * (terms_of c.in-Mul.right)) count_end ≡ min (terms_of c.args.term.now) count_end = ap (λ x. min x count_end) (sym (terms_product c.args.term.now c.in-Mul.left c.in-Mul.right c.in-Mul.is)) in
    c.product_of_counts.ensures
    ∙ ap (λ x. min (x * c.terms-in-Mul-2.result) count_end) left
    ∙ ap (λ x. min (min (terms_of c.in-Mul.left) count_end * x) count_end) right
    ∙ product_saturates (terms_of c.in-Mul.left) (terms_of c.in-Mul.right) count_end
    ∙ last

pub returns-in-Pow : goal.returns-in-Pow
returns-in-Pow t c =
    let base : c.terms-in-Pow.result ≡ min (terms_of c.in-Pow.base) count_end = c.terms-in-Pow.ensures ∙ ap (λ (z : Term). min (terms_of z) count_end) c.get-in-Pow.ensures in
    let last : min ((terms_of c.in-Pow.base) ^ c.in-Pow.power) count_end ≡ min (terms_of c.args.term.now) count_end = ap (λ x. min x count_end) (sym (terms_power c.args.term.now c.in-Pow.base c.in-Pow.power c.in-Pow.is)) in
    c.power_of_count.ensures
    ∙ ap (λ x. min (x ^ c.in-Pow.power) count_end) base
    ∙ power_saturates (terms_of c.in-Pow.base) c.in-Pow.power count_end
    ∙ last
