-- A bound of the whole from the bounds of the parts, each of which stays at its end.
use Rattle.std.proofs.Common.{◌≡◌, ◌*◌, ◌^◌, ◌∙◌, ap, sym, min}
use Rattle.tcl_num.proofs.SaturatingCounts.{product_saturates}
use Rattle.tcl_lang.specs.declared.term.Term.{Term}
use Rattle.tcl_lang.specs.Bound.{size_of, size_end}
use Rattle.tcl_lang.specs.Values.{types_of}
use Rattle.tcl_measure.proofs.Layers.{size_power, size_product}
use Rattle.tcl_measure.proofs.Saturation.{power_saturates}
use Rattle.tcl_measure.proofs.term.+size.Goals as goal

pub returns-in-Mul : goal.returns-in-Mul
returns-in-Mul t c =
    let left : c.size-in-Mul.result ≡ min (size_of (types_of c.args.variables.now) c.in-Mul.left) size_end = c.size-in-Mul.ensures ∙ ap (λ (z : Term). min (size_of (types_of c.args.variables.now) z) size_end) c.get-in-Mul.ensures in
    let right : c.size-in-Mul-2.result ≡ min (size_of (types_of c.args.variables.now) c.in-Mul.right) size_end = c.size-in-Mul-2.ensures ∙ ap (λ (z : Term). min (size_of (types_of c.args.variables.now) z) size_end) c.get-in-Mul-2.ensures in
    let last : min ((size_of (types_of c.args.variables.now) c.in-Mul.left) * (size_of (types_of c.args.variables.now) c.in-Mul.right)) size_end ≡ min (size_of (types_of c.args.variables.now) c.args.term.now) size_end = ap (λ x. min x size_end) (sym (size_product (types_of c.args.variables.now) c.args.term.now c.in-Mul.left c.in-Mul.right c.in-Mul.is)) in
    c.saturating_product.ensures
    ∙ ap (λ x. min (x * c.size-in-Mul-2.result) size_end) left
    ∙ ap (λ x. min (min (size_of (types_of c.args.variables.now) c.in-Mul.left) size_end * x) size_end) right
    ∙ product_saturates (size_of (types_of c.args.variables.now) c.in-Mul.left) (size_of (types_of c.args.variables.now) c.in-Mul.right) size_end
    ∙ last

pub returns-in-Pow : goal.returns-in-Pow
returns-in-Pow t c =
    let base : c.size-in-Pow.result ≡ min (size_of (types_of c.args.variables.now) c.in-Pow.base) size_end = c.size-in-Pow.ensures ∙ ap (λ (z : Term). min (size_of (types_of c.args.variables.now) z) size_end) c.get-in-Pow.ensures in
    let last : min ((size_of (types_of c.args.variables.now) c.in-Pow.base) ^ c.in-Pow.power) size_end ≡ min (size_of (types_of c.args.variables.now) c.args.term.now) size_end = ap (λ x. min x size_end) (sym (size_power (types_of c.args.variables.now) c.args.term.now c.in-Pow.base c.in-Pow.power c.in-Pow.is)) in
    c.saturating_power.ensures
    ∙ ap (λ x. min (x ^ c.in-Pow.power) size_end) base
    ∙ power_saturates (size_of (types_of c.args.variables.now) c.in-Pow.base) c.in-Pow.power size_end
    ∙ last
