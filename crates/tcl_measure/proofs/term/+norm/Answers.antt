-- A bound of the whole from the bounds of the parts, each of which stays at its end.
use Rattle.std.proofs.Common.{◌≡◌, ◌*◌, ◌^◌, ◌∙◌, ap, sym, min}
use Rattle.tcl_lang.specs.declared.term.Term.{Term}
use Rattle.tcl_lang.specs.Bound.{norm_of, norm_end}
use Rattle.tcl_measure.proofs.Layers.{norm_power}
use Rattle.tcl_measure.proofs.Saturation.{power_saturates}
use Rattle.tcl_measure.proofs.term.+norm.Goals as goal

pub returns-in-Pow : goal.returns-in-Pow
returns-in-Pow t c =
    let base : c.norm-in-Pow.result ≡ min (norm_of c.in-Pow.base) norm_end = c.norm-in-Pow.ensures ∙ ap (λ (z : Term). min (norm_of z) norm_end) c.get-in-Pow.ensures in
    let last : min ((norm_of c.in-Pow.base) ^ c.in-Pow.power) norm_end ≡ min (norm_of c.args.term.now) norm_end = ap (λ x. min x norm_end) (sym (norm_power c.args.term.now c.in-Pow.base c.in-Pow.power c.in-Pow.is)) in
    c.saturating_power.ensures
    ∙ ap (λ x. min (x ^ c.in-Pow.power) norm_end) base
    ∙ power_saturates (norm_of c.in-Pow.base) c.in-Pow.power norm_end
    ∙ last
