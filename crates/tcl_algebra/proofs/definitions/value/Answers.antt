-- The multiple of the line's unknown fits, since its factor was added to the norm.
use Rattle.std.proofs.Common.{◌≡◌, ◌∙◌, sym, true, to_z, of_z}
use Rattle.std.specs.Int.{w128}
use Rattle.tcl_poly.specs.Polynomial as p
use Rattle.tcl_algebra.specs.Row.{has_quotient}
use Rattle.tcl_algebra.proofs.DefinitionNorms.{quotient_fits, factor_cast}
use Rattle.tcl_algebra.proofs.definitions.value.Goals as goal

pub less_multiple-requires-clause-fits : goal.less_multiple-requires-clause-fits
less_multiple-requires-clause-fits g c =
    let m = g.R.Ring.modulus_of c.args.ring.now in
    let value = g.R.Ring.amount c.args.ring.now in
    let variables = c.args.variables.now in
    let i = c.args.instr.now in
    let n = c.power_of_two.result in
    let has : has_quotient variables i ≡ true = sym c.has_quotient.ensures ∙ c.if-has_quotient.true in
    let same : to_z w128 (of_z w128 n) ≡ n = factor_cast i.ty.width n c.requires.sound.word.1 c.power_of_two.ensures in
    quotient_fits m variables i c.args.term.now (p.terms_of value c.in_ok-made.made) (to_z w128 (of_z w128 n)) c.in_ok-made.ensures.polynomial (same ∙ c.power_of_two.ensures) has c.requires.fits
