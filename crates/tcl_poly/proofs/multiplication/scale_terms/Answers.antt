-- No coefficient is too great, and no degree.
use Rattle.std.proofs.Common.{arith}
use Rattle.tcl_ring.specs.Reduction as r
use Rattle.tcl_poly.specs.Polynomial as p
use Rattle.tcl_poly.proofs.Norms.{product_narrow}
use Rattle.tcl_poly.proofs.TermLists.{coefficient_norm, term_degree}
use Rattle.tcl_poly.proofs.multiplication.scale_terms.Goals as goal

pub product_of_elements-coefficient-requires : goal.product_of_elements-coefficient-requires
product_of_elements-coefficient-requires g c =
    let value = g.R.Ring.amount c.args.ring.now in
    product_narrow (g.R.Ring.modulus_of c.args.ring.now) (value c.args.c.now) (value c.term-item.result.1) (p.norm_of (p.terms_of value c.args.a.now)) c.requires.fits
    (coefficient_norm value c.args.a.now c.loop-term.term-index c.term-item.result c.term-item.is (omega (arith, c.loop-term-test.true)))

pub times-requires : goal.times-requires
times-requires g c =
    let value = g.R.Ring.amount c.args.ring.now in
    omega (arith, c.requires.degrees, term_degree (r.reduced_by (g.R.Ring.modulus_of c.args.ring.now)) value c.args.a.now c.loop-term.term-index c.term-item.result c.term-item.is (omega (arith, c.loop-term-test.true)) c.requires.over)
