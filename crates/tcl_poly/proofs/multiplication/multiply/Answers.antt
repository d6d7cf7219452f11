-- The factors are turned where the second is shorter.
use Rattle.std.proofs.Common.{◌∙◌}
use Rattle.tcl_ring.specs.Reduction as r
use Rattle.tcl_ring.proofs.Reductions.{is_reduction}
use Rattle.tcl_poly.specs.Polynomial as p
use Rattle.tcl_poly.proofs.RingLaws.{product_comm}
use Rattle.tcl_poly.proofs.multiplication.multiply.Goals as goal

pub returns-in_ok-turned : goal.returns-in_ok-turned
returns-in_ok-turned g c =
    let m = g.R.Ring.modulus_of c.args.ring.now in let value = g.R.Ring.amount c.args.ring.now in
    c.in_ok-turned.ensures
    ∙ product_comm (r.reduced_by m) (is_reduction m (g.met.R.Ring.is_modulus c.args.ring.now)) (p.terms_of value c.args.b.now) (p.terms_of value c.args.a.now) c.requires.second c.requires.first
