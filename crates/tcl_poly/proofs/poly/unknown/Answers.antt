-- An unknown is its first power.
use Rattle.std.proofs.Common.{rules, ◌≡◌}
use Rattle.tcl_ring.specs.Reduction.{reduced_by}
use Rattle.tcl_ring.proofs.Reductions.{is_reduction}
use Rattle.tcl_poly.specs.Unknown.{key_of}
use Rattle.tcl_poly.specs.Polynomial as p
use Rattle.tcl_poly.proofs.Values.{unknown_values}
use Rattle.tcl_poly.proofs.poly.unknown.Goals as goal

pub returns-clause-values : goal.returns-clause-values
returns-clause-values g c =
    let modulus = g.R.Ring.modulus_of c.args.ring.now in let value = g.R.Ring.amount c.args.ring.now in
    unknown_values (reduced_by modulus) (is_reduction modulus (g.met.R.Ring.is_modulus c.args.ring.now)) (key_of c.args.u) (p.terms_of value c.in_ok-x.x) c.in_ok-x.ensures.power
