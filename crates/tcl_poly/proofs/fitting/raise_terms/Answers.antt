-- One power more.
use Rattle.std.proofs.Common.{◌≡◌, suc, ◌+◌, ◌*◌, ◌^◌, ◌≤◌, sym, ◌∙◌, ap, arith}
use Rattle.tcl_ring.specs.Reduction as r
use Rattle.tcl_ring.proofs.Reductions.{is_reduction}
use Rattle.tcl_poly.specs.Polynomial as p
use Rattle.tcl_poly.proofs.Values.{raised_over}
use Rattle.tcl_poly.proofs.Powers.{next_fits, next_degree}
use Rattle.tcl_poly.proofs.TermLists.{degree_of_values}
use Rattle.tcl_poly.proofs.fitting.raise_terms.Goals as goal

pub multiply-requires-clause-first : goal.multiply-requires-clause-first
multiply-requires-clause-first g c =
    let m = g.R.Ring.modulus_of c.args.ring.now in let value = g.R.Ring.amount c.args.ring.now in
    let a = p.terms_of value c.args.a.now in let power = c.as_slice.result.now in
    let read = ap (p.terms_of value) c.as_slice.ensures.value ∙ c.loop-step.invariant in
    raised_over (r.reduced_by m) (is_reduction m (g.met.R.Ring.is_modulus c.args.ring.now)) a c.loop-step.step (p.terms_of value power) read c.requires.over

pub multiply-requires-clause-degrees : goal.multiply-requires-clause-degrees
multiply-requires-clause-degrees g c =
    let m = g.R.Ring.modulus_of c.args.ring.now in let value = g.R.Ring.amount c.args.ring.now in
    let a = p.terms_of value c.args.a.now in let power = c.as_slice.result.now in
    let read = ap (p.terms_of value) c.as_slice.ensures.value ∙ c.loop-step.invariant in
    let deep = next_degree (r.reduced_by m) a (p.terms_of value power) c.loop-step.step c.args.exponent read (omega (arith, c.loop-step-test.true)) c.requires.over in
    omega (arith, deep, c.requires.degree, degree_of_values value power, degree_of_values value c.args.a.now, ap (λ n. c.args.exponent * n) (degree_of_values value c.args.a.now))

pub multiply-requires-clause-fits : goal.multiply-requires-clause-fits
multiply-requires-clause-fits g c =
    let m = g.R.Ring.modulus_of c.args.ring.now in let value = g.R.Ring.amount c.args.ring.now in
    let a = p.terms_of value c.args.a.now in let power = c.as_slice.result.now in
    let read = ap (p.terms_of value) c.as_slice.ensures.value ∙ c.loop-step.invariant in
    next_fits m a (p.terms_of value power) c.loop-step.step c.args.exponent read (omega (arith, c.loop-step-test.true)) c.requires.fits
