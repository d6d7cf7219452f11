-- An empty part adds nothing.
use Rattle.std.proofs.Common.{rules, ◌≡◌, [], sym, ◌∙◌, ap}
use Rattle.tcl_ring.specs.Reduction as r
use Rattle.tcl_ring.proofs.Reductions.{is_reduction}
use Rattle.tcl_poly.specs.Polynomial as p
use Rattle.tcl_poly.proofs.RingLaws.{sum_nothing}
use Rattle.tcl_reduce.proofs.substitution.add_row.Goals as goal

pub returns-then-is_zero-clause-sum : goal.returns-then-is_zero-clause-sum
returns-then-is_zero-clause-sum g c =
    let m = g.R.Ring.modulus_of c.args.ring.now in let value = g.R.Ring.amount c.args.ring.now in
    let ring = is_reduction m (g.met.R.Ring.is_modulus c.args.ring.now) in
    let total = p.terms_of value c.args.total in let factor = p.terms_of value c.args.factor.now in
    let none : c.args.part.now ≡ [] = search rules in
    sym (ap (λ z. p.sum_of (r.reduced_by m) total (p.product_of (r.reduced_by m) (p.terms_of value z) factor)) none ∙ sum_nothing (r.reduced_by m) ring total c.requires.total)
