-- Operands are words, so their difference fits.
use Rattle.std.proofs.Common.{◌+◌, ap, ◌∙◌, arith}
use Rattle.std.proofs.lemmas.Bool.{and_parts}
use Rattle.tcl_ring.specs.Reduction as r
use Rattle.tcl_poly.specs.Polynomial as p
use Rattle.tcl_lang.specs.Bound as bound
use Rattle.tcl_term_poly.proofs.TermArms.{sum_fits}
use Rattle.tcl_algebra.specs.Row.{term_of}
use Rattle.tcl_algebra.specs.Sound.{is_small}
use Rattle.tcl_algebra.proofs.HypothesisNorms.{operand_fits, operands_fit}
use Rattle.tcl_algebra.proofs.hypotheses.equality.Goals as goal

pub polynomial-requires-2-clause-fits : goal.polynomial-requires-2-clause-fits
polynomial-requires-2-clause-fits g c =
    let m = g.R.Ring.modulus_of c.args.ring.now in
    let both = and_parts (is_small c.args.left) (is_small c.args.right) c.requires in
    ap (λ t. r.is_wide m (bound.norm_of t)) c.term_of-2.ensures ∙ operand_fits m c.args.right both.1

pub difference-requires-clause-fits : goal.difference-requires-clause-fits
difference-requires-clause-fits g c =
    let m = g.R.Ring.modulus_of c.args.ring.now in
    let value = g.R.Ring.amount c.args.ring.now in
    let both = and_parts (is_small c.args.left) (is_small c.args.right) c.requires in
    let a = c.term_of.result in
    let b = c.term_of-2.result in
    sum_fits m (bound.norm_of (term_of c.args.left) + bound.norm_of (term_of c.args.right)) a b (p.terms_of value c.in_ok-left.left) (p.terms_of value c.in_ok-right.right)
    c.in_ok-left.ensures.polynomial c.in_ok-right.ensures.polynomial (omega (arith, ap bound.norm_of c.term_of.ensures, ap bound.norm_of c.term_of-2.ensures)) (operands_fit m c.args.left c.args.right both.0 both.1)
