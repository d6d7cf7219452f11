-- The product by halves.
use Rattle.std.proofs.Common.{rules, ◌≡◌, ◌+◌, ◌*◌, ◌/◌, ◌≤◌, length, false, sym, ◌∙◌, ap, subst, arith}
use Rattle.tcl_ring.specs.Reduction as r
use Rattle.tcl_ring.proofs.Reductions.{is_reduction}
use Rattle.tcl_poly.specs.Polynomial as p
use Rattle.tcl_poly.proofs.Canonical.{product_is}
use Rattle.tcl_poly.proofs.Halves.{front_over, back_over, front_degree, back_degree, front_fits, back_fits, products_fit, product_of_halves, product_of_one}
use Rattle.tcl_poly.proofs.multiplication.+multiply_terms.Goals as goal

pub returns-then-a-eq1 : goal.returns-then-a-eq1
returns-then-a-eq1 g t c =
    let m = g.R.Ring.modulus_of c.args.ring.now in let value = g.R.Ring.amount c.args.ring.now in
    let ring = is_reduction m (g.met.R.Ring.is_modulus c.args.ring.now) in
    c.in_ok-row.ensures ∙ product_of_one (r.reduced_by m) ring value c.args.a.now c.index-a-0.result (p.terms_of value c.args.b.now) c.index-a-0.is (omega (arith, c.if-a-eq1.true)) c.requires.first c.requires.second

pub multiply_terms-requires : goal.multiply_terms-requires
multiply_terms-requires g t c κs within =
    let m = g.R.Ring.modulus_of c.args.ring.now in let value = g.R.Ring.amount c.args.ring.now in
    let a = c.args.a.now in let b = c.args.b.now in let x = c.split_at.result.0.now in
    let n = length a / 2 in
    let over : p.IsPolynomial (r.reduced_by m) (p.terms_of value x) = front_over (r.reduced_by m) value a x n c.split_at.ensures.front c.requires.first in
    let degrees : p.degree_of x + p.degree_of b ≤ 1024 = omega (arith, front_degree a x n c.split_at.ensures.front, c.requires.degrees) in
    let fits : r.is_wide m (p.norm_of (p.terms_of value x) * p.norm_of (p.terms_of value b)) ≡ false = front_fits m value a x n (p.norm_of (p.terms_of value b)) c.split_at.ensures.front c.requires.fits in
    search rules

pub multiply_terms-requires-2 : goal.multiply_terms-requires-2
multiply_terms-requires-2 g t c κs within =
    let m = g.R.Ring.modulus_of c.args.ring.now in let value = g.R.Ring.amount c.args.ring.now in
    let a = c.args.a.now in let b = c.args.b.now in let x = c.split_at.result.1.now in
    let n = length a / 2 in
    let over : p.IsPolynomial (r.reduced_by m) (p.terms_of value x) = back_over (r.reduced_by m) value a x n c.split_at.ensures.back c.requires.first in
    let degrees : p.degree_of x + p.degree_of b ≤ 1024 = omega (arith, back_degree (r.reduced_by m) value a x n c.split_at.ensures.back c.requires.first, c.requires.degrees) in
    let fits : r.is_wide m (p.norm_of (p.terms_of value x) * p.norm_of (p.terms_of value b)) ≡ false = back_fits m value a x n (p.norm_of (p.terms_of value b)) c.split_at.ensures.back c.requires.fits in
    search rules

pub merge_moving-requires-clause-first : goal.merge_moving-requires-clause-first
merge_moving-requires-clause-first g t c =
    let m = g.R.Ring.modulus_of c.args.ring.now in let value = g.R.Ring.amount c.args.ring.now in
    let ring = is_reduction m (g.met.R.Ring.is_modulus c.args.ring.now) in
    let a = c.args.a.now in let s = p.terms_of value c.args.b.now in let x = c.split_at.result.0.now in
    let over = front_over (r.reduced_by m) value a x (length a / 2) c.split_at.ensures.front c.requires.first in
    let P : p.Polynomial → Type 0 = λ z. p.IsPolynomial (r.reduced_by m) z in
    subst P (sym c.in_ok-high.ensures) (product_is (r.reduced_by m) ring (p.terms_of value x) s over c.requires.second)

pub merge_moving-requires-clause-second : goal.merge_moving-requires-clause-second
merge_moving-requires-clause-second g t c =
    let m = g.R.Ring.modulus_of c.args.ring.now in let value = g.R.Ring.amount c.args.ring.now in
    let ring = is_reduction m (g.met.R.Ring.is_modulus c.args.ring.now) in
    let a = c.args.a.now in let s = p.terms_of value c.args.b.now in let x = c.split_at.result.1.now in
    let over = back_over (r.reduced_by m) value a x (length a / 2) c.split_at.ensures.back c.requires.first in
    let P : p.Polynomial → Type 0 = λ z. p.IsPolynomial (r.reduced_by m) z in
    subst P (sym c.in_ok-low.ensures) (product_is (r.reduced_by m) ring (p.terms_of value x) s over c.requires.second)

pub merge_moving-requires-clause-fits : goal.merge_moving-requires-clause-fits
merge_moving-requires-clause-fits g t c =
    let m = g.R.Ring.modulus_of c.args.ring.now in let value = g.R.Ring.amount c.args.ring.now in
    let a = c.args.a.now in let s = p.terms_of value c.args.b.now in
    let x = c.split_at.result.0.now in let y = c.split_at.result.1.now in
    products_fit m value a x y (length a / 2) s (p.terms_of value c.in_ok-high.high.items) (p.terms_of value c.in_ok-low.low.items) c.split_at.ensures.front c.split_at.ensures.back
    c.in_ok-high.ensures c.in_ok-low.ensures c.requires.fits

pub returns : goal.returns
returns g t c =
    let m = g.R.Ring.modulus_of c.args.ring.now in let value = g.R.Ring.amount c.args.ring.now in
    let ring = is_reduction m (g.met.R.Ring.is_modulus c.args.ring.now) in
    let a = c.args.a.now in let s = p.terms_of value c.args.b.now in
    let x = c.split_at.result.0.now in let y = c.split_at.result.1.now in
    c.in_ok-product.ensures
    ∙ product_of_halves (r.reduced_by m) ring value a x y (length a / 2) s (p.terms_of value c.in_ok-high.high.items) (p.terms_of value c.in_ok-low.low.items) c.split_at.ensures.front c.split_at.ensures.back
    c.in_ok-high.ensures c.in_ok-low.ensures c.requires.first c.requires.second
