-- The parts of a term fit where it does, and make its polynomial.
use Rattle.std.proofs.Common.{rules, ◌≡◌, ◌≤◌, ◌<◌, false, sym, ◌∙◌, ap, arith}
use Rattle.tcl_ring.specs.Reduction as r
use Rattle.tcl_poly.specs.Polynomial as p
use Rattle.tcl_lang.specs.declared.term.Term.TheViews as term
use Rattle.tcl_lang.specs.Bound as bound
use Rattle.tcl_term_poly.specs.TermPolynomial as words
use Rattle.tcl_term_poly.proofs.TermArms.{norm_neg, norm_add, norm_sub, norm_mul, norm_pow, degree_neg, degree_add, degree_sub, degree_mul, degree_pow, made_add, made_sub, made_mul, part_narrow, first_factor, second_factor, base_below, made_fits, sum_fits, product_fits, power_fits, no_factor, made_degree, product_degrees, power_degrees, made_nothing}
use Rattle.tcl_term_poly.proofs.Nodes.{nodes, nodes_neg, nodes_add, nodes_sub, nodes_mul, nodes_pow}
use Rattle.tcl_term_poly.proofs.term.+polynomial.Goals as goal

-- negations

pub polynomial-requires : goal.polynomial-requires
polynomial-requires g t c κs within =
    let m = g.R.Ring.modulus_of c.args.ring.now in
    let whole = c.args.term.now in
    let a = c.get.result.now in
    let is : whole ≡ term.Neg a = c.in-Neg.is ∙ ap term.Neg (sym c.get.ensures) in
    let fewer : nodes a < nodes whole = nodes_neg whole a is in
    let shallow : bound.degree_of a ≤ 1024 = omega (arith, degree_neg whole a is, c.requires.degree) in
    let narrow : r.is_wide m (bound.norm_of a) ≡ false = part_narrow m whole a c.requires.fits (omega (arith, norm_neg whole a is)) in
    search rules

pub negated-requires-clause-fits : goal.negated-requires-clause-fits
negated-requires-clause-fits g t c =
    let m = g.R.Ring.modulus_of c.args.ring.now in
    let value = g.R.Ring.amount c.args.ring.now in
    let whole = c.args.term.now in
    let a = c.get.result.now in
    let is : whole ≡ term.Neg a = c.in-Neg.is ∙ ap term.Neg (sym c.get.ensures) in
    made_fits m (bound.norm_of whole) a (p.terms_of value c.in_ok-part-in-Neg.part) c.in_ok-part-in-Neg.ensures.polynomial (omega (arith, norm_neg whole a is)) c.requires.fits

-- sums

pub polynomial-requires-in-Add : goal.polynomial-requires-in-Add
polynomial-requires-in-Add g t c κs within =
    let m = g.R.Ring.modulus_of c.args.ring.now in
    let whole = c.args.term.now in
    let a = c.get-in-Add.result.now in
    let b = c.in-Add.right in
    let is : whole ≡ term.Add a b = c.in-Add.is ∙ ap (λ x. term.Add x b) (sym c.get-in-Add.ensures) in
    let fewer : nodes a < nodes whole = (nodes_add whole a b is).0 in
    let shallow : bound.degree_of a ≤ 1024 = omega (arith, degree_add whole a b is, c.requires.degree) in
    let narrow : r.is_wide m (bound.norm_of a) ≡ false = part_narrow m whole a c.requires.fits (omega (arith, norm_add whole a b is)) in
    search rules

pub polynomial-requires-in-Add-2 : goal.polynomial-requires-in-Add-2
polynomial-requires-in-Add-2 g t c κs within =
    let m = g.R.Ring.modulus_of c.args.ring.now in
    let value = g.R.Ring.amount c.args.ring.now in
    let whole = c.args.term.now in
    let a = c.get-in-Add.result.now in
    let b = c.get-in-Add-2.result.now in
    let is : whole ≡ term.Add a b = c.in-Add.is ∙ (λ i. term.Add (sym c.get-in-Add.ensures i) (sym c.get-in-Add-2.ensures i)) in
    let fewer : nodes b < nodes whole = (nodes_add whole a b is).1 in
    let shallow : bound.degree_of b ≤ 1024 = omega (arith, degree_add whole a b is, c.requires.degree) in
    let narrow : r.is_wide m (bound.norm_of b) ≡ false = part_narrow m whole b c.requires.fits (omega (arith, norm_add whole a b is)) in
    search rules

pub sum-requires-clause-fits : goal.sum-requires-clause-fits
sum-requires-clause-fits g t c =
    let m = g.R.Ring.modulus_of c.args.ring.now in
    let value = g.R.Ring.amount c.args.ring.now in
    let whole = c.args.term.now in
    let a = c.get-in-Add.result.now in
    let b = c.get-in-Add-2.result.now in
    let is : whole ≡ term.Add a b = c.in-Add.is ∙ (λ i. term.Add (sym c.get-in-Add.ensures i) (sym c.get-in-Add-2.ensures i)) in
    sum_fits m (bound.norm_of whole) a b (p.terms_of value c.in_ok-first-in-Add.first) (p.terms_of value c.in_ok-second-in-Add.second) c.in_ok-first-in-Add.ensures.polynomial c.in_ok-second-in-Add.ensures.polynomial (omega (arith, norm_add whole a b is)) c.requires.fits

pub returns-in_ok-total-in-Add-clause-polynomial : goal.returns-in_ok-total-in-Add-clause-polynomial
returns-in_ok-total-in-Add-clause-polynomial g t c =
    let m = g.R.Ring.modulus_of c.args.ring.now in
    let value = g.R.Ring.amount c.args.ring.now in
    let whole = c.args.term.now in
    let a = c.get-in-Add.result.now in
    let b = c.get-in-Add-2.result.now in
    let is : whole ≡ term.Add a b = c.in-Add.is ∙ (λ i. term.Add (sym c.get-in-Add.ensures i) (sym c.get-in-Add-2.ensures i)) in
    let first : p.terms_of value c.in_ok-first-in-Add.first ≡ words.polynomial_of (r.reduced_by m) a = c.in_ok-first-in-Add.ensures.polynomial in
    let second : p.terms_of value c.in_ok-second-in-Add.second ≡ words.polynomial_of (r.reduced_by m) b = c.in_ok-second-in-Add.ensures.polynomial in
    c.in_ok-total-in-Add.ensures.sum ∙ (λ i. p.sum_of (r.reduced_by m) (first i) (second i)) ∙ sym (made_add (r.reduced_by m) whole a b is)

-- differences

pub polynomial-requires-in-Sub : goal.polynomial-requires-in-Sub
polynomial-requires-in-Sub g t c κs within =
    let m = g.R.Ring.modulus_of c.args.ring.now in
    let whole = c.args.term.now in
    let a = c.get-in-Sub.result.now in
    let b = c.in-Sub.right in
    let is : whole ≡ term.Sub a b = c.in-Sub.is ∙ ap (λ x. term.Sub x b) (sym c.get-in-Sub.ensures) in
    let fewer : nodes a < nodes whole = (nodes_sub whole a b is).0 in
    let shallow : bound.degree_of a ≤ 1024 = omega (arith, degree_sub whole a b is, c.requires.degree) in
    let narrow : r.is_wide m (bound.norm_of a) ≡ false = part_narrow m whole a c.requires.fits (omega (arith, norm_sub whole a b is)) in
    search rules

pub polynomial-requires-in-Sub-2 : goal.polynomial-requires-in-Sub-2
polynomial-requires-in-Sub-2 g t c κs within =
    let m = g.R.Ring.modulus_of c.args.ring.now in
    let value = g.R.Ring.amount c.args.ring.now in
    let whole = c.args.term.now in
    let a = c.get-in-Sub.result.now in
    let b = c.get-in-Sub-2.result.now in
    let is : whole ≡ term.Sub a b = c.in-Sub.is ∙ (λ i. term.Sub (sym c.get-in-Sub.ensures i) (sym c.get-in-Sub-2.ensures i)) in
    let fewer : nodes b < nodes whole = (nodes_sub whole a b is).1 in
    let shallow : bound.degree_of b ≤ 1024 = omega (arith, degree_sub whole a b is, c.requires.degree) in
    let narrow : r.is_wide m (bound.norm_of b) ≡ false = part_narrow m whole b c.requires.fits (omega (arith, norm_sub whole a b is)) in
    search rules

pub difference-requires-clause-fits : goal.difference-requires-clause-fits
difference-requires-clause-fits g t c =
    let m = g.R.Ring.modulus_of c.args.ring.now in
    let value = g.R.Ring.amount c.args.ring.now in
    let whole = c.args.term.now in
    let a = c.get-in-Sub.result.now in
    let b = c.get-in-Sub-2.result.now in
    let is : whole ≡ term.Sub a b = c.in-Sub.is ∙ (λ i. term.Sub (sym c.get-in-Sub.ensures i) (sym c.get-in-Sub-2.ensures i)) in
    sum_fits m (bound.norm_of whole) a b (p.terms_of value c.in_ok-first-in-Sub.first) (p.terms_of value c.in_ok-second-in-Sub.second) c.in_ok-first-in-Sub.ensures.polynomial c.in_ok-second-in-Sub.ensures.polynomial (omega (arith, norm_sub whole a b is)) c.requires.fits

pub returns-in_ok-rest-in-Sub-clause-polynomial : goal.returns-in_ok-rest-in-Sub-clause-polynomial
returns-in_ok-rest-in-Sub-clause-polynomial g t c =
    let m = g.R.Ring.modulus_of c.args.ring.now in
    let value = g.R.Ring.amount c.args.ring.now in
    let whole = c.args.term.now in
    let a = c.get-in-Sub.result.now in
    let b = c.get-in-Sub-2.result.now in
    let is : whole ≡ term.Sub a b = c.in-Sub.is ∙ (λ i. term.Sub (sym c.get-in-Sub.ensures i) (sym c.get-in-Sub-2.ensures i)) in
    let first : p.terms_of value c.in_ok-first-in-Sub.first ≡ words.polynomial_of (r.reduced_by m) a = c.in_ok-first-in-Sub.ensures.polynomial in
    let second : p.terms_of value c.in_ok-second-in-Sub.second ≡ words.polynomial_of (r.reduced_by m) b = c.in_ok-second-in-Sub.ensures.polynomial in
    c.in_ok-rest-in-Sub.ensures.difference ∙ (λ i. words.difference_of (r.reduced_by m) (first i) (second i)) ∙ sym (made_sub (r.reduced_by m) whole a b is)

-- products

pub returns-then-norm-eq0-clause-polynomial : goal.returns-then-norm-eq0-clause-polynomial
returns-then-norm-eq0-clause-polynomial g t c =
    let m = g.R.Ring.modulus_of c.args.ring.now in
    let whole = c.args.term.now in
    let value = g.R.Ring.amount c.args.ring.now in
    ap (p.terms_of value) c.zero.ensures ∙ made_nothing m (g.met.R.Ring.is_modulus c.args.ring.now) whole (omega (arith, c.norm.ensures, c.if-norm-eq0.true))

pub polynomial-requires-in-Mul : goal.polynomial-requires-in-Mul
polynomial-requires-in-Mul g t c κs within =
    let m = g.R.Ring.modulus_of c.args.ring.now in
    let value = g.R.Ring.amount c.args.ring.now in
    let whole = c.args.term.now in
    let a = c.get-in-Mul.result.now in
    let b = c.in-Mul.right in
    let is : whole ≡ term.Mul a b = c.in-Mul.is ∙ (λ i. term.Mul (sym c.get-in-Mul.ensures i) b) in
    let above : 0 < bound.norm_of whole = omega (arith, c.norm.ensures, c.if-norm-eq0.false) in
    let fewer : nodes a < nodes whole = (nodes_mul whole a b is).0 in
    let shallow : bound.degree_of a ≤ 1024 = omega (arith, degree_mul whole a b is, c.requires.degree) in
    let narrow : r.is_wide m (bound.norm_of a) ≡ false = part_narrow m whole a c.requires.fits (omega (arith, norm_mul whole a b is, first_factor (bound.norm_of a) (bound.norm_of b) (no_factor whole a b is above).1)) in
    search rules

pub polynomial-requires-in-Mul-2 : goal.polynomial-requires-in-Mul-2
polynomial-requires-in-Mul-2 g t c κs within =
    let m = g.R.Ring.modulus_of c.args.ring.now in
    let value = g.R.Ring.amount c.args.ring.now in
    let whole = c.args.term.now in
    let a = c.get-in-Mul.result.now in
    let b = c.get-in-Mul-2.result.now in
    let is : whole ≡ term.Mul a b = c.in-Mul.is ∙ (λ i. term.Mul (sym c.get-in-Mul.ensures i) (sym c.get-in-Mul-2.ensures i)) in
    let above : 0 < bound.norm_of whole = omega (arith, c.norm.ensures, c.if-norm-eq0.false) in
    let fewer : nodes b < nodes whole = (nodes_mul whole a b is).1 in
    let shallow : bound.degree_of b ≤ 1024 = omega (arith, degree_mul whole a b is, c.requires.degree) in
    let narrow : r.is_wide m (bound.norm_of b) ≡ false = part_narrow m whole b c.requires.fits (omega (arith, norm_mul whole a b is, second_factor (bound.norm_of a) (bound.norm_of b) (no_factor whole a b is above).0)) in
    search rules

pub product-requires-clause-fits : goal.product-requires-clause-fits
product-requires-clause-fits g t c =
    let m = g.R.Ring.modulus_of c.args.ring.now in
    let value = g.R.Ring.amount c.args.ring.now in
    let whole = c.args.term.now in
    let a = c.get-in-Mul.result.now in
    let b = c.get-in-Mul-2.result.now in
    let is : whole ≡ term.Mul a b = c.in-Mul.is ∙ (λ i. term.Mul (sym c.get-in-Mul.ensures i) (sym c.get-in-Mul-2.ensures i)) in
    product_fits m (bound.norm_of whole) a b (p.terms_of value c.in_ok-first-in-Mul.first) (p.terms_of value c.in_ok-second-in-Mul.second) c.in_ok-first-in-Mul.ensures.polynomial c.in_ok-second-in-Mul.ensures.polynomial (omega (arith, norm_mul whole a b is)) c.requires.fits

pub product-requires-clause-degrees : goal.product-requires-clause-degrees
product-requires-clause-degrees g t c =
    let m = g.R.Ring.modulus_of c.args.ring.now in
    let value = g.R.Ring.amount c.args.ring.now in
    let whole = c.args.term.now in
    let a = c.get-in-Mul.result.now in
    let b = c.get-in-Mul-2.result.now in
    let is : whole ≡ term.Mul a b = c.in-Mul.is ∙ (λ i. term.Mul (sym c.get-in-Mul.ensures i) (sym c.get-in-Mul-2.ensures i)) in
    let ok = g.met.R.Ring.is_modulus c.args.ring.now in
    product_degrees (p.degree_of c.in_ok-first-in-Mul.first) (p.degree_of c.in_ok-second-in-Mul.second) 1024 (bound.degree_of a) (bound.degree_of b)
    (made_degree m ok value a c.in_ok-first-in-Mul.first c.in_ok-first-in-Mul.ensures.polynomial)
    (made_degree m ok value b c.in_ok-second-in-Mul.second c.in_ok-second-in-Mul.ensures.polynomial)
    (omega (arith, degree_mul whole a b is, c.requires.degree))

pub returns-in_ok-made-in-Mul-clause-polynomial : goal.returns-in_ok-made-in-Mul-clause-polynomial
returns-in_ok-made-in-Mul-clause-polynomial g t c =
    let m = g.R.Ring.modulus_of c.args.ring.now in
    let value = g.R.Ring.amount c.args.ring.now in
    let whole = c.args.term.now in
    let a = c.get-in-Mul.result.now in
    let b = c.get-in-Mul-2.result.now in
    let is : whole ≡ term.Mul a b = c.in-Mul.is ∙ (λ i. term.Mul (sym c.get-in-Mul.ensures i) (sym c.get-in-Mul-2.ensures i)) in
    let first : p.terms_of value c.in_ok-first-in-Mul.first ≡ words.polynomial_of (r.reduced_by m) a = c.in_ok-first-in-Mul.ensures.polynomial in
    let second : p.terms_of value c.in_ok-second-in-Mul.second ≡ words.polynomial_of (r.reduced_by m) b = c.in_ok-second-in-Mul.ensures.polynomial in
    c.in_ok-made-in-Mul.ensures.product ∙ (λ i. p.product_of (r.reduced_by m) (first i) (second i)) ∙ sym (made_mul (r.reduced_by m) whole a b is)

-- powers

pub polynomial-requires-in-Pow : goal.polynomial-requires-in-Pow
polynomial-requires-in-Pow g t c κs within =
    let m = g.R.Ring.modulus_of c.args.ring.now in
    let value = g.R.Ring.amount c.args.ring.now in
    let whole = c.args.term.now in
    let a = c.get-in-Pow.result.now in
    let k = c.in-Pow.exponent in
    let is : whole ≡ term.Pow a k = c.in-Pow.is ∙ ap (λ x. term.Pow x k) (sym c.get-in-Pow.ensures) in
    let above : 0 < k = omega (arith, c.if-exponent-eq0.false) in
    let fewer : nodes a < nodes whole = nodes_pow whole a k is in
    let shallow : bound.degree_of a ≤ 1024 = omega (arith, degree_pow whole a k is, first_factor (bound.degree_of a) k above, c.requires.degree) in
    let narrow : r.is_wide m (bound.norm_of a) ≡ false = part_narrow m whole a c.requires.fits (omega (arith, norm_pow whole a k is, base_below (bound.norm_of a) k above)) in
    search rules

pub raised-requires-clause-degree : goal.raised-requires-clause-degree
raised-requires-clause-degree g t c =
    let m = g.R.Ring.modulus_of c.args.ring.now in
    let value = g.R.Ring.amount c.args.ring.now in
    let whole = c.args.term.now in
    let a = c.get-in-Pow.result.now in
    let k = c.in-Pow.exponent in
    let is : whole ≡ term.Pow a k = c.in-Pow.is ∙ ap (λ x. term.Pow x k) (sym c.get-in-Pow.ensures) in
    power_degrees (p.degree_of c.in_ok-part-in-Pow.part) k 1024 (bound.degree_of a)
    (made_degree m (g.met.R.Ring.is_modulus c.args.ring.now) value a c.in_ok-part-in-Pow.part c.in_ok-part-in-Pow.ensures.polynomial)
    (omega (arith, degree_pow whole a k is, c.requires.degree))

pub raised-requires-clause-fits : goal.raised-requires-clause-fits
raised-requires-clause-fits g t c =
    let m = g.R.Ring.modulus_of c.args.ring.now in
    let value = g.R.Ring.amount c.args.ring.now in
    let whole = c.args.term.now in
    let a = c.get-in-Pow.result.now in
    let k = c.in-Pow.exponent in
    let is : whole ≡ term.Pow a k = c.in-Pow.is ∙ ap (λ x. term.Pow x k) (sym c.get-in-Pow.ensures) in
    power_fits m (bound.norm_of whole) k a (p.terms_of value c.in_ok-part-in-Pow.part) c.in_ok-part-in-Pow.ensures.polynomial (omega (arith, norm_pow whole a k is)) c.requires.fits
