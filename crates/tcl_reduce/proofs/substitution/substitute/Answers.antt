-- The first sum, and one row more.
use Rattle.std.proofs.Common.{◌≡◌, ℕ, suc, ◌+◌, ◌<◌, [], length, sym, ◌∙◌, ap, subst, arith, add-one}
use Rattle.tcl_ring.specs.Reduction as r
use Rattle.tcl_ring.proofs.Reductions.{is_reduction}
use Rattle.tcl_poly.specs.Unknown.{key_of}
use Rattle.tcl_poly.specs.Polynomial as p
use Rattle.tcl_poly.proofs.RingLaws.{product_one, product_none}
use Rattle.tcl_poly.proofs.Combinations.{read_equation}
use Rattle.tcl_reduce.specs.Parts.{by_power, joined_by}
use Rattle.tcl_reduce.specs.Fits.{ArePowers, values_by}
use Rattle.tcl_reduce.specs.Substitution as s
use Rattle.tcl_reduce.proofs.SubstitutionTurns.{rest_row, cofactor_row, degrees_at, product_at}
use Rattle.tcl_reduce.proofs.substitution.substitute.Goals as goal

pub loop-k-init : goal.loop-k-init
loop-k-init g c =
    let m = g.R.Ring.modulus_of c.args.ring.now in let value = g.R.Ring.amount c.args.ring.now in let reduced = r.reduced_by m in
    let ring = is_reduction m (g.met.R.Ring.is_modulus c.args.ring.now) in
    let first = p.terms_of value c.args.first in
    let nothing : p.terms_of value c.zero-cofactor.result ≡ [] = ap (p.terms_of value) c.zero-cofactor.ensures in
    let kept = ap (p.terms_of value) c.first.view_is in
    let P : p.Polynomial → Type 0 = λ z. p.IsPolynomial reduced z in (
      c.in_ok-powers.ensures (p.terms_of value c.args.d.now),
      kept ∙ sym (product_one reduced ring first c.requires.first),
      nothing ∙ sym (product_none reduced first),
      subst P (sym kept) c.requires.first,
      subst P (sym nothing) tt,
    )

pub loop-k-preserved : goal.loop-k-preserved
loop-k-preserved g c =
    let m = g.R.Ring.modulus_of c.args.ring.now in let value = g.R.Ring.amount c.args.ring.now in let reduced = r.reduced_by m in
    let d = p.terms_of value c.args.d.now in let u = key_of c.args.unknown in let k = c.loop-k.k in
    let list = c.args.parts.now in let fs = values_by value (joined_by c.args.first list) in
    let of = p.terms_of value in
    let part = c.index-parts-k.result in
    let below : k + 1 < length list = omega (arith, c.requires.parts, c.loop-k-test.true) in
    let read : of part ≡ fs (suc k) = ap of (read_equation list (k + 1) part c.index-parts-k.is below ∙ ap (by_power list) (add-one k)) in
    let powers = c.in_ok-powers-2.powers in
    let next = c.in_ok-powers-2.ensures in
    let inv = c.loop-k.invariant in
    let N : ℕ → Type 0 = λ n. ArePowers m u d n (of powers.power) (of powers.quotient) in (
      subst N (sym (add-one k)) next,
      rest_row reduced d fs (of part) (of powers.power) (of c.loop-k.rest) (of c.in_ok-rest.rest) (suc k) read next.power inv.1 c.in_ok-rest.ensures.sum
          ∙ ap (λ n. s.substituted reduced d fs (suc n)) (sym (add-one k)),
      cofactor_row reduced u d fs (of part) (of powers.quotient) (of c.loop-k.cofactor) (of c.in_ok-cofactor.cofactor) (suc k) read next.quotient inv.2 c.in_ok-cofactor.ensures.sum
          ∙ ap (λ n. s.cofactor_by reduced u d fs (suc n)) (sym (add-one k)),
      c.in_ok-rest.ensures.over,
      c.in_ok-cofactor.ensures.over,
    )

pub add_row-requires-clause-product_fits : goal.add_row-requires-clause-product_fits
add_row-requires-clause-product_fits g c =
    let m = g.R.Ring.modulus_of c.args.ring.now in let value = g.R.Ring.amount c.args.ring.now in let reduced = r.reduced_by m in
    let d = p.terms_of value c.args.d.now in let u = key_of c.args.unknown in let k = c.loop-k.k in
    let list = c.args.parts.now in let fs = values_by value (joined_by c.args.first list) in
    let of = p.terms_of value in
    let part = c.index-parts-k.result in
    let below : k + 1 < length list = omega (arith, c.requires.parts, c.loop-k-test.true) in
    let read : of part ≡ fs (suc k) = ap of (read_equation list (k + 1) part c.index-parts-k.is below ∙ ap (by_power list) (add-one k)) in
    let next = c.in_ok-powers-2.ensures in
    let fits = c.requires.rows k c.loop-k-test.true in
    product_at m (of part) (of c.in_ok-powers-2.powers.power) (fs (suc k)) (p.raised_by reduced d (suc k)) read next.power fits.product

pub add_row-requires-in-loop-k-clause-degrees : goal.add_row-requires-in-loop-k-clause-degrees
add_row-requires-in-loop-k-clause-degrees g c =
    let m = g.R.Ring.modulus_of c.args.ring.now in let value = g.R.Ring.amount c.args.ring.now in let reduced = r.reduced_by m in
    let d = p.terms_of value c.args.d.now in let u = key_of c.args.unknown in let k = c.loop-k.k in
    let list = c.args.parts.now in let fs = values_by value (joined_by c.args.first list) in
    let of = p.terms_of value in
    let part = c.index-parts-k.result in
    let below : k + 1 < length list = omega (arith, c.requires.parts, c.loop-k-test.true) in
    let read : of part ≡ fs (suc k) = ap of (read_equation list (k + 1) part c.index-parts-k.is below ∙ ap (by_power list) (add-one k)) in
    let next = c.in_ok-powers-2.ensures in
    let fits = c.requires.rows k c.loop-k-test.true in
    degrees_at value part c.in_ok-powers-2.powers.quotient (fs (suc k)) (s.quotient_by reduced u d (suc k)) read next.quotient fits.cofactor_degrees

pub add_row-requires-in-loop-k-clause-product_fits : goal.add_row-requires-in-loop-k-clause-product_fits
add_row-requires-in-loop-k-clause-product_fits g c =
    let m = g.R.Ring.modulus_of c.args.ring.now in let value = g.R.Ring.amount c.args.ring.now in let reduced = r.reduced_by m in
    let d = p.terms_of value c.args.d.now in let u = key_of c.args.unknown in let k = c.loop-k.k in
    let list = c.args.parts.now in let fs = values_by value (joined_by c.args.first list) in
    let of = p.terms_of value in
    let part = c.index-parts-k.result in
    let below : k + 1 < length list = omega (arith, c.requires.parts, c.loop-k-test.true) in
    let read : of part ≡ fs (suc k) = ap of (read_equation list (k + 1) part c.index-parts-k.is below ∙ ap (by_power list) (add-one k)) in
    let next = c.in_ok-powers-2.ensures in
    let fits = c.requires.rows k c.loop-k-test.true in
    product_at m (of part) (of c.in_ok-powers-2.powers.quotient) (fs (suc k)) (s.quotient_by reduced u d (suc k)) read next.quotient fits.cofactor_product
