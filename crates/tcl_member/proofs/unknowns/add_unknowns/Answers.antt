-- Each turn adds the term before.
use Rattle.std.proofs.Common.{◌≡◌, ◌+◌, ◌-◌, ◌<◌, length, drop, ◌∙◌, ap, arith}
use Rattle.tcl_poly.specs.Polynomial.{terms_of}
use Rattle.tcl_reduce.specs.Multiple.{unknowns_of}
use Rattle.tcl_member.specs.Course.{keys_in}
use Rattle.tcl_member.proofs.KeyLists.{terms_first, terms_next}
use Rattle.tcl_member.proofs.unknowns.add_unknowns.Goals as goal

pub loop-k-init : goal.loop-k-init
loop-k-init g c = (omega arith, λ value. terms_first value c.terms-list.result.now (length c.terms-list.result.now) (keys_in c.args.unknowns.now.items) (omega arith))

pub loop-k-preserved : goal.loop-k-preserved
loop-k-preserved g c =
    let j = c.loop-k.k - 1 in
    let list = c.terms-list.result.now in
    let place : c.loop-k.k ≡ j + 1 = omega (arith, c.loop-k-test.true) in
    let below : j < length list = omega (arith, c.loop-k-test.true, c.loop-k.invariant.0) in
    let us = keys_in c.args.unknowns.now.items in (
      omega (arith, c.loop-k.invariant.0),
      λ value. terms_next value list us j c.index-list-k.result (keys_in c.loop-k.unknowns.items) (keys_in c.add_factors.new.unknowns.items) c.index-list-k.is below (c.loop-k.invariant.1 value ∙ ap (λ n. unknowns_of (terms_of value (drop n list)) us) place) c.in_ok-add_factors.ensures,
    )
