-- Each turn adds the factor before.
use Rattle.std.proofs.Common.{◌≡◌, ◌+◌, ◌-◌, drop, ◌∙◌, ap, arith}
use Rattle.tcl_poly.specs.Unknown.{factor_of}
use Rattle.tcl_reduce.specs.Multiple.{keys_of}
use Rattle.tcl_member.specs.Course.{keys_in}
use Rattle.tcl_member.proofs.KeyLists.{factors_first, factors_next}
use Rattle.tcl_member.proofs.unknowns.add_factors.Goals as goal

pub loop-k-init : goal.loop-k-init
loop-k-init c = (omega (arith, c.len-k.ensures), factors_first c.args.monomial.now c.len-k.result (keys_in c.args.unknowns.now.items) (omega (arith, c.len-k.ensures)))

pub loop-k-preserved : goal.loop-k-preserved
loop-k-preserved c =
    let j = c.loop-k.k - 1 in
    let place : c.loop-k.k ≡ j + 1 = omega (arith, c.loop-k-test.true) in
    let us = keys_in c.args.unknowns.now.items in (
      omega (arith, c.loop-k.invariant.0),
      factors_next c.args.monomial.now us j (factor_of c.at.result) (keys_in c.loop-k.unknowns.items) (keys_in c.add_unknown.new.unknowns.items) c.at.ensures (c.loop-k.invariant.1 ∙ ap (λ n. keys_of (drop n c.args.monomial.now) us) place) c.in_ok-add_unknown.ensures,
    )
