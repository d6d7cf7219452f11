-- A factor of another unknown is kept.
use Rattle.std.proofs.Common.{rules, arith}
use Rattle.tcl_poly.specs.Unknown.{factor_of}
use Rattle.tcl_reduce.proofs.MonomialLists.{pushed_monomial, pushed_degree, without_pushed, without_passed}
use Rattle.tcl_reduce.proofs.parts.without.Goals as goal
use Rattle.tcl_reduce.proofs.parts.without.Goals.{then-key+in_ok-push, else-key}

pub push-requires-clause-later : goal.push-requires-clause-later
push-requires-clause-later c =
    pushed_monomial c.args.mono.now c.loop-k.rest c.loop-k.k c.args.key (factor_of c.at-factor.result) c.degree-degree.ensures.monomial c.at-factor.ensures (search rules) c.loop-k.invariant

pub push-requires-clause-narrow : goal.push-requires-clause-narrow
push-requires-clause-narrow c =
    omega (arith, c.degree-degree.ensures.degree, pushed_degree c.args.mono.now c.loop-k.rest c.loop-k.k c.args.key (factor_of c.at-factor.result) c.at-factor.ensures (search rules) c.loop-k.invariant)

pub loop-k-preserved : goal.loop-k-preserved
loop-k-preserved c =
    let f = factor_of c.at-factor.result in let m = c.args.mono.now in let v = c.args.key in
    elim c.if-key.branch [
      | then-key+in_ok-push w ↦ without_pushed m c.loop-k.rest c.if-key.rest c.loop-k.k v f c.at-factor.ensures (search rules) c.loop-k.invariant (search rules)
      | else-key w ↦ without_passed m c.loop-k.rest c.if-key.rest c.loop-k.k v f c.at-factor.ensures (search rules) c.loop-k.invariant (search rules)
    ]
