use Rattle.std.proofs.Common.{◌<◌, length, arith}
use Rattle.tcl_text.specs.Trees.{next_height}
use Rattle.tcl_parse.proofs.TreeChains as chains
use Rattle.tcl_parse.proofs.TreeAnswers.{mapped}
use Rattle.tcl_parse.proofs.TreeFactors as factors
use Rattle.tcl_parse.proofs.tree.chains.+chains.Goals as goal

pub chain-returns-in_default-clause-exact : goal.chain-returns-in_default-clause-exact
chain-returns-in_default-clause-exact g t c =
    chains.no_chain_at {s = g.T.Chained.sort} {ts = c.args.tokens.now} c.args.level (omega arith)
    (rw c.in_default.is at c.in_ok-first.ensures.exact)

pub chain-loop-op-init : goal.chain-loop-op-init
chain-loop-op-init g t c = record {
  positive = omega arith;
  low = c.requires;
  shorter = rw c.in-Some.is at c.in_ok-first.ensures.shorter;
  goes = chains.begins (rw c.in-Some.is at c.in_ok-first.ensures.exact);
}

pub chain-returns-in_default-2-clause-exact : goal.chain-returns-in_default-2-clause-exact
chain-returns-in_default-2-clause-exact g t c =
    chains.goes_nowhere_at c.args.level c.loop-op.invariant.positive c.loop-op.invariant.goes
    c.in-Some-operator_at.ensures.exact (rw c.in_default-2.is at c.in_ok-right.ensures.exact)

pub chain-loop-op-preserved : goal.chain-loop-op-preserved
chain-loop-op-preserved g t c =
    let a : length c.in-Some-2.right.rest.now < length c.in-Some-operator_at.op.rest.now =
    rw c.in-Some-2.is at c.in_ok-right.ensures.shorter in
    record {
      positive = c.loop-op.invariant.positive;
      low = c.loop-op.invariant.low;
      shorter = omega (arith, c.loop-op.invariant.shorter, c.in-Some-operator_at.ensures.shorter);
      goes = chains.goes_on_at {s = g.T.Chained.sort} {ts = c.args.tokens.now} {rest = c.loop-op.rest.now}
          {behind = c.in-Some-operator_at.op.rest.now} {us = c.in-Some-2.right.rest.now} {left = g.T.Chained.tree c.loop-op.left}
          {u = g.T.Chained.tree c.in-Some-2.right.tree} {t = g.T.Chained.tree c.in_ok-left.left}
          {o = g.T.Chained.joint c.in-Some-operator_at.op.tree} c.args.level c.loop-op.invariant.positive
          c.loop-op.invariant.goes c.in-Some-operator_at.ensures.exact (rw c.in-Some-2.is at c.in_ok-right.ensures.exact)
          c.in_ok-left.ensures;
    }

pub chain-returns-clause-exact : goal.chain-returns-clause-exact
chain-returns-clause-exact g t c =
    let ends : c.args.level < next_height g.T.Chained.sort c.loop-op.rest.now =
    chains.level_ends g.T.Chained.sort c.args.level c.loop-op.rest.now c.loop-op.invariant.positive
    (chains.below_top g.T.Chained.sort c.args.level c.loop-op.invariant.low) c.in_default-operator_at.ensures.exact
    c.loop-op.invariant.goes.stops in
    chains.goes_to_end_at c.args.level c.loop-op.invariant.positive c.loop-op.invariant.goes ends

pub factor-returns-in_default-clause-exact : goal.factor-returns-in_default-clause-exact
factor-returns-in_default-clause-exact g t c =
    mapped c.base.result c.base.ensures.exact (factors.none_unsigned c.in_default.ensures.exact) (λ r h. factors.read_unsigned h)

pub factor-returns-in_default-2-clause-exact : goal.factor-returns-in_default-2-clause-exact
factor-returns-in_default-2-clause-exact g t c =
    factors.none_signed c.in-Some.ensures.exact (rw c.in_default-2.is at c.in_ok-found.ensures.exact)

pub factor-returns-clause-exact : goal.factor-returns-clause-exact
factor-returns-clause-exact g t c =
    factors.read_signed c.in-Some.ensures.exact (rw c.in-Some-2.is at c.in_ok-found.ensures.exact) (rw c.in_ok-base.ensures at c.signed.ensures)

pub base-returns-in_default-2-clause-exact : goal.base-returns-in_default-2-clause-exact
base-returns-in_default-2-clause-exact g t c =
    factors.none_opened c.in-Some.ensures.exact
    (chains.no_tree_closed (rw c.loosest.ensures.exact at (rw c.in_default-2.is at c.in_ok-inner.ensures.exact)))

pub base-returns-in_default-behind_sign-clause-exact :
    goal.base-returns-in_default-behind_sign-clause-exact
base-returns-in_default-behind_sign-clause-exact g t c =
    factors.none_opened c.in-Some.ensures.exact
    (chains.not_closed (rw c.loosest.ensures.exact at (rw c.in-Some-2.is at c.in_ok-inner.ensures.exact))
    (rw c.closing.ensures at c.in_default-behind_sign.ensures))
