use Rattle.tcl_parse.proofs.StatementScan.{deep_here, deep_on, deep_end}
use Rattle.tcl_parse.proofs.statement.scan.nests_too_deep.Goals as goal

pub returns-then-open-gt-OPEN_BRACKETS : goal.returns-then-open-gt-OPEN_BRACKETS
returns-then-open-gt-OPEN_BRACKETS c =
    deep_here c.args.tokens.now c.loop-token.token-index _ _ _ _ c.loop-token-test.true c.depth_after-open.ensures.depth
    c.if-open-gt-OPEN_BRACKETS.true c.loop-token.invariant.left

pub loop-token-preserved : goal.loop-token-preserved
loop-token-preserved c = record {
  few = c.if-open-gt-OPEN_BRACKETS.false;
  left = deep_on c.args.tokens.now c.loop-token.token-index _ _ _ _ c.loop-token-test.true c.depth_after-open.ensures.depth
      c.if-open-gt-OPEN_BRACKETS.false c.loop-token.invariant.left;
}

pub returns : goal.returns
returns c = deep_end c.args.tokens.now c.loop-token.token-index _ _ c.loop-token-test.false c.loop-token.invariant.left
