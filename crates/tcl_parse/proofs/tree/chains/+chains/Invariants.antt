use Rattle.std.proofs.Common.{◌+◌, ◌-◌, ◌*◌, ◌<◌, ◌≤◌, length}
use Rattle.tcl_parse.specs.Chains.{loosest}
use Rattle.tcl_parse.proofs.TreeChains.{Goes}
use Rattle.tcl_parse.proofs.tree.chains.+chains.Given as goal

abbrev pub decreases-chain : goal.decreases-chain
decreases-chain g l = 10 * length l.tokens.now + l.level + 3

abbrev pub decreases-factor : goal.decreases-factor
decreases-factor g l = 10 * length l.tokens.now + 2

abbrev pub decreases-base : goal.decreases-base
decreases-base g l = 10 * length l.tokens.now + 1

abbrev pub invariant-chain-loop-op : goal.invariant-chain-loop-op
invariant-chain-loop-op g l = record {
  positive : 0 < l.level;
  low : l.level ≤ loosest g.T.Chained.sort;
  shorter : length l.rest < length l.tokens;
  goes : Goes g.T.Chained.sort (l.level - 1) l.tokens (g.T.Chained.tree l.left) l.rest;
}

abbrev pub decreases-chain-loop-op : goal.decreases-chain-loop-op
decreases-chain-loop-op g l = length l.rest
