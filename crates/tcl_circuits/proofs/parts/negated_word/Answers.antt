use Rattle.std.proofs.Common.{◌≡◌, map, arith}
use Rattle.tcl_cnf.specs.Literal.{neg}
use Rattle.tcl_circuits.proofs.Loops.{negate_more, negate_end}
use Rattle.tcl_circuits.proofs.Values.{flipped_value}
use Rattle.tcl_circuits.proofs.parts.negated_word.Goals as goal

pub loop-k-preserved : goal.loop-k-preserved
loop-k-preserved c = negate_more c.loop-k.word c.push.new.self c.args.a.now (map neg c.args.a.now) c.loop-k.k c.at.result.now c.not.result c.at.ensures c.not.ensures.value c.loop-k.invariant c.in_ok-push.ensures.pushed

end : (c : goal.After-loop-k) → c.loop-k.word ≡ map neg c.args.a.now
end c = negate_end c.loop-k.word c.args.a.now c.loop-k.k (omega arith) c.loop-k.invariant

pub returns-clause-word : goal.returns-clause-word
returns-clause-word c = end c

pub returns-clause-value : goal.returns-clause-value
returns-clause-value c = flipped_value c.loop-k.word c.args.a.now (end c)
