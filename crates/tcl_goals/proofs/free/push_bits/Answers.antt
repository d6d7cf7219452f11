-- A bit is pushed, or none is left.
use Rattle.std.proofs.Common.{refl, arith, ◌-◌}
use Rattle.tcl_goals.proofs.Marking.{pushed_bits, ended_bits}
use Rattle.tcl_goals.proofs.free.push_bits.Goals as goal

pub loop-left-preserved : goal.loop-left-preserved
loop-left-preserved c =
    pushed_bits c.loop-left.bits c.push.new.self _ c.args.v c.loop-left.left (c.loop-left.left - 1) (omega arith) refl c.in_ok-push.ensures.pushed c.loop-left.invariant

pub returns : goal.returns
returns c = ended_bits c.loop-left.bits _ c.args.v c.loop-left.left (omega arith) c.loop-left.invariant
