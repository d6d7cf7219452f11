-- One number more.
use Rattle.std.proofs.Common.{rules, ◌≡◌, ◌+◌, arith}
use Rattle.tcl_lang.specs.Versions as versions
use Rattle.tcl_ssa.proofs.Forms.{numbers_turn}
use Rattle.tcl_ssa.proofs.lines.numbers_from.Goals as goal

pub loop-out-preserved : goal.loop-out-preserved
loop-out-preserved c =
    let next : c.in_ok-next.next ≡ c.loop-out.next + 1 = search rules in
    numbers_turn c.loop-out.next c.in_ok-next.next c.args.outs.now c.loop-out.out-index c.loop-out.numbers c.push.new.self
    (versions.numbers_from c.args.first c.args.outs.now) c.loop-out-test.true c.in_ok-push.ensures.pushed next c.loop-out.invariant
