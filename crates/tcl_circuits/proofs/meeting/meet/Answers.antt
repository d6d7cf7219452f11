use Rattle.std.proofs.Common.{ap, arith, ◌≡◌}
use Rattle.tcl_circuits.specs.Circuits.{wires, meet}
use Rattle.tcl_circuits.proofs.Within.{on_err}
use Rattle.tcl_circuits.proofs.Loops.{meet_none, meet_next, meet_part, meet_end}
use Rattle.tcl_circuits.proofs.meeting.meet.Goals as goal

pub loop-k-init : goal.loop-k-init
loop-k-init c = meet_none c.args.kind.now c.args.gates.now c.new-word.result c.args.a.now c.args.b.now c.new-word.ensures

pub loop-k-preserved : goal.loop-k-preserved
loop-k-preserved c =
    meet_next c.args.kind.now c.args.gates.now c.loop-k.gates c.meet_pair.new.gates c.loop-k.word c.meet_pair.new.word (meet c.args.kind.now c.args.gates.now c.args.a.now c.args.b.now)
    c.args.a.now c.args.b.now c.loop-k.k c.at.result.now c.at-in-loop-k.result.now c.at.ensures c.at-in-loop-k.ensures c.loop-k.invariant c.in_ok-meet_pair.ensures.made c.in_ok-meet_pair.ensures.word

pub returns-in_err-meet_pair-clause-part : goal.returns-in_err-meet_pair-clause-part
returns-in_err-meet_pair-clause-part c =
    on_err c.from_residual.result (meet_part c.args.kind.now c.args.gates.now c.meet_pair.new.gates (wires c.loop-k.gates c.loop-k.word) (meet c.args.kind.now c.args.gates.now c.args.a.now c.args.b.now)
    c.args.a.now c.args.b.now c.loop-k.k c.at.result.now c.at-in-loop-k.result.now c.at.ensures c.at-in-loop-k.ensures c.loop-k.invariant c.in_err-meet_pair.ensures.part)

end : (c : goal.After-loop-k) → wires c.loop-k.gates c.loop-k.word ≡ meet c.args.kind.now c.args.gates.now c.args.a.now c.args.b.now
end c = meet_end c.args.kind.now c.args.gates.now _ _ c.args.a.now c.args.b.now c.loop-k.k (omega arith) c.loop-k.invariant

pub returns-clause-made : goal.returns-clause-made
returns-clause-made c = ap (λ s. s.gates) (end c)

pub returns-clause-word : goal.returns-clause-word
returns-clause-word c = ap (λ s. s.word) (end c)
