use Rattle.std.proofs.Common.{ap, arith, ◌≡◌}
use Rattle.tcl_circuits.specs.Circuits.{wire, chain}
use Rattle.tcl_circuits.proofs.Within.{on_err}
use Rattle.tcl_circuits.proofs.Loops.{link_none, link_next, link_part, link_end}
use Rattle.tcl_circuits.proofs.chaining.chain.Goals as goal

pub loop-k-init : goal.loop-k-init
loop-k-init c = link_none c.args.kind c.args.gates.now c.of-last.result c.args.a.now c.args.b.now c.of-last.ensures

pub loop-k-preserved : goal.loop-k-preserved
loop-k-preserved c =
    link_next c.args.kind c.args.gates.now c.loop-k.gates c.add_link.new.gates c.loop-k.last c.in_ok-last.last (chain c.args.kind c.args.gates.now c.args.a.now c.args.b.now)
    c.args.a.now c.args.b.now c.loop-k.k c.at.result.now c.at-in-loop-k.result.now c.at.ensures c.at-in-loop-k.ensures c.loop-k.invariant c.in_ok-last.ensures.made c.in_ok-last.ensures.lit c.in_ok-last.ensures.within

pub returns-in_err-last-clause-part : goal.returns-in_err-last-clause-part
returns-in_err-last-clause-part c =
    on_err c.from_residual.result (link_part c.args.kind c.args.gates.now c.add_link.new.gates (wire c.loop-k.gates c.loop-k.last) (chain c.args.kind c.args.gates.now c.args.a.now c.args.b.now)
    c.args.a.now c.args.b.now c.loop-k.k c.at.result.now c.at-in-loop-k.result.now c.at.ensures c.at-in-loop-k.ensures c.loop-k.invariant c.in_err-last.ensures.part)

end : (c : goal.After-loop-k) → wire c.loop-k.gates c.loop-k.last ≡ chain c.args.kind c.args.gates.now c.args.a.now c.args.b.now
end c = link_end c.args.kind c.args.gates.now _ _ c.args.a.now c.args.b.now c.loop-k.k (omega arith) c.loop-k.invariant

pub returns-clause-made : goal.returns-clause-made
returns-clause-made c = ap (λ s. s.gates) (end c)

pub returns-clause-lit : goal.returns-clause-lit
returns-clause-lit c = ap (λ s. s.lit) (end c)
