use Rattle.std.proofs.Common.{◌≡◌, ap, sym, subst, arith, length}
use Rattle.tcl_circuits.specs.Circuits.{carried, adder}
use Rattle.tcl_circuits.proofs.Adders.{add_none, add_next, add_part, add_end}
use Rattle.tcl_circuits.proofs.Within.{on_err}
use Rattle.tcl_circuits.proofs.Values.{adder_word, adder_carry}
use Rattle.tcl_circuits.proofs.addition.adder.Goals as goal

pub loop-k-init : goal.loop-k-init
loop-k-init c = add_none c.args.gates.now c.new-word.result c.args.a.now c.args.b.now c.args.carry c.new-word.ensures c.requires.third

pub loop-k-preserved : goal.loop-k-preserved
loop-k-preserved c =
    add_next c.args.gates.now c.loop-k.gates c.full_adder.new.gates c.loop-k.word c.full_adder.new.word c.loop-k.next c.in_ok-next.next
    (adder c.args.gates.now c.args.a.now c.args.b.now c.args.carry) c.args.a.now c.args.b.now c.loop-k.k c.at.result.now c.at-in-loop-k.result.now c.at.ensures c.at-in-loop-k.ensures c.loop-k.invariant
    c.in_ok-next.ensures.made c.in_ok-next.ensures.word c.in_ok-next.ensures.carry

pub returns-in_err-next-clause-part : goal.returns-in_err-next-clause-part
returns-in_err-next-clause-part c =
    let s = carried c.loop-k.gates c.loop-k.word c.loop-k.next in
    let w = adder c.args.gates.now c.args.a.now c.args.b.now c.args.carry in
    on_err c.from_residual.result (add_part c.args.gates.now c.full_adder.new.gates s w c.args.a.now c.args.b.now c.loop-k.k c.at.result.now c.at-in-loop-k.result.now c.at.ensures c.at-in-loop-k.ensures c.loop-k.invariant c.in_err-next.ensures.part)

end : (c : goal.After-loop-k) → carried c.loop-k.gates c.loop-k.word c.loop-k.next ≡ adder c.args.gates.now c.args.a.now c.args.b.now c.args.carry
end c = add_end c.args.gates.now _ _ c.args.a.now c.args.b.now c.loop-k.k (omega arith) c.loop-k.invariant

pub returns-clause-made : goal.returns-clause-made
returns-clause-made c = ap (λ s. s.gates) (end c)

pub returns-clause-word : goal.returns-clause-word
returns-clause-word c = ap (λ s. s.word) (end c)

pub returns-clause-carry : goal.returns-clause-carry
returns-clause-carry c = ap (λ s. s.carry) (end c)

pub returns-clause-word_value : goal.returns-clause-word_value
returns-clause-word_value c =
    adder_word c.args.gates.now _ c.args.a.now c.args.b.now _ c.args.carry c.requires.first c.requires.second c.requires.third (ap (λ s. s.gates) (end c)) (ap (λ s. s.word) (end c))

pub returns-clause-carry_value : goal.returns-clause-carry_value
returns-clause-carry_value c =
    adder_carry c.args.gates.now _ c.args.a.now c.args.b.now c.args.carry _ c.requires.first c.requires.second c.requires.third (ap (λ s. s.gates) (end c)) (ap (λ s. s.carry) (end c))
