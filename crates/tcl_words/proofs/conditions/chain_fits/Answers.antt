use Rattle.std.proofs.Common.{rules, length, ◌+◌, ◌≡◌}
use Rattle.tcl_circuits.specs.Circuits.{extended}
use Rattle.tcl_circuits.proofs.Within.{on_err}
use Rattle.tcl_words.proofs.Parts.{chain_first, chain_second}
use Rattle.tcl_words.proofs.conditions.chain_fits.Goals as goal

pub returns-in_err-sum-clause-part : goal.returns-in_err-sum-clause-part
returns-in_err-sum-clause-part c =
    let w = length c.args.a.now + 2 in
    let e : c.in_ok-x.x ≡ extended c.args.signed w c.args.a.now = search rules in
    let f : c.in_ok-y.y ≡ extended c.args.signed w c.args.b.now = search rules in
    on_err c.from_residual-in_err-sum.result (chain_first c.args.chain c.args.gates.now c.chained.new.gates c.args.signed (length c.args.a.now) (extended c.args.signed w c.args.a.now) (extended c.args.signed w c.args.b.now) c.in_ok-x.x c.in_ok-y.y c.args.carry e f c.in_err-sum.ensures.part)

pub returns-in_err-lit-clause-part : goal.returns-in_err-lit-clause-part
returns-in_err-lit-clause-part c =
    let w = length c.args.a.now + 2 in
    let e : c.in_ok-x.x ≡ extended c.args.signed w c.args.a.now = search rules in
    let f : c.in_ok-y.y ≡ extended c.args.signed w c.args.b.now = search rules in
    let s = c.in_ok-sum.ensures in
    on_err c.from_residual-in_err-lit.result (chain_second c.args.chain c.args.gates.now c.chained.new.gates c.in_range.new.gates c.in_ok-sum.sum.word c.args.signed (length c.args.a.now) _ (extended c.args.signed w c.args.a.now) (extended c.args.signed w c.args.b.now)
    c.in_ok-x.x c.in_ok-y.y c.args.carry e f s.made s.word c.in_err-lit.ensures.part (search rules))
