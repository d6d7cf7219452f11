use Rattle.std.proofs.Common.{rules, sym, ap, ap₂, ◌∙◌, arith, length, ◌+◌, ◌≡◌, [], drop, replicate}
use Rattle.tcl_circuits.specs.Circuits.{wires, product}
use Rattle.tcl_circuits.proofs.Within.{on_err, if_ok_map}
use Rattle.tcl_circuits.proofs.Values.{product_word}
use Rattle.tcl_circuits.proofs.Rows.{rows_none, rows_next, rows_end, rows_part, first_row_part, no_rows}
use Rattle.tcl_circuits.proofs.multiplication.product.Goals as goal

pub loop-k-init : goal.loop-k-init
loop-k-init c =
    rows_none c.args.gates.now c.meet.new.gates c.args.a.now c.args.b.now c.in_ok-bits.bits c.in_ok-sum.sum c.at.result.now c.at.ensures (search rules) c.in_ok-sum.ensures.made c.in_ok-sum.ensures.word c.in_ok-sum.ensures.within

pub loop-k-preserved : goal.loop-k-preserved
loop-k-preserved c =
    rows_next c.args.gates.now c.loop-k.gates c.add_row.new.gates c.args.a.now c.loop-k.k c.loop-k.sum c.in_ok-sum-2.sum (product c.args.gates.now c.args.a.now c.args.b.now) c.args.b.now c.at-in-loop-k.result.now c.at-in-loop-k.ensures c.loop-k.invariant
    c.in_ok-sum-2.ensures.made c.in_ok-sum-2.ensures.word c.in_ok-sum-2.ensures.within

pub returns-in_err-sum-clause-part : goal.returns-in_err-sum-clause-part
returns-in_err-sum-clause-part c =
    on_err c.from_residual-in_err-sum.result (first_row_part c.args.gates.now c.meet.new.gates c.args.a.now c.args.b.now c.in_ok-bits.bits c.at.result.now c.at.ensures (search rules) c.in_err-sum.ensures.part)

pub returns-in_err-sum-2-clause-part : goal.returns-in_err-sum-2-clause-part
returns-in_err-sum-2-clause-part c =
    on_err c.from_residual-in_err-sum-2.result (rows_part c.args.gates.now c.add_row.new.gates c.args.a.now c.loop-k.k (wires c.loop-k.gates c.loop-k.sum) (product c.args.gates.now c.args.a.now c.args.b.now) c.args.b.now c.at-in-loop-k.result.now c.at-in-loop-k.ensures c.loop-k.invariant c.in_err-sum-2.ensures.part)

end : (c : goal.After-drop-bits-inside-2) → wires c.loop-k.gates c.loop-k.sum ≡ product c.args.gates.now c.args.a.now c.args.b.now
end c = rows_end c.args.gates.now c.args.a.now c.loop-k.k _ _ c.args.b.now (omega arith) c.loop-k.invariant

pub returns-then-is_empty-clause-made : goal.returns-then-is_empty-clause-made
returns-then-is_empty-clause-made c =
    let e : c.args.b.now ≡ [] = search rules in
    let f = no_rows c.args.gates.now c.args.a.now c.args.b.now e in rw f search rules

pub returns-then-is_empty-clause-word : goal.returns-then-is_empty-clause-word
returns-then-is_empty-clause-word c =
    let e : c.args.b.now ≡ [] = search rules in
    let f = no_rows c.args.gates.now c.args.a.now c.args.b.now e in rw f search rules

pub returns-clause-made : goal.returns-clause-made
returns-clause-made c = ap (λ s. s.gates) (end c)

pub returns-clause-word : goal.returns-clause-word
returns-clause-word c = ap (λ s. s.word) (end c)

pub returns-clause-value : goal.returns-clause-value
returns-clause-value c = product_word c.args.gates.now _ c.args.a.now c.args.b.now _ c.requires.first c.requires.second (ap (λ s. s.gates) (end c)) (ap (λ s. s.word) (end c))

pub returns-then-is_empty-clause-value : goal.returns-then-is_empty-clause-value
returns-then-is_empty-clause-value c =
    let e : c.args.b.now ≡ [] = search rules in
    let f = no_rows c.args.gates.now c.args.a.now c.args.b.now e in
    if_ok_map c.copies.result (λ word e. product_word c.args.gates.now c.args.gates.now c.args.a.now c.args.b.now word c.requires.first c.requires.second (sym (ap (λ s. s.gates) f)) (e ∙ ap₂ (λ n l. replicate n l) c.len.ensures c.from_number.ensures ∙ sym (ap (λ s. s.word) f))) c.copies.ensures
