use Rattle.std.proofs.Common.{rules, sym, subst, arith, length, ◌+◌, ◌-◌, ◌≡◌, take, drop, replicate}
use Rattle.tcl_gates.specs.Meaning.{AreWithin, IsPart}
use Rattle.tcl_circuits.specs.Circuits.{adder}
use Rattle.tcl_gates.proofs.Shown.{within_grown, within_drop, within_take, within_append}
use Rattle.tcl_circuits.proofs.Within.{on_err}
use Rattle.tcl_circuits.proofs.Rows.{RowParts, row_first, row_second}
use Rattle.tcl_circuits.proofs.multiplication.add_row.Goals as goal

pub returns-in_err-row-clause-part : goal.returns-in_err-row-clause-part
returns-in_err-row-clause-part c =
    let r : RowParts c.args.gates.now c.args.a.now c.args.sum.now c.args.place c.saturating_sub-count.result c.args.y c.in_ok-factor.factor c.in_ok-bits.bits c.in_ok-high.high =
    record { first = search rules; second = c.in_ok-factor.ensures; third = c.in_ok-bits.ensures; fourth = c.in_ok-high.ensures } in
    on_err c.from_residual-in_err-row.result (row_first c.meet.new.gates r c.in_err-row.ensures.part)

pub returns-in_err-added-clause-part : goal.returns-in_err-added-clause-part
returns-in_err-added-clause-part c =
    let r : RowParts c.args.gates.now c.args.a.now c.args.sum.now c.args.place c.saturating_sub-count.result c.args.y c.in_ok-factor.factor c.in_ok-bits.bits c.in_ok-high.high =
    record { first = search rules; second = c.in_ok-factor.ensures; third = c.in_ok-bits.ensures; fourth = c.in_ok-high.ensures } in
    on_err c.from_residual-in_err-added.result (row_second c.meet.new.gates c.adder.new.gates c.in_ok-row.row r c.in_ok-row.ensures.made c.in_ok-row.ensures.word
    (subst (λ n. IsPart c.meet.new.gates c.adder.new.gates (adder c.meet.new.gates c.in_ok-high.high c.in_ok-row.row n).gates) c.from_number.ensures c.in_err-added.ensures.part))

pub adder-requires-clause-first : goal.adder-requires-clause-first
adder-requires-clause-first c = subst (AreWithin (length c.meet.new.gates)) (sym c.in_ok-high.ensures) (within_grown _ _ _ c.in_ok-row.ensures.longer (within_drop _ c.args.place c.args.sum.now c.requires.sum))

pub returns-clause-within : goal.returns-clause-within
returns-clause-within c =
    let n = length c.adder.new.gates in
    let w : AreWithin n c.in_ok-word.word = subst (AreWithin n) (sym c.in_ok-word.ensures) (within_grown (length c.args.gates.now) n (take c.args.place c.args.sum.now) (omega (arith, c.in_ok-row.ensures.longer, c.in_ok-added.ensures.longer)) (within_take _ c.args.place c.args.sum.now c.requires.sum)) in
    subst (AreWithin n) (sym c.in_ok-append.ensures) (within_append n c.in_ok-word.word c.in_ok-added.added.word w c.in_ok-added.ensures.within.0)
