-- The part at the place, and the value of those after it.
use Rattle.std.proofs.Common.{rules, ◌≡◌, refl, false, ◌<◌, ◌≤◌, ◌^◌, ◌+◌, ◌-◌, drop, pos, neg_ℤ, unsigned_abs, ℤ, ◌+ℤ◌, cond, length, get_or, None, to_z, of_z, sym, ap, ◌∙◌, subst, arith}
use Rattle.std.specs.Int.{w128}
use Rattle.tcl_lang.specs.Modulus.{modulus_value}
use Rattle.tcl_lang.specs.declared.term.Part.{Part}
use Rattle.tcl_measure.proofs.Moduli.{read_part, end_value, last_part, power_part, sum_below, sum_fits, machine_sum, below_word}
use Rattle.tcl_measure.proofs.modulus.+value_from.Goals as goal

abbrev no_part : Part
no_part = record { minus = false; base = pos 0; power = None }

pub returns-then-from-parts-clause-value : goal.returns-then-from-parts-clause-value
returns-then-from-parts-clause-value t c = end_value c.args.parts.now c.args.from (omega (arith, c.if-from-parts.true))

pub power_of_two-requires : goal.power_of_two-requires
power_of_two-requires t c =
    let parts = c.args.parts.now in
    let p = get_or parts c.args.from no_part in
    let read = read_part parts c.args.from no_part (omega (arith, c.if-from-parts.false)) in
    let f = power_part parts c.args.from c.args.above p c.in-Some.power read c.requires.falls c.requires.numbers c.in-Some.is in
    omega (arith, f.less, c.requires.narrow)

pub value_from-requires : goal.value_from-requires
value_from-requires t c =
    let parts = c.args.parts.now in
    let p = get_or parts c.args.from no_part in
    let read = read_part parts c.args.from no_part (omega (arith, c.if-from-parts.false)) in
    let f = power_part parts c.args.from c.args.above p c.in-Some.power read c.requires.falls c.requires.numbers c.in-Some.is in
    let less : length parts - (c.args.from + 1) < t = omega (arith, c.decreases, c.if-from-parts.false) in
    (less, (f.falls, (f.numbers, omega (arith, f.less, c.requires.narrow))))

pub overflow_add-result : goal.overflow_add-result
overflow_add-result t c =
    let parts = c.args.parts.now in
    let p = get_or parts c.args.from no_part in
    let read = read_part parts c.args.from no_part (omega (arith, c.if-from-parts.false)) in
    let f = power_part parts c.args.from c.args.above p c.in-Some.power read c.requires.falls c.requires.numbers c.in-Some.is in
    let v = to_z w128 (of_z w128 c.value_from.result) in
    let own : to_z w128 (of_z w128 c.signed-in-Some.result) ≡ cond p.minus (neg_ℤ (pos (2 ^ c.in-Some.power))) (pos (2 ^ c.in-Some.power)) = search rules in
    let small : unsigned_abs v < 2 ^ c.in-Some.power = search rules in
    let sum = sum_below c.in-Some.power c.args.above p.minus v f.less small in
    sum_fits _ v _ v own refl (below_word c.args.above _ c.requires.narrow sum)

pub returns-in-None-clause-value : goal.returns-in-None-clause-value
returns-in-None-clause-value t c =
    let parts = c.args.parts.now in
    let p = get_or parts c.args.from no_part in
    let read = read_part parts c.args.from no_part (omega (arith, c.if-from-parts.false)) in
    let last = last_part parts c.args.from c.args.above p read c.requires.falls c.requires.numbers c.in-None.is in
    let own : to_z w128 (of_z w128 c.signed.result) ≡ cond p.minus (neg_ℤ p.base) p.base = search rules in
    own ∙ last.value

pub returns-in-None-clause-small : goal.returns-in-None-clause-small
returns-in-None-clause-small t c =
    let parts = c.args.parts.now in
    let p = get_or parts c.args.from no_part in
    let read = read_part parts c.args.from no_part (omega (arith, c.if-from-parts.false)) in
    let last = last_part parts c.args.from c.args.above p read c.requires.falls c.requires.numbers c.in-None.is in
    let own : to_z w128 (of_z w128 c.signed.result) ≡ cond p.minus (neg_ℤ p.base) p.base = search rules in
    subst (λ (z : ℤ). unsigned_abs z < 2 ^ c.args.above) (sym own) last.below

pub returns-in-Some-clause-value : goal.returns-in-Some-clause-value
returns-in-Some-clause-value t c =
    let parts = c.args.parts.now in
    let p = get_or parts c.args.from no_part in
    let read = read_part parts c.args.from no_part (omega (arith, c.if-from-parts.false)) in
    let f = power_part parts c.args.from c.args.above p c.in-Some.power read c.requires.falls c.requires.numbers c.in-Some.is in
    let v = to_z w128 (of_z w128 c.value_from.result) in
    let own : to_z w128 (of_z w128 c.signed-in-Some.result) ≡ cond p.minus (neg_ℤ (pos (2 ^ c.in-Some.power))) (pos (2 ^ c.in-Some.power)) = search rules in
    let small : unsigned_abs v < 2 ^ c.in-Some.power = search rules in
    let rest : v ≡ modulus_value (drop (c.args.from + 1) parts) = search rules in
    let sum = sum_below c.in-Some.power c.args.above p.minus v f.less small in
    machine_sum _ v _ v own refl (below_word c.args.above _ c.requires.narrow sum) ∙ f.value v rest

pub returns-in-Some-clause-small : goal.returns-in-Some-clause-small
returns-in-Some-clause-small t c =
    let parts = c.args.parts.now in
    let p = get_or parts c.args.from no_part in
    let read = read_part parts c.args.from no_part (omega (arith, c.if-from-parts.false)) in
    let f = power_part parts c.args.from c.args.above p c.in-Some.power read c.requires.falls c.requires.numbers c.in-Some.is in
    let v = to_z w128 (of_z w128 c.value_from.result) in
    let own : to_z w128 (of_z w128 c.signed-in-Some.result) ≡ cond p.minus (neg_ℤ (pos (2 ^ c.in-Some.power))) (pos (2 ^ c.in-Some.power)) = search rules in
    let small : unsigned_abs v < 2 ^ c.in-Some.power = search rules in
    let sum = sum_below c.in-Some.power c.args.above p.minus v f.less small in
    subst (λ (z : ℤ). unsigned_abs z < 2 ^ c.args.above) (sym (machine_sum _ v _ v own refl (below_word c.args.above _ c.requires.narrow sum))) sum
