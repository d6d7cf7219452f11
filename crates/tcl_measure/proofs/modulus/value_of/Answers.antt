-- The first part: a number from 1, or a power of 2 and what follows it, which is less.
use Rattle.std.proofs.Common.{rules, ◌≡◌, refl, false, ◌<◌, ◌≤◌, ◌^◌, drop, pos, unsigned_abs, ℤ, ◌+ℤ◌, length, get_or, None, to_z, of_z, sym, ap, ◌∙◌, subst, arith}
use Rattle.std.specs.Int.{w128}
use Rattle.tcl_lang.specs.Modulus.{modulus_value}
use Rattle.tcl_lang.specs.declared.term.Part.{Part}
use Rattle.tcl_measure.proofs.Moduli.{first_number_read, first_power_read, sum_fits, machine_sum, first_sum, sum_sign}
use Rattle.tcl_measure.proofs.modulus.value_of.Goals as goal

abbrev no_part : Part
no_part = record { minus = false; base = pos 0; power = None }

pub overflow_add-result : goal.overflow_add-result
overflow_add-result c =
    let parts = c.args.parts.now in
    let f = first_power_read parts no_part c.in-Some.power c.requires.sound.sound c.requires.begins c.in-Some.is in
    let v = to_z w128 (of_z w128 c.value_from.result) in
    let own : to_z w128 (of_z w128 c.power_of_two.result) ≡ pos (2 ^ c.in-Some.power) = search rules in
    let small : unsigned_abs v < 2 ^ c.in-Some.power = search rules in
    sum_fits _ v _ v own refl (first_sum c.in-Some.power v f.narrow small)

pub returns-in-None-clause-value : goal.returns-in-None-clause-value
returns-in-None-clause-value c =
    let parts = c.args.parts.now in
    let f = first_number_read parts no_part c.requires.sound.shape c.requires.sound.sound c.in-None.is in
    let fits : to_z w128 (of_z w128 (get_or parts 0 no_part).base) ≡ (get_or parts 0 no_part).base = search rules in
    fits ∙ f

pub returns-in-Some-clause-value : goal.returns-in-Some-clause-value
returns-in-Some-clause-value c =
    let parts = c.args.parts.now in
    let f = first_power_read parts no_part c.in-Some.power c.requires.sound.sound c.requires.begins c.in-Some.is in
    let v = to_z w128 (of_z w128 c.value_from.result) in
    let own : to_z w128 (of_z w128 c.power_of_two.result) ≡ pos (2 ^ c.in-Some.power) = search rules in
    let small : unsigned_abs v < 2 ^ c.in-Some.power = search rules in
    let rest : v ≡ modulus_value (drop 1 parts) = search rules in
    machine_sum _ v _ v own refl (first_sum c.in-Some.power v f.narrow small) ∙ ap (λ n. pos (2 ^ c.in-Some.power) +ℤ n) rest ∙ f.value

pub returns-in-Some-clause-sign : goal.returns-in-Some-clause-sign
returns-in-Some-clause-sign c =
    let parts = c.args.parts.now in
    let f = first_power_read parts no_part c.in-Some.power c.requires.sound.sound c.requires.begins c.in-Some.is in
    let v = to_z w128 (of_z w128 c.value_from.result) in
    let own : to_z w128 (of_z w128 c.power_of_two.result) ≡ pos (2 ^ c.in-Some.power) = search rules in
    let small : unsigned_abs v < 2 ^ c.in-Some.power = search rules in
    let sum = machine_sum _ v _ v own refl (first_sum c.in-Some.power v f.narrow small) in
    subst (λ (z : ℤ). pos (unsigned_abs z) ≡ z) (sym sum) (sum_sign c.in-Some.power v small)
