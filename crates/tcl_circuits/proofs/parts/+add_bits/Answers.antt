use Rattle.std.proofs.Common.{◌≡◌, ◌<◌, ◌-◌, ◌==◌, ◌++◌, arith, refl, ap, ◌∙◌, pos, unsigned_abs, rules, to_z, of_z}
use Rattle.std.specs.Int.{int_div_euclid, int_rem_euclid, w128}
use Rattle.std.proofs.lemmas.Int.{to_z-of_z}
use Rattle.tcl_circuits.specs.Circuits.{constant}
use Rattle.tcl_circuits.proofs.Constants.{bits_more}
use Rattle.tcl_circuits.proofs.parts.+add_bits.Goals as goal

pub returns : goal.returns
returns t c =
    let same = to_z-of_z w128 c.args.n c.ranges.n in
    let back : to_z w128 (of_z w128 c.half.result) ≡ c.half.result = search rules in
    bits_more c.args.word.now c.push.new.self c.add_bits.new.word c.args.width (c.args.width - 1) c.known-lowest.result c.args.n c.half.result c.is_odd.result (omega (arith, c.if-width-eq0.false)) refl
    (c.is_odd.ensures ∙ ap (λ z. unsigned_abs (int_rem_euclid z (pos 2)) == 1) same) c.known-lowest.ensures (c.half.ensures ∙ ap (λ z. int_div_euclid z (pos 2)) same) c.in_ok-push.ensures.pushed
    (c.in_ok-add_bits.ensures ∙ ap (λ z. c.push.new.self ++ constant (c.args.width - 1) z) back)
