-- The part at the place: a number, a power that halves what stands before it, or another power.
use Rattle.std.proofs.Common.{rules, Bool, ◌≡◌, ◌∙◌, ◌^◌, ◌<◌, ◌+◌, ◌-◌, ap, sym, subst, false, true, get_or, length, unsigned_abs, arith}
use Rattle.tcl_blast.specs.Lifted.{exponent_of}
use Rattle.tcl_blast.proofs.Exponents.{no_part, with_number, from_end, last_number, halving, no_power}
use Rattle.tcl_blast.proofs.exponent.+exponent_from.Goals as goal

pub returns-then-from-parts : goal.returns-then-from-parts
returns-then-from-parts t c = from_end c.args.parts.now c.args.from c.args.above c.requires.bound (omega (arith, c.if-from-parts.true))

pub exponent_with-requires-clause-less : goal.exponent_with-requires-clause-less
exponent_with-requires-clause-less t c =
    let l = last_number c.args.parts.now c.args.from c.args.above (omega (arith, c.if-from-parts.false)) c.requires.falls c.requires.numbers c.in-None.is in
    let own : c.unsigned_abs.result ≡ unsigned_abs (get_or c.args.parts.now c.args.from no_part).base = search rules in
    subst (λ n. n < 2 ^ c.args.above) (sym own) l.less

pub returns-in-None : goal.returns-in-None
returns-in-None t c =
    let l = last_number c.args.parts.now c.args.from c.args.above (omega (arith, c.if-from-parts.false)) c.requires.falls c.requires.numbers c.in-None.is in
    let own : c.unsigned_abs.result ≡ unsigned_abs (get_or c.args.parts.now c.args.from no_part).base = search rules in
    c.exponent_with.ensures ∙ ap exponent_of (ap (with_number c.args.above (get_or c.args.parts.now c.args.from no_part).minus) own ∙ l.value)

pub returns-then-not-part : goal.returns-then-not-part
returns-then-not-part t c =
    let plus : (get_or c.args.parts.now c.args.from no_part).minus ≡ false = search rules in
    no_power c.args.parts.now c.args.from c.args.above c.in-Some.power c.requires.bound (omega (arith, c.if-from-parts.false)) c.requires.falls c.requires.numbers c.in-Some.is (λ m e. clash m plus)
  where
    clash : {b : Bool} → b ≡ true → b ≡ false → ⊥
    clash e f = cc

pub returns-then-power-above : goal.returns-then-power-above
returns-then-power-above t c =
    no_power c.args.parts.now c.args.from c.args.above c.in-Some.power c.requires.bound (omega (arith, c.if-from-parts.false)) c.requires.falls c.requires.numbers c.in-Some.is (λ m e. absurd (omega (arith, e, c.if-power-above.true)))

pub exponent_from-requires : goal.exponent_from-requires
exponent_from-requires t c =
    let minus : (get_or c.args.parts.now c.args.from no_part).minus ≡ true = search rules in
    let f = halving c.args.parts.now c.args.from c.args.above c.in-Some.power c.requires.bound (omega (arith, c.if-from-parts.false)) c.requires.falls c.requires.numbers c.in-Some.is minus (omega (arith, c.if-power-above.false)) in
    let less : length c.args.parts.now - (c.args.from + 1) < t = omega (arith, c.decreases, c.if-from-parts.false) in
    (less, (f.falls, (f.numbers, f.bound)))

pub returns-else-power-above : goal.returns-else-power-above
returns-else-power-above t c =
    let minus : (get_or c.args.parts.now c.args.from no_part).minus ≡ true = search rules in
    let f = halving c.args.parts.now c.args.from c.args.above c.in-Some.power c.requires.bound (omega (arith, c.if-from-parts.false)) c.requires.falls c.requires.numbers c.in-Some.is minus (omega (arith, c.if-power-above.false)) in
    c.exponent_from.ensures ∙ ap exponent_of f.value
