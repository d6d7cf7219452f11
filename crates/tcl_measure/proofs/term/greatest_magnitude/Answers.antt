-- The greatest value of a type without a sign is one less than a power of 2.
use Rattle.std.proofs.Common.{◌≡◌, ◌-◌, ◌^◌, ◌∙◌, ap, sym, min, cond, arith}
use Rattle.std.proofs.lemmas.Nat.{one_shl}
use Rattle.tcl_lang.specs.Bound.{size_end}
use Rattle.tcl_measure.proofs.Saturation.{less_below, less_from}
use Rattle.tcl_measure.proofs.term.greatest_magnitude.Goals as goal

pub returns-then-ty-le126 : goal.returns-then-ty-le126
returns-then-ty-le126 c =
    let w = c.args.ty.width in
    ap (λ x. x - 1) (one_shl w 128 (omega (arith, c.if-ty-le126.true))) ∙ less_below w c.if-ty-le126.true
    ∙ sym (ap (λ b. min (cond b (2 ^ (w - 1)) (2 ^ w - 1)) size_end) c.if-ty.false)

pub returns-else-ty-le126 : goal.returns-else-ty-le126
returns-else-ty-le126 c =
    let w = c.args.ty.width in
    less_from w c.if-ty-le126.false ∙ sym (ap (λ b. min (cond b (2 ^ (w - 1)) (2 ^ w - 1)) size_end) c.if-ty.false)
