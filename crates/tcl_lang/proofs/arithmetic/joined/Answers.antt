-- The sum of a shifted word and another fits.
use Rattle.std.proofs.Common.{rules, ◌≡◌, ◌^◌, ℤ, pos, ◌+ℤ◌, ◌*ℤ◌, sym, ap, ◌∙◌, subst, FitsSigned, to_z, of_z}
use Rattle.std.specs.Int.{w128}
use Rattle.std.proofs.lemmas.Int.{to_z-of_z}
use Rattle.tcl_num.proofs.IntegerRing.{int_mul_comm}
use Rattle.tcl_lang.proofs.MachineSteps.{joined_fits}
use Rattle.tcl_lang.proofs.arithmetic.joined.Goals as goal

two_same : (x y a b : ℤ) → x ≡ a → y ≡ b → x +ℤ y ≡ a +ℤ b
two_same x y a b p q = cc

pub overflow_add-result : goal.overflow_add-result
overflow_add-result c =
    let high : to_z w128 (of_z w128 c.shifted.result) ≡ c.args.h *ℤ pos (2 ^ c.args.width) = search rules in
    subst (λ (z : ℤ). FitsSigned w128 z) (sym (two_same _ _ _ _ high (to_z-of_z w128 c.args.l c.ranges.l)))
    (joined_fits c.args.h c.args.l c.args.width c.requires.high c.requires.low c.requires.narrow)

pub returns : goal.returns
returns c =
    let high : to_z w128 (of_z w128 c.shifted.result) ≡ c.args.h *ℤ pos (2 ^ c.args.width) = search rules in
    ap (λ z. to_z w128 (of_z w128 z)) (two_same _ _ _ _ high (to_z-of_z w128 c.args.l c.ranges.l))
    ∙ to_z-of_z w128 (c.args.h *ℤ pos (2 ^ c.args.width) +ℤ c.args.l) (joined_fits c.args.h c.args.l c.args.width c.requires.high c.requires.low c.requires.narrow)
    ∙ ap (λ z. z +ℤ c.args.l) (int_mul_comm c.args.h (pos (2 ^ c.args.width)))
