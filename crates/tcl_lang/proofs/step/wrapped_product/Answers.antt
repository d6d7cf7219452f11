-- Without a sign, the wrapped value of a product is its remainder.
use Rattle.std.proofs.Common.{sym, ◌∙◌}
use Rattle.std.specs.Int.{w128}
use Rattle.std.proofs.lemmas.Int.{to_z-of_z}
use Rattle.tcl_lang.proofs.MachineSteps.{product_passed, machine_low, wrap_natural}
use Rattle.tcl_lang.proofs.step.wrapped_product.Goals as goal

pub returns-else-ty : goal.returns-else-ty
returns-else-ty c =
    let product = product_passed c.unsigned_product.result c.args.a c.args.b _ _ c.unsigned_product.ensures (to_z-of_z w128 c.args.a c.ranges.a) (to_z-of_z w128 c.args.b c.ranges.b) in
    machine_low c.unsigned_product.result c.args.ty.width _ c.low_mask.ensures c.requires.of_words.1
    ∙ sym (wrap_natural c.args.ty _ c.unsigned_product.result c.if-ty.false product)
