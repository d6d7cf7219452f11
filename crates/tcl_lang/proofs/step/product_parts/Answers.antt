-- Without a sign, the parts of a product are its quotient and its remainder.
use Rattle.std.proofs.Common.{◌≡◌, sym, ◌∙◌, List, [], ◌∷◌, ℤ}
use Rattle.std.specs.Int.{w128}
use Rattle.std.proofs.lemmas.Int.{to_z-of_z}
use Rattle.tcl_lang.proofs.MachineSteps.{product_passed, machine_low, machine_high, parts_natural, unsigned_value}
use Rattle.tcl_lang.proofs.step.product_parts.Goals as goal

two_same : (x y u v : ℤ) → x ≡ u → y ≡ v → ◌≡◌ {A = List ℤ} (x ∷ y ∷ []) (u ∷ v ∷ [])
two_same x y u v p q = cc

pub returns-else-ty : goal.returns-else-ty
returns-else-ty c =
    let product = product_passed c.unsigned_product-whole.result c.args.a c.args.b _ _ c.unsigned_product-whole.ensures (to_z-of_z w128 c.args.a c.ranges.a) (to_z-of_z w128 c.args.b c.ranges.b) in
    two_same _ _ _ _
    (machine_high c.unsigned_product-whole.result c.args.ty.width c.args.a c.args.b c.requires.of_words.1 product (unsigned_value c.args.ty c.args.a c.if-ty.false c.requires.first) (unsigned_value c.args.ty c.args.b c.if-ty.false c.requires.second))
    (machine_low c.unsigned_product-whole.result c.args.ty.width _ c.low_mask-mask.ensures c.requires.of_words.1)
    ∙ sym (parts_natural c.args.ty.width _ c.unsigned_product-whole.result product)
