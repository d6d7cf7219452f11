-- The sum with the residue of the product is the residue of the sum with the product.
use Rattle.std.proofs.Common.{rules, ◌≡◌, ◌*◌, ◌%◌, pos, refl, sym, ◌∙◌, ap, ◌*ℤ◌, to_z, of_z}
use Rattle.std.specs.Int.{w128, int_rem_euclid}
use Rattle.tcl_ring.proofs.Inverses.{residue_sum, residue_product}
use Rattle.tcl_ring.proofs.residue.ResidueRing.add_product.Goals as goal

pub returns : goal.returns
returns c =
    let m = c.args.self.now.modulus in let p = c.args.self.now.positive in
    let value : to_z w128 (of_z w128 c.element.result) ≡ pos c.add_mod.result = search rules in
    let product : int_rem_euclid (c.args.b.now *ℤ c.args.c.now) (pos m) ≡ pos c.mul_mod-product.result =
    sym (ap pos c.mul_mod-product.ensures ∙ residue_product c.args.b.now c.args.c.now m c.rest.result c.rest-2.result p c.rest.ensures.value c.rest-2.ensures.value) in
    (value ∙ ap pos c.add_mod.ensures ∙ residue_sum c.args.a.now (c.args.b.now *ℤ c.args.c.now) m c.rest-3.result c.mul_mod-product.result p c.rest-3.ensures.value product, refl)
