-- The product of the residues is the residue of the product.
use Rattle.std.proofs.Common.{rules, ◌≡◌, pos, refl, ◌∙◌, ap, to_z, of_z}
use Rattle.std.specs.Int.{w128}
use Rattle.tcl_ring.proofs.Inverses.{residue_product}
use Rattle.tcl_ring.proofs.residue.ResidueRing.mul.Goals as goal

pub returns : goal.returns
returns c =
    let m = c.args.self.now.modulus in
    let value : to_z w128 (of_z w128 c.element.result) ≡ pos c.mul_mod.result = search rules in
    (value ∙ ap pos c.mul_mod.ensures ∙ residue_product c.args.a.now c.args.b.now m c.rest.result c.rest-2.result c.args.self.now.positive c.rest.ensures.value c.rest-2.ensures.value, refl)
