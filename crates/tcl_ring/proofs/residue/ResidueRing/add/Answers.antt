-- The sum of the residues is the residue of the sum.
use Rattle.std.proofs.Common.{rules, ◌≡◌, pos, refl, ◌∙◌, ap, to_z, of_z}
use Rattle.std.specs.Int.{w128}
use Rattle.tcl_ring.proofs.Inverses.{residue_sum}
use Rattle.tcl_ring.proofs.residue.ResidueRing.add.Goals as goal

pub returns : goal.returns
returns c =
    let m = c.args.self.now.modulus in
    let value : to_z w128 (of_z w128 c.element.result) ≡ pos c.add_mod.result = search rules in
    (value ∙ ap pos c.add_mod.ensures ∙ residue_sum c.args.a.now c.args.b.now m c.rest.result c.rest-2.result c.args.self.now.positive c.rest.ensures.value c.rest-2.ensures.value, refl)
