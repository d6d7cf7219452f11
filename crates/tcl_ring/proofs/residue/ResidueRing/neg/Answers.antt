-- The modulus less the residue is the residue of the negation.
use Rattle.std.proofs.Common.{rules, ◌≡◌, pos, refl, ◌∙◌, ap, to_z, of_z}
use Rattle.std.specs.Int.{w128}
use Rattle.tcl_ring.proofs.Inverses.{residue_negation}
use Rattle.tcl_ring.proofs.residue.ResidueRing.neg.Goals as goal

pub returns : goal.returns
returns c =
    let m = c.args.self.now.modulus in
    let value : to_z w128 (of_z w128 c.element.result) ≡ pos c.sub_mod.result = search rules in
    (value ∙ ap pos c.sub_mod.ensures ∙ residue_negation c.args.a.now m c.rest.result c.args.self.now.positive c.rest.ensures.below c.rest.ensures.value, refl)
