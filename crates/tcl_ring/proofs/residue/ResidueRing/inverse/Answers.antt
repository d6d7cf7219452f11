-- The inverse of the residue is an inverse of each number with that residue.
use Rattle.std.proofs.Common.{rules, ◌≡◌, ◌%◌, false, ℤ, pos, ◌*ℤ◌, refl, sym, subst, to_z, of_z}
use Rattle.std.specs.Int.{w128, int_rem_euclid}
use Rattle.tcl_ring.proofs.Inverses.{residue_inverse, no_residue_inverse, small_residue}
use Rattle.tcl_ring.proofs.residue.ResidueRing.inverse.Goals as goal

pub returns-in-Some : goal.returns-in-Some
returns-in-Some c =
    let m = c.args.self.now.modulus in
    let value : to_z w128 (of_z w128 c.element.result) ≡ pos c.in-Some.inverse = search rules in
    let P : ℤ → Type 0 = λ e. ((int_rem_euclid e (pos m) ≡ e) × (false ≡ false)) × (int_rem_euclid (c.args.a.now *ℤ e) (pos m) ≡ pos (1 % m)) in
    subst P (sym value) ((small_residue c.in-Some.inverse m c.in-Some.ensures.0, refl), residue_inverse c.args.a.now m c.rest.result c.in-Some.inverse c.args.self.now.positive c.rest.ensures.value c.in-Some.ensures.1)

pub returns-in-None : goal.returns-in-None
returns-in-None c = no_residue_inverse c.args.a.now c.args.self.now.modulus c.rest.result c.args.self.now.positive c.rest.ensures.value c.in-None.ensures
