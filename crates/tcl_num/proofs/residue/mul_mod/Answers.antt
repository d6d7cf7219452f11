-- The residue of a product is that of the product of residues.
use Rattle.std.proofs.Common.{◌*◌, ◌%◌, sym, ◌∙◌, ap}
use Rattle.std.proofs.lemmas.Nat.{mul-mod}
use Rattle.tcl_num.proofs.residue.mul_mod.Goals as goal

pub returns-in-Some : goal.returns-in-Some
returns-in-Some c =
    ap (λ x. x % c.args.m) c.in-Some.ensures.1
    ∙ (λ i. (c.residue_of-left.ensures i * c.residue_of-right.ensures i) % c.args.m)
    ∙ sym (mul-mod c.args.a c.args.b c.args.m)

pub returns-in-None : goal.returns-in-None
returns-in-None c =
    c.mul_by_doubling.ensures
    ∙ (λ i. (c.residue_of-left.ensures i * c.residue_of-right.ensures i) % c.args.m)
    ∙ sym (mul-mod c.args.a c.args.b c.args.m)
