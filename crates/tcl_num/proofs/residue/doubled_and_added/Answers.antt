-- The digit is 1 where it is not 0.
use Rattle.std.proofs.Common.{◌≡◌, ◌+◌, ◌*◌, ◌%◌, ◌∙◌, ap, arith}
use Rattle.tcl_num.proofs.ResidueProducts.{added_residue}
use Rattle.tcl_num.proofs.residue.doubled_and_added.Goals as goal

pub returns-else-digit-eq0 : goal.returns-else-digit-eq0
returns-else-digit-eq0 c =
    let p = c.args.product in let a = c.args.a in let m = c.args.m in
    let one : 1 ≡ c.args.digit = omega arith in
    c.add_mod.ensures ∙ ap (λ x. (x + a) % m) c.add_mod-twice.ensures ∙ added_residue p a m ∙ ap (λ d. (2 * p + d * a) % m) one
