-- The product with a power of two below 2 ^ 64 fits.
use Rattle.std.proofs.Common.{rules, ◌≡◌, ◌^◌, ℤ, pos, ◌*ℤ◌, sym, subst, FitsSigned, to_z, of_z}
use Rattle.std.specs.Int.{w128}
use Rattle.std.proofs.lemmas.Int.{to_z-of_z}
use Rattle.tcl_lang.proofs.MachineProducts.{shift_fits, machine_product}
use Rattle.tcl_lang.proofs.arithmetic.shifted.Goals as goal

pub overflow_mul-result : goal.overflow_mul-result
overflow_mul-result c =
    let power : to_z w128 (of_z w128 c.power_of_two.result) ≡ pos (2 ^ c.args.k) = search rules in
    let first = to_z-of_z w128 c.args.n c.ranges.n in
    let P : ℤ → Type 0 = λ x. FitsSigned w128 (x *ℤ to_z w128 (of_z w128 c.power_of_two.result)) in
    let Q : ℤ → Type 0 = λ y. FitsSigned w128 (c.args.n *ℤ y) in
    subst P (sym first) (subst Q (sym power) (shift_fits c.args.n c.args.k c.requires.word c.requires.amount))

pub returns : goal.returns
returns c =
    let power : to_z w128 (of_z w128 c.power_of_two.result) ≡ pos (2 ^ c.args.k) = search rules in
    machine_product c.args.n (pos (2 ^ c.args.k)) _ _ (to_z-of_z w128 c.args.n c.ranges.n) power
    (shift_fits c.args.n c.args.k c.requires.word c.requires.amount)
