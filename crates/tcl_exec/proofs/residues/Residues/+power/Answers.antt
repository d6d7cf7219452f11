-- A power by squaring.
use Rattle.std.proofs.Common.{rules, ◌≡◌, ◌≢◌, ◌%◌}
use Rattle.tcl_exec.specs.Residue.{residue_count}
use Rattle.tcl_exec.proofs.ResidueSums.{power_square, power_even, power_odd}
use Rattle.tcl_exec.proofs.residues.Residues.+power.Goals as goal

pub returns-then-exponent-eq0-2-clause-value : goal.returns-then-exponent-eq0-2-clause-value
returns-then-exponent-eq0-2-clause-value t c =
    let m = residue_count c.args.self.modulus in
    let even : c.args.exponent % 2 ≡ 0 = search rules in
    let square = power_square c.args.base c.args.exponent m c.power-root.result c.product-square.result c.power-root.ensures.value c.product-square.ensures.value in
    power_even c.args.base c.args.exponent m c.product-square.result square even

pub returns-else-exponent-eq0-2-clause-value : goal.returns-else-exponent-eq0-2-clause-value
returns-else-exponent-eq0-2-clause-value t c =
    let m = residue_count c.args.self.modulus in
    let odd : c.args.exponent % 2 ≢ 0 = search rules in
    let square = power_square c.args.base c.args.exponent m c.power-root.result c.product-square.result c.power-root.ensures.value c.product-square.ensures.value in
    power_odd c.args.base c.args.exponent m c.product-square.result c.product.result square odd c.product.ensures.value
