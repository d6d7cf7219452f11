-- The product fits.
use Rattle.std.specs.Int.{w128}
use Rattle.std.proofs.lemmas.Int.{to_z-of_z}
use Rattle.tcl_lang.proofs.MachineProducts.{product_fits, machine_product}
use Rattle.tcl_lang.proofs.arithmetic.product.Goals as goal

pub returns : goal.returns
returns c =
    machine_product c.args.a c.args.b _ _ (to_z-of_z w128 c.args.a c.ranges.a) (to_z-of_z w128 c.args.b c.ranges.b)
    (product_fits c.args.a c.args.b c.requires.first c.requires.second)
