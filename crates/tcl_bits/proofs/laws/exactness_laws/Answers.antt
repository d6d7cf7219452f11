use Rattle.tcl_bits.proofs.ExactResults.{sum_exact, difference_exact, product_exact, shift_exact, cast_exact}
use Rattle.tcl_bits.proofs.laws.exactness_laws.Goals as goal

pub returns-clause-sum : goal.returns-clause-sum
returns-clause-sum c = sum_exact

pub returns-clause-difference : goal.returns-clause-difference
returns-clause-difference c = difference_exact

pub returns-clause-product : goal.returns-clause-product
returns-clause-product c = product_exact

pub returns-clause-shift : goal.returns-clause-shift
returns-clause-shift c = shift_exact

pub returns-clause-cast : goal.returns-clause-cast
returns-clause-cast c = cast_exact
