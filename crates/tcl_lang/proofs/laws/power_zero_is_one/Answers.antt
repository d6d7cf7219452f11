-- The product of no copies is 1.
use Rattle.std.proofs.Common.{refl}
use Rattle.tcl_lang.specs.Term.{power_of}
use Rattle.tcl_lang.proofs.laws.power_zero_is_one.Goals as goal

pub returns : goal.returns
unfolding power_of
returns c n = refl
