-- The shift rounds down.
use Rattle.tcl_lang.proofs.MachineSteps.{machine_floor}
use Rattle.tcl_lang.proofs.arithmetic.high_part.Goals as goal

pub returns : goal.returns
returns c = machine_floor c.args.n c.args.k c.ranges.n
