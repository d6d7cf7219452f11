-- No goal stands before the first place.
use Rattle.std.proofs.Common.{sym, arith}
use Rattle.tcl_lang.proofs.Runs.{goals_begin}
use Rattle.tcl_worker.proofs.strays.goals_before.Goals as goal

pub loop-k-init : goal.loop-k-init
loop-k-init c = record { count = sym (goals_begin c.args.lines.now); within = omega arith }
