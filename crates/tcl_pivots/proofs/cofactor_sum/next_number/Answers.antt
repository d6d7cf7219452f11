-- A list that has ended has the greater number.
use Rattle.std.proofs.Common.{arith}
use Rattle.tcl_pivots.proofs.CofactorTurns.{second_ended}
use Rattle.tcl_pivots.proofs.cofactor_sum.next_number.Goals as goal

pub returns-then-j-b-clause-side : goal.returns-then-j-b-clause-side
returns-then-j-b-clause-side g c =
    second_ended c.args.a.now c.args.b.now c.args.i c.args.j (omega arith) (omega arith)
