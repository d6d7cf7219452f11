use Rattle.tcl_gates.proofs.Rows.{free_rows}
use Rattle.tcl_gates.proofs.encoding.add_gate.Goals as goal

pub returns-in-Free : goal.returns-in-Free
returns-in-Free c = free_rows c.args.cnf.now c.args.lit c.args.gate.now c.in-Free.is
