use Rattle.std.proofs.Common.{arith, ◌++◌}
use Rattle.tcl_gates.specs.Gates.{clauses_behind}
use Rattle.tcl_gates.proofs.Rows.{clauses_begun, clauses_more, clauses_end}
use Rattle.tcl_gates.proofs.encoding.add_gates.Goals as goal

pub loop-k-init : goal.loop-k-init
loop-k-init c = clauses_begun c.args.cnf.now c.args.from c.args.gates.now

pub loop-k-preserved : goal.loop-k-preserved
loop-k-preserved c =
    clauses_more c.loop-k.cnf c.add_gate.new.cnf (c.args.cnf.now ++ clauses_behind c.args.from c.args.gates.now) c.loop-k.k c.of.result c.at.result.now c.args.gates.now
    c.loop-k.invariant c.at.ensures c.of.ensures c.in_ok-add_gate.ensures

pub returns : goal.returns
returns c = clauses_end c.loop-k.cnf (c.args.cnf.now ++ clauses_behind c.args.from c.args.gates.now) c.loop-k.k c.args.gates.now c.loop-k.invariant (omega arith)
