use Rattle.std.proofs.Common.{drop}
use Rattle.tcl_circuits.specs.Circuits.{wires, meet}
use Rattle.tcl_circuits.proofs.Loops.{MeetsOn}
use Rattle.tcl_circuits.proofs.meeting.meet.Given as goal

abbrev pub invariant-loop-k : goal.invariant-loop-k
invariant-loop-k l = MeetsOn l.kind l.fn.gates (wires l.gates l.word) (meet l.kind l.fn.gates l.a l.b) (drop l.k l.a) (drop l.k l.b)
