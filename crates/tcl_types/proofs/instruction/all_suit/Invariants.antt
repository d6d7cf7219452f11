-- What is left of the operands answers as all of them do.
use Rattle.std.proofs.Common.{◌≡◌, drop}
use Rattle.tcl_lang.specs.Typing.{operands_suit}
use Rattle.tcl_types.proofs.instruction.all_suit.Given as goal

abbrev pub invariant-loop-k : goal.invariant-loop-k
invariant-loop-k l = operands_suit l.types (drop l.k l.wanted) (drop l.k l.args) ≡ operands_suit l.types l.wanted l.args
