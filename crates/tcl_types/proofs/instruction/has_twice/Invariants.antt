-- What is left of the names answers as all of them do.
use Rattle.std.proofs.Common.{◌≡◌, drop}
use Rattle.tcl_lang.specs.Typing.{has_twice}
use Rattle.tcl_types.proofs.instruction.has_twice.Given as goal

abbrev pub invariant-loop-k : goal.invariant-loop-k
invariant-loop-k l = has_twice (drop l.k l.names) ≡ has_twice l.names
