-- The count is that of the definitions before the line.
use Rattle.std.proofs.Common.{◌≡◌, take}
use Rattle.tcl_lang.specs.Limit.{definition_count}
use Rattle.tcl_lang.proofs.names.definitions_before.Given as goal

abbrev pub invariant-loop-k : goal.invariant-loop-k
invariant-loop-k l = l.count ≡ definition_count (take l.k l.lines)
