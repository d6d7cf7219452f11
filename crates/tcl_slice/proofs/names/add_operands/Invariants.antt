-- The operands that are left.
use Rattle.std.proofs.Common.{◌≡◌, drop}
use Rattle.std.specs.List.{fold}
use Rattle.tcl_slice.specs.Naming as naming
use Rattle.tcl_slice.proofs.names.add_operands.Given as goal

abbrev pub invariant-loop-k : goal.invariant-loop-k
invariant-loop-k l = fold naming.with_operand l.list (drop l.k l.atoms) ≡ fold naming.with_operand l.fn.list l.atoms
