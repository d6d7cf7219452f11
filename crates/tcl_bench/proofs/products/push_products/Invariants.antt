-- The words stay within the gates.
use Rattle.std.proofs.Common.{length}
use Rattle.tcl_gates.specs.Meaning.{AreWithin}
use Rattle.tcl_bench.proofs.products.push_products.Given as goal

abbrev pub invariant-loop : goal.invariant-loop
invariant-loop l = AreWithin (length l.gates) l.a × AreWithin (length l.gates) l.b
