-- The results that are left, defined after those so far, are all results.
use Rattle.std.proofs.Common.{◌≡◌, drop}
use Rattle.tcl_lang.specs.Results.{result_types}
use Rattle.tcl_lang.specs.Versions.{define_results}
use Rattle.tcl_ssa.specs.Table.{versions_of}
use Rattle.tcl_ssa.proofs.table.Table.define_results.Given as goal

abbrev pub invariant-loop-k : goal.invariant-loop-k
invariant-loop-k l =
    define_results l.names (versions_of l.self) (drop l.k l.instr.outs) (drop l.k (result_types l.instr.op l.instr.ty))
    ≡ define_results l.names (versions_of l.fn.self) l.instr.outs (result_types l.instr.op l.instr.ty)
