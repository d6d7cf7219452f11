-- One result more.
use Rattle.tcl_lang.specs.Results.{result_types}
use Rattle.tcl_lang.specs.Versions.{define_results}
use Rattle.tcl_ssa.specs.Table.{versions_of}
use Rattle.tcl_ssa.proofs.Forms.{results_turn}
use Rattle.tcl_ssa.proofs.table.Table.define_results.Goals as goal

pub loop-k-preserved : goal.loop-k-preserved
loop-k-preserved c =
    let i = c.args.instr.now in
    results_turn c.args.names.now (versions_of c.loop-k.self) (versions_of c.define.new.self)
    (define_results c.args.names.now (versions_of c.args.self.now) i.outs (result_types i.op i.ty)) i.outs (result_types i.op i.ty)
    c.loop-k.k c.at.result.now c.result_type-ty.result c.at.ensures c.result_type-ty.ensures c.in_ok-define.ensures c.loop-k.invariant
