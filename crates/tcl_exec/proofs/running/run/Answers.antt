-- The values of a run are in their types.
use Rattle.std.proofs.Common.{arith, ◌≡◌, ℤ, sym, subst, List}
use Rattle.std.proofs.lemmas.Grind.{common_steps}
use Rattle.tcl_lang.specs.Values.{AreValues, trace_of}
use Rattle.tcl_lang.proofs.ValueSteps.{trace_values}
use Rattle.tcl_exec.proofs.running.run.Goals as goal

pub returns-clause-typed : goal.returns-clause-typed
returns-clause-typed c =
    let same : c.from_vec.result ≡ trace_of c.args.ssa.now c.args.input.now = grind (arith, common_steps) in
    subst (λ (ns : List ℤ). AreValues c.args.ssa.now.variables ns) (sym same) (trace_values c.args.ssa.now c.args.input.now c.variables.ensures.well_formed c.requires)
