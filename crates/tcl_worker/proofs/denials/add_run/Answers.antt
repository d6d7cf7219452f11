-- A run gives an assignment.
use Rattle.std.proofs.Common.{sym, subst}
use Rattle.tcl_goals.specs.Assignments.{Assigns}
use Rattle.tcl_goals.proofs.RunsAssign.{runs_assign}
use Rattle.tcl_worker.proofs.denials.add_run.Goals as goal

pub add_if_met-requires-clause-assigns : goal.add_if_met-requires-clause-assigns
add_if_met-requires-clause-assigns c =
    subst (Assigns c.args.ssa.now c.args.fact.now) (sym c.in_ok-values.ensures.trace)
    (runs_assign c.args.ssa.now c.args.fact.now c.in_ok-input.input c.requires.formed c.in_ok-input.ensures.fits).assigns
