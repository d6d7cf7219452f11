-- The first trial that the kernel takes refutes the goal.
use Rattle.std.proofs.Common.{◌≡◌, arith, subst}
use Rattle.tcl_kernel.specs.Trials.{NoTrialRefutes}
use Rattle.tcl_worker.proofs.trying.first_trial.Goals as goal

pub returns : goal.returns
returns c =
    let all : c.loop-k.k ≡ 256 = omega (arith, c.loop-k-test.false, c.loop-k.auto.k-end) in
    subst (NoTrialRefutes c.args.ssa.now c.args.goal) all c.loop-k.invariant
