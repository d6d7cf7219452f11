-- A break cites no lemma.
use Rattle.tcl_kernel.proofs.CitedLists.{break_shown}
use Rattle.tcl_kernel.proofs.proof.Proof.of_break.Goals as goal

pub invariant_of-result : goal.invariant_of-result
invariant_of-result c = break_shown c.args.ssa.now c.of.result.value c.new.result c.args.goal c.args.input c.of.ensures c.new.ensures c.requires
