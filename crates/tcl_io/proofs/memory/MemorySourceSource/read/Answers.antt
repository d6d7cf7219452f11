use Rattle.std.proofs.Common.{arith}
use Rattle.tcl_io.proofs.Failures.{failed_rose, kept_after}
use Rattle.tcl_io.proofs.memory.MemorySourceSource.read.Goals as goal

pub returns-then-is_failing-clause-failed : goal.returns-then-is_failing-clause-failed
returns-then-is_failing-clause-failed c =
    λ _. failed_rose c.args.self.now.failing.items c.args.self.now.calls c.saturating_add-self.result (cc) c.saturating_add-self.ensures

pub returns-then-is_failing-clause-faults : goal.returns-then-is_failing-clause-faults
returns-then-is_failing-clause-faults c =
    kept_after c.args.self.now.failing.items c.args.self.now.calls c.saturating_add-self.result (omega arith) c.saturating_add-self.ensures

pub returns-then-is_empty-clause-faults : goal.returns-then-is_empty-clause-faults
returns-then-is_empty-clause-faults c =
    kept_after c.args.self.now.failing.items c.args.self.now.calls c.saturating_add-self.result (omega arith) c.saturating_add-self.ensures

pub returns-clause-faults : goal.returns-clause-faults
returns-clause-faults c =
    kept_after c.args.self.now.failing.items c.args.self.now.calls c.saturating_add-self.result (omega arith) c.saturating_add-self.ensures
