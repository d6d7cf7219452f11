use Rattle.std.proofs.Common.{◌+◌, length, subst, ◌∙◌, ap, sym, take}
use Rattle.tcl_cnf.specs.Log.{IsLog, LogState, log_answer}
use Rattle.tcl_cnf.specs.FreshLogs.{DeriveFresh}
use Rattle.tcl_cnf.proofs.LogLemmas.{log_refutes, log_count, log_fresh}
use Rattle.tcl_cnf.proofs.log.Log.seal.Goals as goal

pub returns-clause-count : goal.returns-clause-count
returns-clause-count c =
    log_count c.args.self (subst IsLog c.self.view_is c.self.invariant.0) ∙ ap (λ (m : LogState). c.args.self.given + length m.lines) (sym c.self.view_is)

pub returns-clause-refutes : goal.returns-clause-refutes
returns-clause-refutes c =
    λ h. ap (λ (m : LogState). log_answer (take c.args.self.given c.args.self.clauses) m.lines) c.self.view_is ∙ log_refutes c.args.self (subst IsLog c.self.view_is c.self.invariant.0) h

pub returns-clause-fresh : goal.returns-clause-fresh
returns-clause-fresh c =
    λ cnf n f. subst (λ (m : LogState). DeriveFresh cnf n m.lines) (sym c.self.view_is) (log_fresh c.args.self cnf n (subst IsLog c.self.view_is c.self.invariant.0) f)
