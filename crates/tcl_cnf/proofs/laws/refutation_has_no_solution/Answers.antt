use Rattle.std.proofs.Common.{refl}
use Rattle.tcl_cnf.specs.Log.{log_answer}
use Rattle.tcl_cnf.proofs.LogLemmas.{answer_sound}
use Rattle.tcl_cnf.proofs.laws.refutation_has_no_solution.Goals as goal

pub returns : goal.returns
returns c = λ clauses lines e. answer_sound clauses lines (log_answer clauses lines) refl e
