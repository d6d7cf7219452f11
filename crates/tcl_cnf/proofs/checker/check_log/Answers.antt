use Rattle.tcl_cnf.proofs.LogLemmas.{answer_bad_line, answer_no_end, answer_refutes}
use Rattle.tcl_cnf.proofs.checker.check_log.Goals as goal

pub returns-clause-bad_line : goal.returns-clause-bad_line
returns-clause-bad_line c = answer_bad_line c.args.cnf.now c.args.lines.now c.in_ok-answer.answer c.in_ok-answer.ensures

pub returns-clause-no_end : goal.returns-clause-no_end
returns-clause-no_end c = answer_no_end c.args.cnf.now c.args.lines.now c.in_ok-answer.answer c.in_ok-answer.ensures

pub returns-clause-refutes : goal.returns-clause-refutes
returns-clause-refutes c = answer_refutes c.args.cnf.now c.args.lines.now c.in_ok-answer.answer c.in_ok-answer.ensures
