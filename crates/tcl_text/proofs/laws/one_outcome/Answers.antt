use Rattle.tcl_text.proofs.OneOutcome as outcome
use Rattle.tcl_text.proofs.laws.one_outcome.Goals as goal

pub returns-clause-program : goal.returns-clause-program
returns-clause-program c = λ bytes p q a b. outcome.ok_program (outcome.one_outcome a b)

pub returns-clause-fault : goal.returns-clause-fault
returns-clause-fault c = λ bytes f g a b. outcome.err_fault (outcome.one_outcome a b)

pub returns-clause-apart : goal.returns-clause-apart
returns-clause-apart c = λ bytes p f a b. outcome.apart (outcome.one_outcome a b)
