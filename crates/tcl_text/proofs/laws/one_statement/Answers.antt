use Rattle.tcl_text.proofs.OneStatement as statement
use Rattle.tcl_text.proofs.laws.one_statement.Goals as goal

pub returns : goal.returns
returns c = λ tokens s t p q. statement.one_statement p q
