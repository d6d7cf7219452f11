use Rattle.tcl_circuits.proofs.Within.{on_err}
use Rattle.tcl_words.proofs.CallFacts.{none_made}
use Rattle.tcl_words.proofs.steps.instruction_words.Goals as goal

pub returns-in_err-a-clause-part : goal.returns-in_err-a-clause-part
returns-in_err-a-clause-part c = on_err c.from_residual.result (none_made c.args.gates.now c.args.words.now c.args.variables.now c.args.i.now c.requires.within)

pub returns-in_err-b-clause-part : goal.returns-in_err-b-clause-part
returns-in_err-b-clause-part c = on_err c.from_residual-in_err-b.result (none_made c.args.gates.now c.args.words.now c.args.variables.now c.args.i.now c.requires.within)

pub returns-in_err-c-clause-part : goal.returns-in_err-c-clause-part
returns-in_err-c-clause-part c = on_err c.from_residual-in_err-c.result (none_made c.args.gates.now c.args.words.now c.args.variables.now c.args.i.now c.requires.within)
