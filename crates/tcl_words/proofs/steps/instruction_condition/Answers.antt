use Rattle.std.proofs.Common.{rules, ◌≡◌}
use Rattle.tcl_circuits.proofs.Within.{on_err}
use Rattle.tcl_words.specs.Steps.{condition_wire}
use Rattle.tcl_words.proofs.CallFacts.{none_tested, condition_longer}
use Rattle.tcl_words.proofs.steps.instruction_condition.Goals as goal

pub returns-in_err-a-clause-part : goal.returns-in_err-a-clause-part
returns-in_err-a-clause-part c = on_err c.from_residual.result (none_tested c.args.gates.now c.args.words.now c.args.variables.now c.args.i.now c.requires.within)

pub returns-in_err-b-clause-part : goal.returns-in_err-b-clause-part
returns-in_err-b-clause-part c = on_err c.from_residual-in_err-b.result (none_tested c.args.gates.now c.args.words.now c.args.variables.now c.args.i.now c.requires.within)

pub returns-in_err-c-clause-part : goal.returns-in_err-c-clause-part
returns-in_err-c-clause-part c = on_err c.from_residual-in_err-c.result (none_tested c.args.gates.now c.args.words.now c.args.variables.now c.args.i.now c.requires.within)

pub returns-clause-longer : goal.returns-clause-longer
returns-clause-longer c =
    let e : c.condition_lit.new.gates ≡ (condition_wire c.args.gates.now c.args.words.now c.args.variables.now c.args.i.now).gates = search rules in
    condition_longer c.args.gates.now c.condition_lit.new.gates c.args.words.now c.args.variables.now c.args.i.now c.requires.within e
