use Rattle.std.proofs.Common.{rules, ◌≡◌}
use Rattle.tcl_lang.specs.declared.instr.Op.TheVariants.{Nondet}
use Rattle.tcl_words.specs.Listed.{listed}
use Rattle.tcl_words.specs.Steps.{instruction_lits}
use Rattle.tcl_words.proofs.CallFacts.{step_within, step_longer, words_made}
use Rattle.tcl_words.proofs.steps.set_instruction.Goals as goal

pub returns-clause-longer : goal.returns-clause-longer
returns-clause-longer c = step_longer c.args.gates.now c.instruction_words.new.gates c.args.words.now c.args.variables.now c.args.i.now c.requires.within c.in_ok-results.ensures.made

pub returns-clause-still_within : goal.returns-clause-still_within
returns-clause-still_within c =
    let taken : c.args.i.now.op ≡ Nondet → ⊥ = search rules in
    step_within c.args.gates.now c.instruction_words.new.gates c.args.words.now c.set_results.new.words c.args.variables.now c.args.i.now c.requires.within c.in_ok-results.ensures.made
    (words_made c.args.i.now.op c.args.words.now c.set_results.new.words c.args.i.now.outs (listed c.in_ok-results.results) (instruction_lits c.args.gates.now c.args.words.now c.args.variables.now c.args.i.now).words taken c.in_ok-results.ensures.words c.set_results.ensures)
