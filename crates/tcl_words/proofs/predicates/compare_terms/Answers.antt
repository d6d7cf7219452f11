use Rattle.std.proofs.lemmas.Result.{on_err_weaker}
use Rattle.tcl_lang.specs.Values.{types_of}
use Rattle.tcl_circuits.proofs.Within.{on_err}
use Rattle.tcl_words.proofs.PredParts.{sides_first, sides_second, sides_third}
use Rattle.tcl_words.proofs.predicates.compare_terms.Goals as goal

pub returns-in_err-first-clause-part : goal.returns-in_err-first-clause-part
returns-in_err-first-clause-part c =
    on_err c.from_residual.result (sides_first c.args.words.now (types_of c.args.variables.now) c.args.op c.args.left.now c.args.right.now c.args.gates.now c.range_term.new.gates c.in_err-first.ensures.part)

pub returns-in_err-second-clause-part : goal.returns-in_err-second-clause-part
returns-in_err-second-clause-part c =
    on_err c.from_residual-in_err-second.result (sides_second c.args.words.now (types_of c.args.variables.now) c.args.op c.args.left.now c.args.right.now c.args.gates.now c.range_term.new.gates c.range_term-2.new.gates
    c.in_ok-first.ensures.made c.in_err-second.ensures.part)

pub returns-clause-part : goal.returns-clause-part
returns-clause-part c =
    on_err_weaker c.compare.result (sides_third c.args.words.now (types_of c.args.variables.now) c.args.op c.args.left.now c.args.right.now c.args.gates.now c.range_term.new.gates c.range_term-2.new.gates c.compare.new.gates
    c.in_ok-first.first.word c.in_ok-second.second.word c.in_ok-first.first.ty
    (record { first = c.in_ok-first.ensures.made; second = c.in_ok-second.ensures.made; one = c.in_ok-first.ensures.word; other = c.in_ok-second.ensures.word; ty = c.in_ok-first.ensures.ty })) c.compare.ensures.part
