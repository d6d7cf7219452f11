use Rattle.std.proofs.Common.{rules, ◌≡◌}
use Rattle.tcl_lang.specs.Values.{types_of}
use Rattle.tcl_lang.specs.declared.range.RngPred.TheViews as range_pred
use Rattle.tcl_circuits.proofs.Within.{on_err}
use Rattle.tcl_words.proofs.PredParts.{both_first, both_second, both_third, either_first, either_second, either_third}
use Rattle.tcl_words.proofs.predicates.+range_pred.Goals as goal

pub returns-in_err-first-in-Both-clause-part : goal.returns-in_err-first-in-Both-clause-part
returns-in_err-first-in-Both-clause-part t c =
    let is : c.args.pred.now ≡ range_pred.Both c.get-in-Both.result.now c.in-Both.right = search rules in
    on_err c.from_residual-in_err-first-in-Both.result (both_first c.args.words.now (types_of c.args.variables.now) c.args.pred.now c.get-in-Both.result.now c.in-Both.right c.args.gates.now c.range_pred-in-Both.new.gates is c.in_err-first-in-Both.ensures.part)

pub returns-in_err-second-in-Both-clause-part : goal.returns-in_err-second-in-Both-clause-part
returns-in_err-second-in-Both-clause-part t c =
    let is : c.args.pred.now ≡ range_pred.Both c.get-in-Both.result.now c.get-in-Both-2.result.now = search rules in
    on_err c.from_residual-in_err-second-in-Both.result (both_second c.args.words.now (types_of c.args.variables.now) c.args.pred.now c.get-in-Both.result.now c.get-in-Both-2.result.now c.args.gates.now c.range_pred-in-Both.new.gates c.range_pred-in-Both-2.new.gates is
    c.in_ok-first-in-Both.ensures.made c.in_err-second-in-Both.ensures.part)

pub returns-in_err-lit-in-Both-clause-part : goal.returns-in_err-lit-in-Both-clause-part
returns-in_err-lit-in-Both-clause-part t c =
    let is : c.args.pred.now ≡ range_pred.Both c.get-in-Both.result.now c.get-in-Both-2.result.now = search rules in
    on_err c.from_residual-in_err-lit-in-Both.result (both_third c.args.words.now (types_of c.args.variables.now) c.args.pred.now c.get-in-Both.result.now c.get-in-Both-2.result.now c.args.gates.now c.range_pred-in-Both.new.gates c.range_pred-in-Both-2.new.gates c.add_and.new.gates is
    c.in_ok-first-in-Both.ensures.made c.in_ok-second-in-Both.ensures.made c.in_err-lit-in-Both.ensures.unchanged)

pub returns-in_err-first-in-Either-clause-part : goal.returns-in_err-first-in-Either-clause-part
returns-in_err-first-in-Either-clause-part t c =
    let is : c.args.pred.now ≡ range_pred.Either c.get-in-Either.result.now c.in-Either.right = search rules in
    on_err c.from_residual-in_err-first-in-Either.result (either_first c.args.words.now (types_of c.args.variables.now) c.args.pred.now c.get-in-Either.result.now c.in-Either.right c.args.gates.now c.range_pred-in-Either.new.gates is c.in_err-first-in-Either.ensures.part)

pub returns-in_err-second-in-Either-clause-part : goal.returns-in_err-second-in-Either-clause-part
returns-in_err-second-in-Either-clause-part t c =
    let is : c.args.pred.now ≡ range_pred.Either c.get-in-Either.result.now c.get-in-Either-2.result.now = search rules in
    on_err c.from_residual-in_err-second-in-Either.result (either_second c.args.words.now (types_of c.args.variables.now) c.args.pred.now c.get-in-Either.result.now c.get-in-Either-2.result.now c.args.gates.now c.range_pred-in-Either.new.gates c.range_pred-in-Either-2.new.gates is
    c.in_ok-first-in-Either.ensures.made c.in_err-second-in-Either.ensures.part)

pub returns-in_err-lit-in-Either-clause-part : goal.returns-in_err-lit-in-Either-clause-part
returns-in_err-lit-in-Either-clause-part t c =
    let is : c.args.pred.now ≡ range_pred.Either c.get-in-Either.result.now c.get-in-Either-2.result.now = search rules in
    on_err c.from_residual-in_err-lit-in-Either.result (either_third c.args.words.now (types_of c.args.variables.now) c.args.pred.now c.get-in-Either.result.now c.get-in-Either-2.result.now c.args.gates.now c.range_pred-in-Either.new.gates c.range_pred-in-Either-2.new.gates c.add_or.new.gates is
    c.in_ok-first-in-Either.ensures.made c.in_ok-second-in-Either.ensures.made c.in_err-lit-in-Either.ensures.unchanged)
