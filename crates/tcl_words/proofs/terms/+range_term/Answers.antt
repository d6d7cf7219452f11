use Rattle.std.proofs.Common.{rules, ◌≡◌}
use Rattle.tcl_lang.specs.Values.{types_of}
use Rattle.tcl_lang.specs.declared.range.RngTerm.TheViews as range_term
use Rattle.tcl_circuits.proofs.Within.{on_err}
use Rattle.tcl_words.proofs.RangeParts.{neg_first, neg_second, flip_all, cast_all, bin_first, bin_second, bin_third}
use Rattle.tcl_words.proofs.terms.+range_term.Goals as goal

pub returns-in_err-word-in-Neg-clause-part : goal.returns-in_err-word-in-Neg-clause-part
returns-in_err-word-in-Neg-clause-part t c =
    let is : c.args.term.now ≡ range_term.Neg c.get.result.now = search rules in
    on_err c.from_residual.result (neg_first c.args.words.now (types_of c.args.variables.now) c.args.term.now c.get.result.now c.args.gates.now c.range_term.new.gates is c.in_err-word-in-Neg.ensures.part)

pub returns-in_err-negation-in-Neg-clause-part : goal.returns-in_err-negation-in-Neg-clause-part
returns-in_err-negation-in-Neg-clause-part t c =
    let is : c.args.term.now ≡ range_term.Neg c.get.result.now = search rules in
    on_err c.from_residual-in_err-negation-in-Neg.result (neg_second c.args.words.now (types_of c.args.variables.now) c.args.term.now c.get.result.now c.args.gates.now c.range_term.new.gates c.negation.new.gates c.in_ok-word-in-Neg.field-0.word is
    c.in_ok-word-in-Neg.ensures.made c.in_ok-word-in-Neg.ensures.word c.in_err-negation-in-Neg.ensures.part)

pub returns-in_err-first-in-Bin-clause-part : goal.returns-in_err-first-in-Bin-clause-part
returns-in_err-first-in-Bin-clause-part t c =
    let is : c.args.term.now ≡ range_term.Bin c.in-Bin.op c.get-in-Bin.result.now c.in-Bin.right = search rules in
    on_err c.from_residual-in_err-first-in-Bin.result (bin_first c.args.words.now (types_of c.args.variables.now) c.args.term.now c.get-in-Bin.result.now c.in-Bin.right c.in-Bin.op c.args.gates.now c.range_term-in-Bin.new.gates is c.in_err-first-in-Bin.ensures.part)

pub returns-in_err-second-in-Bin-clause-part : goal.returns-in_err-second-in-Bin-clause-part
returns-in_err-second-in-Bin-clause-part t c =
    let is : c.args.term.now ≡ range_term.Bin c.in-Bin.op c.get-in-Bin.result.now c.get-in-Bin-2.result.now = search rules in
    on_err c.from_residual-in_err-second-in-Bin.result (bin_second c.args.words.now (types_of c.args.variables.now) c.args.term.now c.get-in-Bin.result.now c.get-in-Bin-2.result.now c.in-Bin.op c.args.gates.now c.range_term-in-Bin.new.gates c.range_term-in-Bin-2.new.gates is
    c.in_ok-first-in-Bin.ensures.made c.in_err-second-in-Bin.ensures.part)

pub returns-in_err-combine-in-Bin-clause-part : goal.returns-in_err-combine-in-Bin-clause-part
returns-in_err-combine-in-Bin-clause-part t c =
    let is : c.args.term.now ≡ range_term.Bin c.in-Bin.op c.get-in-Bin.result.now c.get-in-Bin-2.result.now = search rules in
    on_err c.from_residual-in_err-combine-in-Bin.result (bin_third c.args.words.now (types_of c.args.variables.now) c.args.term.now c.get-in-Bin.result.now c.get-in-Bin-2.result.now c.in-Bin.op c.args.gates.now c.range_term-in-Bin.new.gates c.range_term-in-Bin-2.new.gates c.combine.new.gates
    c.in_ok-first-in-Bin.first.word c.in_ok-second-in-Bin.second.word is
    (record { first = c.in_ok-first-in-Bin.ensures.made; second = c.in_ok-second-in-Bin.ensures.made; one = c.in_ok-first-in-Bin.ensures.word; other = c.in_ok-second-in-Bin.ensures.word }) c.in_err-combine-in-Bin.ensures.part)

pub returns-in_err-negated_word-in-Flip-clause-part : goal.returns-in_err-negated_word-in-Flip-clause-part
returns-in_err-negated_word-in-Flip-clause-part t c =
    let is : c.args.term.now ≡ range_term.Flip c.get-in-Flip.result.now = search rules in
    on_err c.from_residual-in_err-negated_word-in-Flip.result (flip_all c.args.words.now (types_of c.args.variables.now) c.args.term.now c.get-in-Flip.result.now c.args.gates.now c.range_term-in-Flip.new.gates is c.in_ok-word-in-Flip.ensures.made)

pub returns-in_err-extend-in-Cast-clause-part : goal.returns-in_err-extend-in-Cast-clause-part
returns-in_err-extend-in-Cast-clause-part t c =
    let is : c.args.term.now ≡ range_term.Cast c.in-Cast.to c.get-in-Cast.result.now = search rules in
    on_err c.from_residual-in_err-extend-in-Cast.result (cast_all c.args.words.now (types_of c.args.variables.now) c.args.term.now c.get-in-Cast.result.now c.in-Cast.to c.args.gates.now c.range_term-in-Cast.new.gates is c.in_ok-word-in-Cast.ensures.made)
