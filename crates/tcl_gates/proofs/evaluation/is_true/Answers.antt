use Rattle.std.proofs.Common.{◌∙◌, ap, not}
use Rattle.tcl_gates.specs.Gates.{value_at}
use Rattle.tcl_gates.proofs.Rows.{literal_odd, literal_even}
use Rattle.tcl_cnf.proofs.Bools.{true-false}
use Rattle.tcl_gates.proofs.evaluation.is_true.Goals as goal

pub returns-then-is_negated : goal.returns-then-is_negated
returns-then-is_negated c =
    ap (λ n. not (value_at c.args.values.now n)) c.variable.ensures ∙ literal_odd (value_at c.args.values.now) c.args.lit (c.is_negated.ensures.0 c.if-is_negated.true)

pub returns-else-is_negated : goal.returns-else-is_negated
returns-else-is_negated c =
    ap (λ n. value_at c.args.values.now n) c.variable.ensures
    ∙ literal_even (value_at c.args.values.now) c.args.lit (λ e. true-false c.is_negated.result (c.is_negated.ensures.1 e) c.if-is_negated.false)
