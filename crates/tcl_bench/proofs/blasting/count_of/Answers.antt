-- The whole fact of a goal is in order.
use Rattle.std.proofs.Common.{rules, ◌≡◌, true, sym, subst}
use Rattle.tcl_goals.specs.declared.fact.Fact.{Fact}
use Rattle.tcl_goals.specs.Order.{InOrder}
use Rattle.tcl_goals.specs.Places.{has_goal}
use Rattle.tcl_goals.proofs.PieceOrder.{whole_in_order}
use Rattle.tcl_bench.proofs.blasting.count_of.Goals as goal

pub clauses-requires-clause-order : goal.clauses-requires-clause-order
clauses-requires-clause-order c =
    let there : has_goal c.args.form.now.lines 0 ≡ true = search rules in
    subst (λ (f : Fact). InOrder c.args.form.now c.new.result.items f) (sym c.in_ok-fact.ensures) (whole_in_order c.args.form.now c.new.result.items 0 there)
