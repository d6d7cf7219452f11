use Rattle.std.proofs.Common.{arith, ◌∙◌, sym, ap}
use Rattle.tcl_cnf.specs.Clause.{has}
use Rattle.tcl_cnf.proofs.ResolutionLemmas.{two_clashes}
use Rattle.tcl_cnf.proofs.resolution.single_clash.Goals as goal

pub returns-then-is_some : goal.returns-then-is_some
returns-then-is_some c =
    two_clashes c.args.lits.now c.args.marks.now c.loop-lit.lit-index c.lit-item.result c.loop-lit.found c.loop-lit.invariant
    (sym c.is_some.ensures ∙ c.if-is_some.true) (omega arith) c.lit-item.is
    (ap (λ l. has l c.args.marks.now) (sym c.negation.ensures) ∙ sym c.has.ensures ∙ c.if-has.true)
