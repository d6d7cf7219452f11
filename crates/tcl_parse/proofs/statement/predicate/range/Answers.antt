use Rattle.tcl_parse.proofs.StatementPredicates.{range_ends, range_goes_on}
use Rattle.tcl_parse.proofs.statement.predicate.range.Goals as goal

pub returns-in_ok-new : goal.returns-in_ok-new
returns-in_ok-new c =
    let r = rw c.in-Some.is at c.in_ok-pred.ensures.exact in
    record { exact = rw c.in_ok-new.ensures (range_ends r c.if-ends.ensures) }

pub returns-else-ends : goal.returns-else-ends
returns-else-ends c =
    let r = rw c.in-Some.is at c.in_ok-pred.ensures.exact in record { exact = range_goes_on r c.if-ends.ensures }
