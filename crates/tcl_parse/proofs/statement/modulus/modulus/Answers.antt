use Rattle.tcl_parse.proofs.StatementModulus.{no_first_part, parts_begin, parts_go_on, parts_stop, parts_end_here, parts_nowhere}
use Rattle.tcl_parse.proofs.statement.modulus.modulus.Goals as goal

pub returns-in_default : goal.returns-in_default
returns-in_default c = record { exact = no_first_part c.in_default.ensures.exact }

pub loop-minus-init : goal.loop-minus-init
loop-minus-init c =
    rw (c.in_ok-push.ensures.pushed, c.new-parts.ensures)
    (parts_begin c.in-Some.first.tree c.in-Some.first.rest.now c.in-Some.ensures.exact)

pub returns-in_default-one_part : goal.returns-in_default-one_part
returns-in_default-one_part c = record {
  exact = parts_stop c.in-Some-sign_at.minus c.loop-minus.invariant c.in-Some-sign_at.ensures c.in_default-one_part.ensures.exact;
}

pub loop-minus-preserved : goal.loop-minus-preserved
loop-minus-preserved c =
    rw c.in_ok-push-2.ensures.pushed
    (parts_go_on c.in-Some-sign_at.minus c.in-Some-one_part.next.tree c.loop-minus.invariant c.in-Some-sign_at.ensures
    c.in-Some-one_part.ensures.exact)

pub returns-then-ends : goal.returns-then-ends
returns-then-ends c = record { exact = parts_end_here c.loop-minus.invariant c.if-ends.ensures }

pub returns-else-ends : goal.returns-else-ends
returns-else-ends c = record { exact = parts_nowhere c.loop-minus.invariant c.in_default-sign_at.ensures c.if-ends.ensures }
