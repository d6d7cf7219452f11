use Rattle.tcl_parse.proofs.StatementPredicates.{no_equal, no_right, no_ending, is_equation}
use Rattle.tcl_parse.proofs.statement.predicate.equation.Goals as goal

pub returns-in_default-behind_sign : goal.returns-in_default-behind_sign
returns-in_default-behind_sign c =
    let f = rw c.in-Some.is at c.in_ok-left.ensures.exact in
    record { exact = no_equal f c.in_default-behind_sign.ensures }

pub returns-in_default-2 : goal.returns-in_default-2
returns-in_default-2 c =
    let f = rw c.in-Some.is at c.in_ok-left.ensures.exact in
    let g = rw c.in_default-2.is at c.in_ok-right.ensures.exact in
    record { exact = no_right f c.in-Some-behind_sign.ensures g }

pub returns-in_default-3 : goal.returns-in_default-3
returns-in_default-3 c =
    let f = rw c.in-Some.is at c.in_ok-left.ensures.exact in
    let g = rw c.in-Some-2.is at c.in_ok-right.ensures.exact in
    let m = rw c.in_default-3.is at c.in_ok-modulus.ensures.exact in
    record { exact = no_ending f c.in-Some-behind_sign.ensures g m }

pub returns : goal.returns
returns c =
    let f = rw c.in-Some.is at c.in_ok-left.ensures.exact in
    let g = rw c.in-Some-2.is at c.in_ok-right.ensures.exact in
    let m = rw c.in-Some-3.is at c.in_ok-modulus.ensures.exact in
    record { exact = is_equation f c.in-Some-behind_sign.ensures g m }
