-- The cofactors in their order.
use Rattle.std.proofs.Common.{rules, ◌≡◌, [], reverse, sym, ◌∙◌, ap}
use Rattle.tcl_poly.specs.Polynomial as p
use Rattle.tcl_reduce.specs.Answer.{numbered}
use Rattle.tcl_reduce.specs.Reduction.Reduced.{Done}
use Rattle.tcl_reduce.specs.Remainder.{pairs_of}
use Rattle.tcl_reduce.proofs.PlainTurns.{numbered_reverse}
use Rattle.tcl_reduce.proofs.reduction.finish.Goals as goal

pub returns-then-is_zero : goal.returns-then-is_zero
returns-then-is_zero g c =
    let order : reverse (numbered c.args.cofactors.items) ≡ numbered c.from_vec-cofactors.result =
    sym (numbered_reverse c.args.cofactors.items) ∙ ap numbered (search rules) in
    let nothing : c.args.rest ≡ [] = search rules in
    λ value. λ i. Done (p.terms_of value (nothing i)) (pairs_of value (order i)) c.args.spent

pub returns : goal.returns
returns g c =
    let order : reverse (numbered c.args.cofactors.items) ≡ numbered c.from_vec-cofactors.result =
    sym (numbered_reverse c.args.cofactors.items) ∙ ap numbered (search rules) in
    λ value. (search rules, ap (λ z. Done (p.terms_of value c.args.rest) (pairs_of value z) c.args.spent) order)
