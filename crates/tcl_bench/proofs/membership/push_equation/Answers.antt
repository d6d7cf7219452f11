-- The equation is over the integers and not too deep.
use Rattle.std.proofs.Common.{None, List, sym, subst, arith}
use Rattle.tcl_poly.specs.Combination.{Terms, AreOver}
use Rattle.tcl_reduce.specs.Equated.{AreShallow}
use Rattle.tcl_bench.proofs.Equating.{over_pushed, shallow_pushed}
use Rattle.tcl_bench.proofs.membership.push_equation.Goals as goal

pub returns-clause-over : goal.returns-clause-over
returns-clause-over c =
    let P : List (Terms _) → Type 0 = λ z. AreOver None (λ n. n) z in
    subst P (sym c.in_ok-push.ensures.pushed) (over_pushed None (λ n. n) c.args.list.now c.args.equation c.requires.over c.requires.equation)

pub returns-clause-shallow : goal.returns-clause-shallow
returns-clause-shallow c =
    let P : List (Terms _) → Type 0 = λ z. AreShallow z in
    subst P (sym c.in_ok-push.ensures.pushed)
    (shallow_pushed c.args.list.now c.args.equation c.requires.shallow (omega (arith, c.degree.ensures, c.if-degree-gt1024.false)))
