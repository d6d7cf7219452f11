-- A row has a degree of at most 2.
use Rattle.std.proofs.Common.{◌∙◌, ◌≤◌, sym, subst, arith, Option, IfSome}
use Rattle.tcl_lang.specs.declared.term.Term.{Term}
use Rattle.tcl_lang.specs.Bound as bound
use Rattle.tcl_algebra.proofs.EquationsFit.{instruction_degree}
use Rattle.tcl_algebra.proofs.definitions.definition.Goals as goal

pub defined-requires-clause-degree : goal.defined-requires-clause-degree
defined-requires-clause-degree g c =
    let P : Option Term → Type 0 = λ o. IfSome o (λ t. bound.degree_of t ≤ 2) in
    let small : bound.degree_of c.in-Some.term ≤ 2 = subst P (sym c.in_ok-row.ensures ∙ c.in-Some.is) (instruction_degree c.args.instr.now) in
    omega (arith, small)
