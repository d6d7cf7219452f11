-- At the end of the shorter list the longer one is greater.
use Rattle.std.proofs.Common.{◌≤◌, length, sym, ◌∙◌, arith}
use Rattle.tcl_poly.specs.declared.factor.Factor.{Factor}
use Rattle.tcl_poly.specs.declared.factor.Unknown.TheVariants.{Var}
use Rattle.tcl_poly.proofs.FactorLists.{lex_longer, lex_shorter}
use Rattle.tcl_poly.proofs.mono.compare_factors.Goals as goal
use Rattle.tcl_poly.proofs.mono.compare_factors.Goals.{then-loop-k-test+else-k-b, else-loop-k-test}

-- any factor, for the reading past the end
spare : Factor
spare = record { unknown = Var 0; exponent = 0 }

pub returns-then-k-a : goal.returns-then-k-a
returns-then-k-a c =
    let a = c.args.a.now in let b = c.args.b.now in let k = c.loop-k.k in
    let ended : length b ≤ k = elim c.loop-k-test.branch [
      | then-loop-k-test+else-k-b w ↦ omega arith
      | else-loop-k-test w ↦ absurd (omega arith)
    ] in
    sym (lex_longer a b k spare (omega arith) ended) ∙ c.loop-k.invariant.2

pub returns-then-k-b-2 : goal.returns-then-k-b-2
returns-then-k-b-2 c =
    let a = c.args.a.now in let b = c.args.b.now in let k = c.loop-k.k in
    sym (lex_shorter a b k spare (omega arith) (omega arith)) ∙ c.loop-k.invariant.2
