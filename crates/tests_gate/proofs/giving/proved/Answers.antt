use Rattle.std.proofs.Common.{◌≡◌, true, subst, IfSome}
use Rattle.tcl_kernel.specs.Cited.{proof_of}
use Rattle.tests_gate.proofs.Gifts.{proof_fits}
use Rattle.tests_gate.proofs.giving.proved.Goals as goal

pub returns-in-Some : goal.returns-in-Some
returns-in-Some c =
    proof_fits c.args.ssa.now c.args.piece.now c.args.lemmas.now c.in_ok-fact.fact c.in-Some.witness c.in_ok-fact.ensures
    (subst (λ o. IfSome o (λ w. w ≡ proof_of c.args.ssa.now c.args.lemmas.now.items c.in_ok-fact.fact true)) c.in-Some.is c.in_ok-witness.ensures)
    c.shown-shown.ensures.holds

pub returns-in-None : goal.returns-in-None
returns-in-None c = c.spent.ensures c.args.ssa.now c.args.piece.now c.args.lemmas.now
