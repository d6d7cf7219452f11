use Rattle.std.proofs.Common.{◌∙◌, ap, refl, arith, List, ℕ, [], take}
use Rattle.tcl_cnf.specs.Clause.{union}
use Rattle.tcl_cnf.proofs.ResolutionLemmas.{started}
use Rattle.tcl_sat.specs.Analysis.{DerivationState}
use Rattle.tcl_sat.proofs.derivation.Derivation.put_all.Goals as goal

pub returns : goal.returns
returns c =
    let lits = c.args.lits.now in
    let with : List ℕ → DerivationState = λ x. record { chain = c.args.self.now.chain; clause = x } in
    c.loop-lit.invariant ∙ ap with (started lits (union [] (take c.loop-lit.lit-index lits)) c.loop-lit.lit-index refl (omega arith) c.requires.increasing)
