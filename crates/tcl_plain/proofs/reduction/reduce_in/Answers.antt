-- The equations are those of the claim, and plain data has what is reduced.
use Rattle.std.proofs.Common.{◌≡◌, Some}
use Rattle.tcl_lang.specs.declared.term.AlgPred as declared
use Rattle.tcl_reduce.specs.Answer.{definitions_of}
use Rattle.tcl_reduce.specs.Reduction.{reduced_of}
use Rattle.tcl_poly.specs.Polynomial.{terms_of}
use Rattle.tcl_algebra.specs.Ends as ends
use Rattle.tcl_algebra.specs.Equations as equations
use Rattle.tcl_plain.specs.declared.outcome.Outcome.{Outcome}
use Rattle.tcl_plain.specs.Plain as words
use Rattle.tcl_plain.proofs.Holding.{claim_readable, claim_ended, if_ok, own_modulus}
use Rattle.tcl_plain.proofs.Proving.{outcome_shows}
use Rattle.tcl_plain.proofs.reduction.reduce_in.Goals as goal

pub reduced-requires : goal.reduced-requires
reduced-requires g c =
    claim_readable g.R.Ring.modulus_of g.R.Ring.amount c.args.ring.now c.args.ssa.now c.args.lemmas.now.items c.args.fact.now c.in-Ok.equations
    c.lines-form.ensures.well_formed c.requires.claim c.in-Ok.ensures.begins c.requires.ring c.in-Ok.ensures.equations c.in-Ok.ensures.ring

pub returns-in-Ok-clause-outcome : goal.returns-in-Ok-clause-outcome
returns-in-Ok-clause-outcome g c =
    let modulus = g.R.Ring.modulus_of in let amount = g.R.Ring.amount in
    let p = c.args.ssa.now in let fact = c.args.fact.now in let q = c.in-Ok.equations in
    let P : Outcome → Type 0 = λ o. o ≡ words.outcome_by (reduced_of (modulus q.ring) (definitions_of (amount q.ring) q.defs) (terms_of (amount q.ring) q.claim)) in
    let Q : Outcome → Type 0 = λ o. (f : declared.AlgPred) → ends.claim_equation p fact.claim ≡ Some f → o ≡ words.outcome_of (equations.claim_begins f) (words.plain_end p fact f) in
    if_ok P Q c.reduced.result
    (λ o is f e. claim_ended modulus amount c.args.ring.now p c.args.lemmas.now.items fact f q o (c.in-Ok.ensures.begins f e) (c.requires.ring f e) (c.in-Ok.ensures.equations f e) c.in-Ok.ensures.ring is)
    c.reduced.ensures

pub returns-in-Ok-clause-proof : goal.returns-in-Ok-clause-proof
returns-in-Ok-clause-proof g c =
    let p = c.args.ssa.now in let fact = c.args.fact.now in let lemmas = c.args.lemmas.now.items in
    let P : Outcome → Type 0 = λ o. (f : declared.AlgPred) → ends.claim_equation p fact.claim ≡ Some f → o ≡ words.outcome_of (equations.claim_begins f) (words.plain_end p fact f) in
    let Q : Outcome → Type 0 = λ o. (f : declared.AlgPred) → ends.claim_equation p fact.claim ≡ Some f → words.IsProof p lemmas fact f o in
    if_ok P Q c.reduced.result
    (λ o is f e. outcome_shows p lemmas fact f o c.lines-form.ensures.well_formed
    (own_modulus (g.R.Ring.modulus_of c.args.ring.now) (equations.modulus_of f.modulus) (c.requires.ring f e) (g.met.R.Ring.is_modulus c.args.ring.now)) e (is f e))
    (returns-in-Ok-clause-outcome g c)
