-- What the plain reduction of a claim says.
use Rattle.std.proofs.Common.{◌≡◌, Bool, true, false, List, [], refl, sym, ◌∙◌, ap, Option, Some, None, if◌then◌else◌}
use Rattle.std.specs.Prelude.{is_some}
use Rattle.std.specs.List.{slice_get}
use Rattle.tcl_lang.specs.declared.term.AlgPred.{AlgPred}
use Rattle.tcl_lang.specs.declared.term.Part.{Part}
use Rattle.tcl_lang.specs.declared.pred.Pred.{Pred}
use Rattle.tcl_lang.specs.declared.pred.Pred.TheVariants.{Alg, Rng}
use Rattle.tcl_lang.specs.declared.pred.Line.{Line}
use Rattle.tcl_lang.specs.Line.{predicate_of, is_algebraic_in, is_algebraic}
use Rattle.tcl_lang.specs.Goal.{passes}
use Rattle.tcl_lang.specs.Program.{VersionedProgram}
use Rattle.tcl_lang.specs.Form.{IsWellFormed}
use Rattle.tcl_goals.specs.declared.fact.Claim.{Claim}
use Rattle.tcl_goals.specs.declared.fact.Claim.TheVariants as claim
use Rattle.tcl_goals.specs.declared.fact.Fact.{Fact}
use Rattle.tcl_goals.specs.Places.{goal_place}
use Rattle.tcl_goals.specs.Assignments.{HoldsOfAll}
use Rattle.tcl_reduce.specs.Reduction.{Reduced}
use Rattle.tcl_algebra.specs.Equations.{Begins, TooWide, predicate_in, claim_predicate, claim_begins, has_wide_modulus, is_wide_claim}
use Rattle.tcl_algebra.specs.Ends.{equation_in, claim_equation}
use Rattle.tcl_algebra.proofs.Soundness.{combinations_prove}
use Rattle.tcl_plain.specs.declared.outcome.Outcome.{Outcome}
use Rattle.tcl_plain.specs.declared.outcome.Outcome.TheVariants.{Zero, Rest, Wide, Large}
use Rattle.tcl_plain.specs.Plain.{plain_end, outcome_of, ring_cofactors, IsProof}
use Rattle.tcl_plain.proofs.Proving.{outcome_shows}
use Rattle.tcl_kernel.specs.BoundsCertificate.{is_algebraic_claim}
use Rattle.tcl_kernel.specs.PlainOutcome.{equation_outcome, plain_outcome}
use Rattle.tcl_settled.specs.Settled.{is_zero, is_zero_in, is_reduced}
use Rattle.tcl_settled.specs.Rings.{IsOfRing}

-- an algebraic goal states an equation, another goal none
equation_stated : (o : Option Pred) → is_some (equation_in o) ≡ is_algebraic_in o
equation_stated None = refl
equation_stated (Some (Alg f)) = refl
equation_stated (Some (Rng f)) = refl

equation_there : (o : Option Line) → is_some (equation_in (predicate_in o)) ≡ passes is_algebraic o
equation_there None = refl
equation_there (Some l) = equation_stated (predicate_of l)

equation_claimed : (p : VersionedProgram) (c : Claim) → is_some (claim_equation p c) ≡ is_algebraic_claim p.lines c
equation_claimed p (claim.Goal i) = equation_there (slice_get p.lines (goal_place p.lines i))
equation_claimed p (claim.Lemma m) = refl

equation_none : (o : Option AlgPred) → is_some o ≡ false → o ≡ None
equation_none None e = refl
equation_none (Some f) e = absurd (cc)

-- a claim that is no algebraic goal is not reduced
pub range_unreduced : (p : VersionedProgram) (fact : Fact) → is_algebraic_claim p.lines fact.claim ≡ false → is_reduced p fact ≡ false
unfolding plain_outcome
range_unreduced p fact e =
    ap (λ o. is_zero_in (equation_outcome p fact o)) (equation_none (claim_equation p fact.claim) (equation_claimed p fact.claim ∙ e))

-- a claim with an outcome is an algebraic goal
pub outcome_algebraic : (p : VersionedProgram) (fact : Fact) (o : Outcome) → plain_outcome p fact ≡ Some o → is_algebraic_claim p.lines fact.claim ≡ true
unfolding plain_outcome
outcome_algebraic p fact o e = sym (equation_claimed p fact.claim) ∙ there (claim_equation p fact.claim) e
  where
    there : (q : Option AlgPred) → equation_outcome p fact q ≡ Some o → is_some q ≡ true
    there None e = absurd (cc)
    there (Some f) e = refl

-- another outcome than zero
pub outcome_unreduced : (p : VersionedProgram) (fact : Fact) (o : Outcome) → plain_outcome p fact ≡ Some o → is_zero o ≡ false → is_reduced p fact ≡ false
outcome_unreduced p fact o e z = ap is_zero_in e ∙ z

-- where the reduction begins and ends with zero, the modulus of the claim is not wide
ready_narrow : (f : AlgPred) (m : Option (List Part)) → is_wide_claim f m ≡ false → has_wide_modulus m ≡ false
ready_narrow f None e = refl
ready_narrow f (Some m) e = e

begun_narrow : (wide : Bool) (other : Begins) (end : Reduced) → is_zero (outcome_of (if wide then TooWide else other) end) ≡ true → wide ≡ false
begun_narrow true other end e = absurd (cc)
begun_narrow false other end e = refl

zero_narrow : (f : AlgPred) (end : Reduced) → is_zero (outcome_of (claim_begins f) end) ≡ true → has_wide_modulus f.modulus ≡ false
zero_narrow f end e = ready_narrow f f.modulus (begun_narrow (is_wide_claim f f.modulus) _ end e)

-- a claim that is reduced to nothing holds in every assignment
equation_found : (o : Option Pred) (f : AlgPred) → equation_in o ≡ Some f → o ≡ Some (Alg f)
equation_found None f e = absurd (cc)
equation_found (Some (Alg g)) f e = let same : g ≡ f = cc in ap (λ h. Some (Alg h)) same
equation_found (Some (Rng g)) f e = absurd (cc)

proof_holds : (p : VersionedProgram) (fact : Fact) (f : AlgPred) (o : Outcome) → IsWellFormed p → claim_equation p fact.claim ≡ Some f → IsProof p [] fact f o → is_zero o ≡ true → HoldsOfAll p [] fact
proof_holds p fact f (Zero lines) w is proof e =
    combinations_prove p [] fact f (ring_cofactors f lines) w (equation_found (claim_predicate p fact.claim) f is) proof.ring proof.sum
proof_holds p fact f (Rest rest) w is proof e = absurd (cc)
proof_holds p fact f (Wide at) w is proof e = absurd (cc)
proof_holds p fact f (Large what n) w is proof e = absurd (cc)

pub reduced_holds : (p : VersionedProgram) (fact : Fact) → IsWellFormed p → IsOfRing p fact.claim → is_reduced p fact ≡ true → HoldsOfAll p [] fact
unfolding plain_outcome
reduced_holds p fact w ring e = at (claim_equation p fact.claim) refl e
  where
    at : (o : Option AlgPred) → claim_equation p fact.claim ≡ o → is_zero_in (equation_outcome p fact o) ≡ true → HoldsOfAll p [] fact
    at None is e = absurd (cc)
    at (Some f) is e =
        let ok = ring f is (zero_narrow f (plain_end p fact f) e) in
        let o = outcome_of (claim_begins f) (plain_end p fact f) in
        proof_holds p fact f o w is (outcome_shows p [] fact f o w ok is refl) e
