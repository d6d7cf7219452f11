-- What the plain reduction of a claim that ends with zero shows.
use Rattle.std.proofs.Common.{◌≡◌, Bool, true, false, List, [], refl, sym, ◌∙◌, ap, subst, Option, Some, None}
use Rattle.std.specs.Prelude.{is_some, not}
use Rattle.std.specs.List.{slice_get}
use Rattle.tcl_ring.specs.Reduction.{IsModulus}
use Rattle.tcl_lang.specs.declared.ty.Ty.{Ty}
use Rattle.tcl_lang.specs.declared.term.AlgPred.{AlgPred}
use Rattle.tcl_lang.specs.declared.term.Part.{Part}
use Rattle.tcl_lang.specs.declared.term.Term.{Term}
use Rattle.tcl_lang.specs.declared.pred.Pred.{Pred}
use Rattle.tcl_lang.specs.declared.pred.Pred.TheVariants.{Alg, Rng}
use Rattle.tcl_lang.specs.declared.pred.Line.{Line}
use Rattle.tcl_lang.specs.Line.{predicate_of, is_algebraic_in, is_algebraic}
use Rattle.tcl_lang.specs.Goal.{passes}
use Rattle.tcl_lang.specs.Modulus.{is_wide_modulus}
use Rattle.tcl_lang.specs.Narrow.{is_narrow_equation, is_narrow_stated}
use Rattle.tcl_lang.specs.Program.{VersionedProgram}
use Rattle.tcl_lang.specs.Values.{types_of}
use Rattle.tcl_lang.specs.Form.{IsWellFormed}
use Rattle.tcl_goals.specs.declared.fact.Claim.{Claim}
use Rattle.tcl_goals.specs.declared.fact.Claim.TheVariants as claim
use Rattle.tcl_goals.specs.declared.fact.Fact.{Fact}
use Rattle.tcl_goals.specs.Places.{goal_place}
use Rattle.tcl_goals.specs.Assignments.{HoldsOfAll}
use Rattle.tcl_enum.specs.NarrowFact.{is_narrow_in, is_narrow_claim}
use Rattle.tcl_remainder.specs.declared.lines.CofactorLine.{CofactorLine}
use Rattle.tcl_algebra.specs.Equations.{predicate_in, claim_predicate, claim_begins, modulus_of, has_wide_modulus}
use Rattle.tcl_algebra.specs.Ends.{equation_in, claim_equation}
use Rattle.tcl_algebra.proofs.Soundness.{combinations_prove}
use Rattle.tcl_plain.specs.declared.outcome.Outcome.{Outcome}
use Rattle.tcl_plain.specs.declared.outcome.Outcome.TheVariants.{Zero, Rest, Wide, Large}
use Rattle.tcl_plain.specs.Plain.{plain_end, outcome_of, ring_cofactors, AreProof, IsProof}
use Rattle.tcl_plain.proofs.Proving.{outcome_shows}
use Rattle.tcl_kernel.specs.BoundsCertificate.{is_algebraic_claim}
use Rattle.tcl_kernel.specs.CofactorCertificate.{CofactorCheck}
use Rattle.tcl_kernel.specs.PlainOutcome.{equation_outcome, plain_outcome}
use Rattle.tcl_kernel.proofs.Cofactors.{ring_from}
use Rattle.tcl_worker.specs.Reduced.{is_zero, is_zero_in, is_reduced}

-- an algebraic goal states an equation, another goal none
equation_stated : (o : Option Pred) → is_some (equation_in o) ≡ is_algebraic_in o
equation_stated None = refl
equation_stated (Some (Alg f)) = refl
equation_stated (Some (Rng f)) = refl

equation_there : (o : Option Line) → is_some (equation_in (predicate_in o)) ≡ passes is_algebraic o
equation_there None = refl
equation_there (Some l) = equation_stated (predicate_of l)

equation_claimed : (p : VersionedProgram) (c : Claim) → is_some (claim_equation p c) ≡ is_algebraic_claim p.lines c
equation_claimed p (claim.Goal i) = equation_there (slice_get p.lines (goal_place p.lines i))
equation_claimed p (claim.Lemma m) = refl

pub algebraic_equation : (p : VersionedProgram) (fact : Fact) → is_algebraic_claim p.lines fact.claim ≡ true → is_some (claim_equation p fact.claim) ≡ true
algebraic_equation p fact e = equation_claimed p fact.claim ∙ e

pub equation_is : (o : Option AlgPred) → is_some o ≡ true → (f : AlgPred) × (o ≡ Some f)
equation_is None e = absurd (cc)
equation_is (Some f) e = (f, refl)

equation_none : (o : Option AlgPred) → is_some o ≡ false → o ≡ None
equation_none None e = refl
equation_none (Some f) e = absurd (cc)

-- a claim that is no algebraic goal is not reduced
pub range_unreduced : (p : VersionedProgram) (fact : Fact) → is_algebraic_claim p.lines fact.claim ≡ false → is_reduced p fact ≡ false
unfolding plain_outcome
range_unreduced p fact e =
    ap (λ o. is_zero_in (equation_outcome p fact o)) (equation_none (claim_equation p fact.claim) (equation_claimed p fact.claim ∙ e))

-- the outcome that the reduction tells
pub outcome_told : (p : VersionedProgram) (fact : Fact) (o : Outcome) → is_some (claim_equation p fact.claim) ≡ true → ((f : AlgPred) → claim_equation p fact.claim ≡ Some f → o ≡ outcome_of (claim_begins f) (plain_end p fact f)) → plain_outcome p fact ≡ Some o
unfolding plain_outcome
outcome_told p fact o some told =
    let found = equation_is (claim_equation p fact.claim) some in
    ap (equation_outcome p fact) found.1 ∙ ap Some (sym (told found.0 found.1))

pub outcome_unreduced : (p : VersionedProgram) (fact : Fact) (o : Outcome) → plain_outcome p fact ≡ Some o → is_zero o ≡ false → is_reduced p fact ≡ false
outcome_unreduced p fact o e z = ap is_zero_in e ∙ z

-- the lines of a zero check
pub zero_checks : (p : VersionedProgram) (fact : Fact) (lines : List CofactorLine) → is_some (claim_equation p fact.claim) ≡ true → ((f : AlgPred) → claim_equation p fact.claim ≡ Some f → AreProof p [] fact f lines) → CofactorCheck p [] fact lines
zero_checks p fact lines some proof =
    let found = equation_is (claim_equation p fact.claim) some in
    let known = proof found.0 found.1 in
    record { equation = found.0; claim = found.1; ring = ring_from (modulus_of found.0.modulus) known.ring; begins = known.begins; fitting = known.fitting; narrow = known.narrow; sum = known.sum }

-- the modulus of a narrow claim is not wide
not_wide : (b : Bool) → not b ≡ true → b ≡ false
not_wide true e = absurd (cc)
not_wide false e = refl

narrow_modulus : (types : List Ty) (left right : Term) (m : Option (List Part)) → is_narrow_equation types left right m ≡ true → has_wide_modulus m ≡ false
narrow_modulus types left right None e = refl
narrow_modulus types left right (Some m) e = not_wide (is_wide_modulus m) e

narrow_stated : (types : List Ty) (o : Option Pred) (f : AlgPred) → is_narrow_stated types o ≡ true → equation_in o ≡ Some f → has_wide_modulus f.modulus ≡ false
narrow_stated types None f e is = absurd (cc)
narrow_stated types (Some (Alg g)) f e is =
    let same : g ≡ f = cc in subst (λ (h : AlgPred). has_wide_modulus h.modulus ≡ false) same (narrow_modulus types g.left g.right g.modulus e)
narrow_stated types (Some (Rng g)) f e is = absurd (cc)

narrow_line : (types : List Ty) (o : Option Line) (f : AlgPred) → is_narrow_in types o ≡ true → equation_in (predicate_in o) ≡ Some f → has_wide_modulus f.modulus ≡ false
narrow_line types None f e is = absurd (cc)
narrow_line types (Some l) f e is = narrow_stated types (predicate_of l) f e is

pub narrow_claim : (p : VersionedProgram) (c : Claim) (f : AlgPred) → is_narrow_claim p c ≡ true → claim_equation p c ≡ Some f → has_wide_modulus f.modulus ≡ false
narrow_claim p (claim.Goal i) f e is = narrow_line (types_of p.variables) (slice_get p.lines (goal_place p.lines i)) f e is
narrow_claim p (claim.Lemma m) f e is = absurd (cc)

-- a narrow claim that is reduced to nothing holds in every assignment
abbrev pub KnowsRing : VersionedProgram → Fact → Type 0
KnowsRing p fact =
    (f : AlgPred) → claim_equation p fact.claim ≡ Some f → has_wide_modulus f.modulus ≡ false → IsModulus (modulus_of f.modulus)

equation_found : (o : Option Pred) (f : AlgPred) → equation_in o ≡ Some f → o ≡ Some (Alg f)
equation_found None f e = absurd (cc)
equation_found (Some (Alg g)) f e = let same : g ≡ f = cc in ap (λ h. Some (Alg h)) same
equation_found (Some (Rng g)) f e = absurd (cc)

proof_holds : (p : VersionedProgram) (fact : Fact) (f : AlgPred) (o : Outcome) → IsWellFormed p → claim_equation p fact.claim ≡ Some f → IsProof p [] fact f o → is_zero o ≡ true → HoldsOfAll p [] fact
proof_holds p fact f (Zero lines) w is proof e =
    combinations_prove p [] fact f (ring_cofactors f lines) w (equation_found (claim_predicate p fact.claim) f is) proof.ring proof.sum
proof_holds p fact f (Rest rest) w is proof e = absurd (cc)
proof_holds p fact f (Wide at) w is proof e = absurd (cc)
proof_holds p fact f (Large what n) w is proof e = absurd (cc)

pub reduced_holds : (p : VersionedProgram) (fact : Fact) → IsWellFormed p → KnowsRing p fact → is_narrow_claim p fact.claim ≡ true → is_reduced p fact ≡ true → HoldsOfAll p [] fact
unfolding plain_outcome
reduced_holds p fact w ring narrow e = at (claim_equation p fact.claim) refl e
  where
    at : (o : Option AlgPred) → claim_equation p fact.claim ≡ o → is_zero_in (equation_outcome p fact o) ≡ true → HoldsOfAll p [] fact
    at None is e = absurd (cc)
    at (Some f) is e =
        let ok = ring f is (narrow_claim p fact.claim f narrow is) in
        let o = outcome_of (claim_begins f) (plain_end p fact f) in
        proof_holds p fact f o w is (outcome_shows p [] fact f o w ok is refl) e
