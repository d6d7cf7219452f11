-- Cofactors: the reason is exact, and a certificate that checks shows the fact.
use Rattle.std.proofs.Common.{◌≡◌, ◌↔◌, ◌<◌, ◌≤◌, ◌^◌, ℕ, Bool, true, false, if◌then◌else◌, nat_lt, nat_le, List, refl, sym, ◌∙◌, ap, arith, Option, Some, None}
use Rattle.std.proofs.lemmas.Bool.{and_parts, and_from}
use Rattle.std.proofs.lemmas.Bool.Decides.{nat_tests}
use Rattle.tcl_ring.specs.Reduction.{is_wide, IsModulus}
use Rattle.tcl_lang.specs.declared.term.Part.{Part}
use Rattle.tcl_lang.specs.declared.term.AlgPred.{AlgPred}
use Rattle.tcl_lang.specs.declared.pred.Pred.{Pred}
use Rattle.tcl_lang.specs.declared.pred.Pred.TheVariants.{Alg, Rng}
use Rattle.tcl_lang.specs.Program.{VersionedProgram}
use Rattle.tcl_lang.specs.Form.{IsWellFormed}
use Rattle.tcl_goals.specs.declared.fact.Fact.{Fact}
use Rattle.tcl_goals.specs.declared.lemma.Numbered.{Numbered}
use Rattle.tcl_goals.specs.Holds.{FactHolds}
use Rattle.tcl_goals.proofs.RunsAssign.{assignments_decide}
use Rattle.tcl_poly.specs.Polynomial.{Polynomial}
use Rattle.tcl_remainder.specs.declared.lines.CofactorLine.{CofactorLine}
use Rattle.tcl_remainder.specs.Lines.{are_fitting}
use Rattle.tcl_algebra.specs.Equations.{Begins, modulus_of, has_wide_modulus, is_wide_claim, claim_predicate, claim_polynomial, claim_begins}
use Rattle.tcl_algebra.specs.Equations.Begins.{TooWide, TooLarge, Ready}
use Rattle.tcl_algebra.specs.Ends.{equation_in, claim_equation}
use Rattle.tcl_algebra.proofs.Soundness.{combinations_prove}
use Rattle.tcl_kernel.specs.declared.reason.Reason.{Reason}
use Rattle.tcl_kernel.specs.declared.reason.Reason.TheVariants as reason
use Rattle.tcl_kernel.specs.Reasons.{unless}
use Rattle.tcl_kernel.specs.SamePolynomials.{same_polynomial}
use Rattle.tcl_kernel.specs.CofactorCertificate.{ring_of, is_ring, fact_equations, ring_cofactors, sum_of_products, sum_of_norms, CofactorCheck, sum_reason, line_reason, begin_reason, ring_reason, equation_reason, cofactor_reason}
use Rattle.tcl_kernel.proofs.SamePolynomials.{polynomials_are, polynomial_itself}

-- tests in their order
if_none : (b : Bool) (o : Option Reason) (r : Reason) → (if b then o else Some r) ≡ None → (b ≡ true) × (o ≡ None)
if_none true o r e = (refl, e)
if_none false o r e = absurd (cc)

pub none_if : (b : Bool) (o : Option Reason) (r : Reason) → b ≡ true → o ≡ None → (if b then o else Some r) ≡ None
none_if true o r e f = f
none_if false o r e f = absurd (cc)

else_none : (b : Bool) (o : Option Reason) (r : Reason) → (if b then Some r else o) ≡ None → (b ≡ false) × (o ≡ None)
else_none true o r e = absurd (cc)
else_none false o r e = (refl, e)

pub none_else : (b : Bool) (o : Option Reason) (r : Reason) → b ≡ false → o ≡ None → (if b then Some r else o) ≡ None
none_else true o r e f = absurd (cc)
none_else false o r e f = f

unless_none : (b : Bool) (r : Reason) → unless b r ≡ None → b ≡ true
unless_none true r e = refl
unless_none false r e = absurd (cc)

pub none_unless : (b : Bool) (r : Reason) → b ≡ true → unless b r ≡ None
none_unless true r e = refl
none_unless false r e = absurd (cc)

begin_none : (b : Begins) (o : Option Reason) → begin_reason b o ≡ None → (b ≡ Ready) × (o ≡ None)
begin_none Ready o e = (refl, e)
begin_none TooWide o e = absurd (cc)
begin_none (TooLarge what n) o e = absurd (cc)

none_begin : (b : Begins) (o : Option Reason) → b ≡ Ready → o ≡ None → begin_reason b o ≡ None
none_begin Ready o e f = f
none_begin TooWide o e f = absurd (cc)
none_begin (TooLarge what n) o e f = absurd (cc)

-- the sums
sums_none : (f : AlgPred) (equations : List Polynomial) (lines : List CofactorLine) → sum_reason f equations lines ≡ None → (is_wide (modulus_of f.modulus) (sum_of_norms f equations lines) ≡ false) × (claim_polynomial (ring_of f) f ≡ sum_of_products f equations lines)
sums_none f equations lines e =
    let parts = else_none (is_wide (modulus_of f.modulus) (sum_of_norms f equations lines)) (unless (same_polynomial (claim_polynomial (ring_of f) f) (sum_of_products f equations lines)) reason.Cofactors) reason.Wide e in
    (parts.0, polynomials_are (claim_polynomial (ring_of f) f) (sum_of_products f equations lines) (unless_none (same_polynomial (claim_polynomial (ring_of f) f) (sum_of_products f equations lines)) reason.Cofactors parts.1))

none_sums : (f : AlgPred) (equations : List Polynomial) (lines : List CofactorLine) → is_wide (modulus_of f.modulus) (sum_of_norms f equations lines) ≡ false → claim_polynomial (ring_of f) f ≡ sum_of_products f equations lines → sum_reason f equations lines ≡ None
none_sums f equations lines narrow sum =
    none_else (is_wide (modulus_of f.modulus) (sum_of_norms f equations lines)) (unless (same_polynomial (claim_polynomial (ring_of f) f) (sum_of_products f equations lines)) reason.Cofactors) reason.Wide narrow
    (none_unless (same_polynomial (claim_polynomial (ring_of f) f) (sum_of_products f equations lines)) reason.Cofactors
    (ap (λ q. same_polynomial (claim_polynomial (ring_of f) f) q) (sym sum) ∙ polynomial_itself (claim_polynomial (ring_of f) f)))

-- the whole
pub cofactors_exact : (p : VersionedProgram) (lemmas : List Numbered) (fact : Fact) (lines : List CofactorLine) → (cofactor_reason p lemmas fact lines ≡ None) ↔ CofactorCheck p lemmas fact lines
unfolding cofactor_reason
cofactors_exact p lemmas fact lines = (λ e. checks (claim_equation p fact.claim) refl e, none)
  where
    checks : (o : Option AlgPred) → claim_equation p fact.claim ≡ o → equation_reason p lemmas fact lines o ≡ None → CofactorCheck p lemmas fact lines
    checks None is e = absurd (cc)
    checks (Some f) is e =
        let es = fact_equations p lemmas fact f in
        let ring = if_none (is_ring (modulus_of f.modulus)) (begin_reason (claim_begins f) (line_reason f es lines)) reason.Cofactors e in
        let begins = begin_none (claim_begins f) (line_reason f es lines) ring.1 in
        let fits = if_none (are_fitting (ring_of f) es lines) (sum_reason f es lines) reason.Cofactors begins.1 in
        let sums = sums_none f es lines fits.1 in
        record { equation = f; claim = is; ring = ring.0; begins = begins.0; fitting = fits.0; narrow = sums.0; sum = sums.1 }

    none : CofactorCheck p lemmas fact lines → equation_reason p lemmas fact lines (claim_equation p fact.claim) ≡ None
    none c =
        let f = c.equation in
        let es = fact_equations p lemmas fact f in
        ap (equation_reason p lemmas fact lines) c.claim
        ∙ none_if (is_ring (modulus_of f.modulus)) (begin_reason (claim_begins f) (line_reason f es lines)) reason.Cofactors c.ring
        (none_begin (claim_begins f) (line_reason f es lines) c.begins
        (none_if (are_fitting (ring_of f) es lines) (sum_reason f es lines) reason.Cofactors c.fitting (none_sums f es lines c.narrow c.sum)))

-- the claim holds
ring_is : (m : Option ℕ) → is_ring m ≡ true → IsModulus m
ring_is None e = tt
ring_is (Some m) e =
    let parts = and_parts (nat_lt 0 m) (nat_le m (2 ^ 126)) e in (above m parts.0, below m (2 ^ 126) parts.1)
  where
    above : (n : ℕ) → nat_lt 0 n ≡ true → 0 < n
    above n h = grind (arith, nat_tests)

    below : (a b : ℕ) → nat_le a b ≡ true → a ≤ b
    below a b h = grind (arith, nat_tests)

equation_found : (o : Option Pred) (f : AlgPred) → equation_in o ≡ Some f → o ≡ Some (Alg f)
equation_found None f e = absurd (cc)
equation_found (Some (Alg g)) f e = let same : g ≡ f = cc in ap (λ h. Some (Alg h)) same
equation_found (Some (Rng g)) f e = absurd (cc)

pub cofactors_sound : (p : VersionedProgram) (lemmas : List Numbered) (fact : Fact) (lines : List CofactorLine) → IsWellFormed p → CofactorCheck p lemmas fact lines → FactHolds p lemmas fact
cofactors_sound p lemmas fact lines w c =
    let f = c.equation in
    assignments_decide p lemmas fact w
    (combinations_prove p lemmas fact f (ring_cofactors f lines) w (equation_found (claim_predicate p fact.claim) f c.claim) (ring_is (modulus_of f.modulus) c.ring) c.sum)

-- what the code has to show, in its own terms
pub no_equation : (p : VersionedProgram) (lemmas : List Numbered) (fact : Fact) (lines : List CofactorLine) → claim_equation p fact.claim ≡ None → Some reason.Cofactors ≡ cofactor_reason p lemmas fact lines
unfolding cofactor_reason
no_equation p lemmas fact lines e = sym (ap (equation_reason p lemmas fact lines) e)

pub ring_from : (m : Option ℕ) → IsModulus m → is_ring m ≡ true
ring_from None h = refl
ring_from (Some m) h = and_from (nat_lt 0 m) (nat_le m (2 ^ 126)) (above m h.0) (below m (2 ^ 126) h.1)
  where
    above : (n : ℕ) → 0 < n → nat_lt 0 n ≡ true
    above n h = grind (arith, nat_tests)

    below : (a b : ℕ) → a ≤ b → nat_le a b ≡ true
    below a b h = grind (arith, nat_tests)

pub begun_reason : (p : VersionedProgram) (lemmas : List Numbered) (fact : Fact) (lines : List CofactorLine) (f : AlgPred) (b : Begins) → claim_equation p fact.claim ≡ Some f → IsModulus (modulus_of f.modulus) → b ≡ claim_begins f → begin_reason b (line_reason f (fact_equations p lemmas fact f) lines) ≡ cofactor_reason p lemmas fact lines
unfolding cofactor_reason
begun_reason p lemmas fact lines f b is ring begins =
    let rest = line_reason f (fact_equations p lemmas fact f) lines in
    sym (ap (equation_reason p lemmas fact lines) is ∙ ap (λ t. ring_reason t (begin_reason (claim_begins f) rest)) (ring_from (modulus_of f.modulus) ring)
    ∙ ap (λ x. begin_reason x rest) (sym begins))

any_ring : (b : Bool) (o : Option Reason) → o ≡ Some reason.Cofactors → ring_reason b o ≡ Some reason.Cofactors
any_ring true o e = e
any_ring false o e = refl

wide_begins : (b : Bool) (rest : Begins) (o : Option Reason) → b ≡ true → begin_reason (if b then TooWide else rest) o ≡ Some reason.Cofactors
wide_begins true rest o e = refl
wide_begins false rest o e = absurd (cc)

wide_modulus : (f : AlgPred) (m : Option (List Part)) → has_wide_modulus m ≡ true → is_wide_claim f m ≡ true
wide_modulus f None e = absurd (cc)
wide_modulus f (Some m) e = e

pub wide_reason : (p : VersionedProgram) (lemmas : List Numbered) (fact : Fact) (lines : List CofactorLine) (f : AlgPred) → claim_equation p fact.claim ≡ Some f → has_wide_modulus f.modulus ≡ true → Some reason.Cofactors ≡ cofactor_reason p lemmas fact lines
unfolding cofactor_reason
wide_reason p lemmas fact lines f is wide =
    sym (ap (equation_reason p lemmas fact lines) is
    ∙ any_ring (is_ring (modulus_of f.modulus)) (begin_reason (claim_begins f) (line_reason f (fact_equations p lemmas fact f) lines))
    (wide_begins (is_wide_claim f f.modulus) _ (line_reason f (fact_equations p lemmas fact f) lines) (wide_modulus f f.modulus wide)))
