-- Sums of products over elements of a ring are those over their values.
use Rattle.std.proofs.Common.{◌≡◌, ℕ, ℤ, Bool, true, false, ◌+◌, ◌*◌, ◌&&◌, nat_lt, nat_le, if◌then◌else◌, List, [], ◌∷◌, length, map, refl, sym, ◌∙◌, ap, Option, Some, None}
use Rattle.std.proofs.lemmas.List.{length-map}
use Rattle.std.proofs.Math.ListN.{get_or-map}
use Rattle.tcl_ring.specs.Reduction.{reduced_by, is_wide}
use Rattle.tcl_poly.specs.Polynomial.{Polynomial, terms_of, norm_of, degree_of, sum_of, product_of, coefficient}
use Rattle.tcl_poly.specs.Combination.{Terms, equation_at, combination_of, weight_of}
use Rattle.tcl_poly.proofs.TermLists.{terms_itself, degree_of_values}
use Rattle.tcl_remainder.specs.declared.lines.CofactorLine.{CofactorLine}
use Rattle.tcl_remainder.specs.Terms.{polynomial_of}
use Rattle.tcl_remainder.specs.Lines.{valued, is_fitting, are_fitting, cofactors_of}
use Rattle.tcl_poly.specs.Monomial.{Monomial}
use Rattle.tcl_lang.specs.declared.term.AlgPred.{AlgPred}
use Rattle.tcl_algebra.specs.Equations.{modulus_of, claim_polynomial}
use Rattle.tcl_kernel.specs.declared.reason.Reason.{Reason}
use Rattle.tcl_kernel.specs.declared.reason.Reason.TheVariants as reason
use Rattle.tcl_kernel.specs.Reasons.{unless}
use Rattle.tcl_kernel.specs.SamePolynomials.{same_polynomial}
use Rattle.tcl_kernel.specs.CofactorCertificate.{ring_of, line_reason}
use Rattle.tcl_kernel.proofs.SamePolynomials.{polynomials_are, polynomial_itself}
use Rattle.tcl_kernel.proofs.Cofactors.{none_else, none_unless}

equation_values : {E : Type 0} (value : E → ℤ) (es : List (Terms E)) (k : ℕ) → equation_at (map (terms_of value) es) k ≡ terms_of value (equation_at es k)
equation_values value es k = get_or-map (terms_of value) es k []

fitting_value : {E : Type 0} (r : ℤ → ℤ) (value : E → ℤ) (es : List (Terms E)) (l : CofactorLine) → is_fitting r (map (terms_of value) es) l ≡ is_fitting r es l
fitting_value r value es l =
    ap (λ n. nat_lt l.equation n && nat_le (degree_of (polynomial_of r l.cofactor) + degree_of (equation_at (map (terms_of value) es) l.equation)) 1024) (length-map es (terms_of value))
    ∙ ap (λ n. nat_lt l.equation (length es) && nat_le (degree_of (polynomial_of r l.cofactor) + n) 1024)
    (ap degree_of (equation_values value es l.equation) ∙ degree_of_values value (equation_at es l.equation))

pub fitting_values : {E : Type 0} (r : ℤ → ℤ) (value : E → ℤ) (es : List (Terms E)) (lines : List CofactorLine) → are_fitting r (map (terms_of value) es) lines ≡ are_fitting r es lines
fitting_values r value es [] = refl
fitting_values r value es (l ∷ lines) =
    ap (λ b. b && are_fitting r (map (terms_of value) es) lines) (fitting_value r value es l)
    ∙ ap (λ b. is_fitting r es l && b) (fitting_values r value es lines)

pub combination_values : {E : Type 0} (r : ℤ → ℤ) (value : E → ℤ) (es : List (Terms E)) (cs : List (ℕ × Terms E)) → combination_of r (λ n. n) (map (terms_of value) es) (valued value cs) ≡ combination_of r value es cs
combination_values r value es [] = refl
combination_values r value es (c ∷ cs) =
    let rest = combination_of r (λ n. n) (map (terms_of value) es) (valued value cs) in
    ap (λ p. sum_of r (product_of r p (terms_of (λ n. n) (equation_at (map (terms_of value) es) c.0))) rest) (terms_itself (terms_of value c.1))
    ∙ ap (λ p. sum_of r (product_of r (terms_of value c.1) p) rest) (terms_itself (equation_at (map (terms_of value) es) c.0) ∙ equation_values value es c.0)
    ∙ ap (λ s. sum_of r (product_of r (terms_of value c.1) (terms_of value (equation_at es c.0))) s) (combination_values r value es cs)

pub weight_values : {E : Type 0} (value : E → ℤ) (es : List (Terms E)) (cs : List (ℕ × Terms E)) → weight_of (λ n. n) (map (terms_of value) es) (valued value cs) ≡ weight_of value es cs
weight_values value es [] = refl
weight_values value es (c ∷ cs) =
    let rest = weight_of (λ n. n) (map (terms_of value) es) (valued value cs) in
    ap (λ p. norm_of p * norm_of (terms_of (λ n. n) (equation_at (map (terms_of value) es) c.0)) + rest) (terms_itself (terms_of value c.1))
    ∙ ap (λ p. norm_of (terms_of value c.1) * norm_of p + rest) (terms_itself (equation_at (map (terms_of value) es) c.0) ∙ equation_values value es c.0)
    ∙ ap (λ n. norm_of (terms_of value c.1) * norm_of (terms_of value (equation_at es c.0)) + n) (weight_values value es cs)

-- the reason of the lines in the ring of a modulus, for this polynomial of the claim
abbrev sum_in : Option ℕ → Polynomial → List Polynomial → List CofactorLine → Option Reason
sum_in m q es lines =
    if is_wide m (weight_of (λ n. n) es (cofactors_of (reduced_by m) lines)) then Some reason.Wide
    else unless (same_polynomial q (combination_of (reduced_by m) (λ n. n) es (cofactors_of (reduced_by m) lines))) reason.Cofactors

abbrev line_in : Option ℕ → Polynomial → List Polynomial → List CofactorLine → Option Reason
line_in m q es lines = if are_fitting (reduced_by m) es lines then sum_in m q es lines else Some reason.Cofactors

moved : (f : AlgPred) (m : Option ℕ) (q : Polynomial) (es : List Polynomial) (lines : List CofactorLine) → m ≡ modulus_of f.modulus → q ≡ claim_polynomial (ring_of f) f → line_in m q es lines ≡ line_reason f es lines
moved f m q es lines same claim =
    ap (λ k. line_in k q es lines) same ∙ ap (λ p. line_in (modulus_of f.modulus) p es lines) claim

if_true : {X : Type 0} (b : Bool) (x y : X) → b ≡ true → (if b then x else y) ≡ x
if_true true x y e = refl
if_true false x y e = absurd (cc)

if_false : {X : Type 0} (b : Bool) (x y : X) → b ≡ false → (if b then x else y) ≡ y
if_false true x y e = absurd (cc)
if_false false x y e = refl

unless_false : (b : Bool) (r : Reason) → b ≡ false → unless b r ≡ Some r
unless_false true r e = absurd (cc)
unless_false false r e = refl

differ : (p q : Polynomial) (m : Monomial) → (coefficient p m ≡ coefficient q m → ⊥) → same_polynomial p q ≡ false
differ p q m apart = by (same_polynomial p q) refl
  where
    by : (b : Bool) → same_polynomial p q ≡ b → same_polynomial p q ≡ false
    by true e = absurd (apart (ap (λ x. coefficient x m) (polynomials_are p q e)))
    by false e = e

fits_in : {E : Type 0} (m : Option ℕ) (value : E → ℤ) (es : List (Terms E)) (q : Polynomial) (lines : List CofactorLine) → are_fitting (reduced_by m) es lines ≡ true → line_in m q (map (terms_of value) es) lines ≡ sum_in m q (map (terms_of value) es) lines
fits_in m value es q lines fits =
    if_true (are_fitting (reduced_by m) (map (terms_of value) es) lines) (sum_in m q (map (terms_of value) es) lines) (Some reason.Cofactors)
    (fitting_values (reduced_by m) value es lines ∙ fits)

-- what is known where the cofactors were made
pub record AreMade {E : Type 0} (m : Option ℕ) (value : E → ℤ) (es : List (Terms E)) (pairs : List (ℕ × Terms E)) (lines : List CofactorLine) : Type 0 where
  pub fits : are_fitting (reduced_by m) es lines ≡ true
  pub cofactors : valued value pairs ≡ cofactors_of (reduced_by m) lines

weight_in : {E : Type 0} (m : Option ℕ) (value : E → ℤ) (es : List (Terms E)) (pairs : List (ℕ × Terms E)) (lines : List CofactorLine) → AreMade m value es pairs lines → is_wide m (weight_of (λ n. n) (map (terms_of value) es) (cofactors_of (reduced_by m) lines)) ≡ is_wide m (weight_of value es pairs)
weight_in m value es pairs lines made =
    ap (is_wide m) (ap (λ cs. weight_of (λ n. n) (map (terms_of value) es) cs) (sym made.cofactors) ∙ weight_values value es pairs)

sum_is : {E : Type 0} (m : Option ℕ) (value : E → ℤ) (es : List (Terms E)) (pairs : List (ℕ × Terms E)) (lines : List CofactorLine) → AreMade m value es pairs lines → combination_of (reduced_by m) (λ n. n) (map (terms_of value) es) (cofactors_of (reduced_by m) lines) ≡ combination_of (reduced_by m) value es pairs
sum_is m value es pairs lines made =
    ap (λ cs. combination_of (reduced_by m) (λ n. n) (map (terms_of value) es) cs) (sym made.cofactors) ∙ combination_values (reduced_by m) value es pairs

pub equal_reason : {E : Type 0} (m : Option ℕ) (value : E → ℤ) (es : List (Terms E)) (pairs : List (ℕ × Terms E)) (claim : Terms E) (lines : List CofactorLine) (f : AlgPred) → AreMade m value es pairs lines → is_wide m (weight_of value es pairs) ≡ false → terms_of value claim ≡ combination_of (reduced_by m) value es pairs → m ≡ modulus_of f.modulus → terms_of value claim ≡ claim_polynomial (ring_of f) f → None ≡ line_reason f (map (terms_of value) es) lines
equal_reason m value es pairs claim lines f made narrow sum same is =
    let q = terms_of value claim in
    let all = map (terms_of value) es in
    sym (sym (moved f m q all lines same is) ∙ fits_in m value es q lines made.fits
    ∙ none_else (is_wide m (weight_of (λ n. n) all (cofactors_of (reduced_by m) lines))) _ reason.Wide (weight_in m value es pairs lines made ∙ narrow)
    (none_unless (same_polynomial q (combination_of (reduced_by m) (λ n. n) all (cofactors_of (reduced_by m) lines))) reason.Cofactors
    (ap (same_polynomial q) (sum_is m value es pairs lines made ∙ sym sum) ∙ polynomial_itself q)))

pub differs_reason : {E : Type 0} (m : Option ℕ) (value : E → ℤ) (es : List (Terms E)) (pairs : List (ℕ × Terms E)) (claim : Terms E) (lines : List CofactorLine) (f : AlgPred) (mono : Monomial) → AreMade m value es pairs lines → is_wide m (weight_of value es pairs) ≡ false → (coefficient (terms_of value claim) mono ≡ coefficient (combination_of (reduced_by m) value es pairs) mono → ⊥) → m ≡ modulus_of f.modulus → terms_of value claim ≡ claim_polynomial (ring_of f) f → Some reason.Cofactors ≡ line_reason f (map (terms_of value) es) lines
differs_reason m value es pairs claim lines f mono made narrow apart same is =
    let q = terms_of value claim in
    let all = map (terms_of value) es in
    sym (sym (moved f m q all lines same is) ∙ fits_in m value es q lines made.fits
    ∙ if_false (is_wide m (weight_of (λ n. n) all (cofactors_of (reduced_by m) lines))) (Some reason.Wide) _ (weight_in m value es pairs lines made ∙ narrow)
    ∙ unless_false (same_polynomial q (combination_of (reduced_by m) (λ n. n) all (cofactors_of (reduced_by m) lines))) reason.Cofactors
    (ap (same_polynomial q) (sum_is m value es pairs lines made) ∙ differ q (combination_of (reduced_by m) value es pairs) mono apart))

pub wide_sum_reason : {E : Type 0} (m : Option ℕ) (value : E → ℤ) (es : List (Terms E)) (pairs : List (ℕ × Terms E)) (claim : Terms E) (lines : List CofactorLine) (f : AlgPred) → AreMade m value es pairs lines → is_wide m (weight_of value es pairs) ≡ true → m ≡ modulus_of f.modulus → terms_of value claim ≡ claim_polynomial (ring_of f) f → Some reason.Wide ≡ line_reason f (map (terms_of value) es) lines
wide_sum_reason m value es pairs claim lines f made wide same is =
    let q = terms_of value claim in
    let all = map (terms_of value) es in
    sym (sym (moved f m q all lines same is) ∙ fits_in m value es q lines made.fits
    ∙ if_true (is_wide m (weight_of (λ n. n) all (cofactors_of (reduced_by m) lines))) (Some reason.Wide) _ (weight_in m value es pairs lines made ∙ wide))

pub unfit_reason : {E : Type 0} (m : Option ℕ) (value : E → ℤ) (es : List (Terms E)) (claim : Terms E) (lines : List CofactorLine) (f : AlgPred) → are_fitting (reduced_by m) es lines ≡ false → m ≡ modulus_of f.modulus → terms_of value claim ≡ claim_polynomial (ring_of f) f → Some reason.Cofactors ≡ line_reason f (map (terms_of value) es) lines
unfit_reason m value es claim lines f fits same is =
    let q = terms_of value claim in
    let all = map (terms_of value) es in
    sym (sym (moved f m q all lines same is)
    ∙ if_false (are_fitting (reduced_by m) all lines) (sum_in m q all lines) (Some reason.Cofactors) (fitting_values (reduced_by m) value es lines ∙ fits))
