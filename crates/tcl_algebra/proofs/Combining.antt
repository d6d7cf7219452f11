-- A claim whose polynomial is a combination of equations that are 0 at a point holds there.
use Rattle.std.proofs.Common.{◌≡◌, ℕ, zero, suc, ◌^◌, refl, sym, ◌∙◌, ap, subst, arith, ℤ, pos, ◌-ℤ◌, unsigned_abs, Bool, true, nat_lt, List, [], ◌∷◌, map, get_or, Option, Some, None}
use Rattle.std.specs.List.{list_all, slice_get}
use Rattle.std.proofs.lemmas.Int.{ints}
use Rattle.std.proofs.lemmas.Bool.Decides.{Decides-int_eq}
use Rattle.tcl_num.specs.Congruence.{Divides, is_multiple}
use Rattle.tcl_num.proofs.IntegerRing.{int_mul_zero}
use Rattle.tcl_num.proofs.Congruences.{congruent_remainder}
use Rattle.tcl_num.proofs.Divisibility.{is_multiple_complete}
use Rattle.tcl_ring.specs.Reduction.{IsReduction, reduced_by, IsModulus}
use Rattle.tcl_ring.proofs.Reductions.{is_reduction}
use Rattle.tcl_poly.specs.Polynomial.{terms_of, product_of, value_of}
use Rattle.tcl_poly.proofs.Weights.{two_sums}
use Rattle.tcl_poly.proofs.Values.{value_sum, value_product}
use Rattle.tcl_poly.specs.Combination.{Terms, equation_at, combination_of}
use Rattle.tcl_lang.specs.declared.ty.Word.{Word}
use Rattle.tcl_lang.specs.declared.term.Part.{Part}
use Rattle.tcl_lang.specs.declared.term.AlgPred.{AlgPred}
use Rattle.tcl_lang.specs.declared.pred.Pred.{Pred}
use Rattle.tcl_lang.specs.declared.pred.Pred.TheVariants.{Alg}
use Rattle.tcl_lang.specs.declared.pred.Line.{Line}
use Rattle.tcl_lang.specs.declared.pred.Line.TheVariants.{Input, Pre, Step, Assert, Assume, Cut, Post}
use Rattle.tcl_lang.specs.Program.{VersionedProgram}
use Rattle.tcl_lang.specs.Names.{term_names, predicate_names}
use Rattle.tcl_lang.specs.Term.{term_value}
use Rattle.tcl_lang.specs.Modulus.{modulus_value}
use Rattle.tcl_lang.specs.Predicate.{agrees, predicate_truth}
use Rattle.tcl_lang.specs.Goal.{truth_in}
use Rattle.tcl_goals.specs.declared.fact.Claim.{Claim}
use Rattle.tcl_goals.specs.declared.fact.Claim.TheVariants as claim
use Rattle.tcl_goals.specs.Places.{goal_place}
use Rattle.tcl_term_poly.specs.Point.{point_of}
use Rattle.tcl_term_poly.specs.TermPolynomial.{polynomial_of}
use Rattle.tcl_algebra.specs.Equations.{predicate_in, Placed, claim_predicate, modulus_of, claim_polynomial}
use Rattle.tcl_algebra.specs.Zero.{AreZero}
use Rattle.tcl_algebra.proofs.Stores.{line_in}
use Rattle.tcl_term_poly.proofs.TermValues.{two_products, value_difference, term_valued, parts}

-- an equation of the list is 0
zero_at : (r : ℤ → ℤ) → IsReduction r → (point : ℕ → ℤ) (es : List Placed) (k : ℕ) → AreZero r point es → r (value_of point (get_or (map (λ e. e.1) es) k [])) ≡ pos 0
zero_at r ring point [] k h = ring.null
zero_at r ring point (e ∷ es) zero h = h.0
zero_at r ring point (e ∷ es) (suc k) h = zero_at r ring point es k h.1

pub terms_at : {E : Type 0} (value : E → ℤ) (ps : List (Terms E)) (k : ℕ) → terms_of value (get_or ps k []) ≡ get_or (map (terms_of value) ps) k []
terms_at value [] k = refl
terms_at value (p ∷ ps) zero = refl
terms_at value (p ∷ ps) (suc k) = terms_at value ps k

-- a combination of them is 0
pub combination_zero : {E : Type 0} (r : ℤ → ℤ) → IsReduction r → (value : E → ℤ) (point : ℕ → ℤ) (es : List Placed) (equations : List (Terms E)) (cofactors : List (ℕ × Terms E)) → AreZero r point es → map (terms_of value) equations ≡ map (λ e. e.1) es → r (value_of point (combination_of r value equations cofactors)) ≡ pos 0
combination_zero r ring value point es equations [] h same = ring.null
combination_zero r ring value point es equations (c ∷ cs) h same =
    let p = terms_of value c.1 in
    let q = terms_of value (equation_at equations c.0) in
    let zero_q : r (value_of point q) ≡ r (pos 0) =
    ap (λ s. r (value_of point s)) (terms_at value equations c.0 ∙ ap (λ ps. get_or ps c.0 []) same) ∙ zero_at r ring point es c.0 h ∙ sym ring.null in
    let first : r (value_of point (product_of r p q)) ≡ r (pos 0) =
    value_product r ring point p q
    ∙ two_products r ring (value_of point p) (value_of point p) (value_of point q) (pos 0) refl zero_q
    ∙ ap r (int_mul_zero (value_of point p)) in
    value_sum r ring point (product_of r p q) (combination_of r value equations cs)
    ∙ two_sums r ring (value_of point (product_of r p q)) (pos 0) (value_of point (combination_of r value equations cs)) (pos 0) first
    (combination_zero r ring value point es equations cs h same ∙ sym ring.null)
    ∙ ring.null

-- what a difference that is 0 in the ring of the modulus says
multiple_abs : (m n : ℤ) → is_multiple (pos (unsigned_abs m)) n ≡ true → is_multiple m n ≡ true
unfolding is_multiple
multiple_abs m n e = e

divides_of : (m : ℕ) (n : ℤ) → IsModulus (Some m) → reduced_by (Some m) n ≡ pos 0 → Divides (pos m) n
divides_of m n ok e = let c = congruent_remainder m n ok.0 in (c.0, omega (arith, ints, c.1, e))

agrees_by : (store : List Word) (f : AlgPred) (o : Option (List Part)) → IsModulus (modulus_of o) → reduced_by (modulus_of o) (term_value store f.left -ℤ term_value store f.right) ≡ pos 0 → agrees store f.left f.right o ≡ true
agrees_by store f None ok e = (Decides-int_eq (term_value store f.left) (term_value store f.right)).1 (omega (arith, ints, e))
agrees_by store f (Some m) ok e =
    let n = term_value store f.left -ℤ term_value store f.right in
    multiple_abs (modulus_value m) n (is_multiple_complete (pos (unsigned_abs (modulus_value m))) n (divides_of (unsigned_abs (modulus_value m)) n ok e))

pred_is : (store : List Word) (p : Pred) (f : AlgPred) → Some p ≡ Some (Alg f) → agrees store f.left f.right f.modulus ≡ true → predicate_truth store p ≡ true
pred_is store p f e h = subst (λ (q : Pred). predicate_truth store q ≡ true) (sym (same p (Alg f) e)) h
  where
    same : (p q : Pred) → Some p ≡ Some q → p ≡ q
    same p q e = cc

truth_is : (store : List Word) (o : Option Line) (f : AlgPred) → predicate_in o ≡ Some (Alg f) → agrees store f.left f.right f.modulus ≡ true → truth_in store o ≡ true
truth_is store None f e h = refl
truth_is store (Some (Input T x)) f e h = refl
truth_is store (Some (Pre p)) f e h = pred_is store p f e h
truth_is store (Some (Step i)) f e h = absurd (cc)
truth_is store (Some (Assert p)) f e h = pred_is store p f e h
truth_is store (Some (Assume p)) f e h = pred_is store p f e h
truth_is store (Some (Cut p)) f e h = pred_is store p f e h
truth_is store (Some (Post p)) f e h = pred_is store p f e h

-- the line of a goal is true in a store where the claim's polynomial is 0
abbrev pub goal_in : VersionedProgram → List Word → Claim → Bool
goal_in p store (claim.Goal i) = line_in p store (goal_place p.lines i)
goal_in p store (claim.Lemma m) = true

pub claim_holds : (p : VersionedProgram) (store : List Word) (quotients : ℕ → ℤ) (c : Claim) (f : AlgPred) → claim_predicate p c ≡ Some (Alg f) → IsModulus (modulus_of f.modulus) → list_all (λ v. nat_lt v (2 ^ 32)) (predicate_names (Alg f)) ≡ true → reduced_by (modulus_of f.modulus) (value_of (point_of store quotients) (claim_polynomial (reduced_by (modulus_of f.modulus)) f)) ≡ pos 0 → goal_in p store c ≡ true
claim_holds p store quotients (claim.Goal i) f is ok narrow e =
    let r = reduced_by (modulus_of f.modulus) in
    let ring = is_reduction (modulus_of f.modulus) ok in
    let two = parts (term_names f.left) (term_names f.right) narrow in
    truth_is store (slice_get p.lines (goal_place p.lines i)) f is
    (agrees_by store f f.modulus ok
    (sym (value_difference r ring (point_of store quotients) (polynomial_of r f.left) (polynomial_of r f.right) (term_value store f.left) (term_value store f.right)
    (term_valued r ring store quotients f.left two.0) (term_valued r ring store quotients f.right two.1)) ∙ e))
claim_holds p store quotients (claim.Lemma m) f is ok narrow e = absurd (cc)
