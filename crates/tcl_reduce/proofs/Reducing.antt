-- A reduction keeps the polynomial, and what it gives fits the exact comparison.
use Rattle.std.proofs.Common.{◌≡◌, ℕ, zero, suc, min, ◌+◌, ◌-◌, ◌*◌, ◌^◌, ◌<◌, ◌≤◌, refl, sym, ◌∙◌, ap, subst, arith, Bool, true, false, leb, List, [], ◌∷◌, le_trans, ℤ, negsuc, ◌+ℤ◌, ◌*ℤ◌, Option, Some, None}
use Rattle.std.proofs.Math.Nat.{mul-le-mul_left}
use Rattle.std.proofs.lemmas.Bool.Decides.{nat_tests}
use Rattle.std.proofs.lemmas.Int.{ints}
use Rattle.tcl_ring.specs.Reduction.{IsReduction, reduced_by, is_wide}
use Rattle.tcl_poly.specs.Monomial.{Monomial, times}
use Rattle.tcl_poly.specs.Polynomial.{Polynomial, IsPolynomial, front, sum_of, scaled, product_of, norm_of, degree_of, weigh, power_of}
use Rattle.tcl_poly.proofs.Weights.{right_sum, reduced_weight, weigh_sum, weigh_scaled}
use Rattle.tcl_poly.proofs.Canonical.{sum_is, scaled_is, product_is, power_is, same_alike}
use Rattle.tcl_poly.proofs.RingLaws.{sum_assoc, sum_nothing}
use Rattle.tcl_poly.proofs.Norms.{narrower}
use Rattle.tcl_poly.proofs.Degrees.{within_degree}
use Rattle.tcl_reduce.specs.Parts.{part, top, coefficients}
use Rattle.tcl_reduce.specs.Substitution.{substituted, cofactor_by, bound_of, degree_by, terms_by}
use Rattle.tcl_reduce.specs.Reduction.{Definition, definition_at, equation_of, Reduced, first_fault, reduced_at, rest_at, cofactor_at, reduced_from}
use Rattle.tcl_reduce.specs.Reduction.Reduced.{Done, TooWide, TooLarge}
use Rattle.tcl_reduce.specs.Step.{IsCovered}
use Rattle.tcl_reduce.specs.Remainder.{RiseFrom}
use Rattle.tcl_reduce.proofs.PartLemmas.{part_is}
use Rattle.tcl_reduce.proofs.Substituting.{substituted_is, cofactor_by_is, substitution_kept}
use Rattle.tcl_reduce.proofs.NormBounds.{part_norm, equation_norm, substituted_norm, cofactor_norm, top_occurs}
use Rattle.tcl_reduce.proofs.DegreeBounds.{depth, row_depth, substituted_within, cofactor_within, equation_within}

-- ---- the equation of a definition

pub equation_is : (r : ℤ → ℤ) → IsReduction r → (x : Definition) → IsPolynomial r x.2 → IsPolynomial r (equation_of r x)
equation_is r ring x h = sum_is r ring (power_of r x.1 1) (scaled r ([], negsuc 0) x.2) (power_is r ring x.1 1) (scaled_is r ring ([], negsuc 0) x.2 tt h)

-- a factor that is reduced gives the same product
pub scaled_reduced : (r : ℤ → ℤ) → IsReduction r → (m : Monomial) (c : ℤ) (p : Polynomial) → scaled r (m, r c) p ≡ scaled r (m, c) p
scaled_reduced r ring m c [] = refl
scaled_reduced r ring m c (u ∷ p) = λ i. front (times m u.0) (reduced_weight r ring c u.1 i) (scaled_reduced r ring m c p i)

-- the equation as it is made: the variable and the product with the element for -1
pub equation_made : (r : ℤ → ℤ) → IsReduction r → (x : Definition) (minus : ℤ) (v n e : Polynomial) → minus ≡ r (negsuc 0) → v ≡ power_of r x.1 1 → n ≡ scaled r ([], minus) x.2 → e ≡ sum_of r v n → e ≡ equation_of r x
equation_made r ring x minus v n e one variable product sum =
    sum ∙ (λ i. sum_of r (variable i) ((product ∙ ap (λ c. scaled r ([], c) x.2) one ∙ scaled_reduced r ring [] (negsuc 0) x.2) i))

minus_one : (a b : ℤ) → a +ℤ (b +ℤ negsuc 0 *ℤ a) ≡ b
minus_one a b = omega (arith, ints)

-- the variable is the definition's polynomial plus the equation
pub equation_says : (r : ℤ → ℤ) → (ring : IsReduction r) → (x : Definition) → IsPolynomial r x.2 → power_of r x.1 1 ≡ sum_of r x.2 (equation_of r x)
equation_says r ring x h =
    let v = power_of r x.1 1 in let d = x.2 in let e = equation_of r x in let s = scaled r ([], negsuc 0) d in
    same_alike r ring v (sum_of r d e) (power_is r ring x.1 1) (sum_is r ring d e h (equation_is r ring x h))
    (λ φ. sym (weigh_sum r ring φ d e
    ∙ right_sum r ring (weigh φ d) (weigh φ e) (weigh φ v +ℤ negsuc 0 *ℤ weigh φ d) (weigh_sum r ring φ v s
    ∙ right_sum r ring (weigh φ v) (weigh φ s) (negsuc 0 *ℤ weigh φ d) (weigh_scaled r ring φ ([], negsuc 0) d))
    ∙ ap r (minus_one (weigh φ d) (weigh φ v))))

-- ---- combinations, where e gives the equation of each number

abbrev pub combined : (ℤ → ℤ) → (ℕ → Polynomial) → List (ℕ × Polynomial) → Polynomial
combined r e [] = []
combined r e (c ∷ cs) = sum_of r (product_of r c.1 (e c.0)) (combined r e cs)

abbrev pub weight : (ℕ → Polynomial) → List (ℕ × Polynomial) → ℕ
weight e [] = 0
weight e (c ∷ cs) = norm_of c.1 * norm_of (e c.0) + weight e cs

abbrev pub AreFit : (ℤ → ℤ) → (ℕ → Polynomial) → List (ℕ × Polynomial) → Type 0
AreFit r e [] = Unit {0}
AreFit r e (c ∷ cs) = IsPolynomial r c.1 × IsPolynomial r (e c.0) × (degree_of c.1 + degree_of (e c.0) ≤ 1024) × AreFit r e cs

combined_is : (r : ℤ → ℤ) → IsReduction r → (e : ℕ → Polynomial) (cs : List (ℕ × Polynomial)) → AreFit r e cs → IsPolynomial r (combined r e cs)
combined_is r ring e [] h = tt
combined_is r ring e (c ∷ cs) h = sum_is r ring (product_of r c.1 (e c.0)) (combined r e cs) (product_is r ring c.1 (e c.0) h.0 h.1) (combined_is r ring e cs h.3)

-- ---- what holds between two definitions

abbrev pub IsSpent : Option ℕ → ℕ → ℕ → Type 0
IsSpent None weight spent = weight ≤ spent
IsSpent (Some m) weight spent = Unit {0}

pub record IsState (m : Option ℕ) (e : ℕ → Polynomial) (n end : ℕ) (first f : Polynomial) (spent : ℕ) (cs : List (ℕ × Polynomial)) : Type 0 where
  pub rest : IsPolynomial (reduced_by m) f
  pub degree : degree_of f ≤ 1024
  pub covered : IsCovered m (norm_of f) spent
  pub fit : AreFit (reduced_by m) e cs
  pub rise : RiseFrom n end cs
  pub kept : first ≡ sum_of (reduced_by m) f (combined (reduced_by m) e cs)
  pub spending : IsSpent m (weight e cs) spent
  pub narrow : is_wide m (weight e cs) ≡ false

pub below_end : (n spent bound end : ℕ) → min n end ≤ spent → leb end (spent + bound) ≡ false → n ≤ spent
below_end n spent bound end h e = grind (arith, nat_tests)

pub covered_next : (m : Option ℕ) (x : Definition) (f : Polynomial) (spent k : ℕ) → IsCovered m (norm_of f) spent → is_wide m (spent + bound_of x.2 (coefficients x.1 f) (suc k)) ≡ false → IsCovered m (norm_of (substituted (reduced_by m) x.2 (coefficients x.1 f) (suc (suc k)))) (spent + bound_of x.2 (coefficients x.1 f) (suc k))
covered_next None x f spent k h w =
    let b = bound_of x.2 (coefficients x.1 f) (suc k) in
    omega (arith, below_end (norm_of f) spent b (2 ^ 127) h w, substituted_norm x.1 x.2 f (suc k), part_norm x.1 0 f)
covered_next (Some m) x f spent k h w = tt

weight_next : (m : Option ℕ) (e : ℕ → Polynomial) (number : ℕ) (x : Definition) (f : Polynomial) (spent k : ℕ) (cs : List (ℕ × Polynomial)) → e number ≡ equation_of (reduced_by m) x → IsSpent m (weight e cs) spent → IsSpent m (weight e ((number, cofactor_by (reduced_by m) x.1 x.2 (coefficients x.1 f) (suc (suc k))) ∷ cs)) (spent + bound_of x.2 (coefficients x.1 f) (suc k))
weight_next None e number x f spent k cs s h =
    let c = cofactor_by (reduced_by None) x.1 x.2 (coefficients x.1 f) (suc (suc k)) in
    let row : norm_of c * norm_of (equation_of (reduced_by None) x) ≤ norm_of c * (1 + norm_of x.2) = mul-le-mul_left (norm_of c) (equation_norm x) in
    omega (arith, row, cofactor_norm x.1 x.2 f (suc k), ap (λ p. norm_of c * norm_of p) s, h)
weight_next (Some m) e number x f spent k cs s h = tt

narrow_next : (m : Option ℕ) (w spent : ℕ) → IsSpent m w spent → is_wide m spent ≡ false → is_wide m w ≡ false
narrow_next None w spent h n = narrower None spent w n h
narrow_next (Some m) w spent h n = refl

rise_weaker : (j k end : ℕ) (cs : List (ℕ × Polynomial)) → j ≤ k → RiseFrom k end cs → RiseFrom j end cs
rise_weaker j k end [] h i = tt
rise_weaker j k end (c ∷ cs) h i = (le_trans h i.0, i.1, i.2)

-- one definition that is substituted
next_at : (m : Option ℕ) → IsReduction (reduced_by m) → (e : ℕ → Polynomial) (number end : ℕ) (x : Definition) (first f : Polynomial) (spent k : ℕ) (cs : List (ℕ × Polynomial)) → e number ≡ equation_of (reduced_by m) x → number < end → IsPolynomial (reduced_by m) x.2 → IsState m e (suc number) end first f spent cs → top x.1 f ≡ suc k → is_wide m (spent + bound_of x.2 (coefficients x.1 f) (suc k)) ≡ false → leb 1025 (degree_by x.2 (coefficients x.1 f) (suc (suc k))) ≡ false → IsState m e number end first (substituted (reduced_by m) x.2 (coefficients x.1 f) (suc (suc k))) (spent + bound_of x.2 (coefficients x.1 f) (suc k)) ((number, cofactor_by (reduced_by m) x.1 x.2 (coefficients x.1 f) (suc (suc k))) ∷ cs)
next_at m ring e number end x first f spent k cs s l h state t w deep =
    let r = reduced_by m in let u = x.1 in let d = x.2 in
    let g = substituted r d (coefficients u f) (suc (suc k)) in let c = cofactor_by r u d (coefficients u f) (suc (suc k)) in
    let q = equation_of r x in let others = combined r e cs in
    let g_is = substituted_is r ring u d f (suc (suc k)) h state.rest in
    let c_is = cofactor_by_is r ring u d f (suc (suc k)) h state.rest in
    let q_is = equation_is r ring x h in
    let some = top_occurs r u (suc k) f state.rest (omega arith) t in
    let parts : (j : ℕ) → IsPolynomial r (part u j f) = λ j. part_is r u j f state.rest in
    let rows : (j : ℕ) → j ≤ suc k → degree_of (part u j f) + j * depth d ≤ 1024 = λ j below. row_depth r u d f j k state.rest state.degree deep some below in
    let equation : degree_of q ≤ depth d = within_degree (depth d) q (equation_within r x h) in
    let cofactor : degree_of c ≤ 1024 - depth d =
    within_degree (1024 - depth d) c (cofactor_within r u d f (suc k) (1024 - depth d) h parts (λ j below. omega (arith, rows (suc j) (omega (arith, below))))) in
    let deepest = rows (suc k) (omega arith) in
    let P : Polynomial → Type 0 = λ p. IsPolynomial r p in
    record {
      rest = g_is;
      degree = within_degree 1024 g (substituted_within r u d f (suc (suc k)) 1024 h parts (λ j below. rows j (omega (arith, below))));
      covered = covered_next m x f spent k state.covered w;
      fit = (c_is, subst P (sym s) q_is, omega (arith, equation, cofactor, deepest, ap degree_of s), state.fit);
      rise = (omega arith, l, state.rise);
      kept =
          state.kept
          ∙ ap (λ p. sum_of r p others) (substitution_kept r ring u d q f (suc (suc k)) h q_is state.rest (equation_says r ring x h) (omega (arith, t)))
          ∙ sum_assoc r ring g (product_of r c q) others g_is (product_is r ring c q c_is q_is) (combined_is r ring e cs state.fit)
          ∙ ap (λ p. sum_of r g (sum_of r (product_of r c p) others)) (sym s);
      spending = weight_next m e number x f spent k cs s state.spending;
      narrow = narrow_next m (weight e ((number, c) ∷ cs)) (spent + bound_of d (coefficients u f) (suc k)) (weight_next m e number x f spent k cs s state.spending) w;
    }

next_state : (m : Option ℕ) → IsReduction (reduced_by m) → (e : ℕ → Polynomial) (number end : ℕ) (x : Definition) (first f : Polynomial) (spent k : ℕ) (cs : List (ℕ × Polynomial)) → e number ≡ equation_of (reduced_by m) x → number < end → IsPolynomial (reduced_by m) x.2 → IsState m e (suc number) end first f spent cs → top x.1 f ≡ suc k → is_wide m (spent + bound_of x.2 (coefficients x.1 f) (suc k)) ≡ false → leb 1025 (degree_by x.2 (coefficients x.1 f) (suc (suc k))) ≡ false → IsState m e number end first (rest_at m x f) (spent + bound_of x.2 (coefficients x.1 f) (top x.1 f)) ((number, cofactor_at m x f) ∷ cs)
next_state m ring e number end x first f spent k cs s l h state t w deep =
    let P : ℕ → Type 0 = λ n. IsState m e number end first (substituted (reduced_by m) x.2 (coefficients x.1 f) (suc n)) (spent + bound_of x.2 (coefficients x.1 f) n) ((number, cofactor_by (reduced_by m) x.1 x.2 (coefficients x.1 f) (suc n)) ∷ cs) in
    subst P (sym t) (next_at m ring e number end x first f spent k cs s l h state t w deep)

-- ---- the whole reduction

-- what the end of a reduction says
abbrev pub Ends : Option ℕ → (ℕ → Polynomial) → ℕ → Polynomial → Reduced → Type 0
Ends m e end first (Done g cs n) = (spent : ℕ) × IsState m e 0 end first g spent cs
Ends m e end first (TooWide at) = Unit {0}
Ends m e end first (TooLarge what n) = Unit {0}

fault_ends : (m : Option ℕ) (e : ℕ → Polynomial) (end : ℕ) (first : Polynomial) (a b c : Bool) (place degree terms : ℕ) (further : Reduced) → (a ≡ false → b ≡ false → Ends m e end first further) → Ends m e end first (first_fault a b c place degree terms further)
fault_ends m e end first true b c place degree terms further h = tt
fault_ends m e end first false true c place degree terms further h = tt
fault_ends m e end first false false true place degree terms further h = tt
fault_ends m e end first false false false place degree terms further h = h refl refl

definition_ends : (m : Option ℕ) (e : ℕ → Polynomial) (end : ℕ) (first : Polynomial) (x : Definition) (f : Polynomial) (spent n : ℕ) (same further : Reduced) → Ends m e end first same → ((k : ℕ) → n ≡ suc k → is_wide m (spent + bound_of x.2 (coefficients x.1 f) (suc k)) ≡ false → leb 1025 (degree_by x.2 (coefficients x.1 f) (suc (suc k))) ≡ false → Ends m e end first further) → Ends m e end first (reduced_at m x f spent n same further)
definition_ends m e end first x f spent zero same further h more = h
definition_ends m e end first x f spent (suc k) same further h more =
    let degree = degree_by x.2 (coefficients x.1 f) (suc (suc k)) in let terms = terms_by x.2 (coefficients x.1 f) (suc (suc k)) in
    fault_ends m e end first (is_wide m (spent + bound_of x.2 (coefficients x.1 f) (suc k))) (leb 1025 degree) (leb 65537 terms) x.0 degree terms further (more k refl)

state_weaker : (m : Option ℕ) (e : ℕ → Polynomial) (n end : ℕ) (first f : Polynomial) (spent : ℕ) (cs : List (ℕ × Polynomial)) → IsState m e (suc n) end first f spent cs → IsState m e n end first f spent cs
state_weaker m e n end first f spent cs state = record {
  rest = state.rest;
  degree = state.degree;
  covered = state.covered;
  fit = state.fit;
  rise = rise_weaker n (suc n) end cs (omega arith) state.rise;
  kept = state.kept;
  spending = state.spending;
  narrow = state.narrow;
}

pub reduction_ends : (m : Option ℕ) → IsReduction (reduced_by m) → (e : ℕ → Polynomial) (end : ℕ) (defs : List Definition) (n : ℕ) (first f : Polynomial) (spent : ℕ) (cs : List (ℕ × Polynomial)) → n ≤ end → ((k : ℕ) → k < n → (e k ≡ equation_of (reduced_by m) (definition_at defs k)) × IsPolynomial (reduced_by m) (definition_at defs k).2) → IsState m e n end first f spent cs → Ends m e end first (reduced_from m defs n f spent cs)
reduction_ends m ring e end defs zero first f spent cs h all state = (spent, state)
reduction_ends m ring e end defs (suc k) first f spent cs h all state =
    let x = definition_at defs k in
    let fewer : (j : ℕ) → j < k → (e j ≡ equation_of (reduced_by m) (definition_at defs j)) × IsPolynomial (reduced_by m) (definition_at defs j).2 = λ j l. all j (omega (arith, l)) in
    let here = all k (omega arith) in
    definition_ends m e end first x f spent (top x.1 f)
    (reduced_from m defs k f spent cs)
    (reduced_from m defs k (rest_at m x f) (spent + bound_of x.2 (coefficients x.1 f) (top x.1 f)) ((k, cofactor_at m x f) ∷ cs))
    (reduction_ends m ring e end defs k first f spent cs (omega (arith, h)) fewer (state_weaker m e k end first f spent cs state))
    (λ n t w deep. reduction_ends m ring e end defs k first (rest_at m x f) (spent + bound_of x.2 (coefficients x.1 f) (top x.1 f)) ((k, cofactor_at m x f) ∷ cs) (omega (arith, h)) fewer
    (next_state m ring e k end x first f spent n cs here.0 (omega (arith, h)) here.1 state t w deep))

covered_first : (m : Option ℕ) (f : Polynomial) → IsCovered m (norm_of f) (norm_of f)
covered_first None f = omega arith
covered_first (Some m) f = tt

spent_first : (m : Option ℕ) (n : ℕ) → IsSpent m 0 n
spent_first None n = omega arith
spent_first (Some m) n = tt

narrow_first : (m : Option ℕ) → is_wide m 0 ≡ false
narrow_first None = refl
narrow_first (Some m) = refl

pub first_state : (m : Option ℕ) → IsReduction (reduced_by m) → (e : ℕ → Polynomial) (n end : ℕ) (f : Polynomial) → IsPolynomial (reduced_by m) f → degree_of f ≤ 1024 → IsState m e n end f f (norm_of f) []
first_state m ring e n end f h d = record {
  rest = h;
  degree = d;
  covered = covered_first m f;
  fit = tt;
  rise = tt;
  kept = sym (sum_nothing (reduced_by m) ring f h);
  spending = spent_first m (norm_of f);
  narrow = narrow_first m;
}
