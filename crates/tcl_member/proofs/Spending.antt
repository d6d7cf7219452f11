-- Over the integers the norm of a polynomial and the sum of the products of the norms of what plain reduction gives are
-- together at most what it spent.
use Rattle.std.proofs.Common.{◌≡◌, ◌⊎◌, inl, inr, ℕ, zero, suc, ◌+◌, ◌*◌, ◌<◌, ◌≤◌, refl, sym, ◌∙◌, ap, subst, arith, Bool, true, false, leb, List, [], ◌∷◌, length, le_refl, Option, Some, None}
use Rattle.std.proofs.Math.Nat.{mul-le-mul_left}
use Rattle.tcl_ring.specs.Reduction.{IsModulus, reduced_by, is_wide}
use Rattle.tcl_ring.proofs.Reductions.{is_reduction}
use Rattle.tcl_poly.specs.Polynomial.{Polynomial, IsPolynomial, terms_of, norm_of, degree_of}
use Rattle.tcl_poly.specs.Combination.{equation_at, weight_of}
use Rattle.tcl_poly.proofs.Norms.{narrower}
use Rattle.tcl_poly.proofs.TermLists.{terms_itself}
use Rattle.tcl_reduce.specs.Parts.{top, coefficients}
use Rattle.tcl_reduce.specs.Substitution.{cofactor_by, bound_of, degree_by, terms_by}
use Rattle.tcl_reduce.specs.Reduction.{Definition, definition_at, equation_of, Reduced, first_fault, reduced_at, rest_at, cofactor_at, reduced_from, reduced_of}
use Rattle.tcl_reduce.specs.Reduction.Reduced.{Done, TooWide, TooLarge}
use Rattle.tcl_reduce.specs.Remainder.{AreDefinitions, BeginsWith, RiseFrom}
use Rattle.tcl_reduce.proofs.NormBounds.{equation_norm, cofactor_norm}
use Rattle.tcl_reduce.proofs.Reducing.{Ends, reduction_ends, first_state}
use Rattle.tcl_reduce.proofs.Remainders.{equations_by, definition_over}

-- a norm alone is too great, or it is not with the sum of the products of the cofactors added
abbrev pub FitBeside : Option ℕ → List Polynomial → ℕ → List (ℕ × Polynomial) → Type 0
FitBeside m es norm cs = (is_wide m norm ≡ true) ⊎ (is_wide m (norm + weight_of (λ n. n) es cs) ≡ false)

-- what was spent pays for both, and is not too great once there is a cofactor
abbrev IsPaid : Option ℕ → List Polynomial → ℕ → ℕ → List (ℕ × Polynomial) → Type 0
IsPaid None es norm spent cs = (norm + weight_of (λ n. n) es cs ≤ spent) × ((cs ≡ []) ⊎ (is_wide None spent ≡ false))
IsPaid (Some m) es norm spent cs = Unit {0}

paid_step : (m : Option ℕ) (es : List Polynomial) (number : ℕ) (x : Definition) (f : Polynomial) (norm spent k : ℕ) (cs : List (ℕ × Polynomial)) → terms_of (λ n. n) (equation_at es number) ≡ equation_of (reduced_by m) x → IsPaid m es norm spent cs → is_wide m (spent + bound_of x.2 (coefficients x.1 f) (suc k)) ≡ false → IsPaid m es norm (spent + bound_of x.2 (coefficients x.1 f) (suc k)) ((number, cofactor_by (reduced_by m) x.1 x.2 (coefficients x.1 f) (suc (suc k))) ∷ cs)
paid_step None es number x f norm spent k cs s h w =
    let c = cofactor_by (reduced_by None) x.1 x.2 (coefficients x.1 f) (suc (suc k)) in
    let e = equation_of (reduced_by None) x in
    let row : norm_of c * norm_of e ≤ norm_of c * (1 + norm_of x.2) = mul-le-mul_left (norm_of c) (equation_norm x) in
    let own : norm_of (terms_of (λ n. n) c) ≡ norm_of c = ap (λ p. norm_of p) (terms_itself c) in
    let other : norm_of (terms_of (λ n. n) (equation_at es number)) ≡ norm_of e = ap (λ p. norm_of p) s in
    let both : norm_of (terms_of (λ n. n) c) * norm_of (terms_of (λ n. n) (equation_at es number)) ≡ norm_of c * norm_of e = λ i. own i * other i in
    (omega (arith, row, cofactor_norm x.1 x.2 f (suc k), both, h.0), inr w)
paid_step (Some m) es number x f norm spent k cs s h w = tt

paid_next : (m : Option ℕ) (es : List Polynomial) (number : ℕ) (x : Definition) (f : Polynomial) (norm spent k : ℕ) (cs : List (ℕ × Polynomial)) → terms_of (λ n. n) (equation_at es number) ≡ equation_of (reduced_by m) x → IsPaid m es norm spent cs → top x.1 f ≡ suc k → is_wide m (spent + bound_of x.2 (coefficients x.1 f) (suc k)) ≡ false → IsPaid m es norm (spent + bound_of x.2 (coefficients x.1 f) (top x.1 f)) ((number, cofactor_at m x f) ∷ cs)
paid_next m es number x f norm spent k cs s h t w =
    let P : ℕ → Type 0 = λ n. IsPaid m es norm (spent + bound_of x.2 (coefficients x.1 f) n) ((number, cofactor_by (reduced_by m) x.1 x.2 (coefficients x.1 f) (suc n)) ∷ cs) in
    subst P (sym t) (paid_step m es number x f norm spent k cs s h w)

paid_fits : (m : Option ℕ) (es : List Polynomial) (norm spent : ℕ) (cs : List (ℕ × Polynomial)) → IsPaid m es norm spent cs → FitBeside m es norm cs
paid_fits (Some m) es norm spent cs h = inr refl
paid_fits None es norm spent cs (h, inr w) = inr (narrower None spent (norm + weight_of (λ n. n) es cs) w h)
paid_fits None es norm spent cs (h, inl none) = by (is_wide None norm) refl where
  by : (b : Bool) → is_wide None norm ≡ b → FitBeside None es norm cs
  by true e = inl e
  by false e = inr (narrower None norm (norm + weight_of (λ n. n) es cs) e (omega (arith, ap (λ x. weight_of (λ n. n) es x) none)))

-- ---- the whole reduction

abbrev EndsFit : (List (ℕ × Polynomial) → Type 0) → Reduced → Type 0
EndsFit P (Done g cs n) = P cs
EndsFit P (TooWide at) = Unit {0}
EndsFit P (TooLarge what n) = Unit {0}

fault_fits : (P : List (ℕ × Polynomial) → Type 0) (a b c : Bool) (place degree terms : ℕ) (further : Reduced) → (a ≡ false → EndsFit P further) → EndsFit P (first_fault a b c place degree terms further)
fault_fits P true b c place degree terms further h = tt
fault_fits P false true c place degree terms further h = tt
fault_fits P false false true place degree terms further h = tt
fault_fits P false false false place degree terms further h = h refl

definition_fits : (P : List (ℕ × Polynomial) → Type 0) (m : Option ℕ) (x : Definition) (f : Polynomial) (spent n : ℕ) (same further : Reduced) → EndsFit P same → ((k : ℕ) → n ≡ suc k → is_wide m (spent + bound_of x.2 (coefficients x.1 f) (suc k)) ≡ false → EndsFit P further) → EndsFit P (reduced_at m x f spent n same further)
definition_fits P m x f spent zero same further h more = h
definition_fits P m x f spent (suc k) same further h more =
    let degree = degree_by x.2 (coefficients x.1 f) (suc (suc k)) in let terms = terms_by x.2 (coefficients x.1 f) (suc (suc k)) in
    fault_fits P (is_wide m (spent + bound_of x.2 (coefficients x.1 f) (suc k))) (leb 1025 degree) (leb 65537 terms) x.0 degree terms further (more k refl)

reduction_fits : (m : Option ℕ) (es : List Polynomial) (defs : List Definition) (n : ℕ) (f : Polynomial) (norm spent : ℕ) (cs : List (ℕ × Polynomial)) → ((k : ℕ) → k < n → terms_of (λ n. n) (equation_at es k) ≡ equation_of (reduced_by m) (definition_at defs k)) → IsPaid m es norm spent cs → EndsFit (FitBeside m es norm) (reduced_from m defs n f spent cs)
reduction_fits m es defs zero f norm spent cs all h = paid_fits m es norm spent cs h
reduction_fits m es defs (suc k) f norm spent cs all h =
    let x = definition_at defs k in
    let fewer : (j : ℕ) → j < k → terms_of (λ n. n) (equation_at es j) ≡ equation_of (reduced_by m) (definition_at defs j) = λ j l. all j (omega (arith, l)) in
    definition_fits (FitBeside m es norm) m x f spent (top x.1 f)
    (reduced_from m defs k f spent cs)
    (reduced_from m defs k (rest_at m x f) (spent + bound_of x.2 (coefficients x.1 f) (top x.1 f)) ((k, cofactor_at m x f) ∷ cs))
    (reduction_fits m es defs k f norm spent cs fewer h)
    (λ n t w. reduction_fits m es defs k (rest_at m x f) norm (spent + bound_of x.2 (coefficients x.1 f) (top x.1 f)) ((k, cofactor_at m x f) ∷ cs) fewer
    (paid_next m es k x f norm spent n cs (all k (omega arith)) h t w))

paid_first : (m : Option ℕ) (es : List Polynomial) (norm : ℕ) → IsPaid m es norm norm []
paid_first None es norm = (omega arith, inl refl)
paid_first (Some m) es norm = tt

pub reduced_fit : (m : Option ℕ) (es : List Polynomial) (defs : List Definition) (f rest : Polynomial) (cs : List (ℕ × Polynomial)) (spent : ℕ) → BeginsWith m (λ n. n) defs es → reduced_of m defs f ≡ Done rest cs spent → FitBeside m es (norm_of f) cs
reduced_fit m es defs f rest cs spent begins is =
    subst (EndsFit (FitBeside m es (norm_of f))) is
    (reduction_fits m es defs (length defs) f (norm_of f) (norm_of f) [] (λ k l. (begins k l).1) (paid_first m es (norm_of f)))

-- ---- the cofactors are of definitions

pub reduced_below : (m : Option ℕ) → IsModulus m → (es : List Polynomial) (defs : List Definition) (f rest : Polynomial) (cs : List (ℕ × Polynomial)) (spent : ℕ) → AreDefinitions (reduced_by m) defs → BeginsWith m (λ n. n) defs es → IsPolynomial (reduced_by m) f → degree_of f ≤ 1024 → reduced_of m defs f ≡ Done rest cs spent → RiseFrom 0 (length defs) cs
reduced_below m modulus es defs f rest cs spent over begins h d is =
    let ring = is_reduction m modulus in
    let e = equations_by (λ n. n) es in
    let count = length defs in
    let P : Reduced → Type 0 = λ o. Ends m e count f o in
    let ends = subst P is (reduction_ends m ring e count defs count f f (norm_of f) [] (le_refl count) (λ k l. ((begins k l).1, definition_over (reduced_by m) defs k over)) (first_state m ring e count count f h d)) in
    ends.1.rise

-- what is left is shallow
pub reduced_shallow : (m : Option ℕ) → IsModulus m → (es : List Polynomial) (defs : List Definition) (f rest : Polynomial) (cs : List (ℕ × Polynomial)) (spent : ℕ) → AreDefinitions (reduced_by m) defs → BeginsWith m (λ n. n) defs es → IsPolynomial (reduced_by m) f → degree_of f ≤ 1024 → reduced_of m defs f ≡ Done rest cs spent → degree_of rest ≤ 1024
reduced_shallow m modulus es defs f rest cs spent over begins h d is =
    let ring = is_reduction m modulus in
    let e = equations_by (λ n. n) es in
    let count = length defs in
    let P : Reduced → Type 0 = λ o. Ends m e count f o in
    let ends = subst P is (reduction_ends m ring e count defs count f f (norm_of f) [] (le_refl count) (λ k l. ((begins k l).1, definition_over (reduced_by m) defs k over)) (first_state m ring e count count f h d)) in
    ends.1.degree

-- ---- nothing is left of nothing

abbrev OnRest : (Polynomial → Type 0) → Reduced → Type 0
OnRest P (Done g cs n) = P g
OnRest P (TooWide at) = Unit {0}
OnRest P (TooLarge what n) = Unit {0}

nothing_from : (m : Option ℕ) (defs : List Definition) (n spent : ℕ) (cs : List (ℕ × Polynomial)) → OnRest (λ g. g ≡ []) (reduced_from m defs n [] spent cs)
nothing_from m defs zero spent cs = refl
nothing_from m defs (suc k) spent cs = nothing_from m defs k spent cs

-- of a polynomial of which something is left there was something
pub reduced_some : (m : Option ℕ) (defs : List Definition) (f rest : Polynomial) (cs : List (ℕ × Polynomial)) (spent : ℕ) → reduced_of m defs f ≡ Done rest cs spent → (rest ≡ [] → ⊥) → f ≡ [] → ⊥
reduced_some m defs f rest cs spent is some none =
    some (subst (OnRest (λ g. g ≡ [])) (sym (ap (reduced_of m defs) none) ∙ is) (nothing_from m defs (length defs) 0 []))
