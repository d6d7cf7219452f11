-- One definition: which of the cases it is, and what the code's counts say of them.
use Rattle.std.proofs.Common.{◌≡◌, ℕ, zero, suc, min, ◌+◌, ◌^◌, ◌<◌, ◌≤◌, refl, sym, ◌∙◌, ap, arith, Bool, true, false, leb, List, ◌∷◌, Option, Some, None}
use Rattle.std.proofs.lemmas.Bool.Decides.{nat_tests}
use Rattle.tcl_port.specs.declared.limit.At.TheVariants.{Line}
use Rattle.tcl_port.specs.declared.limit.What.TheVariants.{Degree, Terms}
use Rattle.tcl_ring.specs.Reduction.{reduced_by, is_wide}
use Rattle.tcl_poly.specs.Polynomial.{Polynomial, IsPolynomial, norm_of, degree_of}
use Rattle.tcl_poly.proofs.Norms.{wide_saturated}
use Rattle.tcl_poly.proofs.Degrees.{within_degree}
use Rattle.tcl_reduce.specs.Parts.{top, coefficients}
use Rattle.tcl_reduce.specs.Substitution.{substituted, bound_of, degree_by, terms_by}
use Rattle.tcl_reduce.specs.Reduction.{Definition, definition_at, Reduced, first_fault, reduced_at, rest_at, cofactor_at, reduced_from}
use Rattle.tcl_reduce.specs.Reduction.Reduced.{Done, TooWide, TooLarge}
use Rattle.tcl_reduce.specs.Fits.{RowFits, StepFits}
use Rattle.tcl_reduce.specs.Step.{IsCovered}
use Rattle.tcl_reduce.proofs.PartLemmas.{part_is}
use Rattle.tcl_reduce.proofs.DegreeBounds.{substituted_within}
use Rattle.tcl_reduce.proofs.Reducing.{covered_next}
use Rattle.tcl_reduce.proofs.Fitting.{IsAdmitted, depths, row_fits, step_fits}

-- ---- the cases

pub fault_wide : (a b c : Bool) (place degree terms : ℕ) (further : Reduced) → a ≡ true → first_fault a b c place degree terms further ≡ TooWide (Line place)
fault_wide a b c place degree terms further e = ap (λ x. first_fault x b c place degree terms further) e

pub fault_degree : (a b c : Bool) (place degree terms : ℕ) (further : Reduced) → a ≡ false → b ≡ true → first_fault a b c place degree terms further ≡ TooLarge Degree (min degree 4294967295)
fault_degree a b c place degree terms further e f = λ i. first_fault (e i) (f i) c place degree terms further

pub fault_terms : (a b c : Bool) (place degree terms : ℕ) (further : Reduced) → a ≡ false → b ≡ false → c ≡ true → first_fault a b c place degree terms further ≡ TooLarge Terms (min terms 4294967295)
fault_terms a b c place degree terms further e f g = λ i. first_fault (e i) (f i) (g i) place degree terms further

pub fault_none : (a b c : Bool) (place degree terms : ℕ) (further : Reduced) → a ≡ false → b ≡ false → c ≡ false → first_fault a b c place degree terms further ≡ further
fault_none a b c place degree terms further e f g = λ i. first_fault (e i) (f i) (g i) place degree terms further

pub at_none : (m : Option ℕ) (x : Definition) (f : Polynomial) (spent n : ℕ) (same further : Reduced) → n ≡ 0 → reduced_at m x f spent n same further ≡ same
at_none m x f spent n same further e = ap (λ k. reduced_at m x f spent k same further) e

pub at_some : (m : Option ℕ) (x : Definition) (f : Polynomial) (spent n : ℕ) (same further : Reduced) → 0 < n → reduced_at m x f spent n same further ≡ first_fault (is_wide m (spent + bound_of x.2 (coefficients x.1 f) n)) (leb 1025 (degree_by x.2 (coefficients x.1 f) (suc n))) (leb 65537 (terms_by x.2 (coefficients x.1 f) (suc n))) x.0 (degree_by x.2 (coefficients x.1 f) (suc n)) (terms_by x.2 (coefficients x.1 f) (suc n)) further
at_some m x f spent zero same further h = absurd (omega (arith, h))
at_some m x f spent (suc k) same further h = refl

-- ---- counts that stay at their ends

pub total_saturates : (spent bound counted total end : ℕ) → counted ≡ min bound end → total ≡ min (spent + counted) end → total ≡ min (spent + bound) end
total_saturates spent bound counted total end e s = omega (arith, e, s)

pub wide_total : (m : Option ℕ) (n total : ℕ) → total ≡ min n (2 ^ 127) → is_wide m n ≡ is_wide m total
wide_total m n total e = sym (wide_saturated m n) ∙ ap (is_wide m) (sym e)

pub over_limit : (n counted limit : ℕ) → counted ≡ min n 4294967295 → limit < counted → leb (suc limit) n ≡ true
over_limit n counted limit e h = grind (arith, nat_tests, e, h)

pub within_limit : (n counted limit : ℕ) → counted ≡ min n 4294967295 → limit < 4294967295 → counted ≤ limit → leb (suc limit) n ≡ false
within_limit n counted limit e l h = grind (arith, nat_tests, e, l, h)

-- ---- a definition that is substituted

-- what the code knows where the definition is neither wide nor large, the greatest power being n
pub record IsSubstituted (m : Option ℕ) (x : Definition) (f : Polynomial) (spent n : ℕ) : Type 0 where
  pub definition : IsPolynomial (reduced_by m) x.2
  pub polynomial : IsPolynomial (reduced_by m) f
  pub degree : degree_of f ≤ 1024
  pub covered : IsCovered m (norm_of f) spent
  pub greatest : top x.1 f ≡ n
  pub occurs : 0 < n
  pub narrow : is_wide m (spent + bound_of x.2 (coefficients x.1 f) n) ≡ false
  pub shallow : leb 1025 (degree_by x.2 (coefficients x.1 f) (suc n)) ≡ false

admitted : (m : Option ℕ) (x : Definition) (f : Polynomial) (spent k : ℕ) → IsSubstituted m x f spent (suc k) → IsAdmitted m x.1 x.2 f spent k
admitted m x f spent k a = record {
  definition = a.definition;
  polynomial = a.polynomial;
  degree = a.degree;
  covered = a.covered;
  greatest = a.greatest;
  narrow = a.narrow;
  shallow = a.shallow;
}

pub rows_fit : (m : Option ℕ) (x : Definition) (f : Polynomial) (spent n j : ℕ) → IsSubstituted m x f spent n → j ≤ n → RowFits m x.1 x.2 (coefficients x.1 f) j
rows_fit m x f spent zero j a l = absurd (omega (arith, a.occurs))
rows_fit m x f spent (suc k) j a l = row_fits m x.1 x.2 f spent k j (admitted m x f spent k a) l

pub steps_fit : (m : Option ℕ) (x : Definition) (f : Polynomial) (spent n j : ℕ) → IsSubstituted m x f spent n → j < n → StepFits m x.1 x.2 j
steps_fit m x f spent zero j a l = absurd (omega (arith, a.occurs))
steps_fit m x f spent (suc k) j a l = step_fits m x.1 x.2 f spent k j (admitted m x f spent k a) l

pub made_degree : (m : Option ℕ) (x : Definition) (f : Polynomial) (spent n : ℕ) → IsSubstituted m x f spent n → degree_of (substituted (reduced_by m) x.2 (coefficients x.1 f) (suc n)) ≤ 1024
made_degree m x f spent zero a = absurd (omega (arith, a.occurs))
made_degree m x f spent (suc k) a =
    let r = reduced_by m in
    within_degree 1024 (substituted r x.2 (coefficients x.1 f) (suc (suc k)))
    (substituted_within r x.1 x.2 f (suc (suc k)) 1024 a.definition (λ j. part_is r x.1 j f a.polynomial)
    (λ j l. depths m x.1 x.2 f spent k j (admitted m x f spent k a) (omega (arith, l))))

saturated_cover : (m : Option ℕ) (norm n total : ℕ) → total ≡ min n (2 ^ 127) → IsCovered m norm n → IsCovered m norm total
saturated_cover None norm n total e h = omega (arith, e, h)
saturated_cover (Some m) norm n total e h = tt

pub made_covered : (m : Option ℕ) (x : Definition) (f : Polynomial) (spent n total : ℕ) → IsSubstituted m x f spent n → total ≡ min (spent + bound_of x.2 (coefficients x.1 f) n) (2 ^ 127) → IsCovered m (norm_of (substituted (reduced_by m) x.2 (coefficients x.1 f) (suc n))) total
made_covered m x f spent zero total a e = absurd (omega (arith, a.occurs))
made_covered m x f spent (suc k) total a e =
    saturated_cover m (norm_of (substituted (reduced_by m) x.2 (coefficients x.1 f) (suc (suc k)))) (spent + bound_of x.2 (coefficients x.1 f) (suc k)) total e
    (covered_next m x f spent k a.covered a.narrow)

-- ---- what was spent may stay at 2^127

same_total : (spent bound end : ℕ) → min (spent + bound) end ≡ min (min spent end + bound) end
same_total spent bound end = omega arith

min_twice : (n end : ℕ) → min n end ≡ min (min n end) end
min_twice n end = omega arith

same_wide : (m : Option ℕ) (spent bound : ℕ) → is_wide m (spent + bound) ≡ is_wide m (min spent (2 ^ 127) + bound)
same_wide m spent bound =
    sym (wide_saturated m (spent + bound))
    ∙ ap (is_wide m) (same_total spent bound (2 ^ 127))
    ∙ wide_saturated m (min spent (2 ^ 127) + bound)

at_saturates : (m : Option ℕ) (x : Definition) (f : Polynomial) (spent n : ℕ) (same same' further further' : Reduced) → same ≡ same' → further ≡ further' → reduced_at m x f spent n same further ≡ reduced_at m x f (min spent (2 ^ 127)) n same' further'
at_saturates m x f spent zero same same' further further' e h = e
at_saturates m x f spent (suc k) same same' further further' e h =
    let fs = coefficients x.1 f in let degree = degree_by x.2 fs (suc (suc k)) in let terms = terms_by x.2 fs (suc (suc k)) in
    λ i. first_fault (same_wide m spent (bound_of x.2 fs (suc k)) i) (leb 1025 degree) (leb 65537 terms) x.0 degree terms (h i)

pub reduction_saturates : (m : Option ℕ) (defs : List Definition) (n : ℕ) (f : Polynomial) (spent : ℕ) (cs : List (ℕ × Polynomial)) → reduced_from m defs n f spent cs ≡ reduced_from m defs n f (min spent (2 ^ 127)) cs
reduction_saturates m defs zero f spent cs = ap (Done f cs) (min_twice spent (2 ^ 127))
reduction_saturates m defs (suc k) f spent cs =
    let x = definition_at defs k in
    let b = bound_of x.2 (coefficients x.1 f) (top x.1 f) in
    let g = rest_at m x f in let c = (k, cofactor_at m x f) ∷ cs in
    at_saturates m x f spent (top x.1 f)
    (reduced_from m defs k f spent cs) (reduced_from m defs k f (min spent (2 ^ 127)) cs)
    (reduced_from m defs k g (spent + b) c) (reduced_from m defs k g (min spent (2 ^ 127) + b) c)
    (reduction_saturates m defs k f spent cs)
    (reduction_saturates m defs k g (spent + b) c
    ∙ ap (λ s. reduced_from m defs k g s c) (same_total spent b (2 ^ 127))
    ∙ sym (reduction_saturates m defs k g (min spent (2 ^ 127) + b) c))
