-- Whether equations fit, one by one.
use Rattle.std.proofs.Common.{◌≡◌, ℕ, zero, suc, ◌^◌, ◌<◌, ◌≤◌, min, sym, ◌∙◌, ap, arith, Bool, true, false, List, [], ◌∷◌, length, get_or, ℤ, Option, None}
use Rattle.tcl_ring.specs.Reduction.{is_wide}
use Rattle.tcl_poly.specs.Polynomial.{terms_of, norm_of}
use Rattle.tcl_poly.specs.Combination.{Terms}
use Rattle.tcl_poly.proofs.Norms.{wide_saturated}
use Rattle.tcl_pivots.specs.CofactorLists.{equations_of}
use Rattle.tcl_pivots.proofs.CofactorWeights.{equation_values}
use Rattle.tcl_member.specs.Fit.{AreNarrow, AreSome}
use Rattle.tcl_member.proofs.Booleans.{true_not_false}
use Rattle.tcl_member.proofs.Beginnings.{some_terms}

narrow_read : {E : Type 0} (m : Option ℕ) (value : E → ℤ) (es : List (Terms E)) (k : ℕ) (e : Terms E) → e ≡ get_or es k e → k < length es → AreNarrow m (equations_of value es) → is_wide m (norm_of (terms_of value e)) ≡ false
narrow_read m value [] k e is l h = absurd (omega (arith, l))
narrow_read m value (x ∷ es) zero e is l h = ap (λ z. is_wide m (norm_of (terms_of value z))) is ∙ h.0
narrow_read m value (x ∷ es) (suc k) e is l h = narrow_read m value es k e is (omega (arith, l)) h.1

-- one that is too great
pub not_narrow : {E : Type 0} (m : Option ℕ) (value : E → ℤ) (es : List (Terms E)) (k norm : ℕ) (e f : Terms E) (wide : Bool) → e ≡ get_or es k e → k < length es → f ≡ e → norm ≡ min (norm_of (terms_of value f)) (2 ^ 127) → wide ≡ is_wide m norm → wide ≡ true → AreNarrow m (equations_of value es) → ⊥
not_narrow m value es k norm e f wide is l same n w t h =
    true_not_false (is_wide m (norm_of (terms_of value e)))
    (sym (w ∙ ap (is_wide m) n ∙ wide_saturated m (norm_of (terms_of value f)) ∙ ap (λ z. is_wide m (norm_of (terms_of value z))) same) ∙ t)
    (narrow_read m value es k e is l h)

get_there : {X : Type 0} (xs : List X) (k : ℕ) (x d : X) → x ≡ get_or xs k x → k < length xs → get_or xs k d ≡ x
get_there [] k x d e l = absurd (omega (arith, l))
get_there (y ∷ xs) zero x d e l = sym e
get_there (y ∷ xs) (suc k) x d e l = get_there xs k x d e (omega (arith, l))

-- one that is zero
pub not_some : {E : Type 0} (value : E → ℤ) (es : List (Terms E)) (k n : ℕ) (e : Terms E) → e ≡ get_or es k e → k < length es → k < n → e ≡ [] → AreSome None (equations_of value es) n → ⊥
not_some value es k n e is l below none h =
    h k below (equation_values value es k ∙ ap (terms_of value) (get_there es k e [] is l ∙ none))

-- all are not zero
pub all_some : {E : Type 0} (value : E → ℤ) (es : List (Terms E)) (n k : ℕ) → ((j : ℕ) → j < k → get_or es j [] ≡ [] → ⊥) → n ≤ k → AreSome None (equations_of value es) n
all_some value es n k so_far l j below none =
    some_terms value (get_or es j []) (so_far j (omega (arith, below, l))) (sym (equation_values value es j) ∙ none)
