-- One step on the claim as the code makes it: its constants stand for those of the definition.
use Rattle.std.proofs.Common.{◌≡◌, ℕ, ◌+◌, ◌^◌, min, sym, ◌∙◌, ap, Bool, true, ◌||◌, List, [], ℤ, neg_ℤ, ◌*ℤ◌, Option}
use Rattle.std.specs.List.{AllByRecursion}
use Rattle.tcl_num.proofs.SaturatingCounts.{sum_saturates}
use Rattle.tcl_ring.specs.Reduction.{IsReduction, reduced_by, is_wide}
use Rattle.tcl_poly.specs.Polynomial.{Polynomial, IsPolynomial, sum_of, scaled, norm_of, has_wide}
use Rattle.tcl_poly.specs.Combination.{weight_of}
use Rattle.tcl_poly.proofs.Norms.{wide_saturated}
use Rattle.tcl_reduce.specs.CofactorSum.{sum_cofactors, scaled_cofactors, is_deep, are_wide}
use Rattle.tcl_pivots.specs.CofactorLists.{any_wide}
use Rattle.tcl_reduce.specs.Row.{Pivot, quotient_at}
use Rattle.tcl_reduce.specs.Membership.{Target, target_less}
use Rattle.tcl_pivots.specs.RowState.{IsSound}
use Rattle.tcl_pivots.specs.TargetState.{IsSoundTarget}
use Rattle.tcl_pivots.proofs.Quotients.{scaled_alike}
use Rattle.tcl_pivots.proofs.TargetSteps.{target_poly_wide, target_cofactors_wide}

-- a count matters up to the limit only
same_count : (m : Option ℕ) (a b w : ℕ) → min a (2 ^ 127) ≡ min b (2 ^ 127) → is_wide m (a + w) ≡ is_wide m (b + w)
same_count m a b w e =
    sym (wide_saturated m (a + w))
    ∙ ap (is_wide m) (sym (sum_saturates a w (2 ^ 127)) ∙ ap (λ n. min (n + min w (2 ^ 127)) (2 ^ 127)) e ∙ sum_saturates b w (2 ^ 127))
    ∙ wide_saturated m (b + w)

pub same_width : (m : Option ℕ) (es : List Polynomial) (a b : ℕ) (cs : List (ℕ × Polynomial)) → min a (2 ^ 127) ≡ min b (2 ^ 127) → are_wide m es a cs ≡ are_wide m es b cs
same_width m es a b cs e = ap (λ x. is_deep es cs || x) (same_count m a b (weight_of (λ n. n) es cs) e)

-- the constants that the code computes
pub quotient_is : (r : ℤ → ℤ) (d a b inverse : ℤ) → d ≡ r (a *ℤ inverse) → a ≡ b → d ≡ r (b *ℤ inverse)
quotient_is r d a b inverse e f = e ∙ ap (λ x. r (x *ℤ inverse)) f

pub opposite_is : (r : ℤ → ℤ) → IsReduction r → (k d q : ℤ) → k ≡ r (neg_ℤ d) → d ≡ q → r k ≡ r (neg_ℤ q)
opposite_is r ring k d q e f = ap r (e ∙ ap (λ x. r (neg_ℤ x)) f) ∙ ring.twice (neg_ℤ q)

pub aim_poly : (m : Option ℕ) → IsReduction (reduced_by m) → (es : List Polynomial) (claim : Polynomial) (f : Target) (p : Pivot) (k d : ℤ) (n : ℕ) (own : List (ℕ × Polynomial)) → AllByRecursion (IsPolynomial (reduced_by m)) es → IsPolynomial (reduced_by m) claim → IsSoundTarget m es claim f → IsSound m es p.row → reduced_by m k ≡ reduced_by m (neg_ℤ (quotient_at (reduced_by m) f.poly p)) → d ≡ quotient_at (reduced_by m) f.poly p → own ≡ f.cofactors → min n (2 ^ 127) ≡ min (norm_of claim) (2 ^ 127) → has_wide m (sum_of (reduced_by m) f.poly (scaled (reduced_by m) ([], k) p.row.poly)) ≡ true → are_wide m es n (sum_cofactors (reduced_by m) own (scaled_cofactors (reduced_by m) ([], d) p.row.cofactors)) ≡ true
aim_poly m ring es claim f p k d n own h i a j same other e z w =
    let r = reduced_by m in let c = neg_ℤ (quotient_at r f.poly p) in
    (λ t. are_wide m es n (sum_cofactors r (e t) (scaled_cofactors r ([], other t) p.row.cofactors)))
    ∙ same_width m es n (norm_of claim) (target_less r f p).cofactors z
    ∙ target_poly_wide m ring es claim f p h i a j (sym (ap (λ q. has_wide m (sum_of r f.poly q)) (scaled_alike r ring k c p.row.poly same)) ∙ w)

pub aim_cofactors : (m : Option ℕ) (es : List Polynomial) (claim : Polynomial) (f : Target) (p : Pivot) (d : ℤ) (n : ℕ) (own : List (ℕ × Polynomial)) → AllByRecursion (IsPolynomial (reduced_by m)) es → IsSoundTarget m es claim f → IsSound m es p.row → d ≡ quotient_at (reduced_by m) f.poly p → own ≡ f.cofactors → any_wide m (sum_cofactors (reduced_by m) own (scaled_cofactors (reduced_by m) ([], d) p.row.cofactors)) ≡ true → are_wide m es n (sum_cofactors (reduced_by m) own (scaled_cofactors (reduced_by m) ([], d) p.row.cofactors)) ≡ true
aim_cofactors m es claim f p d n own h a j other e w =
    let r = reduced_by m in
    (λ t. are_wide m es n (sum_cofactors r (e t) (scaled_cofactors r ([], other t) p.row.cofactors)))
    ∙ target_cofactors_wide m es n claim f p h a j (sym (λ t. any_wide m (sum_cofactors r (e t) (scaled_cofactors r ([], other t) p.row.cofactors))) ∙ w)

pub aim_width : (m : Option ℕ) (es : List Polynomial) (f : Target) (p : Pivot) (d : ℤ) (n : ℕ) (own : List (ℕ × Polynomial)) (b : Bool) → d ≡ quotient_at (reduced_by m) f.poly p → own ≡ f.cofactors → are_wide m es n (sum_cofactors (reduced_by m) own (scaled_cofactors (reduced_by m) ([], d) p.row.cofactors)) ≡ b → are_wide m es n (target_less (reduced_by m) f p).cofactors ≡ b
aim_width m es f p d n own b other e w =
    sym (λ t. are_wide m es n (sum_cofactors (reduced_by m) (e t) (scaled_cofactors (reduced_by m) ([], other t) p.row.cofactors))) ∙ w

pub aim_made : (m : Option ℕ) → IsReduction (reduced_by m) → (f : Target) (p : Pivot) (k d : ℤ) (own cs : List (ℕ × Polynomial)) (q : Polynomial) → reduced_by m k ≡ reduced_by m (neg_ℤ (quotient_at (reduced_by m) f.poly p)) → d ≡ quotient_at (reduced_by m) f.poly p → own ≡ f.cofactors → q ≡ sum_of (reduced_by m) f.poly (scaled (reduced_by m) ([], k) p.row.poly) → cs ≡ sum_cofactors (reduced_by m) own (scaled_cofactors (reduced_by m) ([], d) p.row.cofactors) → record { poly = q; cofactors = cs; noted = f.noted } ≡ target_less (reduced_by m) f p
aim_made m ring f p k d own cs q same other e x y =
    let r = reduced_by m in let c = neg_ℤ (quotient_at r f.poly p) in
    let poly = x ∙ ap (sum_of r f.poly) (scaled_alike r ring k c p.row.poly same) in
    let cofactors = y ∙ (λ t. sum_cofactors r (e t) (scaled_cofactors r ([], other t) p.row.cofactors)) in
    λ t. record { poly = poly t; cofactors = cofactors t; noted = f.noted }
