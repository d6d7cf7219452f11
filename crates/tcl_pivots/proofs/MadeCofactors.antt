-- One step as the code makes it: its cofactors have equations, and its constant stands for that of the definition.
use Rattle.std.proofs.Common.{◌≡◌, ℕ, suc, ◌<◌, ◌^◌, min, refl, sym, ◌∙◌, ap, subst, arith, Bool, true, List, [], ◌∷◌, length, ℤ, neg_ℤ, ◌*ℤ◌, Option}
use Rattle.std.specs.List.{AllByRecursion}
use Rattle.tcl_ring.specs.Reduction.{IsReduction, reduced_by}
use Rattle.tcl_poly.specs.Polynomial.{Term, Polynomial, IsPolynomial, sum_of, scaled, has_wide}
use Rattle.tcl_poly.specs.Combination.{Terms, AreCofactors}
use Rattle.tcl_poly.specs.declared.cofactors.Cofactor.{Cofactor}
use Rattle.tcl_reduce.specs.Answer.{numbered}
use Rattle.tcl_reduce.specs.CofactorSum.{sum_cofactors, scaled_cofactors, are_wide}
use Rattle.tcl_pivots.specs.CofactorLists.{AreBelow, AreOrdered, any_wide, equations_of}
use Rattle.tcl_reduce.specs.Row.{Row, Pivot, quotient_at, row_less}
use Rattle.tcl_pivots.specs.RowState.{IsSound}
use Rattle.tcl_pivots.proofs.CofactorTurns.{valued}
use Rattle.tcl_pivots.proofs.Quotients.{scaled_alike, cofactors_alike}
use Rattle.tcl_pivots.proofs.Soundness.{AllNumbers, sum_numbers, scaled_numbers, fit_ordered, less_poly_wide, less_cofactors_wide}

below_numbers : {R E : Type 0} (value : E → ℤ) (n : ℕ) (cs : List (Cofactor R E)) → AreBelow n (numbered cs) → AllNumbers (λ k. k < n) (valued value cs)
below_numbers value n [] h = tt
below_numbers value n (c ∷ cs) h = (h.0, below_numbers value n cs h.1)

numbers_below : {R E : Type 0} (value : E → ℤ) (n : ℕ) (cs : List (Cofactor R E)) → AllNumbers (λ k. k < n) (valued value cs) → AreBelow n (numbered cs)
numbers_below value n [] h = tt
numbers_below value n (c ∷ cs) h = (h.0, numbers_below value n cs h.1)

pub made_below : {R E : Type 0} (value : E → ℤ) (n : ℕ) (r : ℤ → ℤ) (t : Term) (own other after : List (Cofactor R E)) → AreBelow n (numbered own) → AreBelow n (numbered other) → valued value after ≡ sum_cofactors r (valued value own) (scaled_cofactors r t (valued value other)) → AreBelow n (numbered after)
made_below value n r t own other after h i e =
    let Q : ℕ → Type 0 = λ k. k < n in
    let P : List (ℕ × Polynomial) → Type 0 = λ cs. AllNumbers Q cs in
    numbers_below value n after (subst P (sym e)
    (sum_numbers Q r (valued value own) (scaled_cofactors r t (valued value other)) (below_numbers value n own h) (scaled_numbers Q r t (valued value other) (below_numbers value n other i))))

pub below_same : {R E : Type 0} (n : ℕ) (xs ys : List (Cofactor R E)) → xs ≡ ys → AreBelow n (numbered ys) → AreBelow n (numbered xs)
below_same n xs ys e h = let P : List (Cofactor _ _) → Type 0 = λ z. AreBelow n (numbered z) in subst P (sym e) h

-- ---- sound rows

length_values : {E : Type 0} (value : E → ℤ) (equations : List (Terms E)) → length (equations_of value equations) ≡ length equations
length_values value [] = refl
length_values value (e ∷ es) = ap suc (length_values value es)

fit_numbers : (m : Option ℕ) (es : List Polynomial) (cs : List (ℕ × Polynomial)) → AreCofactors m (λ n. n) es cs → AllNumbers (λ k. k < length es) cs
fit_numbers m es [] h = tt
fit_numbers m es (c ∷ cs) h = (h.0, fit_numbers m es cs h.3)

pub sound_below : {R E : Type 0} (m : Option ℕ) (value : E → ℤ) (equations : List (Terms E)) (cs : List (Cofactor R E)) → AreCofactors m (λ n. n) (equations_of value equations) (valued value cs) → AreBelow (length equations) (numbered cs)
sound_below m value equations cs h =
    let P : ℕ → Type 0 = λ n. AreBelow n (numbered cs) in
    subst P (length_values value equations) (numbers_below value (length (equations_of value equations)) cs (fit_numbers m (equations_of value equations) (valued value cs) h))

pub ordered_same : {R E : Type 0} (r : ℤ → ℤ) (value : E → ℤ) (xs ys : List (Cofactor R E)) → xs ≡ ys → AreOrdered r 0 (valued value ys) → AreOrdered r 0 (valued value xs)
ordered_same r value xs ys e h = let P : List (Cofactor _ _) → Type 0 = λ z. AreOrdered r 0 (valued value z) in subst P (sym e) h

pub sound_ordered : (m : Option ℕ) (es : List Polynomial) (a : Row) → IsSound m es a → AreOrdered (reduced_by m) 0 a.cofactors
sound_ordered m es a h = fit_ordered m es 0 (length es) a.cofactors h.shown.fit h.shown.rise

-- ---- a step with a constant of the same residue

pub step_poly : (m : Option ℕ) → IsReduction (reduced_by m) → (es : List Polynomial) (a : Row) (p : Pivot) (k : ℤ) (n : ℕ) (own : List (ℕ × Polynomial)) → AllByRecursion (IsPolynomial (reduced_by m)) es → IsSound m es a → IsSound m es p.row → reduced_by m k ≡ reduced_by m (neg_ℤ (quotient_at (reduced_by m) a.poly p)) → own ≡ a.cofactors → n ≡ 0 → has_wide m (sum_of (reduced_by m) a.poly (scaled (reduced_by m) ([], k) p.row.poly)) ≡ true → are_wide m es n (sum_cofactors (reduced_by m) own (scaled_cofactors (reduced_by m) ([], k) p.row.cofactors)) ≡ true
step_poly m ring es a p k n own h i j same e z w =
    let r = reduced_by m in let c = neg_ℤ (quotient_at r a.poly p) in
    let others = cofactors_alike r ring k c p.row.cofactors same in
    (λ t. are_wide m es (z t) (sum_cofactors r (e t) (others t)))
    ∙ less_poly_wide m ring es a p h i j (sym (ap (λ q. has_wide m (sum_of r a.poly q)) (scaled_alike r ring k c p.row.poly same)) ∙ w)

pub step_cofactors : (m : Option ℕ) → IsReduction (reduced_by m) → (es : List Polynomial) (a : Row) (p : Pivot) (k : ℤ) (n : ℕ) (own : List (ℕ × Polynomial)) → AllByRecursion (IsPolynomial (reduced_by m)) es → IsSound m es a → IsSound m es p.row → reduced_by m k ≡ reduced_by m (neg_ℤ (quotient_at (reduced_by m) a.poly p)) → own ≡ a.cofactors → n ≡ 0 → any_wide m (sum_cofactors (reduced_by m) own (scaled_cofactors (reduced_by m) ([], k) p.row.cofactors)) ≡ true → are_wide m es n (sum_cofactors (reduced_by m) own (scaled_cofactors (reduced_by m) ([], k) p.row.cofactors)) ≡ true
step_cofactors m ring es a p k n own h i j same e z w =
    let r = reduced_by m in let c = neg_ℤ (quotient_at r a.poly p) in
    let others = cofactors_alike r ring k c p.row.cofactors same in
    (λ t. are_wide m es (z t) (sum_cofactors r (e t) (others t)))
    ∙ less_cofactors_wide m es a p h i j (sym (λ t. any_wide m (sum_cofactors r (e t) (others t))) ∙ w)

pub nothing_counted : (n : ℕ) → 0 ≡ min n (2 ^ 127) → n ≡ 0
nothing_counted n e = omega (arith, e)

-- the constant that the code computes
pub constant_is : (m : Option ℕ) → IsReduction (reduced_by m) → (k a b inverse : ℤ) → k ≡ reduced_by m (neg_ℤ (reduced_by m (a *ℤ inverse))) → a ≡ b → reduced_by m k ≡ reduced_by m (neg_ℤ (reduced_by m (b *ℤ inverse)))
constant_is m ring k a b inverse e f =
    ap (reduced_by m) e
    ∙ ring.twice (neg_ℤ (reduced_by m (a *ℤ inverse)))
    ∙ ap (λ x. reduced_by m (neg_ℤ (reduced_by m (x *ℤ inverse)))) f

-- whether the step is wide, and what it gives
pub step_width : (m : Option ℕ) → IsReduction (reduced_by m) → (es : List Polynomial) (a : Row) (p : Pivot) (k : ℤ) (own : List (ℕ × Polynomial)) (b : Bool) → reduced_by m k ≡ reduced_by m (neg_ℤ (quotient_at (reduced_by m) a.poly p)) → own ≡ a.cofactors → are_wide m es 0 (sum_cofactors (reduced_by m) own (scaled_cofactors (reduced_by m) ([], k) p.row.cofactors)) ≡ b → are_wide m es 0 (row_less (reduced_by m) a p).cofactors ≡ b
step_width m ring es a p k own b same e w =
    let r = reduced_by m in let c = neg_ℤ (quotient_at r a.poly p) in
    sym (let others = cofactors_alike r ring k c p.row.cofactors same in λ t. are_wide m es 0 (sum_cofactors r (e t) (others t))) ∙ w

pub step_row : (m : Option ℕ) → IsReduction (reduced_by m) → (a : Row) (p : Pivot) (k : ℤ) (own cs : List (ℕ × Polynomial)) (q : Polynomial) → reduced_by m k ≡ reduced_by m (neg_ℤ (quotient_at (reduced_by m) a.poly p)) → own ≡ a.cofactors → q ≡ sum_of (reduced_by m) a.poly (scaled (reduced_by m) ([], k) p.row.poly) → cs ≡ sum_cofactors (reduced_by m) own (scaled_cofactors (reduced_by m) ([], k) p.row.cofactors) → record { poly = q; cofactors = cs; place = a.place } ≡ row_less (reduced_by m) a p
step_row m ring a p k own cs q same e f g =
    let r = reduced_by m in let c = neg_ℤ (quotient_at r a.poly p) in
    let poly = f ∙ ap (sum_of r a.poly) (scaled_alike r ring k c p.row.poly same) in
    let others = cofactors_alike r ring k c p.row.cofactors same in
    let cofactors = g ∙ (λ t. sum_cofactors r (e t) (others t)) in
    λ t. record { poly = poly t; cofactors = cofactors t; place = a.place }
