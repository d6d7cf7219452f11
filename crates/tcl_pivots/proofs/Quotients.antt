-- The quotient of a step fits, and a constant stands for every number of its residue.
use Rattle.std.proofs.Common.{◌≡◌, ℕ, zero, suc, ◌*◌, ◌≤◌, refl, sym, ◌∙◌, ap, arith, false, List, [], ◌∷◌, ℤ, pos, ◌*ℤ◌, unsigned_abs, Option, None, Some, Ordering, Less, Equal, Greater}
use Rattle.std.specs.List.{AllByRecursion}
use Rattle.std.proofs.lemmas.Int.{unsigned_abs-mul}
use Rattle.tcl_num.proofs.IntegerOrder.{unsigned_abs_add}
use Rattle.tcl_num.proofs.IntegerRing.{int_mul_comm, int_mul_one, int_mul_zero}
use Rattle.tcl_ring.specs.Reduction.{IsReduction, reduced_by, is_wide}
use Rattle.tcl_ring.proofs.Reductions.{is_reduction}
use Rattle.tcl_poly.specs.Monomial.{Monomial, order, times}
use Rattle.tcl_poly.specs.Polynomial.{Polynomial, IsPolynomial, scaled, coefficient, one_at, norm_of, front}
use Rattle.tcl_poly.specs.Combination.{weight_of}
use Rattle.tcl_poly.proofs.Norms.{narrower}
use Rattle.tcl_reduce.specs.CofactorSum.{front_cofactor, scaled_cofactors}
use Rattle.tcl_reduce.specs.Row.{Row, Pivot}
use Rattle.tcl_pivots.specs.RowState.{IsSound}
use Rattle.tcl_pivots.specs.Kept.{lead, IsPivot}
use Rattle.tcl_pivots.proofs.Weighing.{row_norm}
use Rattle.tcl_pivots.proofs.Soundness.{sound_row}

one_within : (o : Ordering) (c : ℤ) → unsigned_abs (c *ℤ one_at o) ≤ unsigned_abs c
one_within Less c = omega (arith, ap unsigned_abs (int_mul_zero c))
one_within Equal c = omega (arith, ap unsigned_abs (int_mul_one c))
one_within Greater c = omega (arith, ap unsigned_abs (int_mul_zero c))

-- a coefficient's magnitude is at most the norm
pub coefficient_within : (p : Polynomial) (m : Monomial) → unsigned_abs (coefficient p m) ≤ norm_of p
coefficient_within [] m = omega arith
coefficient_within (t ∷ p) m =
    omega (arith, unsigned_abs_add (t.1 *ℤ one_at (order t.0 m)) (coefficient p m), one_within (order t.0 m) t.1, coefficient_within p m)

-- a number with an inverse among the integers has the magnitude 1
unit_factor : (a b : ℕ) → a * b ≡ 1 → a ≡ 1
unit_factor zero b e = absurd (omega (arith, e))
unit_factor (suc zero) b e = refl
unit_factor (suc (suc a)) zero e = absurd (omega (arith, e))
unit_factor (suc (suc a)) (suc b) e = absurd (omega (arith, e))

pub unit_magnitude : (a b : ℤ) → a *ℤ b ≡ pos 1 → unsigned_abs a ≡ 1
unit_magnitude a b e = unit_factor (unsigned_abs a) (unsigned_abs b) (sym (unsigned_abs-mul a b) ∙ ap unsigned_abs e)

pub quotient_narrow : (m : Option ℕ) (es : List Polynomial) (a : Row) (p : Pivot) → AllByRecursion (IsPolynomial (reduced_by m)) es → IsSound m es a → IsPivot (reduced_by m) p → is_wide m (unsigned_abs (coefficient a.poly (lead p) *ℤ p.inverse)) ≡ false
quotient_narrow (Some k) es a p h i j = refl
quotient_narrow None es a p h i j =
    let c = coefficient a.poly (lead p) in
    let weight = weight_of (λ n. n) es a.cofactors in
    let one = unit_magnitude p.inverse (coefficient p.row.poly (lead p)) j.unit in
    let product : unsigned_abs (c *ℤ p.inverse) ≡ unsigned_abs c * 1 = unsigned_abs-mul c p.inverse ∙ ap (λ n. unsigned_abs c * n) one in
    narrower None weight (unsigned_abs (c *ℤ p.inverse)) i.shown.narrow
    (omega (arith, product, coefficient_within a.poly (lead p), row_norm es a h i.over (sound_row None (is_reduction None tt) es a i)))

-- ---- multiples by numbers that are equal in the ring

same_product : (r : ℤ → ℤ) → IsReduction r → (a b c : ℤ) → r a ≡ r b → r (a *ℤ c) ≡ r (b *ℤ c)
same_product r ring a b c e = ap r (int_mul_comm a c) ∙ ring.products a b c e ∙ ap r (int_mul_comm c b)

pub scaled_alike : (r : ℤ → ℤ) → IsReduction r → (a b : ℤ) (p : Polynomial) → r a ≡ r b → scaled r ([], a) p ≡ scaled r ([], b) p
scaled_alike r ring a b [] e = refl
scaled_alike r ring a b (u ∷ p) e =
    let first = same_product r ring a b u.1 e in let rest = scaled_alike r ring a b p e in
    λ i. front (times [] u.0) (first i) (rest i)

pub cofactors_alike : (r : ℤ → ℤ) → IsReduction r → (a b : ℤ) (cs : List (ℕ × Polynomial)) → r a ≡ r b → scaled_cofactors r ([], a) cs ≡ scaled_cofactors r ([], b) cs
cofactors_alike r ring a b [] e = refl
cofactors_alike r ring a b (c ∷ cs) e =
    let first = scaled_alike r ring a b c.1 e in let rest = cofactors_alike r ring a b cs e in
    λ i. front_cofactor c.0 (first i) (rest i)
