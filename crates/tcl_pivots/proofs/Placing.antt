-- A row goes behind those with greater leading monomials.
use Rattle.std.proofs.Common.{◌≡◌, ℕ, zero, suc, ◌≤◌, refl, sym, ◌∙◌, ap, subst, arith, List, [], ◌∷◌, ◌++◌, take, drop, length, ℤ, Option}
use Rattle.std.specs.List.{AllByRecursion}
use Rattle.tcl_ring.specs.Reduction.{reduced_by}
use Rattle.tcl_poly.specs.Monomial.{Monomial, IsMonomial, IsLess}
use Rattle.tcl_reduce.specs.Row as s
use Rattle.tcl_pivots.specs.Kept.{lead, IsPivot, AreKept}
use Rattle.tcl_pivots.specs.Held.{pivots_at, AreSorted}
use Rattle.tcl_pivots.specs.Lookup.{AreAbove}
use Rattle.tcl_pivots.proofs.Sorting.{after}
use Rattle.tcl_pivots.proofs.Passing.{pivots_drop, places_length, order_pivots}

pivots_take : (ps : List s.Pivot) (places : List ℕ) (i : ℕ) → pivots_at ps (take i places) ≡ take i (pivots_at ps places)
pivots_take ps [] zero = refl
pivots_take ps [] (suc i) = refl
pivots_take ps (k ∷ places) zero = refl
pivots_take ps (k ∷ places) (suc i) =
    let rest = pivots_take ps places i in λ j. pivots_at ps (k ∷ []) ++ rest j

-- the rows before place k are passed
above_passed : (r : ℤ → ℤ) (q : s.Pivot) (qs : List s.Pivot) (k : ℕ) → k ≤ length qs → IsMonomial (lead q) → AllByRecursion (IsPivot r) qs → AreAbove qs (lead q) 0 k → s.insert_pivot q qs ≡ take k qs ++ s.insert_pivot q (drop k qs)
above_passed r q [] zero l i h a = refl
above_passed r q [] (suc k) l i h a = absurd (omega (arith, l))
above_passed r q (x ∷ qs) zero l i h a = refl
above_passed r q (x ∷ qs) (suc k) l i h a =
    after q x qs i h.0.monomial (a 0 (omega arith) (omega arith))
    ∙ ap (λ z. x ∷ z) (above_passed r q qs k (omega (arith, l)) i h.1 (λ j b c. a (suc j) (omega arith) (omega (arith, c))))

-- the same of the rows at the places of the order
pub places_passed : (m : Option ℕ) (ps : List s.Pivot) (places : List ℕ) (q : s.Pivot) (n : Monomial) (k : ℕ) → AreKept (reduced_by m) ps → AreSorted ps places → k ≤ length places → IsMonomial n → AreAbove (pivots_at ps places) n 0 k → lead q ≡ n → s.insert_pivot q (pivots_at ps places) ≡ pivots_at ps (take k places) ++ s.insert_pivot q (pivots_at ps (drop k places))
places_passed m ps places q n k kept sorted l i above e =
    let qs = pivots_at ps places in
    let own : IsMonomial (lead q) = subst IsMonomial (sym e) i in
    let P : Monomial → Type 0 = λ z. AreAbove qs z 0 k in
    let passed = above_passed (reduced_by m) q qs k (omega (arith, l, places_length ps places)) own (order_pivots m ps places kept sorted) (subst P (sym e) above) in
    passed
    ∙ (let front = sym (pivots_take ps places k) in let rest = sym (pivots_drop ps places k) in λ j. front j ++ s.insert_pivot q (rest j))
