-- Over the integers the norm of a row is at most the sum of the products of its cofactors' and their equations' norms, and
-- so is the norm of each cofactor: a step that makes a coefficient too great is wide.
use Rattle.std.proofs.Common.{ℕ, ◌≤◌, sym, ◌∙◌, subst, List, [], ◌∷◌, length, ℤ, None}
use Rattle.std.specs.List.{AllByRecursion}
use Rattle.tcl_ring.specs.Reduction.{IsReduction, reduced_by}
use Rattle.tcl_ring.proofs.Reductions.{is_reduction}
use Rattle.tcl_poly.specs.Polynomial.{Polynomial, IsPolynomial, terms_of, product_of, norm_of}
use Rattle.tcl_poly.proofs.Canonical.{sum_is, product_is, same_alike}
use Rattle.tcl_poly.proofs.TermLists.{terms_itself}
use Rattle.tcl_poly.specs.Combination.{equation_at, combination_of, weight_of}
use Rattle.tcl_poly.proofs.Combinations.{combination_norm}
use Rattle.tcl_reduce.specs.Row.{Row}
use Rattle.tcl_pivots.proofs.Trying.{equation_over}
use Rattle.tcl_pivots.proofs.Making.{combination_heavy, AreMade, IsRow}

pub made_combination : (r : ℤ → ℤ) → IsReduction r → (es : List Polynomial) (cs : List (ℕ × Polynomial)) → AllByRecursion (IsPolynomial r) es → AreMade r (length es) cs → IsPolynomial r (combination_of r (λ n. n) es cs)
made_combination r ring es [] h i = tt
made_combination r ring es (c ∷ cs) h i =
    let e = equation_at es c.0 in
    let P : Polynomial → Type 0 = λ p. IsPolynomial r p in
    sum_is r ring (product_of r (terms_of (λ n. n) c.1) (terms_of (λ n. n) e)) (combination_of r (λ n. n) es cs)
    (product_is r ring (terms_of (λ n. n) c.1) (terms_of (λ n. n) e) (subst P (sym (terms_itself c.1)) i.0.1) (subst P (sym (terms_itself e)) (equation_over r es c.0 h)))
    (made_combination r ring es cs h i.1)

pub row_norm : (es : List Polynomial) (a : Row) → AllByRecursion (IsPolynomial (reduced_by None)) es → IsPolynomial (reduced_by None) a.poly → IsRow (reduced_by None) es a → norm_of a.poly ≤ weight_of (λ n. n) es a.cofactors
row_norm es a h i j =
    let r = reduced_by None in
    let ring = is_reduction None tt in
    let same = same_alike r ring a.poly (combination_of r (λ n. n) es a.cofactors) i (made_combination r ring es a.cofactors h j.made)
    (λ φ. j.sum φ ∙ sym (combination_heavy r ring es φ a.cofactors)) in
    subst (λ p. norm_of p ≤ weight_of (λ n. n) es a.cofactors) (sym same) (combination_norm (λ n. n) es a.cofactors)
