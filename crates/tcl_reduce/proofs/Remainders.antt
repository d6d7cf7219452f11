-- The remainder and the cofactors of a reduction, over any list of equations that begins with those of the definitions.
use Rattle.std.proofs.Common.{◌≡◌, ℕ, zero, suc, ◌+◌, ◌*◌, ◌≤◌, refl, sym, ◌∙◌, ap, subst, arith, List, [], ◌∷◌, length, le_refl, ℤ, Option}
use Rattle.tcl_ring.specs.Reduction.{IsModulus, reduced_by, is_wide}
use Rattle.tcl_ring.proofs.Reductions.{is_reduction}
use Rattle.tcl_poly.specs.Polynomial.{Polynomial, IsPolynomial, terms_of, sum_of, product_of, norm_of, degree_of}
use Rattle.tcl_poly.proofs.TermLists.{degree_of_values, terms_itself}
use Rattle.tcl_poly.specs.Combination.{Terms, equation_at, combination_of, weight_of, AreCofactors}
use Rattle.tcl_reduce.specs.Reduction.{Definition, definition_at, equation_of, Reduced, reduced_of}
use Rattle.tcl_reduce.specs.Reduction.Reduced.{Done}
use Rattle.tcl_reduce.specs.Remainder.{AreDefinitions, BeginsWith, RiseFrom, IsRemainder, pairs_of}
use Rattle.tcl_reduce.specs.Laws.{ReductionsKeep, PartsMake, QuotientsDivide}
use Rattle.tcl_reduce.proofs.Gathering.{gathers}
use Rattle.tcl_reduce.proofs.Substituting.{power_quotient}
use Rattle.tcl_reduce.proofs.Reducing.{equation_is, equation_says, combined, weight, AreFit, IsState, Ends, reduction_ends, first_state}

-- the equation of each number, with its coefficients' values
abbrev pub equations_by : {E : Type 0} → (E → ℤ) → List (Terms E) → ℕ → Polynomial
equations_by value equations k = terms_of value (equation_at equations k)

combination_is : {E : Type 0} (r : ℤ → ℤ) (value : E → ℤ) (equations : List (Terms E)) (cs : List (ℕ × Terms E)) → combination_of r value equations cs ≡ combined r (equations_by value equations) (pairs_of value cs)
combination_is r value equations [] = refl
combination_is r value equations (c ∷ cs) =
    ap (sum_of r (product_of r (terms_of value c.1) (terms_of value (equation_at equations c.0)))) (combination_is r value equations cs)

weight_is : {E : Type 0} (value : E → ℤ) (equations : List (Terms E)) (cs : List (ℕ × Terms E)) → weight_of value equations cs ≡ weight (equations_by value equations) (pairs_of value cs)
weight_is value equations [] = refl
weight_is value equations (c ∷ cs) =
    ap (λ n. norm_of (terms_of value c.1) * norm_of (terms_of value (equation_at equations c.0)) + n) (weight_is value equations cs)

fit_cofactors : {E : Type 0} (m : Option ℕ) (value : E → ℤ) (equations : List (Terms E)) (least : ℕ) (cs : List (ℕ × Terms E)) → AreFit (reduced_by m) (equations_by value equations) (pairs_of value cs) → RiseFrom least (length equations) cs → AreCofactors m value equations cs
fit_cofactors m value equations least [] h i = tt
fit_cofactors m value equations least (c ∷ cs) h i = (
  i.1,
  h.0,
  omega (arith, h.2, degree_of_values value c.1, degree_of_values value (equation_at equations c.0)),
  fit_cofactors m value equations (suc c.0) cs h.3 i.2,
)

rise_pairs : {E : Type 0} (value : E → ℤ) (least count end : ℕ) (cs : List (ℕ × Terms E)) → count ≤ end → RiseFrom least count (pairs_of value cs) → RiseFrom least end cs
rise_pairs value least count end [] l h = tt
rise_pairs value least count end (c ∷ cs) l h = (h.0, omega (arith, h.1, l), rise_pairs value (suc c.0) count end cs l h.2)

enough : {E : Type 0} (m : Option ℕ) (value : E → ℤ) (defs : List Definition) (equations : List (Terms E)) (n : ℕ) → n ≤ length defs → BeginsWith m value defs equations → n ≤ length equations
enough m value defs equations zero h b = omega arith
enough m value defs equations (suc k) h b = (b k (omega (arith, h))).0

pub definition_over : (r : ℤ → ℤ) (defs : List Definition) (k : ℕ) → AreDefinitions r defs → IsPolynomial r (definition_at defs k).2
definition_over r [] zero h = tt
definition_over r [] (suc k) h = tt
definition_over r (x ∷ xs) zero h = h.0
definition_over r (x ∷ xs) (suc k) h = definition_over r xs k h.1

state_remainder : {E : Type 0} (m : Option ℕ) (value : E → ℤ) (equations : List (Terms E)) (count : ℕ) (f rest : Polynomial) (spent : ℕ) (cs : List (ℕ × Terms E)) → count ≤ length equations → IsState m (equations_by value equations) 0 count f rest spent (pairs_of value cs) → IsRemainder m value equations f rest cs
state_remainder m value equations count f rest spent cs l state =
    let rise = rise_pairs value 0 count (length equations) cs l state.rise in
    record {
      kept = state.kept ∙ ap (sum_of (reduced_by m) rest) (sym (combination_is (reduced_by m) value equations cs));
      fit = fit_cofactors m value equations 0 cs state.fit rise;
      rise = rise;
      narrow = ap (is_wide m) (weight_is value equations cs) ∙ state.narrow;
    }

-- the law for any list of equations and of cofactors that stand for those of the reduction
pub remainder_holds : {E : Type 0} (m : Option ℕ) (value : E → ℤ) (defs : List Definition) (f rest : Polynomial) (cs : List (ℕ × Terms E)) (spent : ℕ) (equations : List (Terms E)) → IsModulus m → AreDefinitions (reduced_by m) defs → IsPolynomial (reduced_by m) f → degree_of f ≤ 1024 → BeginsWith m value defs equations → reduced_of m defs f ≡ Done rest (pairs_of value cs) spent → IsRemainder m value equations f rest cs
remainder_holds m value defs f rest cs spent equations modulus over h d begins is =
    let ring = is_reduction m modulus in
    let e = equations_by value equations in
    let count = length defs in
    let P : Reduced → Type 0 = λ o. Ends m e count f o in
    let ends = subst P is (reduction_ends m ring e count defs count f f (norm_of f) [] (le_refl count) (λ k l. ((begins k l).1, definition_over (reduced_by m) defs k over)) (first_state m ring e count count f h d)) in
    state_remainder m value equations count f rest ends.0 cs (enough m value defs equations count (le_refl count) begins) ends.1

pairs_itself : (cs : List (ℕ × Polynomial)) → pairs_of (λ n. n) cs ≡ cs
pairs_itself [] = refl
pairs_itself (c ∷ cs) = λ i. (c.0, terms_itself c.1 i) ∷ pairs_itself cs i

pub reductions_keep : ReductionsKeep
reductions_keep m defs f rest cs spent equations modulus over h d begins is =
    remainder_holds m (λ n. n) defs f rest cs spent equations modulus over h d begins (is ∙ ap (λ x. Done rest x spent) (sym (pairs_itself cs)))

pub parts_make : PartsMake
parts_make m u n f modulus h t = gathers (reduced_by m) (is_reduction m modulus) u f n h t

pub quotients_divide : QuotientsDivide
quotients_divide m x k modulus h =
    let ring = is_reduction m modulus in
    power_quotient (reduced_by m) ring x.1 x.2 (equation_of (reduced_by m) x) k h (equation_is (reduced_by m) ring x h) (equation_says (reduced_by m) ring x h)
