-- A combination is over the ring, and over whole numbers its norm is at most its weight.
use Rattle.std.proofs.Common.{◌≡◌, ℕ, zero, suc, ◌+◌, ◌*◌, ◌<◌, ◌≤◌, ◌^◌, min, refl, sym, ◌∙◌, ap, subst, arith, false, List, [], ◌∷◌, length, drop, get_or, map, drop-cons, ℤ, Option, Some, None}
use Rattle.std.specs.Prelude.{slice_index_or}
use Rattle.std.proofs.lemmas.List.{get_or_default}
use Rattle.tcl_num.proofs.SaturatingCounts.{sum_saturates, product_saturates}
use Rattle.tcl_ring.specs.Reduction.{IsReduction, reduced_by, is_wide}
use Rattle.tcl_poly.specs.Polynomial.{Polynomial, IsPolynomial, terms_of, sum_of, product_of, norm_of, degree_of, IsOver}
use Rattle.tcl_poly.proofs.Canonical.{sum_is, product_is}
use Rattle.tcl_poly.proofs.Norms.{narrower, norm_sum, norm_product}
use Rattle.tcl_poly.specs.Combination.{Terms, equation_at, combination_of, weight_of, AreOver, AreCofactors}

-- an equation is over the ring
pub equation_over : {E : Type 0} (m : Option ℕ) (value : E → ℤ) (equations : List (Terms E)) (k : ℕ) → AreOver m value equations → IsOver m value (equation_at equations k)
equation_over m value [] zero h = tt
equation_over m value [] (suc k) h = tt
equation_over m value (p ∷ ps) zero h = h.0
equation_over m value (p ∷ ps) (suc k) h = equation_over m value ps k h.1

pub combination_is : {E : Type 0} (m : Option ℕ) → IsReduction (reduced_by m) → (value : E → ℤ) (equations : List (Terms E)) (cs : List (ℕ × Terms E)) → AreOver m value equations → AreCofactors m value equations cs → IsPolynomial (reduced_by m) (combination_of (reduced_by m) value equations cs)
combination_is m ring value equations [] h i = tt
combination_is m ring value equations (c ∷ cs) h i =
    let r = reduced_by m in
    sum_is r ring (product_of r (terms_of value c.1) (terms_of value (equation_at equations c.0))) (combination_of r value equations cs)
    (product_is r ring (terms_of value c.1) (terms_of value (equation_at equations c.0)) i.1 (equation_over m value equations c.0 h))
    (combination_is m ring value equations cs h i.3)

pub combination_norm : {E : Type 0} (value : E → ℤ) (equations : List (Terms E)) (cs : List (ℕ × Terms E)) → norm_of (combination_of (reduced_by None) value equations cs) ≤ weight_of value equations cs
combination_norm value equations [] = omega arith
combination_norm value equations (c ∷ cs) =
    let a = terms_of value c.1 in let e = terms_of value (equation_at equations c.0) in
    omega (arith, norm_sum (product_of (reduced_by None) a e) (combination_of (reduced_by None) value equations cs), norm_product a e, combination_norm value equations cs)

-- ---- by places

-- the cofactors from place k on begin with the one at k
pub pairs_from : {E X : Type 0} (xs : List X) (pair : X → ℕ × Terms E) (k : ℕ) (x : X) → x ≡ get_or xs k x → k < length xs → map pair (drop k xs) ≡ pair x ∷ map pair (drop (suc k) xs)
pairs_from xs pair k x e h = ap (map pair) (drop-cons xs k x h) ∙ ap (λ y. pair y ∷ map pair (drop (suc k) xs)) (sym e)

pub cofactors_from : {E X : Type 0} (m : Option ℕ) (value : E → ℤ) (equations : List (Terms E)) (xs : List X) (pair : X → ℕ × Terms E) (k : ℕ) → AreCofactors m value equations (map pair xs) → AreCofactors m value equations (map pair (drop k xs))
cofactors_from m value equations [] pair zero h = h
cofactors_from m value equations [] pair (suc k) h = h
cofactors_from m value equations (x ∷ xs) pair zero h = h
cofactors_from m value equations (x ∷ xs) pair (suc k) h = cofactors_from m value equations xs pair k h.3

-- what is known of the cofactor at k
pub cofactor_at : {E X : Type 0} (m : Option ℕ) (value : E → ℤ) (equations : List (Terms E)) (xs : List X) (pair : X → ℕ × Terms E) (k : ℕ) (x : X) → x ≡ get_or xs k x → k < length xs → AreCofactors m value equations (map pair xs) → ((pair x).0 < length equations) × IsOver m value (pair x).1 × (degree_of (pair x).1 + degree_of (equation_at equations (pair x).0) ≤ 1024)
cofactor_at m value equations xs pair k x e h i =
    let P : List (ℕ × Terms _) → Type 0 = λ cs. AreCofactors m value equations cs in
    let from = subst P (pairs_from xs pair k x e h) (cofactors_from m value equations xs pair k i) in
    (from.0, from.1, from.2)

weight_from : {E X : Type 0} (value : E → ℤ) (equations : List (Terms E)) (xs : List X) (pair : X → ℕ × Terms E) (k : ℕ) → weight_of value equations (map pair (drop k xs)) ≤ weight_of value equations (map pair xs)
weight_from value equations [] pair zero = omega arith
weight_from value equations [] pair (suc k) = omega arith
weight_from value equations (x ∷ xs) pair zero = omega arith
weight_from value equations (x ∷ xs) pair (suc k) = omega (arith, weight_from value equations xs pair k)

weight_at : {E X : Type 0} (value : E → ℤ) (equations : List (Terms E)) (xs : List X) (pair : X → ℕ × Terms E) (k : ℕ) (x : X) → x ≡ get_or xs k x → k < length xs → norm_of (terms_of value (pair x).1) * norm_of (terms_of value (equation_at equations (pair x).0)) + weight_of value equations (map pair (drop (suc k) xs)) ≤ weight_of value equations (map pair xs)
weight_at value equations xs pair k x e h = omega (arith, weight_from value equations xs pair k, ap (weight_of value equations) (pairs_from xs pair k x e h))

-- each product, and the sum with the rest, is as narrow as the whole
pub product_fits : {E X : Type 0} (m : Option ℕ) (value : E → ℤ) (equations : List (Terms E)) (xs : List X) (pair : X → ℕ × Terms E) (k : ℕ) (x : X) → x ≡ get_or xs k x → k < length xs → is_wide m (weight_of value equations (map pair xs)) ≡ false → is_wide m (norm_of (terms_of value (pair x).1) * norm_of (terms_of value (equation_at equations (pair x).0))) ≡ false
product_fits m value equations xs pair k x e h f =
    narrower m (weight_of value equations (map pair xs)) (norm_of (terms_of value (pair x).1) * norm_of (terms_of value (equation_at equations (pair x).0))) f
    (omega (arith, weight_at value equations xs pair k x e h))

pub sum_fits : {E X : Type 0} (m : Option ℕ) (value : E → ℤ) (equations : List (Terms E)) (xs : List X) (pair : X → ℕ × Terms E) (k : ℕ) (x : X) → x ≡ get_or xs k x → k < length xs → is_wide m (weight_of value equations (map pair xs)) ≡ false → is_wide m (norm_of (product_of (reduced_by m) (terms_of value (pair x).1) (terms_of value (equation_at equations (pair x).0))) + norm_of (combination_of (reduced_by m) value equations (map pair (drop (suc k) xs)))) ≡ false
sum_fits (Some m) value equations xs pair k x e h f = refl
sum_fits None value equations xs pair k x e h f =
    let a = terms_of value (pair x).1 in let q = terms_of value (equation_at equations (pair x).0) in
    let rest = map pair (drop (suc k) xs) in
    narrower None (weight_of value equations (map pair xs)) (norm_of (product_of (reduced_by None) a q) + norm_of (combination_of (reduced_by None) value equations rest)) f
    (omega (arith, weight_at value equations xs pair k x e h, norm_product a q, combination_norm value equations rest))

-- ---- one turn, with what a loop has read

-- an equation that was read by its place
pub read_equation : {E : Type 0} (equations : List (Terms E)) (k : ℕ) (q : Terms E) → q ≡ get_or equations k q → k < length equations → q ≡ equation_at equations k
read_equation equations k q e h = e ∙ get_or_default equations k q [] h

pub turn_second : {E : Type 0} (m : Option ℕ) (value : E → ℤ) (equations : List (Terms E)) (k : ℕ) (q : Terms E) → q ≡ equation_at equations k → AreOver m value equations → IsOver m value q
turn_second m value equations k q e h = let P : Terms _ → Type 0 = λ z. IsOver m value z in subst P (sym e) (equation_over m value equations k h)

pub turn_third : {E X : Type 0} (m : Option ℕ) → IsReduction (reduced_by m) → (value : E → ℤ) (equations : List (Terms E)) (xs : List X) (pair : X → ℕ × Terms E) (k : ℕ) (s : Polynomial) → s ≡ combination_of (reduced_by m) value equations (map pair (drop k xs)) → AreOver m value equations → AreCofactors m value equations (map pair xs) → IsPolynomial (reduced_by m) s
turn_third m ring value equations xs pair k s e h i =
    let P : Polynomial → Type 0 = λ z. IsPolynomial (reduced_by m) z in
    subst P (sym e) (combination_is m ring value equations (map pair (drop k xs)) h (cofactors_from m value equations xs pair k i))

pub turn_product_fits : {E X : Type 0} (m : Option ℕ) (value : E → ℤ) (equations : List (Terms E)) (xs : List X) (pair : X → ℕ × Terms E) (k : ℕ) (x : X) (q : Terms E) → x ≡ get_or xs k x → k < length xs → q ≡ equation_at equations (pair x).0 → is_wide m (weight_of value equations (map pair xs)) ≡ false → is_wide m (norm_of (terms_of value (pair x).1) * norm_of (terms_of value q)) ≡ false
turn_product_fits m value equations xs pair k x q e h f w =
    ap (λ z. is_wide m (norm_of (terms_of value (pair x).1) * norm_of (terms_of value z))) f ∙ product_fits m value equations xs pair k x e h w

pub turn_sum_fits : {E X : Type 0} (m : Option ℕ) (value : E → ℤ) (equations : List (Terms E)) (xs : List X) (pair : X → ℕ × Terms E) (k : ℕ) (x : X) (q : Terms E) (s : Polynomial) → x ≡ get_or xs k x → k < length xs → q ≡ equation_at equations (pair x).0 → s ≡ combination_of (reduced_by m) value equations (map pair (drop (suc k) xs)) → is_wide m (weight_of value equations (map pair xs)) ≡ false → is_wide m (norm_of (product_of (reduced_by m) (terms_of value (pair x).1) (terms_of value q)) + norm_of s) ≡ false
turn_sum_fits m value equations xs pair k x q s e h f g w =
    (λ i. is_wide m (norm_of (product_of (reduced_by m) (terms_of value (pair x).1) (terms_of value (f i))) + norm_of (g i)))
    ∙ sum_fits m value equations xs pair k x e h w

pub turn_combination : {E X : Type 0} (r : ℤ → ℤ) (value : E → ℤ) (equations : List (Terms E)) (xs : List X) (pair : X → ℕ × Terms E) (k : ℕ) (x : X) (q : Terms E) (s after : Polynomial) → x ≡ get_or xs k x → k < length xs → q ≡ equation_at equations (pair x).0 → s ≡ combination_of r value equations (map pair (drop (suc k) xs)) → after ≡ sum_of r (product_of r (terms_of value (pair x).1) (terms_of value q)) s → after ≡ combination_of r value equations (map pair (drop k xs))
turn_combination r value equations xs pair k x q s after e h f g sum =
    sum
    ∙ (λ i. sum_of r (product_of r (terms_of value (pair x).1) (terms_of value (f i))) (g i))
    ∙ sym (ap (combination_of r value equations) (pairs_from xs pair k x e h))

pub turn_weight : {E X : Type 0} (value : E → ℤ) (equations : List (Terms E)) (xs : List X) (pair : X → ℕ × Terms E) (k : ℕ) (x : X) (q : Terms E) (a b p w limit : ℕ) → x ≡ get_or xs k x → k < length xs → q ≡ equation_at equations (pair x).0 → a ≡ min (norm_of (terms_of value (pair x).1)) limit → b ≡ min (norm_of (terms_of value q)) limit → p ≡ min (a * b) limit → w ≡ min (weight_of value equations (map pair (drop (suc k) xs))) limit → min (p + w) limit ≡ min (weight_of value equations (map pair (drop k xs))) limit
turn_weight value equations xs pair k x q a b p w limit e h f first second product rest =
    let n = norm_of (terms_of value (pair x).1) in
    let o = norm_of (terms_of value (equation_at equations (pair x).0)) in
    let other : b ≡ min o limit = second ∙ ap (λ z. min (norm_of (terms_of value z)) limit) f in
    let whole : p ≡ min (n * o) limit = product ∙ (λ i. min (first i * other i) limit) ∙ product_saturates n o limit in
    (λ i. min (whole i + rest i) limit)
    ∙ sum_saturates (n * o) (weight_of value equations (map pair (drop (suc k) xs))) limit
    ∙ ap (λ z. min z limit) (sym (ap (weight_of value equations) (pairs_from xs pair k x e h)))
