-- One turn of the loops that count what a substitution costs: counts that stay at their ends are exact below them.
use Rattle.std.proofs.Common.{◌≡◌, ℕ, suc, max, min, ◌+◌, ◌*◌, ◌^◌, ◌<◌, sym, ◌∙◌, ap, arith, List, length, add-one}
use Rattle.std.proofs.Math.Nat.{pow-suc}
use Rattle.tcl_num.proofs.SaturatingCounts.{sum_saturates, product_saturates}
use Rattle.tcl_poly.specs.Monomial.{Monomial}
use Rattle.tcl_poly.specs.Polynomial.{Polynomial, norm_of}
use Rattle.tcl_reduce.specs.Substitution.{bound_of, terms_by}

twice : (b end : ℕ) → min (min b end) end ≡ min b end
twice b end = omega arith

pub second_saturates : (a b end : ℕ) → min (a * min b end) end ≡ min (a * b) end
second_saturates a b end =
    sym (product_saturates a (min b end) end) ∙ ap (λ x. min (min a end * x) end) (twice b end) ∙ product_saturates a b end

pub first_saturates : (a b end : ℕ) → min (min a end * b) end ≡ min (a * b) end
first_saturates a b end =
    sym (product_saturates (min a end) b end) ∙ ap (λ x. min (x * min b end) end) (twice a end) ∙ product_saturates a b end

-- the next power of a number
pub power_turn : (g k power next end : ℕ) → power ≡ min (g ^ k) end → next ≡ min (power * g) end → next ≡ min (g ^ (k + 1)) end
power_turn g k power next end p n =
    n ∙ ap (λ x. min (x * g) end) p ∙ first_saturates (g ^ k) g end ∙ ap (λ x. min x end) (sym (pow-suc g k) ∙ ap (λ j. g ^ j) (sym (add-one k)))

pub terms_turn : {E : Type 0} (d part : List (Monomial × E)) (fs : ℕ → List (Monomial × E)) (k power count row next end : ℕ) → part ≡ fs k → power ≡ min (length d ^ k) end → count ≡ min (terms_by d fs k) end → row ≡ min (length part * power) end → next ≡ min (count + row) end → next ≡ min (terms_by d fs (k + 1)) end
terms_turn d part fs k power count row next end q p c r n =
    let one : row ≡ min (length (fs k) * length d ^ k) end =
    r ∙ (λ i. min (length (q i) * p i) end) ∙ second_saturates (length (fs k)) (length d ^ k) end in
    n ∙ (λ i. min (c i + one i) end) ∙ sum_saturates (terms_by d fs k) (length (fs k) * length d ^ k) end ∙ ap (λ j. min (terms_by d fs j) end) (sym (add-one k))

pub bound_turn : (d part : Polynomial) (fs : ℕ → Polynomial) (k norm power last bound row next end : ℕ) → part ≡ fs (k + 1) → norm ≡ min (norm_of part) end → power ≡ min (max 1 (norm_of d) ^ k) end → last ≡ min (1 + norm_of d) end → bound ≡ min (bound_of d fs k) end → row ≡ min (min (min ((k + 1) * norm) end * power) end * last) end → next ≡ min (bound + row) end → next ≡ min (bound_of d fs (k + 1)) end
bound_turn d part fs k norm power last bound row next end q m p l b r n =
    let a = norm_of (fs (suc k)) in let g = max 1 (norm_of d) ^ k in
    let place = add-one k in
    let norms : norm ≡ min a end = m ∙ ap (λ x. min (norm_of x) end) (q ∙ ap fs place) in
    let first : min ((k + 1) * norm) end ≡ min (suc k * a) end = (λ i. min (place i * norms i) end) ∙ second_saturates (suc k) a end in
    let second : min (min ((k + 1) * norm) end * power) end ≡ min (suc k * a * g) end = (λ i. min (first i * p i) end) ∙ product_saturates (suc k * a) g end in
    let third : row ≡ min (suc k * a * g * (1 + norm_of d)) end = r ∙ (λ i. min (second i * l i) end) ∙ product_saturates (suc k * a * g) (1 + norm_of d) end in
    n ∙ (λ i. min (b i + third i) end) ∙ sum_saturates (bound_of d fs k) (suc k * a * g * (1 + norm_of d)) end ∙ ap (λ j. min (bound_of d fs j) end) (sym place)

pub last_saturates : (n norm last end : ℕ) → norm ≡ min n end → last ≡ min (1 + norm) end → last ≡ min (1 + n) end
last_saturates n norm last end e s = omega (arith, e, s)

pub growth_saturates : (n norm growth end : ℕ) → 0 < end → norm ≡ min n end → growth ≡ max norm 1 → growth ≡ min (max 1 n) end
growth_saturates n norm growth end p e s = grind (arith, e, s, p)

-- the power of a growth that stays at its end
pub growth_turn : (g k growth power next end : ℕ) → growth ≡ min g end → power ≡ min (g ^ k) end → next ≡ min (power * growth) end → next ≡ min (g ^ (k + 1)) end
growth_turn g k growth power next end e p n =
    n ∙ (λ i. min (p i * e i) end) ∙ product_saturates (g ^ k) g end ∙ ap (λ x. min x end) (sym (pow-suc g k) ∙ ap (λ j. g ^ j) (sym (add-one k)))
