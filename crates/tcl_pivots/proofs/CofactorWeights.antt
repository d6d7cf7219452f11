-- The weight of cofactors by places.
use Rattle.std.proofs.Common.{◌≡◌, ℕ, zero, suc, ◌+◌, ◌*◌, ◌<◌, refl, sym, ◌∙◌, ap, subst, Bool, ◌||◌, List, [], ◌∷◌, length, drop, get_or, map, ℤ}
use Rattle.std.specs.Prelude.{nat_le}
use Rattle.tcl_poly.specs.Polynomial.{terms_of, degree_of, norm_of}
use Rattle.tcl_poly.specs.declared.cofactors.Cofactor.{Cofactor}
use Rattle.tcl_poly.specs.Combination.{Terms, equation_at, weight_of}
use Rattle.tcl_poly.proofs.TermLists.{degree_of_values, terms_itself}
use Rattle.tcl_reduce.specs.Answer.{numbered}
use Rattle.tcl_reduce.specs.CofactorSum.{is_deep}
use Rattle.tcl_pivots.specs.CofactorLists.{AreBelow, equations_of}
use Rattle.tcl_pivots.proofs.CofactorTurns.{valued, from_place}

below_from : {R E : Type 0} (n : ℕ) (cs : List (Cofactor R E)) (k : ℕ) → AreBelow n (numbered cs) → AreBelow n (numbered (drop k cs))
below_from n [] zero h = h
below_from n [] (suc k) h = h
below_from n (c ∷ cs) zero h = h
below_from n (c ∷ cs) (suc k) h = below_from n cs k h.1

pub below_at : {R E : Type 0} (n : ℕ) (cs : List (Cofactor R E)) (k : ℕ) (x : Cofactor R E) → x ≡ get_or cs k x → k < length cs → AreBelow n (numbered cs) → x.equation < n
below_at n cs k x e l h =
    let P : List (Cofactor _ _) → Type 0 = λ z. AreBelow n (numbered z) in
    let here : P (x ∷ drop (k + 1) cs) = subst P (from_place cs k x e l) (below_from n cs k h) in here.0

-- the equation of a number, with its coefficients' values
pub equation_values : {E : Type 0} (value : E → ℤ) (equations : List (Terms E)) (k : ℕ) → equation_at (equations_of value equations) k ≡ terms_of value (equation_at equations k)
equation_values value [] zero = refl
equation_values value [] (suc k) = refl
equation_values value (e ∷ es) zero = refl
equation_values value (e ∷ es) (suc k) = equation_values value es k

pub equation_degree : {E : Type 0} (value : E → ℤ) (equations : List (Terms E)) (k : ℕ) → degree_of (equation_at (equations_of value equations) k) ≡ degree_of (equation_at equations k)
equation_degree value equations k = ap (λ z. degree_of z) (equation_values value equations k) ∙ degree_of_values value (equation_at equations k)

pub weight_values : {E : Type 0} (value : E → ℤ) (equations : List (Terms E)) (cs : List (ℕ × Terms E)) → weight_of (λ n. n) (equations_of value equations) (map (λ c. (c.0, terms_of value c.1)) cs) ≡ weight_of value equations cs
weight_values value equations [] = refl
weight_values value equations (c ∷ cs) =
    let e = equation_at (equations_of value equations) c.0 in
    let first = ap (λ z. norm_of z) (terms_itself (terms_of value c.1)) in
    let second = ap (λ z. norm_of z) (terms_itself e ∙ equation_values value equations c.0) in
    λ i. first i * second i + weight_values value equations cs i

pub turn_deep : {R E : Type 0} (value : E → ℤ) (equations : List (Terms E)) (xs : List (Cofactor R E)) (k : ℕ) (x : Cofactor R E) (q : Terms E) (pair deep : Bool) → x ≡ get_or xs k x → k < length xs → q ≡ equation_at equations x.equation → pair ≡ nat_le 1025 (degree_of x.poly + degree_of q) → deep ≡ is_deep (equations_of value equations) (valued value (drop (k + 1) xs)) → (pair || deep) ≡ is_deep (equations_of value equations) (valued value (drop k xs))
turn_deep value equations xs k x q pair deep e l f g h =
    let es = equations_of value equations in
    let degrees : degree_of x.poly + degree_of q ≡ degree_of (terms_of value x.poly) + degree_of (equation_at es x.equation) =
    (let own = sym (degree_of_values value x.poly) in
    let other = ap (λ z. degree_of z) f ∙ sym (equation_degree value equations x.equation) in λ i. own i + other i) in
    let first = g ∙ ap (nat_le 1025) degrees in
    (λ i. first i || h i) ∙ sym (ap (λ z. is_deep es (valued value z)) (from_place xs k x e l))
