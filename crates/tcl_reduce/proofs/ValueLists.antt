-- The definitions do not depend on what the coefficients are, but for their values.
use Rattle.std.proofs.Common.{◌≡◌, ℕ, zero, suc, max, ◌+◌, ◌*◌, ◌^◌, ◌==◌, refl, ◌∙◌, ap, Bool, true, false, if◌then◌else◌, List, [], ◌∷◌, length, ℤ}
use Rattle.tcl_poly.specs.Monomial.{Monomial, exponent}
use Rattle.tcl_poly.specs.Polynomial.{terms_of, degree_of}
use Rattle.tcl_poly.proofs.TermLists.{degree_of_values}
use Rattle.tcl_reduce.specs.Parts.{without, part, top, coefficients}
use Rattle.tcl_reduce.specs.Substitution.{if_any, degree_by, terms_by}
use Rattle.tcl_reduce.specs.Fits.{values_by}

part_values_at : {E : Type 0} (value : E → ℤ) (b : Bool) (u k : ℕ) (t : Monomial × E) (f : List (Monomial × E)) → terms_of value (part u k f) ≡ part u k (terms_of value f) → terms_of value (if b then (without u t.0, t.1) ∷ part u k f else part u k f) ≡ (if b then (without u t.0, value t.1) ∷ part u k (terms_of value f) else part u k (terms_of value f))
part_values_at value true u k t f h = ap (λ p. (without u t.0, value t.1) ∷ p) h
part_values_at value false u k t f h = h

pub part_values : {E : Type 0} (value : E → ℤ) (u k : ℕ) (f : List (Monomial × E)) → terms_of value (part u k f) ≡ part u k (terms_of value f)
part_values value u k [] = refl
part_values value u k (t ∷ f) = part_values_at value (exponent t.0 u == k) u k t f (part_values value u k f)

pub top_values : {E : Type 0} (value : E → ℤ) (u : ℕ) (f : List (Monomial × E)) → top u (terms_of value f) ≡ top u f
top_values value u [] = refl
top_values value u (t ∷ f) = ap (max (exponent t.0 u)) (top_values value u f)

length_values : {E : Type 0} (value : E → ℤ) (p : List (Monomial × E)) → length (terms_of value p) ≡ length p
length_values value [] = refl
length_values value (t ∷ p) = ap suc (length_values value p)

any_values : {E : Type 0} (value : E → ℤ) (p : List (Monomial × E)) (n : ℕ) → if_any (terms_of value p) n ≡ if_any p n
any_values value [] n = refl
any_values value (t ∷ p) n = refl

-- the coefficients' values, from the parts
pub coefficients_are : {E : Type 0} (value : E → ℤ) (u : ℕ) (f : List (Monomial × E)) (fs : ℕ → List (Monomial × E)) → ((k : ℕ) → fs k ≡ part u k f) → values_by value fs ≡ coefficients u (terms_of value f)
coefficients_are value u f fs h = λ i k. (ap (terms_of value) (h k) ∙ part_values value u k f) i

pub degree_values : {E : Type 0} (value : E → ℤ) (d : List (Monomial × E)) (fs : ℕ → List (Monomial × E)) (n : ℕ) → degree_by (terms_of value d) (values_by value fs) n ≡ degree_by d fs n
degree_values value d fs zero = refl
degree_values value d fs (suc k) =
    let row : degree_of (terms_of value (fs k)) + k * degree_of (terms_of value d) ≡ degree_of (fs k) + k * degree_of d =
    λ i. degree_of_values value (fs k) i + k * degree_of_values value d i in
    λ i. max (degree_values value d fs k i) ((any_values value (fs k) (degree_of (terms_of value (fs k)) + k * degree_of (terms_of value d)) ∙ ap (if_any (fs k)) row) i)

pub terms_values : {E : Type 0} (value : E → ℤ) (d : List (Monomial × E)) (fs : ℕ → List (Monomial × E)) (n : ℕ) → terms_by (terms_of value d) (values_by value fs) n ≡ terms_by d fs n
terms_values value d fs zero = refl
terms_values value d fs (suc k) = λ i. terms_values value d fs k i + length_values value (fs k) i * length_values value d i ^ k
