-- Two polynomials are the same exactly where the test says so.
use Rattle.std.proofs.Common.{◌≡◌, true, ◌&&◌, nat_eq, [], ◌∷◌, refl, ◌∙◌, ap}
use Rattle.std.proofs.lemmas.Bool.{and_parts, and_from, eqb-true, eq-eqb}
use Rattle.std.proofs.lemmas.Bool.Decides.{Decides-int_eq}
use Rattle.std.specs.Ordering.{int_eq}
use Rattle.tcl_poly.specs.Monomial.{Monomial}
use Rattle.tcl_poly.specs.Polynomial.{Polynomial}
use Rattle.tcl_kernel.specs.SamePolynomials.{same_monomial, same_polynomial}

monomials_are : (m n : Monomial) → same_monomial m n ≡ true → m ≡ n
unfolding same_monomial
monomials_are [] [] e = refl
monomials_are [] (b ∷ n) e = absurd (cc)
monomials_are (a ∷ m) [] e = absurd (cc)
monomials_are ((u, i) ∷ m) ((v, j) ∷ n) e =
    let outer = and_parts (nat_eq u v && nat_eq i j) (same_monomial m n) e in
    let inner = and_parts (nat_eq u v) (nat_eq i j) outer.0 in
    ap (λ k. (k, i) ∷ m) (eqb-true u v inner.0) ∙ ap (λ k. (v, k) ∷ m) (eqb-true i j inner.1)
    ∙ ap (λ ms. (v, j) ∷ ms) (monomials_are m n outer.1)

monomial_itself : (m : Monomial) → same_monomial m m ≡ true
unfolding same_monomial
monomial_itself [] = refl
monomial_itself ((u, i) ∷ m) =
    and_from (nat_eq u u && nat_eq i i) (same_monomial m m) (and_from (nat_eq u u) (nat_eq i i) (eq-eqb u u refl) (eq-eqb i i refl)) (monomial_itself m)

pub polynomials_are : (p q : Polynomial) → same_polynomial p q ≡ true → p ≡ q
unfolding same_polynomial
polynomials_are [] [] e = refl
polynomials_are [] (b ∷ q) e = absurd (cc)
polynomials_are (a ∷ p) [] e = absurd (cc)
polynomials_are ((m, c) ∷ p) ((n, d) ∷ q) e =
    let outer = and_parts (same_monomial m n && int_eq c d) (same_polynomial p q) e in
    let inner = and_parts (same_monomial m n) (int_eq c d) outer.0 in
    ap (λ k. (k, c) ∷ p) (monomials_are m n inner.0) ∙ ap (λ k. (n, k) ∷ p) ((Decides-int_eq c d).0 inner.1)
    ∙ ap (λ ps. (n, d) ∷ ps) (polynomials_are p q outer.1)

pub polynomial_itself : (p : Polynomial) → same_polynomial p p ≡ true
unfolding same_polynomial
polynomial_itself [] = refl
polynomial_itself ((m, c) ∷ p) =
    and_from (same_monomial m m && int_eq c c) (same_polynomial p p)
    (and_from (same_monomial m m) (int_eq c c) (monomial_itself m) ((Decides-int_eq c c).1 refl)) (polynomial_itself p)
