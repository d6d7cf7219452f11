-- The polynomial of a term has the term's value at every point that gives each variable its value in the store.
use Rattle.std.proofs.Common.{◌≡◌, ℕ, zero, suc, ◌-◌, ◌^◌, refl, sym, ◌∙◌, ap, subst, arith, ℤ, pos, negsuc, neg_ℤ, ◌+ℤ◌, ◌-ℤ◌, ◌*ℤ◌, Bool, true, false, ◌&&◌, nat_lt, List, [], ◌∷◌, ◌++◌}
use Rattle.std.specs.List.{list_all}
use Rattle.std.proofs.lemmas.Int.{ints}
use Rattle.std.proofs.lemmas.Bool.{and_parts}
use Rattle.std.proofs.lemmas.Bool.Decides.{nat_tests}
use Rattle.tcl_num.proofs.IntegerRing.{int_one_mul, int_mul_comm}
use Rattle.tcl_ring.specs.Reduction.{IsReduction}
use Rattle.tcl_poly.specs.Polynomial.{Polynomial, sum_of, scaled, product_of, number_of, power_of, raised_by, value_of}
use Rattle.tcl_poly.specs.Unknown.{variable_key}
use Rattle.tcl_poly.proofs.Weights.{two_sums, reduced_weight}
use Rattle.tcl_poly.proofs.Values.{value_sum, value_scaled, value_product, number_values, unknown_values}
use Rattle.tcl_lang.specs.declared.ty.Word.{Word}
use Rattle.tcl_lang.specs.declared.term.Term.{Term, Term-F, fold-roll-Term, roll-Term, map-Term, ind-Term}
use Rattle.tcl_lang.specs.declared.term.Term.TheOpen as layer
use Rattle.tcl_lang.specs.Store.{word_at}
use Rattle.tcl_lang.specs.Names.{term_names, term_names_step}
use Rattle.tcl_lang.specs.Term as terms
use Rattle.tcl_term_poly.specs.Point.{point_of}
use Rattle.tcl_term_poly.specs.TermPolynomial.{difference_of, variable_of, polynomial_step, polynomial_of, quotient_key, less_multiple, are_narrow}

-- products of numbers that are equal in the ring
pub two_products : (r : ℤ → ℤ) → IsReduction r → (a b c d : ℤ) → r a ≡ r b → r c ≡ r d → r (a *ℤ c) ≡ r (b *ℤ d)
two_products r ring a b c d e f =
    ring.products c d a f ∙ ap r (int_mul_comm a d) ∙ ring.products a b d e ∙ ap r (int_mul_comm d b)

-- the value of a number, of an unknown and of a negation
pub value_number : (r : ℤ → ℤ) → IsReduction r → (point : ℕ → ℤ) (n : ℤ) → r (value_of point (number_of r n)) ≡ r n
value_number r ring point n = number_values r ring n (number_of r n) refl point

pub value_unknown : (r : ℤ → ℤ) → IsReduction r → (point : ℕ → ℤ) (key : ℕ) → r (value_of point (power_of r key 1)) ≡ r (point key)
value_unknown r ring point key = unknown_values r ring key (power_of r key 1) refl point

pub value_negation : (r : ℤ → ℤ) → IsReduction r → (point : ℕ → ℤ) (p : Polynomial) (n : ℤ) → r (value_of point p) ≡ r n → r (value_of point (scaled r ([], negsuc 0) p)) ≡ r (neg_ℤ n)
value_negation r ring point p n e =
    value_scaled r ring point ([], negsuc 0) p
    ∙ ring.products (pos 1 *ℤ value_of point p) n (negsuc 0) (ap r (int_one_mul (value_of point p)) ∙ e)
    ∙ ap r (omega (arith, ints))

-- the value of a difference
pub value_difference : (r : ℤ → ℤ) → IsReduction r → (point : ℕ → ℤ) (p q : Polynomial) (n m : ℤ) → r (value_of point p) ≡ r n → r (value_of point q) ≡ r m → r (value_of point (difference_of r p q)) ≡ r (n -ℤ m)
value_difference r ring point p q n m e f =
    value_sum r ring point p (scaled r ([], negsuc 0) q)
    ∙ two_sums r ring (value_of point p) n (value_of point (scaled r ([], negsuc 0) q)) (neg_ℤ m) e (value_negation r ring point q m f)

-- the value of a power
pub value_power : (r : ℤ → ℤ) → IsReduction r → (point : ℕ → ℤ) (p : Polynomial) (n : ℤ) (k : ℕ) → r (value_of point p) ≡ r n → r (value_of point (raised_by r p k)) ≡ r (terms.power_of n k)
unfolding terms.power_of
value_power r ring point p n zero e = value_number r ring point (pos 1)
value_power r ring point p n (suc k) e =
    value_product r ring point (raised_by r p k) p
    ∙ ap r (int_mul_comm (value_of point (raised_by r p k)) (value_of point p))
    ∙ two_products r ring (value_of point p) n (value_of point (raised_by r p k)) (terms.power_of n k) e (value_power r ring point p n k e)

-- the value of a variable and of the unknown of a line
is_narrow : (v : ℕ) → nat_lt v (2 ^ 32) ≡ true → nat_lt (variable_key v) (variable_key (2 ^ 32)) ≡ true
is_narrow v e = grind (arith, nat_tests)

back : (v : ℕ) → variable_key v - 1 ≡ v
back v = omega arith

pub point_variable : (store : List Word) (quotients : ℕ → ℤ) (v : ℕ) → nat_lt v (2 ^ 32) ≡ true → point_of store quotients (variable_key v) ≡ (word_at store v).value
unfolding point_of
point_variable store quotients v e = rw (is_narrow v e) (ap (λ k. (word_at store k).value) (back v))

not_narrow : (place : ℕ) → nat_lt (quotient_key place) (variable_key (2 ^ 32)) ≡ false
not_narrow place = grind (arith, nat_tests)

pub point_quotient : (store : List Word) (quotients : ℕ → ℤ) (place : ℕ) → point_of store quotients (quotient_key place) ≡ quotients place
unfolding point_of
point_quotient store quotients place = rw (not_narrow place) (ap quotients (omega arith))

pub value_variable : (r : ℤ → ℤ) → IsReduction r → (store : List Word) (quotients : ℕ → ℤ) (v : ℕ) → nat_lt v (2 ^ 32) ≡ true → r (value_of (point_of store quotients) (variable_of r v)) ≡ r (word_at store v).value
value_variable r ring store quotients v e = value_unknown r ring (point_of store quotients) (variable_key v) ∙ ap r (point_variable store quotients v e)

-- the value of a polynomial less a multiple of the unknown of a line
pub value_less_multiple : (r : ℤ → ℤ) → IsReduction r → (store : List Word) (quotients : ℕ → ℤ) (p : Polynomial) (n m : ℤ) (place : ℕ) → r (value_of (point_of store quotients) p) ≡ r n → r (value_of (point_of store quotients) (less_multiple r p m place)) ≡ r (n -ℤ m *ℤ quotients place)
value_less_multiple r ring store quotients p n m place e =
    let point = point_of store quotients in
    let u = power_of r (quotient_key place) 1 in
    value_difference r ring point p (scaled r ([], r m) u) n (m *ℤ quotients place) e
    (value_scaled r ring point ([], r m) u
    ∙ reduced_weight r ring m (pos 1 *ℤ value_of point u)
    ∙ ring.products (pos 1 *ℤ value_of point u) (quotients place) m
    (ap r (int_one_mul (value_of point u)) ∙ value_unknown r ring point (quotient_key place) ∙ ap r (point_quotient store quotients place)))

-- of parts that are both narrow
pub both : (p : ℕ → Bool) (xs ys : List ℕ) → list_all p (xs ++ ys) ≡ (list_all p xs && list_all p ys)
both p [] ys = refl
both p (x ∷ xs) ys = ap (λ b. p x && b) (both p xs ys) ∙ sym (and_assoc (p x) (list_all p xs) (list_all p ys))
  where
    and_assoc : (a b c : Bool) → ((a && b) && c) ≡ (a && (b && c))
    and_assoc true b c = refl
    and_assoc false b c = refl

pub parts : (xs ys : List ℕ) → list_all (λ v. nat_lt v (2 ^ 32)) (xs ++ ys) ≡ true → (list_all (λ v. nat_lt v (2 ^ 32)) xs ≡ true) × (list_all (λ v. nat_lt v (2 ^ 32)) ys ≡ true)
parts xs ys e = and_parts _ _ (sym (both (λ v. nat_lt v (2 ^ 32)) xs ys) ∙ e)

-- the law, by cases on the term
abbrev IsValued : (ℤ → ℤ) → List Word → (ℕ → ℤ) → Term → Type 0
IsValued r store quotients t =
    are_narrow t ≡ true → r (value_of (point_of store quotients) (polynomial_of r t)) ≡ r (terms.term_value store t)

abbrev Valued : (ℤ → ℤ) → List Word → (ℕ → ℤ) → Type 0
Valued r store quotients = (t : Term) × IsValued r store quotients t

at_layer : (r : ℤ → ℤ) (store : List Word) (quotients : ℕ → ℤ) (y : Term-F Term) (p : Polynomial) (n : ℤ) (names : List ℕ) → polynomial_of r (roll-Term y) ≡ p → terms.term_value store (roll-Term y) ≡ n → term_names (roll-Term y) ≡ names → (list_all (λ v. nat_lt v (2 ^ 32)) names ≡ true → r (value_of (point_of store quotients) p) ≡ r n) → IsValued r store quotients (roll-Term y)
at_layer r store quotients y p n names is value are h narrow =
    ap (λ x. r (value_of (point_of store quotients) x)) is
    ∙ h (sym (ap (list_all (λ v. nat_lt v (2 ^ 32))) are) ∙ narrow)
    ∙ ap r (sym value)

at_two : (r : ℤ → ℤ) (store : List Word) (quotients : ℕ → ℤ) (y : Term-F Term) (p : Polynomial) (n : ℤ) (a b : Term) → polynomial_of r (roll-Term y) ≡ p → terms.term_value store (roll-Term y) ≡ n → term_names (roll-Term y) ≡ term_names a ++ term_names b → IsValued r store quotients a → IsValued r store quotients b → (r (value_of (point_of store quotients) (polynomial_of r a)) ≡ r (terms.term_value store a) → r (value_of (point_of store quotients) (polynomial_of r b)) ≡ r (terms.term_value store b) → r (value_of (point_of store quotients) p) ≡ r n) → IsValued r store quotients (roll-Term y)
at_two r store quotients y p n a b is value are ha hb h =
    at_layer r store quotients y p n (term_names a ++ term_names b) is value are
    (λ narrow. let two = parts (term_names a) (term_names b) narrow in h (ha two.0) (hb two.1))

valued_step : (r : ℤ → ℤ) → IsReduction r → (store : List Word) (quotients : ℕ → ℤ) (y : Term-F (Valued r store quotients)) → IsValued r store quotients (roll-Term (map-Term (Valued r store quotients) Term (λ e. e.0) y))
valued_step r ring store quotients (layer.Var v) =
    at_layer r store quotients (layer.Var v) (variable_of r v) (word_at store v).value (v ∷ [])
    (fold-roll-Term Polynomial (polynomial_step r) (layer.Var v)) (fold-roll-Term ℤ (terms.value_step store) (layer.Var v)) (fold-roll-Term (List ℕ) term_names_step (layer.Var v))
    (λ narrow. value_variable r ring store quotients v (and_parts _ _ narrow).0)
valued_step r ring store quotients (layer.Num n) =
    at_layer r store quotients (layer.Num n) (number_of r n) n []
    (fold-roll-Term Polynomial (polynomial_step r) (layer.Num n)) (fold-roll-Term ℤ (terms.value_step store) (layer.Num n)) (fold-roll-Term (List ℕ) term_names_step (layer.Num n))
    (λ narrow. value_number r ring (point_of store quotients) n)
valued_step r ring store quotients (layer.Neg a) =
    at_layer r store quotients (layer.Neg a.0) (scaled r ([], negsuc 0) (polynomial_of r a.0)) (neg_ℤ (terms.term_value store a.0)) (term_names a.0)
    (fold-roll-Term Polynomial (polynomial_step r) (layer.Neg a.0)) (fold-roll-Term ℤ (terms.value_step store) (layer.Neg a.0)) (fold-roll-Term (List ℕ) term_names_step (layer.Neg a.0))
    (λ narrow. value_negation r ring (point_of store quotients) (polynomial_of r a.0) (terms.term_value store a.0) (a.1 narrow))
valued_step r ring store quotients (layer.Add a b) =
    at_two r store quotients (layer.Add a.0 b.0) (sum_of r (polynomial_of r a.0) (polynomial_of r b.0)) (terms.term_value store a.0 +ℤ terms.term_value store b.0) a.0 b.0
    (fold-roll-Term Polynomial (polynomial_step r) (layer.Add a.0 b.0)) (fold-roll-Term ℤ (terms.value_step store) (layer.Add a.0 b.0)) (fold-roll-Term (List ℕ) term_names_step (layer.Add a.0 b.0))
    a.1 b.1
    (λ e f. value_sum r ring (point_of store quotients) (polynomial_of r a.0) (polynomial_of r b.0) ∙ two_sums r ring _ _ _ _ e f)
valued_step r ring store quotients (layer.Sub a b) =
    at_two r store quotients (layer.Sub a.0 b.0) (difference_of r (polynomial_of r a.0) (polynomial_of r b.0)) (terms.term_value store a.0 -ℤ terms.term_value store b.0) a.0 b.0
    (fold-roll-Term Polynomial (polynomial_step r) (layer.Sub a.0 b.0)) (fold-roll-Term ℤ (terms.value_step store) (layer.Sub a.0 b.0)) (fold-roll-Term (List ℕ) term_names_step (layer.Sub a.0 b.0))
    a.1 b.1
    (λ e f. value_difference r ring (point_of store quotients) (polynomial_of r a.0) (polynomial_of r b.0) _ _ e f)
valued_step r ring store quotients (layer.Mul a b) =
    at_two r store quotients (layer.Mul a.0 b.0) (product_of r (polynomial_of r a.0) (polynomial_of r b.0)) (terms.term_value store a.0 *ℤ terms.term_value store b.0) a.0 b.0
    (fold-roll-Term Polynomial (polynomial_step r) (layer.Mul a.0 b.0)) (fold-roll-Term ℤ (terms.value_step store) (layer.Mul a.0 b.0)) (fold-roll-Term (List ℕ) term_names_step (layer.Mul a.0 b.0))
    a.1 b.1
    (λ e f. value_product r ring (point_of store quotients) (polynomial_of r a.0) (polynomial_of r b.0) ∙ two_products r ring _ _ _ _ e f)
valued_step r ring store quotients (layer.Pow a k) =
    at_layer r store quotients (layer.Pow a.0 k) (raised_by r (polynomial_of r a.0) k) (terms.power_of (terms.term_value store a.0) k) (term_names a.0)
    (fold-roll-Term Polynomial (polynomial_step r) (layer.Pow a.0 k)) (fold-roll-Term ℤ (terms.value_step store) (layer.Pow a.0 k)) (fold-roll-Term (List ℕ) term_names_step (layer.Pow a.0 k))
    (λ narrow. value_power r ring (point_of store quotients) (polynomial_of r a.0) (terms.term_value store a.0) k (a.1 narrow))

-- the value of a term's polynomial is the term's value
pub term_valued : (r : ℤ → ℤ) → IsReduction r → (store : List Word) (quotients : ℕ → ℤ) (t : Term) → are_narrow t ≡ true → r (value_of (point_of store quotients) (polynomial_of r t)) ≡ r (terms.term_value store t)
term_valued r ring store quotients =
    ind-Term (IsValued r store quotients) (λ x y is. subst (λ z. IsValued r store quotients (roll-Term z)) is (valued_step r ring store quotients y))
