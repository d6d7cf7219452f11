-- Plain data of a polynomial is in order, and its polynomial is the one that it was made of.
use Rattle.std.proofs.Common.{◌≡◌, ℕ, zero, suc, ◌+◌, ◌-◌, ◌<◌, ◌≤◌, ◌^◌, nat_lt, refl, ◌∙◌, ap, arith, true, [], ◌∷◌, ℤ, pos, negsuc, unsigned_abs}
use Rattle.std.specs.List.{list_all}
use Rattle.std.proofs.lemmas.Bool.{and_parts, and_from, lt-ltb}
use Rattle.std.proofs.lemmas.Bool.Decides.{nat_tests}
use Rattle.std.proofs.lemmas.Int.{ints}
use Rattle.tcl_list.proofs.Booleans.{cond_cases}
use Rattle.tcl_goals.specs.declared.remainder.Name.TheVariants.{Var, Quot}
use Rattle.tcl_goals.specs.Remainder as plain
use Rattle.tcl_poly.specs.Unknown.{variable_key}
use Rattle.tcl_poly.specs.Monomial.{Monomial, IsMonomialFrom, IsMonomial, IsLess, order}
use Rattle.tcl_poly.specs.Polynomial.{Polynomial, Term, front, IsPolynomial}
use Rattle.tcl_poly.proofs.MonomialLaws.{order_greater}
use Rattle.tcl_remainder.specs.Names.{monomial_key, name_of, has_name}
use Rattle.tcl_remainder.specs.Terms.{monomial_of, polynomial_of, power_of, powers_of, summand_of, summands_of, has_names, is_plain_term, is_plain}
use Rattle.tcl_remainder.proofs.Orders.{order_agrees}

-- ---- unknowns

key_back : (k : ℕ) → has_name k ≡ true → monomial_key (name_of k) ≡ k
key_back k e =
    let parts = and_parts (nat_lt 0 k) (nat_lt k (2 ^ 33)) e in
    let some : 0 < k = grind (arith, nat_tests, parts.0) in
    cond_cases (λ name. monomial_key name ≡ k) (nat_lt k (variable_key (2 ^ 32))) (Var (k - 1)) (Quot (k - variable_key (2 ^ 32)))
    (λ below. omega (arith, some))
    (λ above. let from : 2 ^ 32 + 1 ≤ k = grind (arith, nat_tests, above) in omega (arith, from))

name_is : (k : ℕ) → has_name k ≡ true → plain.is_name (name_of k) ≡ true
name_is k e =
    let parts = and_parts (nat_lt 0 k) (nat_lt k (2 ^ 33)) e in
    let narrow : k < 2 ^ 33 = grind (arith, nat_tests, parts.1) in
    cond_cases (λ name. plain.is_name name ≡ true) (nat_lt k (variable_key (2 ^ 32))) (Var (k - 1)) (Quot (k - variable_key (2 ^ 32)))
    (λ below. refl)
    (λ above. let from : 2 ^ 32 + 1 ≤ k = grind (arith, nat_tests, above) in lt-ltb (k - variable_key (2 ^ 32) + 1) (2 ^ 32) (omega (arith, from, narrow)))

-- ---- monomials

monomial_back : (m : Monomial) → has_names m ≡ true → monomial_of (powers_of m) ≡ m
monomial_back [] e = refl
monomial_back (f ∷ m) e =
    let parts = and_parts (has_name f.0) (has_names m) e in
    let key = key_back f.0 parts.0 in
    let rest = monomial_back m parts.1 in
    λ i. (key i, f.1) ∷ rest i

power_is : (k : ℕ) (f : ℕ × ℕ) (m : Monomial) → IsMonomialFrom k (f ∷ m) → has_name f.0 ≡ true → plain.is_power (power_of f) ≡ true
power_is k f m h e = and_from (plain.is_name (name_of f.0)) (nat_lt 0 f.1) (name_is f.0 e) (lt-ltb 0 f.1 h.1)

powers_rise : (k : ℕ) (m : Monomial) → IsMonomialFrom k m → has_names m ≡ true → plain.powers_rise (powers_of m) ≡ true
powers_rise k [] h e = refl
powers_rise k (f ∷ []) h e = refl
powers_rise k (f ∷ g ∷ m) h e =
    let first = and_parts (has_name f.0) (has_names (g ∷ m)) e in
    let second = and_parts (has_name g.0) (has_names m) first.1 in
    and_from (nat_lt (plain.key_of (name_of f.0)) (plain.key_of (name_of g.0))) (plain.powers_rise (powers_of (g ∷ m)))
    (lt-ltb (plain.key_of (name_of f.0)) (plain.key_of (name_of g.0)) (omega (arith, key_back f.0 first.0, key_back g.0 second.0, h.2.0)))
    (powers_rise (suc f.0) (g ∷ m) h.2 first.1)

all_powers : (k : ℕ) (m : Monomial) → IsMonomialFrom k m → has_names m ≡ true → list_all plain.is_power (powers_of m) ≡ true
all_powers k [] h e = refl
all_powers k (f ∷ m) h e =
    let parts = and_parts (has_name f.0) (has_names m) e in
    and_from (plain.is_power (power_of f)) (list_all plain.is_power (powers_of m)) (power_is k f m h parts.0) (all_powers (suc f.0) m h.2 parts.1)

powers_are : (m : Monomial) → IsMonomial m → has_names m ≡ true → plain.are_powers (powers_of m) ≡ true
powers_are m h e = and_from (plain.powers_rise (powers_of m)) (list_all plain.is_power (powers_of m)) (powers_rise 0 m h e) (all_powers 0 m h e)

-- ---- terms

coefficient_is : (c : ℤ) → (c ≡ pos 0 → ⊥) → nat_lt (unsigned_abs c) (2 ^ 127) ≡ true → plain.is_coefficient c ≡ true
coefficient_is (pos zero) n e = absurd (n refl)
coefficient_is (pos (suc k)) n e =
    let narrow : suc k < 2 ^ 127 = grind (arith, nat_tests, e) in
    grind (arith, ints, nat_tests)
coefficient_is (negsuc k) n e =
    let narrow : suc k < 2 ^ 127 = grind (arith, nat_tests, e) in
    grind (arith, ints, nat_tests)

summand_is : (r : ℤ → ℤ) (t : Term) (p : Polynomial) → IsPolynomial r (t ∷ p) → is_plain_term t ≡ true → plain.is_summand (summand_of t) ≡ true
summand_is r t p h e =
    let parts = and_parts (nat_lt (unsigned_abs t.1) (2 ^ 127)) (has_names t.0) e in
    and_from (plain.is_coefficient t.1) (plain.are_powers (powers_of t.0)) (coefficient_is t.1 h.1 parts.0) (powers_are t.0 h.0 parts.1)

all_summands : (r : ℤ → ℤ) (p : Polynomial) → IsPolynomial r p → is_plain p ≡ true → list_all plain.is_summand (summands_of p) ≡ true
all_summands r [] h e = refl
all_summands r (t ∷ p) h e =
    let parts = and_parts (is_plain_term t) (is_plain p) e in
    and_from (plain.is_summand (summand_of t)) (list_all plain.is_summand (summands_of p)) (summand_is r t p h parts.0) (all_summands r p h.4 parts.1)

greater : (m n : Monomial) → IsMonomial m → IsMonomial n → has_names m ≡ true → has_names n ≡ true → IsLess n m → plain.is_greater (plain.order_of (powers_of m) (powers_of n)) ≡ true
greater m n h j e f less =
    ap plain.is_greater
    (order_agrees (powers_of m) (powers_of n) ∙ (λ i. order (monomial_back m e i) (monomial_back n f i)) ∙ order_greater m n h j less)

summands_fall : (r : ℤ → ℤ) (p : Polynomial) → IsPolynomial r p → is_plain p ≡ true → plain.summands_fall (summands_of p) ≡ true
summands_fall r [] h e = refl
summands_fall r (t ∷ []) h e = refl
summands_fall r (t ∷ u ∷ p) h e =
    let first = and_parts (is_plain_term t) (is_plain (u ∷ p)) e in
    let second = and_parts (is_plain_term u) (is_plain p) first.1 in
    let named = and_parts (nat_lt (unsigned_abs t.1) (2 ^ 127)) (has_names t.0) first.0 in
    let next_named = and_parts (nat_lt (unsigned_abs u.1) (2 ^ 127)) (has_names u.0) second.0 in
    and_from (plain.is_greater (plain.order_of (powers_of t.0) (powers_of u.0))) (plain.summands_fall (summands_of (u ∷ p)))
    (greater t.0 u.0 h.0 h.4.0 named.1 next_named.1 h.3.0)
    (summands_fall r (u ∷ p) h.4 first.1)

-- a polynomial's plain data is in order
pub summands_are : (r : ℤ → ℤ) (p : Polynomial) → IsPolynomial r p → is_plain p ≡ true → plain.is_remainder (summands_of p) ≡ true
summands_are r p h e =
    and_from (list_all plain.is_summand (summands_of p)) (plain.summands_fall (summands_of p)) (all_summands r p h e) (summands_fall r p h e)

front_stays : (m : Monomial) (c : ℤ) (p : Polynomial) → (c ≡ pos 0 → ⊥) → front m c p ≡ (m, c) ∷ p
front_stays m (pos zero) p n = absurd (n refl)
front_stays m (pos (suc k)) p n = refl
front_stays m (negsuc k) p n = refl

-- the polynomial of a polynomial's plain data
pub polynomial_back : (r : ℤ → ℤ) (p : Polynomial) → IsPolynomial r p → is_plain p ≡ true → polynomial_of r (summands_of p) ≡ p
polynomial_back r [] h e = refl
polynomial_back r (t ∷ p) h e =
    let parts = and_parts (is_plain_term t) (is_plain p) e in
    let named = and_parts (nat_lt (unsigned_abs t.1) (2 ^ 127)) (has_names t.0) parts.0 in
    let monomial = monomial_back t.0 named.1 in
    let rest = polynomial_back r p h.4 parts.1 in
    (λ i. front (monomial i) (h.2 i) (rest i)) ∙ front_stays t.0 t.1 p h.1
