-- Both orders agree: plain data that is in order gives a polynomial in order, and the other way round.
use Rattle.std.proofs.Common.{◌≡◌, ℕ, zero, suc, ◌+◌, ◌<◌, nat_lt, refl, sym, ◌∙◌, ap, subst, arith, true, List, [], ◌∷◌, Ordering, Less, Equal, Greater, nat_cmp, ℤ, pos, negsuc}
use Rattle.std.specs.Ordering.{ordering_then, MatchOrdering}
use Rattle.std.specs.List.{list_all}
use Rattle.std.proofs.lemmas.Bool.{and_parts, and_from}
use Rattle.std.proofs.lemmas.Bool.Decides.{nat_tests}
use Rattle.std.proofs.lemmas.Cmp.{ranked}
use Rattle.tcl_goals.specs.declared.remainder.Power.{Power}
use Rattle.tcl_goals.specs.declared.remainder.Summand.{Summand}
use Rattle.tcl_goals.specs.Remainder as plain
use Rattle.tcl_ring.specs.Reduction.{IsReduction}
use Rattle.tcl_poly.specs.Monomial.{Monomial, IsMonomialFrom, IsMonomial, IsLess, degree, lex, lex_at, order}
use Rattle.tcl_poly.specs.Polynomial.{Polynomial, front, IsUnder, IsPolynomial}
use Rattle.tcl_poly.proofs.MonomialLaws.{OrderSays, order_says}
use Rattle.tcl_poly.proofs.Canonical.{front_is, under_chain}
use Rattle.tcl_remainder.specs.Terms.{monomial_of, polynomial_of}

-- ---- the orders

compared_at : (o p : Ordering) (a b : ℕ) → MatchOrdering o (a < b) (a ≡ b) (b < a) → MatchOrdering p (a + 1 < b + 1) (a + 1 ≡ b + 1) (b + 1 < a + 1) → o ≡ p
compared_at Less Less a b s t = refl
compared_at Less Equal a b s t = absurd (omega (arith, s, t))
compared_at Less Greater a b s t = absurd (omega (arith, s, t))
compared_at Equal Less a b s t = absurd (omega (arith, s, t))
compared_at Equal Equal a b s t = refl
compared_at Equal Greater a b s t = absurd (omega (arith, s, t))
compared_at Greater Less a b s t = absurd (omega (arith, s, t))
compared_at Greater Equal a b s t = absurd (omega (arith, s, t))
compared_at Greater Greater a b s t = refl

-- keys are compared as the numbers of the unknowns are
compared : (a b : ℕ) → nat_cmp a b ≡ nat_cmp (a + 1) (b + 1)
compared a b = compared_at (nat_cmp a b) (nat_cmp (a + 1) (b + 1)) a b (ranked a b (nat_cmp a b) refl) (ranked (a + 1) (b + 1) (nat_cmp (a + 1) (b + 1)) refl)

lex_at_agrees : (o p : Ordering) → plain.lex_at o p ≡ lex_at o p
lex_at_agrees Less p = refl
lex_at_agrees Equal p = refl
lex_at_agrees Greater p = refl

lex_agrees : (a b : List Power) → plain.lex_of a b ≡ lex (monomial_of a) (monomial_of b)
lex_agrees [] [] = refl
lex_agrees [] (f ∷ b) = refl
lex_agrees (f ∷ a) [] = refl
lex_agrees (f ∷ a) (g ∷ b) =
    lex_at_agrees (nat_cmp (plain.key_of f.name) (plain.key_of g.name)) (ordering_then (nat_cmp f.exponent g.exponent) (plain.lex_of a b))
    ∙ (λ i. lex_at (compared (plain.key_of f.name) (plain.key_of g.name) i) (ordering_then (nat_cmp f.exponent g.exponent) (lex_agrees a b i)))

pub degree_agrees : (a : List Power) → plain.degree_of a ≡ degree (monomial_of a)
degree_agrees [] = refl
degree_agrees (f ∷ a) = ap (λ n. f.exponent + n) (degree_agrees a)

pub order_agrees : (a b : List Power) → plain.order_of a b ≡ order (monomial_of a) (monomial_of b)
order_agrees a b = λ i. ordering_then (nat_cmp (degree_agrees a i) (degree_agrees b i)) (lex_agrees a b i)

-- ---- from plain data to polynomials

abbrev Follows : List Power → ℕ → Type 0
Follows [] n = Unit {0}
Follows (a ∷ powers) n = n < plain.key_of a.name

rise_tail : (a : Power) (powers : List Power) → plain.powers_rise (a ∷ powers) ≡ true → Follows powers (plain.key_of a.name) × (plain.powers_rise powers ≡ true)
rise_tail a [] e = (tt, refl)
rise_tail a (b ∷ powers) e =
    let parts = and_parts (nat_lt (plain.key_of a.name) (plain.key_of b.name)) (plain.powers_rise (b ∷ powers)) e in
    (grind (arith, nat_tests, parts.0), parts.1)

monomial_from : (k : ℕ) (powers : List Power) → (Follows powers k) → plain.powers_rise powers ≡ true → list_all plain.is_power powers ≡ true → IsMonomialFrom (suc (suc k)) (monomial_of powers)
monomial_from k [] f e h = tt
monomial_from k (a ∷ powers) f e h =
    let tail = rise_tail a powers e in
    let parts = and_parts (plain.is_power a) (list_all plain.is_power powers) h in
    let power = and_parts (plain.is_name a.name) (nat_lt 0 a.exponent) parts.0 in
    let positive : 0 < a.exponent = grind (arith, nat_tests, power.1) in
    let next = monomial_from (plain.key_of a.name) powers tail.0 tail.1 parts.1 in
    let P : ℕ → Type 0 = λ n. IsMonomialFrom (suc n) (monomial_of powers) in
    (omega (arith, f), positive, subst P (omega arith) next)

-- powers in order are a monomial
pub powers_monomial : (powers : List Power) → plain.are_powers powers ≡ true → IsMonomial (monomial_of powers)
powers_monomial [] e = tt
powers_monomial (a ∷ powers) e =
    let parts = and_parts _ _ e in
    let tail = rise_tail a powers parts.0 in
    let all = and_parts (plain.is_power a) (list_all plain.is_power powers) parts.1 in
    let power = and_parts (plain.is_name a.name) (nat_lt 0 a.exponent) all.0 in
    let positive : 0 < a.exponent = grind (arith, nat_tests, power.1) in
    let next = monomial_from (plain.key_of a.name) powers tail.0 tail.1 all.1 in
    let P : ℕ → Type 0 = λ n. IsMonomialFrom (suc n) (monomial_of powers) in
    (omega arith, positive, subst P (omega arith) next)

greater_at : (o : Ordering) (m n : Monomial) → OrderSays o m n → plain.is_greater o ≡ true → IsLess n m
greater_at Less m n s e = absurd (cc)
greater_at Equal m n s e = absurd (cc)
greater_at Greater m n s e = s

summand_less : (a b : Summand) → plain.is_summand a ≡ true → plain.is_summand b ≡ true → plain.is_greater (plain.order_of a.powers b.powers) ≡ true → IsLess (monomial_of b.powers) (monomial_of a.powers)
summand_less a b e f g =
    let first = and_parts _ _ e in
    let second = and_parts _ _ f in
    greater_at (order (monomial_of a.powers) (monomial_of b.powers)) (monomial_of a.powers) (monomial_of b.powers)
    (order_says (monomial_of a.powers) (monomial_of b.powers) (powers_monomial a.powers first.1) (powers_monomial b.powers second.1))
    (ap plain.is_greater (sym (order_agrees a.powers b.powers)) ∙ g)

-- the facts of a list of summands in order: of the first, and of the rest
pub first_summand : (a : Summand) (summands : List Summand) → plain.is_remainder (a ∷ summands) ≡ true → plain.is_summand a ≡ true
first_summand a summands e =
    let parts = and_parts _ _ e in
    (and_parts (plain.is_summand a) (list_all plain.is_summand summands) parts.0).0

fall_tail : (a : Summand) (summands : List Summand) → plain.summands_fall (a ∷ summands) ≡ true → plain.summands_fall summands ≡ true
fall_tail a [] e = refl
fall_tail a (b ∷ summands) e = (and_parts (plain.is_greater (plain.order_of a.powers b.powers)) (plain.summands_fall (b ∷ summands)) e).1

pub further_summands : (a : Summand) (summands : List Summand) → plain.is_remainder (a ∷ summands) ≡ true → plain.is_remainder summands ≡ true
further_summands a summands e =
    let parts = and_parts _ _ e in
    and_from _ _ (and_parts (plain.is_summand a) (list_all plain.is_summand summands) parts.0).1 (fall_tail a summands parts.1)

under_front : (n m : Monomial) (c : ℤ) (p : Polynomial) → IsLess m n → IsUnder n p → IsUnder n (front m c p)
under_front n m (pos zero) p h u = u
under_front n m (pos (suc k)) p h u = (h, u)
under_front n m (negsuc k) p h u = (h, u)

under_first : (r : ℤ → ℤ) (a : Summand) (summands : List Summand) → plain.is_remainder (a ∷ summands) ≡ true → IsUnder (monomial_of a.powers) (polynomial_of r summands)
under_first r a [] e = tt
under_first r a (b ∷ summands) e =
    let rest = further_summands a (b ∷ summands) e in
    let falls = and_parts (plain.is_greater (plain.order_of a.powers b.powers)) (plain.summands_fall (b ∷ summands)) (and_parts _ _ e).1 in
    let less = summand_less a b (first_summand a (b ∷ summands) e) (first_summand b summands rest) falls.0 in
    under_front (monomial_of a.powers) (monomial_of b.powers) (r b.coefficient) (polynomial_of r summands) less
    (under_chain (monomial_of b.powers) (monomial_of a.powers) (polynomial_of r summands) less (under_first r b summands rest))

-- plain data in order gives a polynomial over the ring
pub polynomial_is : (r : ℤ → ℤ) → IsReduction r → (summands : List Summand) → plain.is_remainder summands ≡ true → IsPolynomial r (polynomial_of r summands)
polynomial_is r ring [] e = tt
polynomial_is r ring (a ∷ summands) e =
    let first = and_parts _ _ (first_summand a summands e) in
    front_is r (monomial_of a.powers) (r a.coefficient) (polynomial_of r summands) (powers_monomial a.powers first.1) (ring.twice a.coefficient)
    (under_first r a summands e) (polynomial_is r ring summands (further_summands a summands e))
