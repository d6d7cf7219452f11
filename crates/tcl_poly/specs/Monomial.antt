-- Monomials: pairs of an unknown's key and its exponent. The keys rise, and the exponents are from 1.
-- The order is graded: a higher degree is greater, and at equal degree the higher exponent at the first unknown that
-- differs (Cox, Little, O'Shea, Ideals, Varieties, and Algorithms, chapter 2).
use Rattle.std.specs.Prelude.{◌≡◌, ℕ, suc, ◌+◌, ◌<◌, ◌≤◌, ◌==◌, ◌⊎◌, List, [], ◌∷◌, if◌then◌else◌}
use Rattle.std.specs.Ordering.{nat_cmp, ordering_then}
use Rattle.std.specs.declared.cmp.Ordering.{Ordering}
use Rattle.std.specs.declared.cmp.Ordering.TheVariants.{Less, Equal, Greater}

abbrev pub Monomial : Type 0
Monomial = List (ℕ × ℕ)

-- the exponent of the unknown u, 0 where it does not occur
abbrev pub exponent : Monomial → ℕ → ℕ
exponent [] u = 0
exponent (f ∷ m) u = (if f.0 == u then f.1 else 0) + exponent m u

abbrev pub degree : Monomial → ℕ
degree [] = 0
degree (f ∷ m) = f.1 + degree m

-- the keys rise from the least one on, and the exponents are from 1
abbrev pub IsMonomialFrom : ℕ → Monomial → Type 0
IsMonomialFrom least [] = Unit {0}
IsMonomialFrom least (f ∷ m) = (least ≤ f.0) × (0 < f.1) × IsMonomialFrom (suc f.0) m

abbrev pub IsMonomial : Monomial → Type 0
IsMonomial m = IsMonomialFrom 0 m

-- a factor put at its place, where its exponent is added to one of the same unknown
abbrev pub put_at : Ordering → ℕ × ℕ → ℕ × ℕ → Monomial → Monomial → Monomial
put_at Less f g m further = f ∷ (g ∷ m)
put_at Equal f g m further = (g.0, f.1 + g.1) ∷ m
put_at Greater f g m further = g ∷ further

abbrev pub put : ℕ × ℕ → Monomial → Monomial
put f [] = f ∷ []
put f (g ∷ m) = put_at (nat_cmp f.0 g.0) f g m (put f m)

-- the product
abbrev pub times : Monomial → Monomial → Monomial
times [] n = n
times (f ∷ m) n = put f (times m n)

-- the comparison of exponents from the first unknown on
abbrev pub lex_at : Ordering → Ordering → Ordering
lex_at Less further = Greater
lex_at Equal further = further
lex_at Greater further = Less

abbrev pub lex : Monomial → Monomial → Ordering
lex [] [] = Equal
lex [] (g ∷ n) = Less
lex (f ∷ m) [] = Greater
lex (f ∷ m) (g ∷ n) = lex_at (nat_cmp f.0 g.0) (ordering_then (nat_cmp f.1 g.1) (lex m n))

-- the order of monomials
abbrev pub order : Monomial → Monomial → Ordering
order m n = ordering_then (nat_cmp (degree m) (degree n)) (lex m n)

-- m is less than n: by its degree, or by its exponent at the first unknown that differs
abbrev pub IsLess : Monomial → Monomial → Type 0
IsLess m n = (degree m < degree n) ⊎ ((degree m ≡ degree n) × ((u : ℕ) × ((exponent m u < exponent n u) × ((v : ℕ) → v < u → exponent m v ≡ exponent n v))))

-- one factor beside another: the exponents decide where the unknowns are equal
abbrev pub factor_order : ℕ × ℕ → ℕ × ℕ → Ordering
factor_order f g = lex_at (nat_cmp f.0 g.0) (nat_cmp f.1 g.1)
