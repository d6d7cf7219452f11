-- The product of monomials adds exponents, and the order of monomials is total and kept by products.
use Rattle.std.proofs.Common.{◌≡◌, ℕ, suc, ◌+◌, ◌<◌, ◌≤◌, ◌==◌, inl, inr, refl, sym, ◌∙◌, ap, subst, arith, Bool, true, false, if◌then◌else◌, [], ◌∷◌, Ordering, Less, Equal, Greater, nat_cmp, eq-eqb}
use Rattle.std.specs.Ordering.{ordering_then, MatchOrdering}
use Rattle.std.proofs.lemmas.Cmp.{ranked, by_ranked, tied_itself, nat_cmp_total}
use Rattle.std.proofs.lemmas.Bool.{ne_eqb}
use Rattle.tcl_poly.specs.Monomial.{Monomial, exponent, degree, IsMonomialFrom, IsMonomial, put, put_at, times, lex, lex_at, order, IsLess}

-- the exponent of one factor
abbrev at_key : ℕ → ℕ → ℕ → ℕ
at_key k e u = if k == u then e else 0

joined : (t : Bool) (a b c : ℕ) → (if t then a + b else 0) + c ≡ (if t then a else 0) + ((if t then b else 0) + c)
joined true a b c = omega arith
joined false a b c = omega arith

turned : (a b c : ℕ) → a + (b + c) ≡ b + (a + c)
turned a b c = omega arith

put_exponent_at : (o : Ordering) (f g : ℕ × ℕ) (m further : Monomial) (u : ℕ) → MatchOrdering o (f.0 < g.0) (f.0 ≡ g.0) (g.0 < f.0) → exponent further u ≡ exponent (f ∷ m) u → exponent (put_at o f g m further) u ≡ exponent (f ∷ (g ∷ m)) u
put_exponent_at Less f g m further u s e = refl
put_exponent_at Equal f g m further u s e =
    let same = ap (λ k. at_key k f.1 u) s in
    joined (g.0 == u) f.1 g.1 (exponent m u) ∙ ap (λ x. x + (at_key g.0 g.1 u + exponent m u)) (sym same)
put_exponent_at Greater f g m further u s e = ap (λ x. at_key g.0 g.1 u + x) e ∙ turned (at_key g.0 g.1 u) (at_key f.0 f.1 u) (exponent m u)

put_exponent : (f : ℕ × ℕ) (m : Monomial) (u : ℕ) → exponent (put f m) u ≡ exponent (f ∷ m) u
put_exponent f [] u = refl
put_exponent f (g ∷ m) u = put_exponent_at (nat_cmp f.0 g.0) f g m (put f m) u (ranked f.0 g.0 (nat_cmp f.0 g.0) refl) (put_exponent f m u)

pub times_exponent : (m n : Monomial) (u : ℕ) → exponent (times m n) u ≡ exponent m u + exponent n u
times_exponent [] n u = omega arith
times_exponent (f ∷ m) n u = put_exponent f (times m n) u ∙ ap (λ x. at_key f.0 f.1 u + x) (times_exponent m n u) ∙ omega arith

put_degree_at : (o : Ordering) (f g : ℕ × ℕ) (m further : Monomial) → degree further ≡ degree (f ∷ m) → degree (put_at o f g m further) ≡ degree (f ∷ (g ∷ m))
put_degree_at Less f g m further e = refl
put_degree_at Equal f g m further e = omega arith
put_degree_at Greater f g m further e = omega arith

put_degree : (f : ℕ × ℕ) (m : Monomial) → degree (put f m) ≡ degree (f ∷ m)
put_degree f [] = refl
put_degree f (g ∷ m) = put_degree_at (nat_cmp f.0 g.0) f g m (put f m) (put_degree f m)

pub times_degree : (m n : Monomial) → degree (times m n) ≡ degree m + degree n
times_degree [] n = omega arith
times_degree (f ∷ m) n = put_degree f (times m n) ∙ ap (λ x. f.1 + x) (times_degree m n) ∙ omega arith

-- the product is a monomial
pub weaker : (j k : ℕ) (m : Monomial) → j ≤ k → IsMonomialFrom k m → IsMonomialFrom j m
weaker j k [] h s = tt
weaker j k (f ∷ m) h s = (omega (arith, s.0), s.1, s.2)

put_monomial_at : (o : Ordering) (k : ℕ) (f g : ℕ × ℕ) (m further : Monomial) → MatchOrdering o (f.0 < g.0) (f.0 ≡ g.0) (g.0 < f.0) → k ≤ f.0 → 0 < f.1 → IsMonomialFrom k (g ∷ m) → (suc g.0 ≤ f.0 → IsMonomialFrom (suc g.0) further) → IsMonomialFrom k (put_at o f g m further)
put_monomial_at Less k f g m further s h p i more = (h, p, (s, i.1, i.2))
put_monomial_at Equal k f g m further s h p i more = (i.0, omega (arith, i.1), i.2)
put_monomial_at Greater k f g m further s h p i more = (i.0, i.1, more (omega (arith, s)))

put_monomial : (k : ℕ) (f : ℕ × ℕ) (m : Monomial) → k ≤ f.0 → 0 < f.1 → IsMonomialFrom k m → IsMonomialFrom k (put f m)
put_monomial k f [] h p i = (h, p, tt)
put_monomial k f (g ∷ m) h p i =
    put_monomial_at (nat_cmp f.0 g.0) k f g m (put f m) (ranked f.0 g.0 (nat_cmp f.0 g.0) refl) h p i (λ below. put_monomial (suc g.0) f m below p i.2)

pub times_monomial : (k : ℕ) (m n : Monomial) → IsMonomialFrom k m → IsMonomialFrom k n → IsMonomialFrom k (times m n)
times_monomial k [] n i j = j
times_monomial k (f ∷ m) n i j = put_monomial k f (times m n) i.0 i.1 (times_monomial k m n (weaker k (suc f.0) m (omega (arith, i.0)) i.2) j)

clash : true ≡ false → ⊥
clash e = cc

-- an unknown before the first one has exponent 0
other_key : (t : Bool) (e : ℕ) → t ≡ false → (if t then e else 0) ≡ 0
other_key true e h = absurd (clash h)
other_key false e h = refl

own_key : (t : Bool) (e : ℕ) → t ≡ true → (if t then e else 0) ≡ e
own_key true e h = refl
own_key false e h = absurd (clash (sym h))

pub exponent_below : (k : ℕ) (m : Monomial) (u : ℕ) → IsMonomialFrom k m → u < k → exponent m u ≡ 0
exponent_below k [] u i h = refl
exponent_below k (f ∷ m) u i h =
    let here = other_key (f.0 == u) f.1 (ne_eqb f.0 u (λ e. omega (arith, i.0, e))) in
    omega (arith, here, exponent_below (suc f.0) m u i.2 (omega (arith, i.0)))

pub exponent_first : (k : ℕ) (f : ℕ × ℕ) (m : Monomial) → IsMonomialFrom k (f ∷ m) → exponent (f ∷ m) f.0 ≡ f.1
exponent_first k f m i =
    let here = own_key (f.0 == f.0) f.1 (eq-eqb f.0 f.0 refl) in
    omega (arith, here, exponent_below (suc f.0) m f.0 i.2 (omega arith))

-- the factors from their own key on
pub from_first : (k j : ℕ) (f : ℕ × ℕ) (m : Monomial) → IsMonomialFrom k (f ∷ m) → j ≤ f.0 → IsMonomialFrom j (f ∷ m)
from_first k j f m i h = (h, i.1, i.2)

-- equal exponents make equal monomials
same_at : (o : Ordering) (k : ℕ) (f g : ℕ × ℕ) (m n : Monomial) → MatchOrdering o (f.0 < g.0) (f.0 ≡ g.0) (g.0 < f.0) → IsMonomialFrom k (f ∷ m) → IsMonomialFrom k (g ∷ n) → ((u : ℕ) → exponent (f ∷ m) u ≡ exponent (g ∷ n) u) → (((u : ℕ) → exponent m u ≡ exponent n u) → IsMonomialFrom (suc g.0) m → m ≡ n) → (f ∷ m) ≡ (g ∷ n)
same_at Less k f g m n s i j e more =
    absurd (omega (arith, i.1, e f.0, exponent_first k f m i, exponent_below (suc f.0) (g ∷ n) f.0 (from_first k (suc f.0) g n j (omega (arith, s))) (omega arith)))
same_at Greater k f g m n s i j e more =
    absurd (omega (arith, j.1, e g.0, exponent_first k g n j, exponent_below (suc g.0) (f ∷ m) g.0 (from_first k (suc g.0) f m i (omega (arith, s))) (omega arith)))
same_at Equal k f g m n s i j e more =
    let exponents : f.1 ≡ g.1 = sym (exponent_first k f m i) ∙ e f.0 ∙ ap (exponent (g ∷ n)) s ∙ exponent_first k g n j in
    let tails : (u : ℕ) → exponent m u ≡ exponent n u = λ u. omega (arith, e u, ap (λ x. at_key x f.1 u) s, ap (λ x. at_key g.0 x u) exponents) in
    let P : ℕ → Type 0 = λ x. IsMonomialFrom (suc x) m in
    let rest = more tails (subst P s i.2) in
    λ i. (s i, exponents i) ∷ rest i

pub same_monomial : (k : ℕ) (m n : Monomial) → IsMonomialFrom k m → IsMonomialFrom k n → ((u : ℕ) → exponent m u ≡ exponent n u) → m ≡ n
same_monomial k [] [] i j e = refl
same_monomial k [] (g ∷ n) i j e = absurd (omega (arith, j.1, e g.0, exponent_first k g n j))
same_monomial k (f ∷ m) [] i j e = absurd (omega (arith, i.1, e f.0, exponent_first k f m i))
same_monomial k (f ∷ m) (g ∷ n) i j e =
    same_at (nat_cmp f.0 g.0) k f g m n (ranked f.0 g.0 (nat_cmp f.0 g.0) refl) i j e (λ tails h. same_monomial (suc g.0) m n h j.2 tails)

pub times_assoc : (l m n : Monomial) → IsMonomial l → IsMonomial m → IsMonomial n → times (times l m) n ≡ times l (times m n)
times_assoc l m n i j h =
    same_monomial 0 (times (times l m) n) (times l (times m n)) (times_monomial 0 (times l m) n (times_monomial 0 l m i j) h) (times_monomial 0 l (times m n) i (times_monomial 0 m n j h))
    (λ u. omega (arith, times_exponent (times l m) n u, times_exponent l m u, times_exponent l (times m n) u, times_exponent m n u))

pub times_comm : (m n : Monomial) → IsMonomial m → IsMonomial n → times m n ≡ times n m
times_comm m n i j =
    same_monomial 0 (times m n) (times n m) (times_monomial 0 m n i j) (times_monomial 0 n m j i)
    (λ u. omega (arith, times_exponent m n u, times_exponent n m u))

-- ---- the order

-- m has the lower exponent at the first unknown that differs
abbrev pub IsLower : Monomial → Monomial → Type 0
IsLower m n = (u : ℕ) × ((exponent m u < exponent n u) × ((v : ℕ) → v < u → exponent m v ≡ exponent n v))

pub less_times : (k m n : Monomial) → IsLess m n → IsLess (times k m) (times k n)
less_times k m n (inl d) = inl (omega (arith, times_degree k m, times_degree k n))
less_times k m n (inr (e, (u, (l, s)))) =
    inr (
      omega (arith, times_degree k m, times_degree k n),
      (
        u,
        (
          omega (arith, times_exponent k m u, times_exponent k n u),
          λ v h. times_exponent k m v ∙ ap (λ x. exponent k v + x) (s v h) ∙ sym (times_exponent k n v),
        ),
      ),
    )

pub less_self : (m : Monomial) → IsLess m m → ⊥
less_self m (inl d) = omega arith
less_self m (inr (e, (u, (l, s)))) = omega arith

at_one_place : (l m n : Monomial) (u v : ℕ) → u ≡ v → exponent l u < exponent m u → exponent m v < exponent n v → exponent l u < exponent n u
at_one_place l m n u v e a b = omega (arith, a, b, ap (exponent m) e, ap (exponent n) e)

lower_chain : (l m n : Monomial) → IsLower l m → IsLower m n → IsLower l n
lower_chain l m n (u, (a, s)) (v, (b, t)) =
    by_ranked (u < v) (u ≡ v) (v < u) (nat_cmp u v) (ranked u v (nat_cmp u v) refl)
    (λ _ h. (u, (omega (arith, a, t u h), λ w k. s w k ∙ t w (omega arith))))
    (λ _ e. (u, (at_one_place l m n u v e a b, λ w k. s w k ∙ t w (omega arith))))
    (λ _ h. (v, (omega (arith, b, s v h), λ w k. s w (omega arith) ∙ t w k)))

pub less_chain : (l m n : Monomial) → IsLess l m → IsLess m n → IsLess l n
less_chain l m n (inl d) (inl e) = inl (omega arith)
less_chain l m n (inl d) (inr (e, s)) = inl (omega arith)
less_chain l m n (inr (d, s)) (inl e) = inl (omega arith)
less_chain l m n (inr (d, s)) (inr (e, t)) = inr (d ∙ e, lower_chain l m n s t)

-- what the comparison of exponents says
abbrev pub LexSays : Ordering → Monomial → Monomial → Type 0
LexSays o m n = MatchOrdering o (IsLower m n) (m ≡ n) (IsLower n m)

abbrev pub OrderSays : Ordering → Monomial → Monomial → Type 0
OrderSays o m n = MatchOrdering o (IsLess m n) (m ≡ n) (IsLess n m)

-- a monomial that begins later has exponent 0 at the other's first unknown
lower_first : (k : ℕ) (f : ℕ × ℕ) (m n : Monomial) → IsMonomialFrom k (f ∷ m) → IsMonomialFrom (suc f.0) n → IsLower n (f ∷ m)
lower_first k f m n i j = (
  f.0,
  (
    omega (arith, i.1, exponent_first k f m i, exponent_below (suc f.0) n f.0 j (omega arith)),
    λ v h. exponent_below (suc f.0) n v j (omega arith) ∙ sym (exponent_below f.0 (f ∷ m) v (from_first k f.0 f m i (omega arith)) h),
  ),
)

-- equal first factors
lower_further : (f g : ℕ × ℕ) (m n : Monomial) → f.0 ≡ g.0 → f.1 ≡ g.1 → IsLower m n → IsLower (f ∷ m) (g ∷ n)
lower_further f g m n e h (u, (a, s)) = (
  u,
  (
    omega (arith, a, ap (λ x. at_key x f.1 u) e, ap (λ x. at_key g.0 x u) h),
    λ v k. omega (arith, s v k, ap (λ x. at_key x f.1 v) e, ap (λ x. at_key g.0 x v) h),
  ),
)

-- equal first unknowns with different exponents
lower_here : (k : ℕ) (f g : ℕ × ℕ) (m n : Monomial) → IsMonomialFrom k (f ∷ m) → IsMonomialFrom k (g ∷ n) → f.0 ≡ g.0 → f.1 < g.1 → IsLower (f ∷ m) (g ∷ n)
lower_here k f g m n i j e h = (
  f.0,
  (
    omega (arith, h, exponent_first k f m i, exponent_first k g n j, ap (exponent (g ∷ n)) e),
    λ v l. exponent_below f.0 (f ∷ m) v (from_first k f.0 f m i (omega arith)) l ∙ sym (exponent_below f.0 (g ∷ n) v (from_first k f.0 g n j (omega (arith, e))) l),
  ),
)

same_factors : (f g : ℕ × ℕ) (m n : Monomial) → f.0 ≡ g.0 → f.1 ≡ g.1 → m ≡ n → (f ∷ m) ≡ (g ∷ n)
same_factors f g m n e h s = λ i. (e i, h i) ∷ s i

lex_says_at : (o p q : Ordering) (k : ℕ) (f g : ℕ × ℕ) (m n : Monomial) → MatchOrdering o (f.0 < g.0) (f.0 ≡ g.0) (g.0 < f.0) → MatchOrdering p (f.1 < g.1) (f.1 ≡ g.1) (g.1 < f.1) → IsMonomialFrom k (f ∷ m) → IsMonomialFrom k (g ∷ n) → (f.0 ≡ g.0 → LexSays q m n) → LexSays (lex_at o (ordering_then p q)) (f ∷ m) (g ∷ n)
lex_says_at Less p q k f g m n s t i j more = lower_first k f m (g ∷ n) i (from_first k (suc f.0) g n j (omega (arith, s)))
lex_says_at Greater p q k f g m n s t i j more = lower_first k g n (f ∷ m) j (from_first k (suc g.0) f m i (omega (arith, s)))
lex_says_at Equal Less q k f g m n s t i j more = lower_here k f g m n i j s t
lex_says_at Equal Greater q k f g m n s t i j more = lower_here k g f n m j i (sym s) t
lex_says_at Equal Equal Less k f g m n s t i j more = lower_further f g m n s t (more s)
lex_says_at Equal Equal Equal k f g m n s t i j more = same_factors f g m n s t (more s)
lex_says_at Equal Equal Greater k f g m n s t i j more = lower_further g f n m (sym s) (sym t) (more s)

lex_says : (k : ℕ) (m n : Monomial) → IsMonomialFrom k m → IsMonomialFrom k n → LexSays (lex m n) m n
lex_says k [] [] i j = refl
lex_says k [] (g ∷ n) i j = lower_first k g n [] j tt
lex_says k (f ∷ m) [] i j = lower_first k f m [] i tt
lex_says k (f ∷ m) (g ∷ n) i j =
    lex_says_at (nat_cmp f.0 g.0) (nat_cmp f.1 g.1) (lex m n) k f g m n (ranked f.0 g.0 (nat_cmp f.0 g.0) refl) (ranked f.1 g.1 (nat_cmp f.1 g.1) refl) i j
    (λ e. let P : ℕ → Type 0 = λ x. IsMonomialFrom (suc x) m in lex_says (suc g.0) m n (subst P e i.2) j.2)

order_says_at : (o p : Ordering) (m n : Monomial) → MatchOrdering o (degree m < degree n) (degree m ≡ degree n) (degree n < degree m) → LexSays p m n → OrderSays (ordering_then o p) m n
order_says_at Less p m n s t = inl s
order_says_at Greater p m n s t = inl s
order_says_at Equal Less m n s t = inr (s, t)
order_says_at Equal Equal m n s t = t
order_says_at Equal Greater m n s t = inr (sym s, t)

-- what the order says of two monomials
pub order_says : (m n : Monomial) → IsMonomial m → IsMonomial n → OrderSays (order m n) m n
order_says m n i j =
    order_says_at (nat_cmp (degree m) (degree n)) (lex m n) m n (ranked (degree m) (degree n) (nat_cmp (degree m) (degree n)) refl) (lex_says 0 m n i j)

pub less_equal : Less ≡ Equal → ⊥
less_equal e = cc

pub greater_equal : Greater ≡ Equal → ⊥
greater_equal e = cc

-- equal by the order is equal
then_equal : (o p : Ordering) → ordering_then o p ≡ Equal → (o ≡ Equal) × (p ≡ Equal)
then_equal Less p e = absurd (less_equal e)
then_equal Equal p e = (refl, e)
then_equal Greater p e = absurd (greater_equal e)

lex_at_equal : (o p : Ordering) → lex_at o p ≡ Equal → (o ≡ Equal) × (p ≡ Equal)
lex_at_equal Less p e = absurd (greater_equal e)
lex_at_equal Equal p e = (refl, e)
lex_at_equal Greater p e = absurd (less_equal e)

numbers_equal_at : (o : Ordering) (a b : ℕ) → MatchOrdering o (a < b) (a ≡ b) (b < a) → o ≡ Equal → a ≡ b
numbers_equal_at Less a b s e = absurd (less_equal e)
numbers_equal_at Equal a b s e = s
numbers_equal_at Greater a b s e = absurd (greater_equal e)

pub numbers_equal : (a b : ℕ) → nat_cmp a b ≡ Equal → a ≡ b
numbers_equal a b e = numbers_equal_at (nat_cmp a b) a b (ranked a b (nat_cmp a b) refl) e

lex_same : (m n : Monomial) → lex m n ≡ Equal → m ≡ n
lex_same [] [] e = refl
lex_same [] (g ∷ n) e = absurd (less_equal e)
lex_same (f ∷ m) [] e = absurd (greater_equal e)
lex_same (f ∷ m) (g ∷ n) e =
    let keys = lex_at_equal (nat_cmp f.0 g.0) (ordering_then (nat_cmp f.1 g.1) (lex m n)) e in
    let exponents = then_equal (nat_cmp f.1 g.1) (lex m n) keys.1 in
    same_factors f g m n (numbers_equal f.0 g.0 keys.0) (numbers_equal f.1 g.1 exponents.0) (lex_same m n exponents.1)

pub order_same : (m n : Monomial) → order m n ≡ Equal → m ≡ n
order_same m n e = lex_same m n (then_equal (nat_cmp (degree m) (degree n)) (lex m n) e).1

number_itself : (a : ℕ) → nat_cmp a a ≡ Equal
number_itself a = tied_itself nat_cmp_total a

lex_itself : (m : Monomial) → lex m m ≡ Equal
lex_itself [] = refl
lex_itself (f ∷ m) =
    ap (λ o. lex_at o (ordering_then (nat_cmp f.1 f.1) (lex m m))) (number_itself f.0)
    ∙ ap (λ o. ordering_then o (lex m m)) (number_itself f.1)
    ∙ lex_itself m

pub order_itself : (m : Monomial) → order m m ≡ Equal
order_itself m = ap (λ o. ordering_then o (lex m m)) (number_itself (degree m)) ∙ lex_itself m

-- the order from the fact
less_is_at : (o : Ordering) (m n : Monomial) → OrderSays o m n → IsLess m n → o ≡ Less
less_is_at Less m n s h = refl
less_is_at Equal m n s h = let P : Monomial → Type 0 = λ x. IsLess x n in absurd (less_self n (subst P s h))
less_is_at Greater m n s h = absurd (less_self m (less_chain m n m h s))

pub order_less : (m n : Monomial) → IsMonomial m → IsMonomial n → IsLess m n → order m n ≡ Less
order_less m n i j h = less_is_at (order m n) m n (order_says m n i j) h

greater_is_at : (o : Ordering) (m n : Monomial) → OrderSays o m n → IsLess n m → o ≡ Greater
greater_is_at Less m n s h = absurd (less_self m (less_chain m n m s h))
greater_is_at Equal m n s h = let P : Monomial → Type 0 = λ x. IsLess n x in absurd (less_self n (subst P s h))
greater_is_at Greater m n s h = refl

pub order_greater : (m n : Monomial) → IsMonomial m → IsMonomial n → IsLess n m → order m n ≡ Greater
order_greater m n i j h = greater_is_at (order m n) m n (order_says m n i j) h

-- the exponents of two factors of one unknown add
pub joined_exponent : (f g : ℕ × ℕ) (u : ℕ) → f.0 ≡ g.0 → (if g.0 == u then f.1 + g.1 else 0) ≡ (if f.0 == u then f.1 else 0) + (if g.0 == u then g.1 else 0)
joined_exponent f g u e =
    let whole = joined (g.0 == u) f.1 g.1 0 in
    let same = ap (λ k. at_key k f.1 u) e in
    omega (arith, whole, same)
