-- The listed products, stretch by stretch: unknown by unknown, power by power, row by row and degree by degree.
use Rattle.std.proofs.Common.{◌≡◌, ℕ, zero, suc, ◌+◌, ◌-◌, ◌<◌, ◌≤◌, refl, sym, ◌∙◌, ap, subst, arith, Bool, true, false, List, [], ◌∷◌, ◌++◌, map, length, take, drop, get_or, drop-cons, append_assoc}
use Rattle.std.specs.Prelude.{if◌then◌else◌, nat_le}
use Rattle.std.proofs.lemmas.Bool.Decides.{nat_tests}
use Rattle.tcl_poly.specs.Monomial.{Monomial, IsMonomialFrom, degree}
use Rattle.tcl_poly.specs.Polynomial.{degree_of}
use Rattle.tcl_reduce.specs.Row.{Pivot}
use Rattle.tcl_reduce.specs.Multiple.{with_power, powers_below, monomials_over, multiples_at, multiples_to}
use Rattle.tcl_member.specs.Course.{products_by, IsLater, AreKeys}

-- a list and one that begins with it
abbrev pub Begins : {X : Type 0} → List X → List X → Type 0
Begins {X = X} xs ys = (zs : List X) × (ys ≡ xs ++ zs)

append_nothing : {X : Type 0} (xs : List X) → xs ++ [] ≡ xs
append_nothing [] = refl
append_nothing (x ∷ xs) = ap (λ z. x ∷ z) (append_nothing xs)

begins_itself : {X : Type 0} (xs : List X) → Begins xs xs
begins_itself xs = ([], sym (append_nothing xs))

begins_more : {X : Type 0} (xs ys zs : List X) → Begins xs ys → Begins ys zs → Begins xs zs
begins_more xs ys zs h i = (h.0 ++ i.0, i.1 ∙ ap (λ z. z ++ i.0) h.1 ∙ append_assoc xs h.0 i.0)

-- what grows at each step begins with what it was before
begins_steps : {X : Type 0} (f g : ℕ → List X) (k n : ℕ) → ((j : ℕ) → f (suc j) ≡ f j ++ g j) → k ≤ n → Begins (f k) (f n)
begins_steps f g k zero step l = subst (λ j. Begins (f j) (f 0)) (none k l) (begins_itself (f 0)) where
  none : (k : ℕ) → k ≤ 0 → 0 ≡ k
  none k l = omega (arith, l)
begins_steps f g k (suc n) step l = by (nat_le k n) refl (λ h. begins_steps f g k n step h) where
  below : (k n : ℕ) → nat_le k n ≡ true → k ≤ n
  below k n e = grind (arith, nat_tests)

  last : (k n : ℕ) → nat_le k n ≡ false → k ≤ suc n → suc n ≡ k
  last k n e l = grind (arith, nat_tests)

  by : (b : Bool) → nat_le k n ≡ b → (k ≤ n → Begins (f k) (f n)) → Begins (f k) (f (suc n))
  by true e fewer = begins_more (f k) (f n) (f (suc n)) (fewer (below k n e)) (g n, step n)
  by false e fewer = subst (λ j. Begins (f j) (f (suc n))) (last k n e l) (begins_itself (f (suc n)))

map_append : {X Y : Type 0} (f : X → Y) (xs ys : List X) → map f (xs ++ ys) ≡ map f xs ++ map f ys
map_append f [] ys = refl
map_append f (x ∷ xs) ys = ap (λ z. f x ∷ z) (map_append f xs ys)

-- ---- one row

power_none : (u : ℕ) (ms : List Monomial) → map (with_power u 0) ms ≡ ms
power_none u [] = refl
power_none u (m ∷ ms) = ap (λ z. m ∷ z) (power_none u ms)

pub over_none : (us : List ℕ) → monomials_over us 0 ≡ [] ∷ []
over_none [] = refl
over_none (u ∷ us) = ap (λ ms. map (with_power u 0) ms) (over_none us)

-- where no degree is left
pub products_none : (p : Pivot) (front : Monomial) (us : List ℕ) → products_by p front (monomials_over us 0) ≡ (p, front) ∷ []
products_none p front us = ap (products_by p front) (over_none us) ∙ ap (λ m. (p, m) ∷ []) (append_nothing front)

pub products_append : (p : Pivot) (front : Monomial) (ms ns : List Monomial) → products_by p front (ms ++ ns) ≡ products_by p front ms ++ products_by p front ns
products_append p front ms ns = map_append (λ m. (p, front ++ m)) ms ns

products_power : (p : Pivot) (front : Monomial) (u k : ℕ) (ms : List Monomial) → products_by p front (map (with_power u (suc k)) ms) ≡ products_by p (front ++ (u, suc k) ∷ []) ms
products_power p front u k [] = refl
products_power p front u k (m ∷ ms) = λ i. (p, sym (append_assoc front ((u, suc k) ∷ []) m) i) ∷ products_power p front u k ms i

-- the monomials in which the unknowns before place j do not occur, and that of j at most k times
abbrev pub up_to : List ℕ → ℕ → ℕ → ℕ → List Monomial
up_to us d j k = powers_below (monomials_over (drop (j + 1) us)) (get_or us j 0) d (suc k)

pub unknowns_first : (p : Pivot) (front : Monomial) (us : List ℕ) (d j : ℕ) → j ≡ length us → 0 < d → products_by p front (monomials_over (drop j us) d) ≡ []
unknowns_first p front us d j e some = at d (drop j us) (none us j e) some where
  none : (us : List ℕ) (j : ℕ) → j ≡ length us → drop j us ≡ []
  none [] zero e = refl
  none [] (suc j) e = refl
  none (u ∷ us) zero e = absurd (omega (arith, e))
  none (u ∷ us) (suc j) e = none us j (omega (arith, e))

  at : (d : ℕ) (vs : List ℕ) → vs ≡ [] → 0 < d → products_by p front (monomials_over vs d) ≡ []
  at zero vs e some = absurd (omega (arith, some))
  at (suc d) vs e some = ap (λ z. products_by p front (monomials_over z (suc d))) e

none_up_to : (us : List ℕ) (d j : ℕ) → up_to us d j 0 ≡ monomials_over (drop (j + 1) us) d
none_up_to us d j =
    ap (λ n. map (with_power (get_or us j 0) 0) (monomials_over (drop (j + 1) us) n)) (whole d) ∙ power_none (get_or us j 0) (monomials_over (drop (j + 1) us) d) where
      whole : (d : ℕ) → d - 0 ≡ d
      whole d = omega arith

pub powers_first : (p : Pivot) (front : Monomial) (us : List ℕ) (d j : ℕ) → products_by p front (monomials_over (drop (j + 1) us) d) ≡ products_by p front (up_to us d j 0)
powers_first p front us d j = ap (products_by p front) (sym (none_up_to us d j))

pub powers_next : (p : Pivot) (front : Monomial) (us : List ℕ) (d j k : ℕ) → products_by p front (up_to us d j k) ++ products_by p (front ++ (get_or us j 0, suc k) ∷ []) (monomials_over (drop (j + 1) us) (d - suc k)) ≡ products_by p front (up_to us d j (suc k))
powers_next p front us d j k =
    let u = get_or us j 0 in
    let more = map (with_power u (suc k)) (monomials_over (drop (j + 1) us) (d - suc k)) in
    ap (λ z. products_by p front (up_to us d j k) ++ z) (sym (products_power p front u k (monomials_over (drop (j + 1) us) (d - suc k))))
    ∙ sym (products_append p front (up_to us d j k) more)

pub powers_last : (us : List ℕ) (d j : ℕ) → j < length us → up_to us d j d ≡ monomials_over (drop j us) d
powers_last us d j l = ap (λ z. monomials_over z d) (sym (drop-cons us j 0 l ∙ ap (λ n. get_or us j 0 ∷ drop n us) (one j))) where
  one : (j : ℕ) → suc j ≡ j + 1
  one j = omega arith

powers_begin : (us : List ℕ) (d j k n : ℕ) → k ≤ n → Begins (up_to us d j k) (up_to us d j n)
powers_begin us d j k n l =
    begins_steps (λ i. up_to us d j i) (λ i. map (with_power (get_or us j 0) (suc i)) (monomials_over (drop (j + 1) us) (d - suc i))) k n (λ i. refl) l

over_begins_one : (us : List ℕ) (d j : ℕ) → j < length us → Begins (monomials_over (drop (j + 1) us) d) (monomials_over (drop j us) d)
over_begins_one us d j l =
    let h = powers_begin us d j 0 d (omega arith) in
    (h.0, sym (powers_last us d j l) ∙ h.1 ∙ ap (λ z. z ++ h.0) (none_up_to us d j))

over_begins : (us : List ℕ) (d from n : ℕ) → from + n ≤ length us → Begins (monomials_over (drop (from + n) us) d) (monomials_over (drop from us) d)
over_begins us d from zero l = subst (λ j. Begins (monomials_over (drop j us) d) (monomials_over (drop from us) d)) (same from) (begins_itself (monomials_over (drop from us) d)) where
  same : (j : ℕ) → j ≡ j + 0
  same j = omega arith
over_begins us d from (suc n) l =
    let step = over_begins_one us d (from + n) (omega (arith, l)) in
    subst (λ j. Begins (monomials_over (drop j us) d) (monomials_over (drop from us) d)) (same from n)
    (begins_more (monomials_over (drop ((from + n) + 1) us) d) (monomials_over (drop (from + n) us) d) (monomials_over (drop from us) d) step (over_begins us d from n (omega (arith, l)))) where
      same : (a b : ℕ) → (a + b) + 1 ≡ a + suc b
      same a b = omega arith

products_begin : (p : Pivot) (front : Monomial) (ms ns : List Monomial) → Begins ms ns → Begins (products_by p front ms) (products_by p front ns)
products_begin p front ms ns h = (products_by p front h.0, ap (products_by p front) h.1 ∙ products_append p front ms h.0)

-- what was tried up to some power begins the whole
pub powers_whole : (p : Pivot) (front : Monomial) (us : List ℕ) (d from j k : ℕ) → from ≤ j → j < length us → k ≤ d → Begins (products_by p front (up_to us d j k)) (products_by p front (monomials_over (drop from us) d))
powers_whole p front us d from j k f l m =
    let place : from + (j - from) ≡ j = omega (arith, f) in
    let rest = subst (λ n. Begins (monomials_over (drop n us) d) (monomials_over (drop from us) d)) place (over_begins us d from (j - from) (omega (arith, place, l))) in
    let here = powers_begin us d j k d m in
    products_begin p front (up_to us d j k) (monomials_over (drop from us) d)
    (begins_more (up_to us d j k) (monomials_over (drop j us) d) (monomials_over (drop from us) d) (here.0, sym (powers_last us d j l) ∙ here.1) rest)

-- ---- the rows of one degree

pub rows_append : (us : List ℕ) (limit d : ℕ) (ps qs : List Pivot) → multiples_at us limit d (ps ++ qs) ≡ multiples_at us limit d ps ++ multiples_at us limit d qs
rows_append us limit d [] qs = refl
rows_append us limit d (p ∷ ps) qs =
    let own = if nat_le (degree_of p.row.poly + d) limit then map (λ m. (p, m)) (monomials_over us d) else [] in
    ap (λ z. own ++ z) (rows_append us limit d ps qs) ∙ sym (append_assoc own (multiples_at us limit d ps) (multiples_at us limit d qs))

pub row_fits : (us : List ℕ) (limit d : ℕ) (p : Pivot) → degree_of p.row.poly + d ≤ limit → products_by p [] (monomials_over us d) ≡ multiples_at us limit d (p ∷ [])
row_fits us limit d p l =
    sym (append_nothing (products_by p [] (monomials_over us d)))
    ∙ ap (λ b. (if b then map (λ m. (p, m)) (monomials_over us d) else []) ++ []) (sym (below (degree_of p.row.poly + d) limit l)) where
      below : (k n : ℕ) → k ≤ n → nat_le k n ≡ true
      below k n l = grind (arith, nat_tests)

pub row_too_great : (us : List ℕ) (limit d : ℕ) (p : Pivot) → limit < degree_of p.row.poly + d → [] ≡ multiples_at us limit d (p ∷ [])
row_too_great us limit d p l =
    ap (λ b. (if b then map (λ m. (p, m)) (monomials_over us d) else []) ++ []) (sym (above (degree_of p.row.poly + d) limit l)) where
      above : (k n : ℕ) → n < k → nat_le k n ≡ false
      above k n l = grind (arith, nat_tests)

take_more : {X : Type 0} (xs : List X) (i : ℕ) (x : X) → x ≡ get_or xs i x → i < length xs → take (i + 1) xs ≡ take i xs ++ x ∷ []
take_more [] i x e l = absurd (omega (arith, l))
take_more (y ∷ xs) zero x e l = ap (λ z. z ∷ []) (sym e)
take_more (y ∷ xs) (suc i) x e l =
    ap (λ n. take n (y ∷ xs)) (one i) ∙ ap (λ z. y ∷ z) (take_more xs i x e (omega (arith, l))) where
      one : (i : ℕ) → suc i + 1 ≡ suc (i + 1)
      one i = omega arith

pub rows_next : (us : List ℕ) (limit d : ℕ) (ps : List Pivot) (i : ℕ) (p : Pivot) → p ≡ get_or ps i p → i < length ps → multiples_at us limit d (take i ps) ++ multiples_at us limit d (p ∷ []) ≡ multiples_at us limit d (take (i + 1) ps)
rows_next us limit d ps i p e l =
    sym (rows_append us limit d (take i ps) (p ∷ [])) ∙ ap (multiples_at us limit d) (sym (take_more ps i p e l))

take_drop : {X : Type 0} (xs : List X) (i : ℕ) → take i xs ++ drop i xs ≡ xs
take_drop [] zero = refl
take_drop [] (suc i) = refl
take_drop (x ∷ xs) zero = refl
take_drop (x ∷ xs) (suc i) = ap (λ z. x ∷ z) (take_drop xs i)

pub rows_whole : (us : List ℕ) (limit d : ℕ) (ps : List Pivot) (i : ℕ) → Begins (multiples_at us limit d (take i ps)) (multiples_at us limit d ps)
rows_whole us limit d ps i = (multiples_at us limit d (drop i ps), ap (multiples_at us limit d) (sym (take_drop ps i)) ∙ rows_append us limit d (take i ps) (drop i ps))

-- ---- degrees

pub degrees_whole : (us : List ℕ) (limit : ℕ) (ps : List Pivot) (k n : ℕ) → k ≤ n → Begins (multiples_to us limit ps k) (multiples_to us limit ps n)
degrees_whole us limit ps k n l = begins_steps (λ i. multiples_to us limit ps i) (λ i. multiples_at us limit (suc i) ps) k n (λ i. refl) l

-- ---- factors

pub front_degree : (m : Monomial) (u e : ℕ) → degree (m ++ (u, e) ∷ []) ≡ degree m + e
front_degree [] u e = omega arith
front_degree (f ∷ m) u e = omega (arith, front_degree m u e)

later_from : (least : ℕ) (m : Monomial) (u e v f : ℕ) → IsMonomialFrom least (m ++ (u, e) ∷ []) → u < v → 0 < f → IsMonomialFrom least ((m ++ (u, e) ∷ []) ++ (v, f) ∷ [])
later_from least [] u e v f h l some = (h.0, h.1, (omega (arith, l), some, tt))
later_from least (g ∷ m) u e v f h l some = (h.0, h.1, later_from (suc g.0) m u e v f h.2 l some)

pub later_more : (m : Monomial) (u e v : ℕ) → IsLater m u → 0 < e → u < v → IsLater (m ++ (u, e) ∷ []) v
later_more m u e v h some l f more = later_from 0 m u e v f (h e some) l more

pub later_first : (u : ℕ) → IsLater [] u
later_first u e some = (omega arith, some, tt)

keys_least : (least : ℕ) (us : List ℕ) (k : ℕ) → AreKeys least us → k < length us → least ≤ get_or us k 0
keys_least least [] k h l = absurd (omega (arith, l))
keys_least least (u ∷ us) zero h l = h.0
keys_least least (u ∷ us) (suc k) h l = omega (arith, h.0, keys_least (suc u) us k h.1 (omega (arith, l)))

pub keys_rise : (least : ℕ) (us : List ℕ) (j k : ℕ) → AreKeys least us → j < k → k < length us → get_or us j 0 < get_or us k 0
keys_rise least [] j k h l m = absurd (omega (arith, m))
keys_rise least (u ∷ us) j zero h l m = absurd (omega (arith, l))
keys_rise least (u ∷ us) zero (suc k) h l m = omega (arith, keys_least (suc u) us k h.1 (omega (arith, m)))
keys_rise least (u ∷ us) (suc j) (suc k) h l m = keys_rise (suc u) us j k h.1 (omega (arith, l)) (omega (arith, m))

pub degrees_next : (us : List ℕ) (limit : ℕ) (ps : List Pivot) (k : ℕ) → multiples_to us limit ps k ++ multiples_at us limit (k + 1) ps ≡ multiples_to us limit ps (k + 1)
degrees_next us limit ps k =
    ap (λ n. multiples_to us limit ps k ++ multiples_at us limit n ps) (one k) ∙ ap (multiples_to us limit ps) (sym (one k)) where
      one : (k : ℕ) → k + 1 ≡ suc k
      one k = omega arith

-- one power more, as it is made
pub powers_turn : (p : Pivot) (front power : Monomial) (us : List ℕ) (d j k u : ℕ) → get_or us j 0 ≡ u → power ≡ front ++ (u, k + 1) ∷ [] → products_by p front (up_to us d j k) ++ products_by p power (monomials_over (drop (j + 1) us) (d - k - 1)) ≡ products_by p front (up_to us d j (k + 1))
powers_turn p front power us d j k u key made =
    let own : power ≡ front ++ (get_or us j 0, suc k) ∷ [] = made ∙ (λ i. front ++ (sym key i, one k i) ∷ []) in
    (λ i. products_by p front (up_to us d j k) ++ products_by p (own i) (monomials_over (drop (j + 1) us) (less d k i)))
    ∙ powers_next p front us d j k
    ∙ ap (λ n. products_by p front (up_to us d j n)) (sym (one k)) where
      one : (k : ℕ) → k + 1 ≡ suc k
      one k = omega arith

      less : (d k : ℕ) → d - k - 1 ≡ d - suc k
      less d k = omega arith
