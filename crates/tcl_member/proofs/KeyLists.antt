-- The unknowns of rows and of a polynomial, from the last to the first.
use Rattle.std.proofs.Common.{◌≡◌, inl, inr, ℕ, zero, suc, ◌+◌, ◌<◌, ◌≤◌, refl, sym, ◌∙◌, ap, arith, List, [], ◌∷◌, ◌++◌, length, take, drop, get_or, slice_get, Some, None, ℤ, Ordering, Less, Equal, Greater}
use Rattle.std.specs.Ordering.{nat_cmp, MatchOrdering}
use Rattle.std.proofs.lemmas.Cmp.{ranked}
use Rattle.std.proofs.lemmas.Bool.{cases_eq}
use Rattle.tcl_poly.specs.Monomial.{Monomial}
use Rattle.tcl_poly.specs.Polynomial.{Polynomial, terms_of}
use Rattle.tcl_poly.specs.Combination.{Terms}
use Rattle.tcl_poly.specs.declared.factor.Unknown.{Unknown}
use Rattle.tcl_poly.specs.Unknown.{key_of}
use Rattle.tcl_pivots.specs.declared.row.Pivot as code
use Rattle.tcl_pivots.specs.Held.{pivots_shown}
use Rattle.tcl_pivots.proofs.CofactorTurns.{from_place}
use Rattle.tcl_reduce.specs.Row.{Pivot}
use Rattle.tcl_reduce.specs.Multiple.{insert_key_at, insert_key, keys_of, unknowns_of, row_unknowns}
use Rattle.tcl_member.specs.Course.{keys_in, AreKeys}
use Rattle.tcl_member.proofs.CofactorTurns.{past_end}

-- ---- rising keys

insert_at_keys : (o : Ordering) (least u v : ℕ) (vs further : List ℕ) → MatchOrdering o (u < v) (u ≡ v) (v < u) → least ≤ u → AreKeys least (v ∷ vs) → (suc v ≤ u → AreKeys (suc v) further) → AreKeys least (insert_key_at o u v vs further)
insert_at_keys Less least u v vs further s h i more = (h, (s, i.1))
insert_at_keys Equal least u v vs further s h i more = i
insert_at_keys Greater least u v vs further s h i more = (i.0, more s)

insert_keys : (least u : ℕ) (vs : List ℕ) → least ≤ u → AreKeys least vs → AreKeys least (insert_key u vs)
insert_keys least u [] h i = (h, tt)
insert_keys least u (v ∷ vs) h i =
    insert_at_keys (nat_cmp u v) least u v vs (insert_key u vs) (ranked u v (nat_cmp u v) refl) h i (λ below. insert_keys (suc v) u vs below i.1)

keys_are : (m : Monomial) (us : List ℕ) → AreKeys 0 us → AreKeys 0 (keys_of m us)
keys_are [] us h = h
keys_are (f ∷ m) us h = insert_keys 0 f.0 (keys_of m us) (omega arith) (keys_are m us h)

pub unknowns_rise : (p : Polynomial) (us : List ℕ) → AreKeys 0 us → AreKeys 0 (unknowns_of p us)
unknowns_rise [] us h = h
unknowns_rise (t ∷ p) us h = keys_are t.0 (unknowns_of p us) (unknowns_rise p us h)

pub row_unknowns_rise : (ps : List Pivot) (us : List ℕ) → AreKeys 0 us → AreKeys 0 (row_unknowns ps us)
row_unknowns_rise [] us h = h
row_unknowns_rise (p ∷ ps) us h = unknowns_rise p.row.poly (row_unknowns ps us) (row_unknowns_rise ps us h)

-- ---- the place of a key

at_less : (o : Ordering) (u v : ℕ) (vs further : List ℕ) → MatchOrdering o (u < v) (u ≡ v) (v < u) → u < v → insert_key_at o u v vs further ≡ u ∷ (v ∷ vs)
at_less Less u v vs further s l = refl
at_less Equal u v vs further s l = absurd (omega (arith, s, l))
at_less Greater u v vs further s l = absurd (omega (arith, s, l))

at_equal : (o : Ordering) (u v : ℕ) (vs further : List ℕ) → MatchOrdering o (u < v) (u ≡ v) (v < u) → u ≡ v → insert_key_at o u v vs further ≡ v ∷ vs
at_equal Less u v vs further s l = absurd (omega (arith, s, l))
at_equal Equal u v vs further s l = refl
at_equal Greater u v vs further s l = absurd (omega (arith, s, l))

at_greater : (o : Ordering) (u v : ℕ) (vs further : List ℕ) → MatchOrdering o (u < v) (u ≡ v) (v < u) → v < u → insert_key_at o u v vs further ≡ v ∷ further
at_greater Less u v vs further s l = absurd (omega (arith, s, l))
at_greater Equal u v vs further s l = absurd (omega (arith, s, l))
at_greater Greater u v vs further s l = refl

pub inserted_new : (u : ℕ) (vs : List ℕ) (i : ℕ) → i ≤ length vs → ((k : ℕ) → k < i → get_or vs k 0 < u) → (i < length vs → u < get_or vs i 0) → insert_key u vs ≡ take i vs ++ u ∷ drop i vs
inserted_new u [] zero l passed there = refl
inserted_new u [] (suc i) l passed there = absurd (omega (arith, l))
inserted_new u (v ∷ vs) zero l passed there = at_less (nat_cmp u v) u v vs (insert_key u vs) (ranked u v (nat_cmp u v) refl) (there (omega arith))
inserted_new u (v ∷ vs) (suc i) l passed there =
    at_greater (nat_cmp u v) u v vs (insert_key u vs) (ranked u v (nat_cmp u v) refl) (passed 0 (omega arith))
    ∙ ap (λ z. v ∷ z) (inserted_new u vs i (omega (arith, l)) (λ k h. passed (suc k) (omega (arith, h))) (λ h. there (omega (arith, h))))

pub inserted_there : (u : ℕ) (vs : List ℕ) (i : ℕ) → i < length vs → ((k : ℕ) → k < i → get_or vs k 0 < u) → u ≡ get_or vs i 0 → insert_key u vs ≡ vs
inserted_there u [] i l passed same = absurd (omega (arith, l))
inserted_there u (v ∷ vs) zero l passed same = at_equal (nat_cmp u v) u v vs (insert_key u vs) (ranked u v (nat_cmp u v) refl) same
inserted_there u (v ∷ vs) (suc i) l passed same =
    at_greater (nat_cmp u v) u v vs (insert_key u vs) (ranked u v (nat_cmp u v) refl) (passed 0 (omega arith))
    ∙ ap (λ z. v ∷ z) (inserted_there u vs i (omega (arith, l)) (λ k h. passed (suc k) (omega (arith, h))) same)

-- ---- by places, from the last to the first

some_same : {X : Type 0} (x y : X) → Some x ≡ Some y → x ≡ y
some_same x y e = ap (λ o. elim o [ Some z ↦ z | None ↦ x ]) e

pub from_get : {X : Type 0} (xs : List X) (k : ℕ) (x : X) → slice_get xs k ≡ Some x → drop k xs ≡ x ∷ drop (k + 1) xs
from_get [] zero x e = absurd (clash x e) where
  clash : {X : Type 0} (x : X) → None ≡ Some x → ⊥
  clash x z = cc
from_get [] (suc k) x e = absurd (clash x e) where
  clash : {X : Type 0} (x : X) → None ≡ Some x → ⊥
  clash x z = cc
from_get (y ∷ xs) zero x e = ap (λ z. z ∷ xs) (some_same y x e)
from_get (y ∷ xs) (suc k) x e = from_get xs k x e ∙ ap (λ n. x ∷ drop n (y ∷ xs)) (one k) where
  one : (k : ℕ) → suc (k + 1) ≡ suc k + 1
  one k = omega arith

pub factors_first : (m : Monomial) (k : ℕ) (us : List ℕ) → length m ≤ k → us ≡ keys_of (drop k m) us
factors_first m k us l = ap (λ z. keys_of z us) (sym (past_end m k l))

pub factors_next : (m : Monomial) (us : List ℕ) (k : ℕ) (f : ℕ × ℕ) (now after : List ℕ) → slice_get m k ≡ Some f → now ≡ keys_of (drop (k + 1) m) us → after ≡ insert_key f.0 now → after ≡ keys_of (drop k m) us
factors_next m us k f now after e so_far more =
    more ∙ ap (insert_key f.0) so_far ∙ ap (λ z. keys_of z us) (sym (from_get m k f e))

pub terms_first : {E : Type 0} (value : E → ℤ) (p : Terms E) (k : ℕ) (us : List ℕ) → length p ≤ k → us ≡ unknowns_of (terms_of value (drop k p)) us
terms_first value p k us l = ap (λ z. unknowns_of (terms_of value z) us) (sym (past_end p k l))

pub terms_next : {E : Type 0} (value : E → ℤ) (p : Terms E) (us : List ℕ) (k : ℕ) (t : Monomial × E) (now after : List ℕ) → t ≡ get_or p k t → k < length p → now ≡ unknowns_of (terms_of value (drop (k + 1) p)) us → after ≡ keys_of t.0 now → after ≡ unknowns_of (terms_of value (drop k p)) us
terms_next value p us k t now after e l so_far more =
    more ∙ ap (keys_of t.0) so_far ∙ ap (λ z. unknowns_of (terms_of value z) us) (sym (from_place p k t e l))

pub pivots_first : {R E : Type 0} (value : E → ℤ) (ps : List (code.Pivot R E)) (k : ℕ) (us : List ℕ) → length ps ≤ k → us ≡ row_unknowns (pivots_shown value (drop k ps)) us
pivots_first value ps k us l = ap (λ z. row_unknowns (pivots_shown value z) us) (sym (past_end ps k l))

pub pivots_next : {R E : Type 0} (value : E → ℤ) (ps : List (code.Pivot R E)) (us : List ℕ) (k : ℕ) (x : code.Pivot R E) (now after : List ℕ) → x ≡ get_or ps k x → k < length ps → now ≡ row_unknowns (pivots_shown value (drop (k + 1) ps)) us → after ≡ unknowns_of (terms_of value x.row.poly) now → after ≡ row_unknowns (pivots_shown value (drop k ps)) us
pivots_next value ps us k x now after e l so_far more =
    more ∙ ap (unknowns_of (terms_of value x.row.poly)) so_far ∙ ap (λ z. row_unknowns (pivots_shown value z) us) (sym (from_place ps k x e l))

-- the key of an unknown in a list
pub key_at : (us : List Unknown) (k : ℕ) (u : Unknown) → u ≡ get_or us k u → k < length us → get_or (keys_in us) k 0 ≡ key_of u
key_at [] k u e l = absurd (omega (arith, l))
key_at (v ∷ us) zero u e l = ap key_of (sym e)
key_at (v ∷ us) (suc k) u e l = key_at us k u e (omega (arith, l))

pub keys_count : (us : List Unknown) → length (keys_in us) ≡ length us
keys_count [] = refl
keys_count (u ∷ us) = ap suc (keys_count us)

pub keys_take : (us : List Unknown) (k : ℕ) → keys_in (take k us) ≡ take k (keys_in us)
keys_take [] zero = refl
keys_take [] (suc k) = refl
keys_take (u ∷ us) zero = refl
keys_take (u ∷ us) (suc k) = ap (λ z. key_of u ∷ z) (keys_take us k)

pub keys_drop : (us : List Unknown) (k : ℕ) → keys_in (drop k us) ≡ drop k (keys_in us)
keys_drop [] zero = refl
keys_drop [] (suc k) = refl
keys_drop (u ∷ us) zero = refl
keys_drop (u ∷ us) (suc k) = keys_drop us k

pub keys_append : (us vs : List Unknown) → keys_in (us ++ vs) ≡ keys_in us ++ keys_in vs
keys_append [] vs = refl
keys_append (u ∷ us) vs = ap (λ z. key_of u ∷ z) (keys_append us vs)

pub key_put : (us after : List Unknown) (i : ℕ) (u : Unknown) → after ≡ take i us ++ u ∷ drop i us → keys_in after ≡ take i (keys_in us) ++ key_of u ∷ drop i (keys_in us)
key_put us after i u e =
    ap keys_in e ∙ keys_append (take i us) (u ∷ drop i us) ∙ (λ j. keys_take us i j ++ key_of u ∷ keys_drop us i j)

pub key_or : (us : List Unknown) (i : ℕ) (d : Unknown) → i < length us → get_or (keys_in us) i 0 ≡ key_of (get_or us i d)
key_or [] i d l = absurd (omega (arith, l))
key_or (v ∷ us) zero d l = refl
key_or (v ∷ us) (suc i) d l = key_or us i d (omega (arith, l))

-- one more that comes before
pub passed_next : (us : List Unknown) (i : ℕ) (d : Unknown) (u : ℕ) → i < length us → key_of (get_or us i d) < u → ((k : ℕ) → k < i → get_or (keys_in us) k 0 < u) → (k : ℕ) → k < i + 1 → get_or (keys_in us) k 0 < u
passed_next us i d u l less passed k below = elim (cases_eq k i) [
  | inl same ↦ omega (arith, less, key_or us i d l, ap (λ n. get_or (keys_in us) n 0) same)
  | inr other ↦ passed k (omega (arith, below, other))
]
