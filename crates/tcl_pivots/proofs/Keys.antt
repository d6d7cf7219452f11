-- The monomials over rising keys.
use Rattle.std.proofs.Common.{◌≡◌, ℕ, zero, suc, ◌+◌, ◌-◌, ◌<◌, ◌≤◌, refl, arith, List, [], ◌∷◌, map, if◌then◌else◌, Ordering, Less, Equal, Greater}
use Rattle.std.specs.List.{AllByRecursion}
use Rattle.std.specs.Prelude.{nat_le}
use Rattle.std.specs.Ordering.{nat_cmp, MatchOrdering}
use Rattle.std.proofs.lemmas.Cmp.{ranked}
use Rattle.tcl_poly.specs.Monomial.{Monomial, IsMonomial, IsMonomialFrom}
use Rattle.tcl_poly.specs.Polynomial.{Polynomial, degree_of}
use Rattle.tcl_poly.proofs.MonomialLaws.{weaker}
use Rattle.tcl_reduce.specs.Row.{Pivot}
use Rattle.tcl_reduce.specs.Multiple.{Multiple, insert_key_at, insert_key, keys_of, unknowns_of, row_unknowns, with_power, powers_below, monomials_over, multiples_at, multiples_to, multiples_of}
use Rattle.tcl_pivots.proofs.Inverting.{on_if}
use Rattle.tcl_pivots.proofs.Spanning.{all_join}

abbrev AreKeys : ℕ → List ℕ → Type 0
AreKeys least [] = Unit {0}
AreKeys least (u ∷ us) = (least ≤ u) × AreKeys (suc u) us

insert_at_keys : (o : Ordering) (least u v : ℕ) (vs further : List ℕ) → MatchOrdering o (u < v) (u ≡ v) (v < u) → least ≤ u → AreKeys least (v ∷ vs) → (suc v ≤ u → AreKeys (suc v) further) → AreKeys least (insert_key_at o u v vs further)
insert_at_keys Less least u v vs further s h i more = (h, (s, i.1))
insert_at_keys Equal least u v vs further s h i more = i
insert_at_keys Greater least u v vs further s h i more = (i.0, more s)

insert_keys : (least u : ℕ) (vs : List ℕ) → least ≤ u → AreKeys least vs → AreKeys least (insert_key u vs)
insert_keys least u [] h i = (h, tt)
insert_keys least u (v ∷ vs) h i =
    insert_at_keys (nat_cmp u v) least u v vs (insert_key u vs) (ranked u v (nat_cmp u v) refl) h i (λ below. insert_keys (suc v) u vs below i.1)

keys_are : (m : Monomial) (us : List ℕ) → AreKeys 0 us → AreKeys 0 (keys_of m us)
keys_are [] us h = h
keys_are (f ∷ m) us h = insert_keys 0 f.0 (keys_of m us) (omega arith) (keys_are m us h)

unknowns_are : (p : Polynomial) (us : List ℕ) → AreKeys 0 us → AreKeys 0 (unknowns_of p us)
unknowns_are [] us h = h
unknowns_are (t ∷ p) us h = keys_are t.0 (unknowns_of p us) (unknowns_are p us h)

row_unknowns_are : (ps : List Pivot) (us : List ℕ) → AreKeys 0 us → AreKeys 0 (row_unknowns ps us)
row_unknowns_are [] us h = h
row_unknowns_are (p ∷ ps) us h = unknowns_are p.row.poly (row_unknowns ps us) (row_unknowns_are ps us h)

-- ---- monomials over keys

power_from : (least u k : ℕ) (m : Monomial) → least ≤ u → IsMonomialFrom (suc u) m → IsMonomialFrom least (with_power u k m)
power_from least u zero m h i = weaker least (suc u) m (omega (arith, h)) i
power_from least u (suc k) m h i = (h, omega arith, i)

all_map : {X Y : Type 0} (P : Y → Type 0) (f : X → Y) (Q : X → Type 0) (xs : List X) → ((x : X) → Q x → P (f x)) → AllByRecursion Q xs → AllByRecursion P (map f xs)
all_map P f Q [] g h = tt
all_map P f Q (x ∷ xs) g h = (g x h.0, all_map P f Q xs g h.1)

powers_from : (least u : ℕ) (others : ℕ → List Monomial) (d n : ℕ) → least ≤ u → ((k : ℕ) → AllByRecursion (IsMonomialFrom (suc u)) (others k)) → AllByRecursion (IsMonomialFrom least) (powers_below others u d n)
powers_from least u others d zero h i = tt
powers_from least u others d (suc k) h i =
    all_join (IsMonomialFrom least) (powers_below others u d k) (map (with_power u k) (others (d - k))) (powers_from least u others d k h i)
    (all_map (IsMonomialFrom least) (with_power u k) (IsMonomialFrom (suc u)) (others (d - k)) (λ m j. power_from least u k m h j) (i (d - k)))

pub monomials_from : (least : ℕ) (us : List ℕ) (d : ℕ) → AreKeys least us → AllByRecursion (IsMonomialFrom least) (monomials_over us d)
monomials_from least [] zero h = (tt, tt)
monomials_from least [] (suc d) h = tt
monomials_from least (u ∷ us) d h = powers_from least u (monomials_over us) d (suc d) h.0 (λ k. monomials_from (suc u) us k h.1)

-- ---- the listed products

abbrev pub IsListed : (Pivot → Type 0) → Multiple → Type 0
IsListed P x = P x.0 × IsMonomial x.1

listed_at : (P : Pivot → Type 0) (us : List ℕ) (limit d : ℕ) (ps : List Pivot) → AreKeys 0 us → AllByRecursion P ps → AllByRecursion (IsListed P) (multiples_at us limit d ps)
listed_at P us limit d [] k h = tt
listed_at P us limit d (p ∷ ps) k h =
    let all = map (λ m. (p, m)) (monomials_over us d) in
    let b = nat_le (degree_of p.row.poly + d) limit in
    all_join (IsListed P) (if b then all else []) (multiples_at us limit d ps)
    (on_if (AllByRecursion (IsListed P)) b all []
    (λ _. all_map (IsListed P) (λ m. (p, m)) IsMonomial (monomials_over us d) (λ m i. (h.0, i)) (monomials_from 0 us d k))
    (λ _. tt))
    (listed_at P us limit d ps k h.1)

listed_to : (P : Pivot → Type 0) (us : List ℕ) (limit : ℕ) (ps : List Pivot) (n : ℕ) → AreKeys 0 us → AllByRecursion P ps → AllByRecursion (IsListed P) (multiples_to us limit ps n)
listed_to P us limit ps zero k h = tt
listed_to P us limit ps (suc n) k h =
    all_join (IsListed P) (multiples_to us limit ps n) (multiples_at us limit (suc n) ps) (listed_to P us limit ps n k h) (listed_at P us limit (suc n) ps k h)

pub listed : (P : Pivot → Type 0) (ps : List Pivot) (f : Polynomial) → AllByRecursion P ps → AllByRecursion (IsListed P) (multiples_of ps f)
listed P ps f h =
    let us = unknowns_of f (row_unknowns ps []) in
    listed_to P us (degree_of f) ps (degree_of f) (unknowns_are f (row_unknowns ps []) (row_unknowns_are ps [] tt)) h
