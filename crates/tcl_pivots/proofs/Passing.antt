-- Rows whose leading monomials do not occur are passed.
use Rattle.std.proofs.Common.{◌≡◌, ◌⊎◌, inl, inr, ℕ, zero, suc, ◌+◌, ◌-◌, ◌<◌, ◌≤◌, ◌==◌, if◌then◌else◌, refl, sym, ◌∙◌, ap, subst, arith, Bool, true, List, [], ◌∷◌, length, drop, get_or, ℤ, pos, unsigned_abs, Option, None, Less}
use Rattle.std.specs.List.{AllByRecursion}
use Rattle.std.proofs.lemmas.List.{get_or_default, get_or-map, length-map}
use Rattle.tcl_ring.specs.Reduction.{IsModulus, reduced_by}
use Rattle.tcl_ring.proofs.Reductions.{is_reduction}
use Rattle.tcl_poly.specs.Monomial.{Monomial, IsMonomial, IsLess, order}
use Rattle.tcl_poly.specs.Polynomial.{Polynomial, IsPolynomial, terms_of, coefficient}
use Rattle.tcl_poly.proofs.MonomialLaws.{less_chain, order_less, order_greater}
use Rattle.tcl_poly.proofs.TermMerging.{greater_from}
use Rattle.tcl_reduce.specs.CofactorSum.{are_wide}
use Rattle.tcl_reduce.specs.Row as s
use Rattle.tcl_reduce.specs.Membership.{Target, target_by}
use Rattle.tcl_pivots.specs.declared.row.Pivot.{Pivot}
use Rattle.tcl_pivots.specs.Kept.{lead, IsPivot, AreKept}
use Rattle.tcl_pivots.specs.Held.{pivots_shown, no_pivot, pivots_at, AreSorted, front_monomial}
use Rattle.tcl_pivots.specs.Lookup.{AreGreater, AreAbove, AreAbsent}
use Rattle.tcl_pivots.proofs.CofactorTurns.{from_place}
use Rattle.tcl_pivots.proofs.Coefficients.{AreLess, monomial_at, later, absent, by_place}
use Rattle.tcl_pivots.proofs.Pivots.{AreDescending, all_pivots, all_sorted, sorted_descends}
use Rattle.tcl_pivots.proofs.HeldRows.{all_at, shown_at}
use Rattle.tcl_pivots.proofs.AddedRows.{front_is}
use Rattle.tcl_pivots.proofs.TargetReducing.{target_passed}

-- ---- places of the order

pub pivots_drop : (ps : List s.Pivot) (places : List ℕ) (i : ℕ) → pivots_at ps (drop i places) ≡ drop i (pivots_at ps places)
pivots_drop ps [] zero = refl
pivots_drop ps [] (suc i) = refl
pivots_drop ps (k ∷ places) zero = refl
pivots_drop ps (k ∷ places) (suc i) = pivots_drop ps places i

pub places_length : (ps : List s.Pivot) (places : List ℕ) → length (pivots_at ps places) ≡ length places
places_length ps places = length-map places (λ k. get_or ps k no_pivot)

-- a function of the rows that passes each row whose leading monomial does not occur passes many
pub passed_many : {X : Type 0} (F : List s.Pivot → X) (f : Polynomial) (qs : List s.Pivot) → ((q : s.Pivot) (ps : List s.Pivot) → coefficient f (lead q) ≡ pos 0 → F (q ∷ ps) ≡ F ps) → (n first : ℕ) → first + n ≤ length qs → AreAbsent f qs first (first + n) → F (drop first qs) ≡ F (drop (first + n) qs)
passed_many F f qs pass zero first l h = ap (λ k. F (drop k qs)) (let e : first ≡ first + 0 = omega arith in e)
passed_many F f qs pass (suc n) first l h =
    let q = get_or qs first no_pivot in
    let inside : first < length qs = omega (arith, l) in
    ap F (from_place qs first q (get_or_default qs first no_pivot q inside) inside)
    ∙ pass q (drop (first + 1) qs) (h first (omega arith) (omega arith))
    ∙ passed_many F f qs pass n (first + 1) (omega (arith, l)) (λ k a b. h k (omega (arith, a)) (omega (arith, b)))
    ∙ ap (λ k. F (drop k qs)) (let e : first + 1 + n ≡ first + suc n = omega arith in e)

-- all rows of the order, where the rows are kept
pub order_descends : (m : Option ℕ) → IsModulus m → (ps : List s.Pivot) (places : List ℕ) → AreKept (reduced_by m) ps → AreSorted ps places → AreDescending (pivots_at ps places)
order_descends m modulus ps places kept sorted =
    subst AreDescending (sym sorted.1) (sorted_descends (reduced_by m) (is_reduction m modulus) ps kept)

pub order_pivots : (m : Option ℕ) (ps : List s.Pivot) (places : List ℕ) → AreKept (reduced_by m) ps → AreSorted ps places → AllByRecursion (IsPivot (reduced_by m)) (pivots_at ps places)
order_pivots m ps places kept sorted =
    let P : List s.Pivot → Type 0 = λ z. AllByRecursion (IsPivot (reduced_by m)) z in
    subst P (sym sorted.1) (all_sorted (IsPivot (reduced_by m)) ps (all_pivots (reduced_by m) ps kept))

pub lead_monomial : (r : ℤ → ℤ) (qs : List s.Pivot) (k : ℕ) → k < length qs → AllByRecursion (IsPivot r) qs → IsMonomial (lead (get_or qs k no_pivot))
lead_monomial r qs k l h =
    (all_at (IsPivot r) qs k (get_or qs k no_pivot) (get_or_default qs k no_pivot (get_or qs k no_pivot) l) l h).monomial

descends_at : (qs : List s.Pivot) (i k : ℕ) → i < k → k < length qs → AreDescending qs → IsLess (lead (get_or qs k no_pivot)) (lead (get_or qs i no_pivot))
descends_at [] i k h l d = absurd (omega (arith, l))
descends_at (q ∷ qs) i zero h l d = absurd (omega (arith, h))
descends_at (q ∷ qs) zero (suc k) h l d =
    let inside : k < length qs = omega (arith, l) in
    all_at (λ p. IsLess (lead p) (lead q)) qs k (get_or qs k no_pivot) (get_or_default qs k no_pivot (get_or qs k no_pivot) inside) inside d.0
descends_at (q ∷ qs) (suc i) (suc k) h l d = descends_at qs i k (omega (arith, h)) (omega (arith, l)) d.1

-- the row read at a place of the order
pub order_reads : {R E : Type 0} (value : E → ℤ) (ps : List (Pivot R E)) (places : List ℕ) (i : ℕ) (p : Pivot R E) → i < length places → p ≡ get_or ps (get_or places i 0) p → get_or places i 0 < length ps → lead (get_or (pivots_at (pivots_shown value ps) places) i no_pivot) ≡ front_monomial p.row.poly
order_reads value ps places i p l e b =
    ap lead (get_or-map (λ k. get_or (pivots_shown value ps) k no_pivot) places i 0 no_pivot l ∙ shown_at value ps (get_or places i 0) p no_pivot e b)
    ∙ front_is value p.row.poly

-- the rows up to one that is greater are greater
pub more_above : (qs : List s.Pivot) (n : Monomial) (first k : ℕ) → k < length qs → AreDescending qs → IsLess n (lead (get_or qs k no_pivot)) → AreAbove qs n first (k + 1)
more_above qs n first k l d h j a b =
    by_place (λ z. IsLess n (lead (get_or qs j no_pivot))) j k
    (λ below. less_chain n (lead (get_or qs k no_pivot)) (lead (get_or qs j no_pivot)) h (descends_at qs j k below l d))
    (λ same. let P : ℕ → Type 0 = λ z. IsLess n (lead (get_or qs z no_pivot)) in subst P (sym same) h)
    (λ above. absurd (omega (arith, above, b)))

-- ---- what does not occur

-- the terms before a place are greater than every lesser monomial
lesser_greater : {E : Type 0} (r : ℤ → ℤ) (value : E → ℤ) (p : List (Monomial × E)) (m n : Monomial) (k : ℕ) → k ≤ length p → IsPolynomial r (terms_of value p) → IsMonomial m → IsMonomial n → (n ≡ m) ⊎ IsLess n m → AreGreater p m k → AreGreater p n k
lesser_greater r value p m n k l h i j (inl e) g = let P : Monomial → Type 0 = λ z. AreGreater p z k in subst P (sym e) g
lesser_greater r value p m n k l h i j (inr less) g = λ q b d.
    let t = (get_or p q d).0 in
    let own : IsMonomial t = monomial_at r value p q d (omega (arith, b, l)) h in
    order_greater t n own j (less_chain n m t less (greater_from t m own i (sym (g q b d))))

-- the terms from a place on are less than every monomial that is greater than the term there
from_less : {E : Type 0} (r : ℤ → ℤ) (value : E → ℤ) (p : List (Monomial × E)) (n : Monomial) (k : ℕ) (t : Monomial × E) → t ≡ get_or p k t → k < length p → IsPolynomial r (terms_of value p) → IsMonomial n → IsLess t.0 n → AreLess p n k
from_less r value p n k t e l h i less q a b d =
    let here : IsLess (get_or p k d).0 n = (let P : Monomial × _ → Type 0 = λ z. IsLess z.0 n in subst P (e ∙ get_or_default p k t d l) less) in
    let own : IsMonomial (get_or p q d).0 = monomial_at r value p q d b h in
    by_place (λ z. order (get_or p q d).0 n ≡ Less) q k
    (λ below. absurd (omega (arith, below, a)))
    (λ same. order_less (get_or p q d).0 n own i (let P : ℕ → Type 0 = λ z. IsLess (get_or p z d).0 n in subst P (sym same) here))
    (λ above. order_less (get_or p q d).0 n own i (less_chain (get_or p q d).0 (get_or p k d).0 n (later r value p k q d above b h) here))

-- at the first place the row's own leading monomial, at later ones lesser ones
pub first_or_less : (qs : List s.Pivot) (first k : ℕ) → first ≤ k → k < length qs → AreDescending qs → (lead (get_or qs k no_pivot) ≡ lead (get_or qs first no_pivot)) ⊎ IsLess (lead (get_or qs k no_pivot)) (lead (get_or qs first no_pivot))
first_or_less qs first k a l d =
    by_place (λ z. (lead (get_or qs k no_pivot) ≡ lead (get_or qs first no_pivot)) ⊎ IsLess (lead (get_or qs k no_pivot)) (lead (get_or qs first no_pivot))) first k
    (λ below. inr (descends_at qs first k below l d))
    (λ same. inl (ap (λ z. lead (get_or qs z no_pivot)) (sym same)))
    (λ above. absurd (omega (arith, above, a)))

pub absent_between : {E : Type 0} (r : ℤ → ℤ) (value : E → ℤ) (p : List (Monomial × E)) (qs : List s.Pivot) (first last at : ℕ) (t : Monomial × E) → IsPolynomial r (terms_of value p) → AllByRecursion (IsPivot r) qs → AreDescending qs → first < length qs → last ≤ length qs → t ≡ get_or p at t → at < length p → AreGreater p (lead (get_or qs first no_pivot)) at → AreAbove qs t.0 first last → AreAbsent (terms_of value p) qs first last
absent_between r value p qs first last at t over pivots d f l e b greater above k a c =
    let n = lead (get_or qs k no_pivot) in
    let own = lead_monomial r qs k (omega (arith, c, l)) pivots in
    absent r value p n at over own
    (lesser_greater r value p (lead (get_or qs first no_pivot)) n at (omega (arith, b)) over (lead_monomial r qs first f pivots) own (first_or_less qs first k a (omega (arith, c, l)) d) greater)
    (from_less r value p n at t e b over own (above k a c))

pub absent_after : {E : Type 0} (r : ℤ → ℤ) (value : E → ℤ) (p : List (Monomial × E)) (qs : List s.Pivot) (first last at : ℕ) → IsPolynomial r (terms_of value p) → AllByRecursion (IsPivot r) qs → AreDescending qs → first < length qs → last ≤ length qs → at ≡ length p → AreGreater p (lead (get_or qs first no_pivot)) at → AreAbsent (terms_of value p) qs first last
absent_after r value p qs first last at over pivots d f l e greater k a c =
    let n = lead (get_or qs k no_pivot) in
    let own = lead_monomial r qs k (omega (arith, c, l)) pivots in
    absent r value p n at over own
    (lesser_greater r value p (lead (get_or qs first no_pivot)) n at (omega (arith, e)) over (lead_monomial r qs first f pivots) own (first_or_less qs first k a (omega (arith, c, l)) d) greater)
    (λ j x y z. absurd (omega (arith, x, y, e)))

-- ---- a reduction goes on behind the rows that are passed

first_taken : {X : Type 0} (b : Bool) (x y : X) → b ≡ true → (if b then x else y) ≡ x
first_taken b x y e = ap (λ c. if c then x else y) e

row_passed : (m : Option ℕ) (es : List Polynomial) (a : s.Row) (q : s.Pivot) (ps : List s.Pivot) → coefficient a.poly (lead q) ≡ pos 0 → s.row_by m es (q ∷ ps) a ≡ s.row_by m es ps a
row_passed m es a q ps e =
    let after = s.row_less (reduced_by m) a q in
    first_taken (unsigned_abs (coefficient a.poly (lead q)) == 0) (s.row_by m es ps a)
    (if are_wide m es 0 after.cofactors then None else s.row_by m es ps after) (ap (λ c. unsigned_abs c == 0) e)

pub row_skip : (m : Option ℕ) (es : List Polynomial) (ps : List s.Pivot) (places : List ℕ) (a : s.Row) (first last : ℕ) → first ≤ last → last ≤ length places → AreAbsent a.poly (pivots_at ps places) first last → s.row_by m es (pivots_at ps (drop first places)) a ≡ s.row_by m es (pivots_at ps (drop last places)) a
row_skip m es ps places a first last l b h =
    let qs = pivots_at ps places in let n = last - first in
    let e : first + n ≡ last = omega (arith, l) in
    ap (λ z. s.row_by m es z a) (pivots_drop ps places first)
    ∙ passed_many (λ z. s.row_by m es z a) a.poly qs (row_passed m es a) n first (omega (arith, e, b, places_length ps places)) (λ k x y. h k x (omega (arith, y, e)))
    ∙ ap (λ z. s.row_by m es (drop z qs) a) e
    ∙ ap (λ z. s.row_by m es z a) (sym (pivots_drop ps places last))

pub target_skip : (m : Option ℕ) (es : List Polynomial) (norm : ℕ) (ps : List s.Pivot) (places : List ℕ) (f : Target) (first last : ℕ) → first ≤ last → last ≤ length places → AreAbsent f.poly (pivots_at ps places) first last → target_by m es norm (pivots_at ps (drop first places)) f ≡ target_by m es norm (pivots_at ps (drop last places)) f
target_skip m es norm ps places f first last l b h =
    let qs = pivots_at ps places in let n = last - first in
    let e : first + n ≡ last = omega (arith, l) in
    ap (λ z. target_by m es norm z f) (pivots_drop ps places first)
    ∙ passed_many (λ z. target_by m es norm z f) f.poly qs (λ q qs. target_passed m es norm q qs f) n first (omega (arith, e, b, places_length ps places)) (λ k x y. h k x (omega (arith, y, e)))
    ∙ ap (λ z. target_by m es norm (drop z qs) f) e
    ∙ ap (λ z. target_by m es norm z f) (sym (pivots_drop ps places last))
