-- Kept rows: each has an inverse in front, and no later one has its leading monomial.
use Rattle.std.proofs.Common.{◌≡◌, sym, ◌∙◌, ap, subst, List, [], ◌∷◌, ◌++◌, ℤ, pos, ◌*ℤ◌, Ordering, Less, Equal, Greater}
use Rattle.std.specs.List.{AllByRecursion}
use Rattle.tcl_ring.specs.Reduction.{IsReduction}
use Rattle.tcl_poly.specs.Monomial.{Monomial, IsMonomial, IsLess, order}
use Rattle.tcl_poly.specs.Polynomial.{Term, Polynomial, IsPolynomial, coefficient}
use Rattle.tcl_poly.proofs.MonomialLaws.{order_says, OrderSays, less_chain}
use Rattle.tcl_poly.proofs.Canonical.{under_chain, no_coefficient, first_coefficient, coefficient_is}
use Rattle.tcl_reduce.specs.Row.{Pivot, leading, insert_at, insert_pivot, by_leading}
use Rattle.tcl_pivots.specs.RowLaws.{Lacks, AreRows, AreSpanned}
use Rattle.tcl_pivots.specs.Tried.{polynomials_of}
use Rattle.tcl_pivots.specs.Kept.{lead, IsPivot, LacksLead, AreKept}
use Rattle.tcl_pivots.proofs.Spanning.{spans_itself}
use Rattle.tcl_reduce.specs.Span.{IsSpanned}

abbrev pub polys : List Pivot → List Polynomial
polys ps = polynomials_of ps

pub pivot_of : (r : ℤ → ℤ) (p : Pivot) (t : Term) (f : Polynomial) → p.row.poly ≡ t ∷ f → IsPolynomial r p.row.poly → r (p.inverse *ℤ t.1) ≡ r (pos 1) → IsPivot r p
pivot_of r p t f e h u =
    let here : IsPolynomial r (t ∷ f) = subst (IsPolynomial r) e h in
    let first : coefficient p.row.poly (lead p) ≡ t.1 = ap (λ x. coefficient x (leading x)) e ∙ first_coefficient r t f here in
    record {
      over = h;
      some = λ z. here.1 (sym first ∙ z);
      monomial = let P : Polynomial → Type 0 = λ x. IsMonomial (leading x) in subst P (sym e) here.0;
      under = λ m less. let P : Polynomial → Type 0 = λ x. IsLess (leading x) m in
          ap (λ x. coefficient x m) e ∙ no_coefficient m (t ∷ f) (subst P e less, under_chain t.0 m f (subst P e less) here.3);
      unit = ap (λ x. r (p.inverse *ℤ x)) first ∙ u;
    }

lacking : (r : ℤ → ℤ) (p : Pivot) (qs : List Pivot) → AllByRecursion (LacksLead r p) qs → AllByRecursion (λ q. Lacks r (coefficient q) p.row.poly) (polys qs)
lacking r p [] h = tt
lacking r p (q ∷ qs) h = (h.0, lacking r p qs h.1)

-- kept rows are rows as the law has them
pub kept_rows : (r : ℤ → ℤ) (ps : List Pivot) → AreKept r ps → AreRows r (polys ps)
kept_rows r [] h = tt
kept_rows r (p ∷ ps) h = ((p.inverse, h.0.unit), lacking r p ps h.1, kept_rows r ps h.2)

-- one more at the end, which has none of the leading monomials
pub all_more : {X : Type 0} (P : X → Type 0) (xs : List X) (x : X) → AllByRecursion P xs → P x → AllByRecursion P (xs ++ x ∷ [])
all_more P [] x h i = (i, tt)
all_more P (y ∷ xs) x h i = (h.0, all_more P xs x h.1 i)

pub kept_more : (r : ℤ → ℤ) (ps : List Pivot) (q : Pivot) → AreKept r ps → IsPivot r q → AllByRecursion (λ p. LacksLead r p q) ps → AreKept r (ps ++ q ∷ [])
kept_more r [] q h i j = (i, tt, tt)
kept_more r (p ∷ ps) q h i j = (h.0, all_more (LacksLead r p) ps q h.1 j.0, kept_more r ps q h.2 i j.1)

-- ---- from the greatest leading monomial down

pub all_insert : (P : Pivot → Type 0) (p : Pivot) (qs : List Pivot) → P p → AllByRecursion P qs → AllByRecursion P (insert_pivot p qs)
all_insert P p [] h j = (h, tt)
all_insert P p (q ∷ qs) h j = at (order (lead p) (lead q)) (all_insert P p qs h j.1) where
  at : (o : Ordering) → AllByRecursion P (insert_pivot p qs) → AllByRecursion P (insert_at o p q qs (insert_pivot p qs))
  at Less k = (j.0, k)
  at Equal k = (j.0, k)
  at Greater k = (h, j)

pub all_sorted : (P : Pivot → Type 0) (ps : List Pivot) → AllByRecursion P ps → AllByRecursion P (by_leading ps)
all_sorted P [] h = tt
all_sorted P (p ∷ ps) h = all_insert P p (by_leading ps) h.0 (all_sorted P ps h.1)

-- what holds of the sorted rows holds of the rows
front_insert : (P : Pivot → Type 0) (p : Pivot) (qs : List Pivot) → AllByRecursion P (insert_pivot p qs) → P p × AllByRecursion P qs
front_insert P p [] h = (h.0, tt)
front_insert P p (q ∷ qs) h = at (order (lead p) (lead q)) (front_insert P p qs) h where
  at : (o : Ordering) → (AllByRecursion P (insert_pivot p qs) → P p × AllByRecursion P qs) → AllByRecursion P (insert_at o p q qs (insert_pivot p qs)) → P p × AllByRecursion P (q ∷ qs)
  at Less f k = ((f k.1).0, (k.0, (f k.1).1))
  at Equal f k = ((f k.1).0, (k.0, (f k.1).1))
  at Greater f k = k

pub from_sorted : (P : Pivot → Type 0) (ps : List Pivot) → AllByRecursion P (by_leading ps) → AllByRecursion P ps
from_sorted P [] h = tt
from_sorted P (p ∷ ps) h = let k = front_insert P p (by_leading ps) h in (k.0, from_sorted P ps k.1)

pub all_pivots : (r : ℤ → ℤ) (ps : List Pivot) → AreKept r ps → AllByRecursion (IsPivot r) ps
all_pivots r [] h = tt
all_pivots r (p ∷ ps) h = (h.0, all_pivots r ps h.2)

abbrev pub AreDescending : List Pivot → Type 0
AreDescending [] = Unit {0}
AreDescending (p ∷ ps) = AllByRecursion (λ q. IsLess (lead q) (lead p)) ps × AreDescending ps

-- rows with different leading monomials
abbrev pub AreOther : Pivot → Pivot → Type 0
AreOther p q = (lead p ≡ lead q → ⊥) × IsMonomial (lead q)

all_below : (m n : Monomial) (qs : List Pivot) → IsLess m n → AllByRecursion (λ q. IsLess (lead q) m) qs → AllByRecursion (λ q. IsLess (lead q) n) qs
all_below m n [] h j = tt
all_below m n (q ∷ qs) h j = (less_chain (lead q) m n j.0 h, all_below m n qs h j.1)

insert_descends : (p : Pivot) (qs : List Pivot) → IsMonomial (lead p) → AllByRecursion (AreOther p) qs → AreDescending qs → AreDescending (insert_pivot p qs)
insert_descends p [] i other h = (tt, tt)
insert_descends p (q ∷ qs) i other h =
    at (order (lead p) (lead q)) (order_says (lead p) (lead q) i other.0.1) (insert_descends p qs i other.1 h.1) where
      at : (o : Ordering) → OrderSays o (lead p) (lead q) → AreDescending (insert_pivot p qs) → AreDescending (insert_at o p q qs (insert_pivot p qs))
      at Less s k = (all_insert (λ x. IsLess (lead x) (lead q)) p qs s h.0, k)
      at Equal s k = absurd (other.0.0 s)
      at Greater s k = ((s, all_below (lead q) (lead p) qs s h.0), h)

pub others : (r : ℤ → ℤ) → IsReduction r → (p : Pivot) (qs : List Pivot) → AllByRecursion (LacksLead r p) qs → AllByRecursion (IsPivot r) qs → AllByRecursion (AreOther p) qs
others r ring p [] h j = tt
others r ring p (q ∷ qs) h j = (
  (λ e. j.0.some (sym (coefficient_is r ring q.row.poly j.0.over (lead q)) ∙ ap (λ m. r (coefficient q.row.poly m)) (sym e) ∙ h.0 ∙ ring.null), j.0.monomial),
  others r ring p qs h.1 j.1,
)

pub sorted_descends : (r : ℤ → ℤ) → IsReduction r → (ps : List Pivot) → AreKept r ps → AreDescending (by_leading ps)
sorted_descends r ring [] h = tt
sorted_descends r ring (p ∷ ps) h =
    insert_descends p (by_leading ps) h.0.monomial (all_sorted (AreOther p) ps (others r ring p ps h.1 (all_pivots r ps h.2))) (sorted_descends r ring ps h.2)

-- ---- spans

by_polys : (r : ℤ → ℤ) (K : List Polynomial) (qs : List Pivot) → AreSpanned r K (polys qs) → AllByRecursion (λ q. IsSpanned r K (coefficient q.row.poly)) qs
by_polys r K [] h = tt
by_polys r K (q ∷ qs) h = (h.0, by_polys r K qs h.1)

pub sorted_spanned : (r : ℤ → ℤ) (ps : List Pivot) → AllByRecursion (λ q. IsSpanned r (polys ps) (coefficient q.row.poly)) (by_leading ps)
sorted_spanned r ps = all_sorted (λ q. IsSpanned r (polys ps) (coefficient q.row.poly)) ps (by_polys r (polys ps) ps (spans_itself r (polys ps)))
