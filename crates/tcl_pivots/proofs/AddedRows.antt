-- A row added: where it goes, and what the rows are then.
use Rattle.std.proofs.Common.{◌≡◌, ℕ, ◌+◌, ◌<◌, ◌≤◌, refl, sym, ◌∙◌, ap, subst, arith, List, [], ◌∷◌, ◌++◌, take, drop, length, map, get_or, ℤ, pos, ◌*ℤ◌, Option, Some, None, Result, Ok, Err, Ordering, Less, Equal, Greater}
use Rattle.std.specs.List.{AllByRecursion}
use Rattle.std.specs.Prelude.{OnOk}
use Rattle.std.proofs.lemmas.List.{map-append, map_more, length-map, get_or_default}
use Rattle.tcl_num.proofs.IntegerRing.{int_mul_comm}
use Rattle.tcl_ring.specs.Reduction.{IsModulus, reduced_by, IsElement}
use Rattle.tcl_ring.proofs.Reductions.{is_reduction}
use Rattle.tcl_poly.specs.Monomial.{Monomial, order}
use Rattle.tcl_poly.specs.Polynomial.{Polynomial, IsPolynomial, terms_of, coefficient}
use Rattle.tcl_reduce.specs.Inverse.{inverse_of}
use Rattle.tcl_reduce.specs.Row as s
use Rattle.tcl_pivots.specs.declared.row.Row.{Row}
use Rattle.tcl_pivots.specs.declared.row.Pivot.{Pivot}
use Rattle.tcl_pivots.specs.declared.rows.Note.{Note}
use Rattle.tcl_pivots.specs.RowLaws.{Lacks}
use Rattle.tcl_pivots.specs.RowState.{row_shown, pivot_shown, IsSound}
use Rattle.tcl_pivots.specs.Kept.{lead, IsPivot, AreKept}
use Rattle.tcl_pivots.specs.Held.{Held, note_shown, pivots_shown, rows_shown, no_pivot, pivots_at, AreSorted, AreHeld, front_monomial, front_coefficient, HaveTerms, IsPlace, IsInserted}
use Rattle.tcl_pivots.proofs.Inverting.{OnSome}
use Rattle.tcl_pivots.proofs.Pivots.{polys, pivot_of, kept_more, all_more, all_sorted, from_sorted, all_pivots, sorted_descends, sorted_spanned}
use Rattle.tcl_pivots.proofs.Clearing.{IsCleared}
use Rattle.tcl_pivots.proofs.Adding.{row_cleared, added_row}
use Rattle.tcl_pivots.proofs.HeldRows.{all_at, shown_at, rows_from, rows_ended}
use Rattle.tcl_pivots.proofs.Inverses.{no_inverse, inverse_found}
use Rattle.tcl_pivots.proofs.Sorting.{sorted_by_places}

-- ---- the place of a row

pub front_is : {E : Type 0} (value : E → ℤ) (f : List (Monomial × E)) → s.leading (terms_of value f) ≡ front_monomial f
front_is value [] = refl
front_is value (t ∷ f) = refl

pub terms_at : {R E : Type 0} (ps : List (Pivot R E)) (k : ℕ) (p : Pivot R E) → p ≡ get_or ps k p → k < length ps → HaveTerms ps → p.row.poly ≡ [] → ⊥
terms_at ps k p e l h = all_at (λ q. q.row.poly ≡ [] → ⊥) ps k p e l h

joined : {X : Type 0} (xs : List X) (x : X) (ys : List X) → (xs ++ x ∷ []) ++ ys ≡ xs ++ x ∷ ys
joined [] x ys = refl
joined (y ∷ xs) x ys = ap (λ z. y ∷ z) (joined xs x ys)

-- the row at a place of the order
first_of : {R E : Type 0} (value : E → ℤ) (ps : List (Pivot R E)) (places : List ℕ) (i k : ℕ) (p : Pivot R E) → k ≡ get_or places i k → i < length places → p ≡ get_or ps k p → k < length ps → get_or (pivots_shown value ps) (get_or places i 0) no_pivot ≡ pivot_shown value p
first_of value ps places i k p e l g b =
    ap (λ n. get_or (pivots_shown value ps) n no_pivot) (get_or_default places i 0 k l ∙ sym e) ∙ shown_at value ps k p no_pivot g b

-- not after
abbrev IsBefore : Ordering → Type 0
IsBefore Less = Unit {0}
IsBefore Equal = Unit {0}
IsBefore Greater = ⊥

-- a row that is not less than q is passed
insert_after : (o : Ordering) (q p : s.Pivot) (rest further : List s.Pivot) → (o ≡ Greater → ⊥) → s.insert_at o q p rest further ≡ p ∷ further
insert_after Less q p rest further h = refl
insert_after Equal q p rest further h = refl
insert_after Greater q p rest further h = absurd (h refl)

pub less_passes : Less ≡ Greater → ⊥
less_passes e = absurd (subst IsBefore e tt)

pub equal_passes : Equal ≡ Greater → ⊥
equal_passes e = absurd (subst IsBefore e tt)

leads_order : {R E : Type 0} (value : E → ℤ) (p : Pivot R E) (q : s.Pivot) (f : List (Monomial × E)) (o : Ordering) → o ≡ order (front_monomial f) (front_monomial p.row.poly) → s.leading q.row.poly ≡ front_monomial f → order (lead q) (lead (pivot_shown value p)) ≡ o
leads_order value p q f o e h =
    (let second = front_is value p.row.poly in λ i. order (h i) (second i)) ∙ sym e

pub passed_by : {R E : Type 0} (value : E → ℤ) (ps : List (Pivot R E)) (places : List ℕ) (i k : ℕ) (p : Pivot R E) (q : s.Pivot) (f : List (Monomial × E)) (o : Ordering) → k ≡ get_or places i k → i < length places → p ≡ get_or ps k p → k < length ps → o ≡ order (front_monomial f) (front_monomial p.row.poly) → (o ≡ Greater → ⊥) → s.leading q.row.poly ≡ front_monomial f → s.insert_pivot q (pivots_at (pivots_shown value ps) places) ≡ pivots_at (pivots_shown value ps) (take i places) ++ s.insert_pivot q (pivots_at (pivots_shown value ps) (drop i places)) → s.insert_pivot q (pivots_at (pivots_shown value ps) places) ≡ pivots_at (pivots_shown value ps) (take (i + 1) places) ++ s.insert_pivot q (pivots_at (pivots_shown value ps) (drop (i + 1) places))
passed_by value ps places i k p q f o e l g b says not h so_far =
    let shown = pivots_shown value ps in
    let here = pivot_shown value p in
    let front = pivots_at shown (take i places) in
    let rest = pivots_at shown (drop (i + 1) places) in
    let from = rows_from value ps places i k p e l g b in
    let step : s.insert_pivot q (here ∷ rest) ≡ here ∷ s.insert_pivot q rest =
    ap (λ z. s.insert_at z q here rest (s.insert_pivot q rest)) (leads_order value p q f o says h) ∙ insert_after o q here rest (s.insert_pivot q rest) not in
    let at_place : get_or shown (get_or places i 0) no_pivot ≡ here = first_of value ps places i k p e l g b in
    let longer : pivots_at shown (take (i + 1) places) ≡ front ++ here ∷ [] =
    map_more (λ n. get_or shown n no_pivot) places i 0 l ∙ ap (λ z. front ++ z ∷ []) at_place in
    so_far
    ∙ ap (λ z. front ++ s.insert_pivot q z) from
    ∙ ap (λ z. front ++ z) step
    ∙ sym (joined front here (s.insert_pivot q rest))
    ∙ ap (λ z. z ++ s.insert_pivot q rest) (sym longer)

-- the row goes before one that is less
pub found_place : {R E : Type 0} (value : E → ℤ) (ps : List (Pivot R E)) (places : List ℕ) (i k : ℕ) (p : Pivot R E) (q : s.Pivot) (f : List (Monomial × E)) → k ≡ get_or places i k → i < length places → p ≡ get_or ps k p → k < length ps → Greater ≡ order (front_monomial f) (front_monomial p.row.poly) → s.leading q.row.poly ≡ front_monomial f → s.insert_pivot q (pivots_at (pivots_shown value ps) places) ≡ pivots_at (pivots_shown value ps) (take i places) ++ s.insert_pivot q (pivots_at (pivots_shown value ps) (drop i places)) → IsPlace (pivots_shown value ps) places q i
found_place value ps places i k p q f e l g b says h so_far =
    let shown = pivots_shown value ps in
    let here = pivot_shown value p in
    let front = pivots_at shown (take i places) in
    let rest = pivots_at shown (drop (i + 1) places) in
    let from = rows_from value ps places i k p e l g b in
    so_far
    ∙ ap (λ z. front ++ s.insert_pivot q z) from
    ∙ ap (λ z. front ++ s.insert_at z q here rest (s.insert_pivot q rest)) (leads_order value p q f Greater says h)
    ∙ ap (λ z. front ++ q ∷ z) (sym from)

-- the row goes to the end
pub last_place : (ps : List s.Pivot) (places : List ℕ) (i : ℕ) (q : s.Pivot) → length places ≤ i → s.insert_pivot q (pivots_at ps places) ≡ pivots_at ps (take i places) ++ s.insert_pivot q (pivots_at ps (drop i places)) → IsPlace ps places q i
last_place ps places i q l so_far =
    let none = rows_ended ps places i l in
    so_far ∙ ap (λ z. pivots_at ps (take i places) ++ s.insert_pivot q z) none ∙ ap (λ z. pivots_at ps (take i places) ++ q ∷ z) (sym none)

-- the number was put in
pub inserted : {R E : Type 0} (value : E → ℤ) (h : Held R E) (ks : List (Pivot R E)) (places after : List ℕ) (i n : ℕ) (p : Pivot R E) → ks ≡ h.kept → places ≡ h.order → n ≡ length h.kept → after ≡ take i h.order ++ n ∷ drop i h.order → ((q : s.Pivot) → s.leading q.row.poly ≡ front_monomial p.row.poly → IsPlace (pivots_shown value ks) places q i) → IsInserted (pivots_shown value h.kept) h.order after (length h.kept) (pivot_shown value p)
inserted value h ks places after i n p k o l a place =
    let P : List (Pivot _ _) → Type 0 = λ z. IsPlace (pivots_shown value z) places (pivot_shown value p) i in
    let Q : List ℕ → Type 0 = λ z. IsPlace (pivots_shown value h.kept) z (pivot_shown value p) i in
    (i, a ∙ ap (λ z. take i h.order ++ z ∷ drop i h.order) l, subst Q o (subst P k (place (pivot_shown value p) (front_is value p.row.poly))))

-- ---- of answers

pub on_ok : {X E P : Type 0} (o : Result X E) → P → OnOk o P
on_ok (Ok x) h = h
on_ok (Err e) h = tt

pub on_ok_from : {X E P Q : Type 0} (o : Result X E) → OnOk o P → (P → Q) → OnOk o Q
on_ok_from (Ok x) h f = f h
on_ok_from (Err e) h f = tt

pub on_ok_both : {X E P Q S : Type 0} (o : Result X E) → OnOk o P → OnOk o Q → (P → Q → S) → OnOk o S
on_ok_both (Ok x) h i f = f h i
on_ok_both (Err e) h i f = tt

-- ---- no kept row is zero

pub kept_terms : {R E : Type 0} (r : ℤ → ℤ) (value : E → ℤ) (ps : List (Pivot R E)) → AreKept r (pivots_shown value ps) → HaveTerms ps
kept_terms r value [] h = tt
kept_terms r value (p ∷ ps) h = ((λ z. h.0.some (ap (λ f. coefficient (terms_of value f) (lead (pivot_shown value p))) z)), kept_terms r value ps h.2)

-- ---- the coefficient in front

abbrev HasSome : {E : Type 0} → Option E → Type 0
HasSome None = ⊥
HasSome (Some x) = Unit {0}

abbrev HasNone : {E : Type 0} → Option E → Type 0
HasNone None = Unit {0}
HasNone (Some x) = ⊥

no_front : {E : Type 0} (f : List (Monomial × E)) → front_coefficient f ≡ None → f ≡ []
no_front [] e = refl
no_front (t ∷ f) e = absurd (subst HasSome e tt)

abbrev or_value : {E : Type 0} → E → Option E → E
or_value d None = d
or_value d (Some x) = x

-- a polynomial with that coefficient in front
pub with_front : {E : Type 0} (P : List (Monomial × E) → Type 0) (f : List (Monomial × E)) (c : E) → front_coefficient f ≡ Some c → ((t : Monomial × E) (q : List (Monomial × E)) → t.1 ≡ c → f ≡ t ∷ q → P (t ∷ q)) → P f
with_front P [] c e h = absurd (subst HasNone e tt)
with_front P (t ∷ q) c e h = h t q (ap (or_value c) e) refl

pub front_some : {E : Type 0} (f : List (Monomial × E)) (c : E) → front_coefficient f ≡ Some c → f ≡ [] → ⊥
front_some f c e = with_front (λ g. g ≡ [] → ⊥) f c e (λ t q _ _ z. absurd (let h = ap length z in omega (arith, h)))

pub keep_nothing : {E : Type 0} (m : Option ℕ) (value : E → ℤ) (f : List (Monomial × E)) (a : s.Row) (rows : s.Rows) → front_coefficient f ≡ None → rows ≡ s.keep m a (terms_of value f) rows
keep_nothing m value f a rows e = sym (ap (λ g. s.keep m a (terms_of value g) rows) (no_front f e))

keep_by_front : {E : Type 0} (m : Option ℕ) (value : E → ℤ) (f : List (Monomial × E)) (c : E) (a : s.Row) (rows : s.Rows) → front_coefficient f ≡ Some c → s.keep m a (terms_of value f) rows ≡ s.keep_by a (value c) (inverse_of m (value c)) rows
keep_by_front m value f c a rows e =
    with_front (λ g. s.keep m a (terms_of value g) rows ≡ s.keep_by a (value c) (inverse_of m (value c)) rows) f c e
    (λ t q same _. ap (λ x. s.keep_by a (value x) (inverse_of m (value x)) rows) same)

pub keep_noted : {E : Type 0} (m : Option ℕ) (value : E → ℤ) (f : List (Monomial × E)) (c : E) (a : s.Row) (rows : s.Rows) → IsModulus m → front_coefficient f ≡ Some c → ((n : ℤ) → reduced_by m (value c *ℤ n) ≡ reduced_by m (pos 1) → ⊥) → s.keep m a (terms_of value f) rows ≡ s.with_note (s.NoInverse (value c)) rows
keep_noted m value f c a rows modulus e h =
    keep_by_front m value f c a rows e ∙ ap (λ o. s.keep_by a (value c) o rows) (no_inverse m (value c) modulus h)

pub keep_kept : {E : Type 0} (m : Option ℕ) (value : E → ℤ) (f : List (Monomial × E)) (c i : E) (a : s.Row) (rows : s.Rows) → IsModulus m → front_coefficient f ≡ Some c → IsElement m (value i) → reduced_by m (value c *ℤ value i) ≡ reduced_by m (pos 1) → s.keep m a (terms_of value f) rows ≡ record { kept = rows.kept ++ (record { row = a; inverse = value i }) ∷ []; notes = rows.notes }
keep_kept m value f c i a rows modulus e h j =
    keep_by_front m value f c a rows e ∙ ap (λ o. s.keep_by a (value c) o rows) (inverse_found m (value c) (value i) modulus h j)

-- ---- what is held then

pub shown_noted : {R E : Type 0} (value : E → ℤ) (h after : Held R E) (n : Note) → after ≡ record { kept = h.kept; order = h.order; notes = h.notes ++ n ∷ [] } → rows_shown value after ≡ s.with_note (note_shown n) (rows_shown value h)
shown_noted value h after n e =
    ap (rows_shown value) e ∙ (let more = map-append note_shown h.notes (n ∷ []) in λ i. record { kept = pivots_shown value h.kept; notes = more i })

pub shown_pushed : {R E : Type 0} (value : E → ℤ) (h after : Held R E) (p : Pivot R E) → after.kept ≡ h.kept ++ p ∷ [] → after.notes ≡ h.notes → rows_shown value after ≡ record { kept = pivots_shown value h.kept ++ pivot_shown value p ∷ []; notes = map note_shown h.notes }
shown_pushed value h after p e f =
    let kept = ap (pivots_shown value) e ∙ map-append (pivot_shown value) h.kept (p ∷ []) in
    let notes = ap (map note_shown) f in
    λ i. record { kept = kept i; notes = notes i }

-- the row that is kept stands after rows of which it has no leading monomial
pub new_kept : {R E : Type 0} (m : Option ℕ) (value : E → ℤ) (ps : List (Pivot R E)) (a : Row R E) (c i : E) → front_coefficient a.poly ≡ Some c → IsPolynomial (reduced_by m) (terms_of value a.poly) → reduced_by m (value c *ℤ value i) ≡ reduced_by m (pos 1) → AreKept (reduced_by m) (pivots_shown value ps) → AllByRecursion (λ q. Lacks (reduced_by m) (coefficient (terms_of value a.poly)) q.row.poly) (pivots_shown value ps) → AreKept (reduced_by m) (pivots_shown value ps ++ (record { row = row_shown value a; inverse = value i }) ∷ [])
new_kept m value ps a c i e over unit kept lacks =
    let r = reduced_by m in
    let q : s.Pivot = record { row = row_shown value a; inverse = value i } in
    let is : IsPivot r q = with_front (λ g. g ≡ a.poly → IsPivot r q) a.poly c e
    (λ t f same _ back. pivot_of r q (t.0, value t.1) (terms_of value f) (sym (ap (terms_of value) back)) over
    (ap (λ x. r (value i *ℤ value x)) same ∙ ap r (int_mul_comm (value i) (value c)) ∙ unit)) refl in
    kept_more r (pivots_shown value ps) q kept is lacks

pub new_sorted : {R E : Type 0} (m : Option ℕ) (value : E → ℤ) (ps after : List (Pivot R E)) (p : Pivot R E) (former places : List ℕ) → IsModulus m → AreKept (reduced_by m) (pivots_shown value ps ++ pivot_shown value p ∷ []) → AreSorted (pivots_shown value ps) former → IsInserted (pivots_shown value ps) former places (length ps) (pivot_shown value p) → after ≡ ps ++ p ∷ [] → AreSorted (pivots_shown value after) places
new_sorted m value ps after p former places modulus kept sorted (i, is, place) e =
    let more : pivots_shown value after ≡ pivots_shown value ps ++ pivot_shown value p ∷ [] = ap (pivots_shown value) e ∙ map-append (pivot_shown value) ps (p ∷ []) in
    let here = sorted_by_places (reduced_by m) (is_reduction m modulus) (pivots_shown value ps) (pivot_shown value p) former i (length ps) (sym (length-map ps (pivot_shown value))) kept sorted place in
    let P : List s.Pivot → Type 0 = λ z. AreSorted z places in
    let Q : List ℕ → Type 0 = λ z. AreSorted (pivots_shown value ps ++ pivot_shown value p ∷ []) z in
    subst P (sym more) (subst Q (sym is) here)

-- ---- a row that is reduced has none of the leading monomials

pub reduced_lacks : (m : Option ℕ) → IsModulus m → (es : List Polynomial) (ps : List s.Pivot) (a b : s.Row) → AreKept (reduced_by m) ps → IsPolynomial (reduced_by m) a.poly → s.row_by m es (s.by_leading ps) a ≡ Some b → AllByRecursion (λ q. Lacks (reduced_by m) (coefficient b.poly) q.row.poly) ps
reduced_lacks m modulus es ps a b h i e =
    let r = reduced_by m in let ring = is_reduction m modulus in
    let cleared = row_cleared m ring es (polys ps) (s.by_leading ps) a (all_sorted (IsPivot r) ps (all_pivots r ps h)) (sorted_spanned r ps) (sorted_descends r ring ps h) i in
    let P : Option s.Row → Type 0 = λ o. OnSome (λ x. IsCleared r (polys ps) (s.by_leading ps) a.poly x.poly (Unit {0})) o in
    let here : IsCleared r (polys ps) (s.by_leading ps) a.poly b.poly (Unit {0}) = subst P e cleared in
    from_sorted (λ q. Lacks r (coefficient b.poly) q.row.poly) ps (here.gone tt)

-- ---- the rows stay sound

keep_by_sound : (m : Option ℕ) (es : List Polynomial) (b : s.Row) (c : ℤ) (o : Option ℤ) (rows : s.Rows) → AllByRecursion (λ q. IsSound m es q.row) rows.kept → IsSound m es b → AllByRecursion (λ q. IsSound m es q.row) (s.keep_by b c o rows).kept
keep_by_sound m es b c None rows h i = h
keep_by_sound m es b c (Some x) rows h i = all_more (λ q. IsSound m es q.row) rows.kept (record { row = b; inverse = x }) h i

keep_sound : (m : Option ℕ) (es : List Polynomial) (b : s.Row) (f : Polynomial) (rows : s.Rows) → AllByRecursion (λ q. IsSound m es q.row) rows.kept → IsSound m es b → AllByRecursion (λ q. IsSound m es q.row) (s.keep m b f rows).kept
keep_sound m es b [] rows h i = h
keep_sound m es b (t ∷ f) rows h i = keep_by_sound m es b t.1 (inverse_of m t.1) rows h i

added_sound : (m : Option ℕ) (es : List Polynomial) (place : ℕ) (o : Option s.Row) (rows : s.Rows) → AllByRecursion (λ q. IsSound m es q.row) rows.kept → OnSome (IsSound m es) o → AllByRecursion (λ q. IsSound m es q.row) (s.add_reduced m place o rows).kept
added_sound m es place None rows h i = h
added_sound m es place (Some b) rows h i = keep_sound m es b b.poly rows h i

-- what is held after a row was added
pub held_after : {R E : Type 0} (m : Option ℕ) (es : List Polynomial) (value : E → ℤ) (h after : Held R E) (a : s.Row) (o : Option s.Row) → IsModulus m → AreHeld m es value h → IsPolynomial (reduced_by m) a.poly → s.row_by m es (s.by_leading (rows_shown value h).kept) a ≡ o → OnSome (IsSound m es) o → rows_shown value after ≡ s.add_row m es a (rows_shown value h) → AreSorted (pivots_shown value after.kept) after.order → AreHeld m es value after
held_after m es value h after a o modulus held over reduced sound is sorted =
    let rows = rows_shown value h in
    let kept : pivots_shown value after.kept ≡ (s.add_row m es a rows).kept = ap (λ z. z.kept) is in
    let P : List s.Pivot → Type 0 = λ z. AllByRecursion (λ q. IsSound m es q.row) z in
    let Q : List s.Pivot → Type 0 = λ z. AreKept (reduced_by m) z in
    let S : Option s.Row → Type 0 = λ z. OnSome (IsSound m es) z in
    record {
      sound = (
        subst P (sym kept) (added_sound m es a.place (s.row_by m es (s.by_leading rows.kept) a) rows held.sound.0 (subst S (sym reduced) sound)),
        subst Q (sym kept) (added_row m modulus (is_reduction m modulus) es a rows held.sound.1 over).kept,
      );
      sorted = sorted;
    }
