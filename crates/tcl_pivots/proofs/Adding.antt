-- A row added to kept rows: they stay rows, and without a note they span it.
use Rattle.std.proofs.Common.{◌≡◌, ◌⊎◌, inl, inr, refl, sym, ap, subst, arith, List, [], ◌∷◌, ◌++◌, length, ◌==◌, if◌then◌else◌, ℤ, pos, negsuc, ◌+ℤ◌, ◌-ℤ◌, ◌*ℤ◌, unsigned_abs, Option, Some, None, ℕ}
use Rattle.std.specs.List.{AllByRecursion}
use Rattle.std.proofs.lemmas.Int.{ints}
use Rattle.std.proofs.lemmas.Bool.{eqb-true}
use Rattle.tcl_num.proofs.IntegerOrder.{unsigned_abs_zero}
use Rattle.tcl_ring.specs.Reduction.{IsReduction, reduced_by, IsModulus}
use Rattle.tcl_poly.specs.Polynomial.{Term, Polynomial, IsPolynomial, coefficient}
use Rattle.tcl_reduce.specs.Inverse.{inverse_of}
use Rattle.tcl_reduce.specs.CofactorSum.{are_wide}
use Rattle.tcl_reduce.specs.Row.{Row, Pivot, Note, Rows, by_leading, row_less, row_by, with_note, keep_by, keep, add_reduced, add_row, NoInverse, WideAt}
use Rattle.tcl_reduce.specs.Span.{IsSpanned}
use Rattle.tcl_pivots.specs.Apart.{AreApart}
use Rattle.tcl_pivots.specs.RowLaws.{AreSpanned}
use Rattle.tcl_pivots.proofs.Inverting.{OnSome, on_if, inverse_is}
use Rattle.tcl_pivots.proofs.Spanning.{span_zero, span_alike, span_sum, span_multiple, span_later, span_first, span_last, spans_later, spans_itself, span_front}
use Rattle.tcl_pivots.specs.Kept.{lead, IsPivot, LacksLead, AreKept}
use Rattle.tcl_pivots.proofs.Pivots.{polys, pivot_of, kept_more, all_more, all_sorted, from_sorted, all_pivots, AreDescending, sorted_descends, sorted_spanned}
use Rattle.tcl_pivots.proofs.Clearing.{less_is, IsCleared, cleared_end, cleared_skip, cleared_step}

pub on_map : {X : Type 0} (P Q : X → Type 0) (o : Option X) → ((x : X) → P x → Q x) → OnSome P o → OnSome Q o
on_map P Q None f h = tt
on_map P Q (Some x) f h = f x h

-- a row reduced by others
pub row_cleared : (m : Option ℕ) → IsReduction (reduced_by m) → (equations K : List Polynomial) (ps : List Pivot) (a : Row) → AllByRecursion (IsPivot (reduced_by m)) ps → AllByRecursion (λ q. IsSpanned (reduced_by m) K (coefficient q.row.poly)) ps → AreDescending ps → IsPolynomial (reduced_by m) a.poly → OnSome (λ b. IsCleared (reduced_by m) K ps a.poly b.poly (Unit {0})) (row_by m equations ps a)
row_cleared m ring equations K [] a i k d h = cleared_end (reduced_by m) K a.poly (Unit {0}) h
row_cleared m ring equations K (p ∷ ps) a i k d h =
    let r = reduced_by m in
    let P : Row → Type 0 = λ b. IsCleared r K (p ∷ ps) a.poly b.poly (Unit {0}) in
    let n = unsigned_abs (coefficient a.poly (lead p)) in
    let after = row_less r a p in
    let wide = are_wide m equations 0 after.cofactors in
    on_if (OnSome P) (n == 0) (row_by m equations ps a) (if wide then None else row_by m equations ps after)
    (λ t. on_map (λ b. IsCleared r K ps a.poly b.poly (Unit {0})) P (row_by m equations ps a)
    (λ b. cleared_skip r K p ps a.poly b.poly (Unit {0}) d (unsigned_abs_zero (coefficient a.poly (lead p)) (eqb-true n 0 t)))
    (row_cleared m ring equations K ps a i.1 k.1 d.1 h))
    (λ _. on_if (OnSome P) wide None (row_by m equations ps after) (λ _. tt)
    (λ _. on_map (λ b. IsCleared r K ps after.poly b.poly (Unit {0})) P (row_by m equations ps after)
    (λ b. cleared_step r ring K p ps a.poly b.poly (Unit {0}) i.0 k.0 d)
    (row_cleared m ring equations K ps after i.1 k.1 d.1 (less_is r ring a.poly p h i.0))))

-- the kept rows are the same, or one more
abbrev pub IsGrown : List Pivot → List Pivot → Type 0
IsGrown ps qs = (qs ≡ ps) ⊎ ((b : Pivot) × (qs ≡ ps ++ b ∷ []))

pub record IsAdded (r : ℤ → ℤ) (a : Polynomial) (rows after : Rows) : Type 0 where
  pub kept : AreKept r after.kept
  pub grown : IsGrown rows.kept after.kept
  pub silent : after.notes ≡ [] → rows.notes ≡ []
  pub spanned : after.notes ≡ [] → IsSpanned r (polys after.kept) (coefficient a)
  pub back : AreSpanned r (a ∷ polys rows.kept) (polys after.kept)

pub some_more : (notes : List Note) (n : Note) → notes ++ n ∷ [] ≡ [] → ⊥
some_more [] n e = absurd (let h = ap length e in omega (arith, h))
some_more (x ∷ notes) n e = absurd (let h = ap length e in omega (arith, h))

pub added_note : (r : ℤ → ℤ) (a : Polynomial) (note : Note) (rows : Rows) → AreKept r rows.kept → IsAdded r a rows (with_note note rows)
added_note r a note rows h = record {
  kept = h;
  grown = inl refl;
  silent = λ e. absurd (some_more rows.notes note e);
  spanned = λ e. absurd (some_more rows.notes note e);
  back = spans_later r a (polys rows.kept) (polys rows.kept) (spans_itself r (polys rows.kept));
}

pub polys_more : (ps : List Pivot) (q : Pivot) → polys (ps ++ q ∷ []) ≡ polys ps ++ q.row.poly ∷ []
polys_more [] q = refl
polys_more (p ∷ ps) q = ap (λ xs. p.row.poly ∷ xs) (polys_more ps q)

whole : (a b : ℤ) → a ≡ (a -ℤ b) +ℤ b
whole a b = omega (arith, ints)

other : (a b : ℤ) → b ≡ a +ℤ negsuc 0 *ℤ (a -ℤ b)
other a b = omega (arith, ints)

-- f is spanned where g is
pub span_apart : (r : ℤ → ℤ) → IsReduction r → (K : List Polynomial) (f g : Polynomial) → AreApart r K f g → IsSpanned r K (coefficient g) → IsSpanned r K (coefficient f)
span_apart r ring K f g h j =
    span_alike r K (λ m. (coefficient f m -ℤ coefficient g m) +ℤ coefficient g m) (coefficient f) (λ m. ap r (whole (coefficient f m) (coefficient g m)))
    (span_sum r ring K (λ m. coefficient f m -ℤ coefficient g m) (coefficient g) h j)

pub apart_span : (r : ℤ → ℤ) → IsReduction r → (K : List Polynomial) (f g : Polynomial) → AreApart r K f g → IsSpanned r K (coefficient f) → IsSpanned r K (coefficient g)
apart_span r ring K f g h j =
    span_alike r K (λ m. coefficient f m +ℤ negsuc 0 *ℤ (coefficient f m -ℤ coefficient g m)) (coefficient g) (λ m. ap r (other (coefficient f m) (coefficient g m)))
    (span_sum r ring K (coefficient f) (λ m. negsuc 0 *ℤ (coefficient f m -ℤ coefficient g m)) j (span_multiple r ring K (negsuc 0) (λ m. coefficient f m -ℤ coefficient g m) h))

pub apart_more : (r : ℤ → ℤ) → IsReduction r → (K : List Polynomial) (p : Polynomial) (f g : Polynomial) → AreApart r K f g → AreApart r (p ∷ K) f g
apart_more r ring K p f g h = span_later r p K (λ m. coefficient f m -ℤ coefficient g m) h

added_by : (m : Option ℕ) → IsReduction (reduced_by m) → (a : Polynomial) (b : Row) (t : Term) (f : Polynomial) (o : Option ℤ) (rows : Rows) → AreKept (reduced_by m) rows.kept → IsCleared (reduced_by m) (polys rows.kept) (by_leading rows.kept) a b.poly (Unit {0}) → b.poly ≡ t ∷ f → OnSome (λ i. reduced_by m (i *ℤ t.1) ≡ reduced_by m (pos 1)) o → IsAdded (reduced_by m) a rows (keep_by b t.1 o rows)
added_by m ring a b t f None rows h c e u = added_note (reduced_by m) a (NoInverse t.1) rows h
added_by m ring a b t f (Some i) rows h c e u =
    let r = reduced_by m in
    let q : Pivot = record { row = b; inverse = i } in
    let ps = rows.kept in
    let K = polys ps in
    let same = polys_more ps q in
    let P : List Polynomial → Type 0 = λ xs. IsSpanned r xs (coefficient a) in
    let Q : List Polynomial → Type 0 = λ xs. AreSpanned r (a ∷ K) xs in
    record {
      kept = kept_more r ps q h (pivot_of r q t f e c.over u) (from_sorted (λ p. LacksLead r p q) ps (c.gone tt));
      grown = inr (q, refl);
      silent = λ n. n;
      spanned = λ _. subst P (sym same) (span_apart r ring (K ++ b.poly ∷ []) a b.poly
          (span_front r ring K (b.poly ∷ []) (λ m. coefficient a m -ℤ coefficient b.poly m) c.apart) (span_last r K b.poly));
      back = subst Q (sym same) (all_more (λ x. IsSpanned r (a ∷ K) (coefficient x)) K b.poly
          (spans_later r a K K (spans_itself r K)) (apart_span r ring (a ∷ K) a b.poly (apart_more r ring K a a b.poly c.apart) (span_first r a K)));
    }

added_keep : (m : Option ℕ) → IsModulus m → IsReduction (reduced_by m) → (a : Polynomial) (b : Row) (f : Polynomial) (rows : Rows) → AreKept (reduced_by m) rows.kept → IsCleared (reduced_by m) (polys rows.kept) (by_leading rows.kept) a b.poly (Unit {0}) → b.poly ≡ f → IsAdded (reduced_by m) a rows (keep m b f rows)
added_keep m modulus ring a b [] rows h c e =
    let r = reduced_by m in
    let K = polys rows.kept in
    record {
      kept = h;
      grown = inl refl;
      silent = λ n. n;
      spanned = λ _. span_apart r ring K a b.poly c.apart (span_zero r K (coefficient b.poly) (λ n. ap (λ x. r (coefficient x n)) e));
      back = spans_later r a K K (spans_itself r K);
    }
added_keep m modulus ring a b (t ∷ f) rows h c e = added_by m ring a b t f (inverse_of m t.1) rows h c e (inverse_is m t.1 modulus)

added_reduced : (m : Option ℕ) → IsModulus m → IsReduction (reduced_by m) → (a : Polynomial) (place : ℕ) (o : Option Row) (rows : Rows) → AreKept (reduced_by m) rows.kept → OnSome (λ b. IsCleared (reduced_by m) (polys rows.kept) (by_leading rows.kept) a b.poly (Unit {0})) o → IsAdded (reduced_by m) a rows (add_reduced m place o rows)
added_reduced m modulus ring a place None rows h c = added_note (reduced_by m) a (WideAt place) rows h
added_reduced m modulus ring a place (Some b) rows h c = added_keep m modulus ring a b b.poly rows h c refl

pub added_row : (m : Option ℕ) → IsModulus m → IsReduction (reduced_by m) → (equations : List Polynomial) (a : Row) (rows : Rows) → AreKept (reduced_by m) rows.kept → IsPolynomial (reduced_by m) a.poly → IsAdded (reduced_by m) a.poly rows (add_row m equations a rows)
added_row m modulus ring equations a rows h i =
    let r = reduced_by m in
    let ps = by_leading rows.kept in
    added_reduced m modulus ring a.poly a.place (row_by m equations ps a) rows h
    (row_cleared m ring equations (polys rows.kept) ps a (all_sorted (IsPivot r) rows.kept (all_pivots r rows.kept h)) (sorted_spanned r rows.kept) (sorted_descends r ring rows.kept h) i)
