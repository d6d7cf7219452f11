-- The rows of the equations, and the products, added one by one.
use Rattle.std.proofs.Common.{◌≡◌, inl, inr, ℕ, zero, suc, ◌+◌, ◌-◌, refl, sym, ◌∙◌, ap, subst, arith, Bool, true, false, List, [], ◌∷◌, ◌++◌, length, ℤ, pos, Option}
use Rattle.std.specs.Prelude.{slice_index_or}
use Rattle.std.specs.List.{AllByRecursion}
use Rattle.tcl_ring.specs.Reduction.{IsReduction, reduced_by, IsModulus}
use Rattle.tcl_ring.proofs.Reductions.{is_reduction}
use Rattle.tcl_poly.specs.Monomial.{IsMonomial}
use Rattle.tcl_poly.specs.Polynomial.{Polynomial, IsPolynomial, coefficient}
use Rattle.tcl_poly.proofs.Canonical.{scaled_is}
use Rattle.tcl_poly.specs.Combination.{equation_at}
use Rattle.tcl_reduce.specs.Parts.{top, coefficients}
use Rattle.tcl_reduce.specs.Substitution.{bound_of}
use Rattle.tcl_reduce.specs.Reduction.{Definition, definition_at, Reduced, first_fault, reduced_at, rest_at, cofactor_at, reduced_from, reduced_of}
use Rattle.tcl_reduce.specs.Reduction.Reduced.{Done, TooWide, TooLarge}
use Rattle.tcl_reduce.specs.Remainder.{AreDefinitions}
use Rattle.tcl_reduce.specs.CofactorSum.{are_wide}
use Rattle.tcl_reduce.specs.Row.{Row, Pivot, Note, Rows, WideAt, with_note, plain_row, plain_rows_to, add_row, add_plain, rows_to, rows_of}
use Rattle.tcl_reduce.specs.Multiple.{Multiple, multiplied, add_multiple}
use Rattle.tcl_reduce.proofs.Substituting.{substituted_is}
use Rattle.tcl_reduce.proofs.Remainders.{definition_over}
use Rattle.tcl_reduce.specs.Span.{IsSpanned}
use Rattle.tcl_pivots.specs.RowLaws.{AreSpanned, RowsSpan}
use Rattle.tcl_pivots.specs.Tried.{polynomials_in, product_at}
use Rattle.tcl_pivots.proofs.Inverting.{on_if}
use Rattle.tcl_pivots.proofs.Spanning.{spans_later, spans_chain, spans_itself, span_first, all_join, spans_front}
use Rattle.tcl_pivots.specs.Kept.{IsPivot, AreKept}
use Rattle.tcl_pivots.proofs.Pivots.{polys}
use Rattle.tcl_pivots.proofs.Adding.{IsGrown, IsAdded, added_note, added_row, polys_more, some_more}

-- ---- the remainders, the last one first

abbrev pub remainder_of : Reduced → List Polynomial
remainder_of (Done rest cs spent) = rest ∷ []
remainder_of (TooWide at) = []
remainder_of (TooLarge what n) = []

abbrev pub remainders_to : Option ℕ → List Definition → List Polynomial → ℕ → List Polynomial
remainders_to m defs equations zero = []
remainders_to m defs equations (suc k) =
    remainder_of (reduced_of m defs (equation_at equations (length defs + k))) ++ remainders_to m defs equations k

-- ---- what plain reduction leaves is a polynomial

abbrev pub IsOverEnd : (ℤ → ℤ) → Reduced → Type 0
IsOverEnd r (Done rest cs spent) = IsPolynomial r rest
IsOverEnd r (TooWide at) = Unit {0}
IsOverEnd r (TooLarge what n) = Unit {0}

fault_over : (r : ℤ → ℤ) (a b c : Bool) (place degree terms : ℕ) (further : Reduced) → IsOverEnd r further → IsOverEnd r (first_fault a b c place degree terms further)
fault_over r true b c place degree terms further h = tt
fault_over r false true c place degree terms further h = tt
fault_over r false false true place degree terms further h = tt
fault_over r false false false place degree terms further h = h

at_over : (m : Option ℕ) (x : Definition) (f : Polynomial) (spent k : ℕ) (same further : Reduced) → IsOverEnd (reduced_by m) same → IsOverEnd (reduced_by m) further → IsOverEnd (reduced_by m) (reduced_at m x f spent k same further)
at_over m x f spent zero same further h j = h
at_over m x f spent (suc k) same further h j = fault_over (reduced_by m) _ _ _ _ _ _ further j

pub reduced_over : (m : Option ℕ) → IsReduction (reduced_by m) → (defs : List Definition) (n : ℕ) (f : Polynomial) (spent : ℕ) (cs : List (ℕ × Polynomial)) → AreDefinitions (reduced_by m) defs → IsPolynomial (reduced_by m) f → IsOverEnd (reduced_by m) (reduced_from m defs n f spent cs)
reduced_over m ring defs zero f spent cs d h = h
reduced_over m ring defs (suc k) f spent cs d h =
    let x = definition_at defs k in
    at_over m x f spent (top x.1 f) (reduced_from m defs k f spent cs)
    (reduced_from m defs k (rest_at m x f) (spent + bound_of x.2 (coefficients x.1 f) (top x.1 f)) ((k, cofactor_at m x f) ∷ cs))
    (reduced_over m ring defs k f spent cs d h)
    (reduced_over m ring defs k (rest_at m x f) (spent + bound_of x.2 (coefficients x.1 f) (top x.1 f)) ((k, cofactor_at m x f) ∷ cs) d
    (substituted_is (reduced_by m) ring x.1 x.2 f (suc (top x.1 f)) (definition_over (reduced_by m) defs k d) h))

pub equation_over : (r : ℤ → ℤ) (equations : List Polynomial) (k : ℕ) → AllByRecursion (IsPolynomial r) equations → IsPolynomial r (equation_at equations k)
equation_over r [] zero h = tt
equation_over r [] (suc k) h = tt
equation_over r (p ∷ ps) zero h = h.0
equation_over r (p ∷ ps) (suc k) h = equation_over r ps k h.1

-- ---- rows and what was tried

pub record IsGood (r : ℤ → ℤ) (tried : List Polynomial) (rows : Rows) : Type 0 where
  pub kept : AreKept r rows.kept
  pub spanned : rows.notes ≡ [] → AreSpanned r (polys rows.kept) tried
  pub back : AreSpanned r tried (polys rows.kept)

-- the rows before span no more than those after
pub grown_spans : (r : ℤ → ℤ) (ps qs : List Pivot) → IsGrown ps qs → AreSpanned r (polys qs) (polys ps)
grown_spans r ps qs (inl e) = let P : List Pivot → Type 0 = λ x. AreSpanned r (polys x) (polys ps) in subst P (sym e) (spans_itself r (polys ps))
grown_spans r ps qs (inr (b, e)) =
    let P : List Polynomial → Type 0 = λ x. AreSpanned r x (polys ps) in
    subst P (sym (ap polys e ∙ polys_more ps b)) (spans_front r (polys ps) (b.row.poly ∷ []))

pub good_added : (r : ℤ → ℤ) → IsReduction r → (tried : List Polynomial) (a : Polynomial) (rows after : Rows) → IsGood r tried rows → IsAdded r a rows after → IsGood r (a ∷ tried) after
good_added r ring tried a rows after g h = record {
  kept = h.kept;
  spanned = λ n. (h.spanned n, spans_chain r ring (polys after.kept) (polys rows.kept) tried (grown_spans r rows.kept after.kept h.grown) (g.spanned (h.silent n)));
  back = spans_chain r ring (a ∷ tried) (a ∷ polys rows.kept) (polys after.kept)
      (span_first r a tried, spans_later r a tried (polys rows.kept) g.back) h.back;
}

good_note : (r : ℤ → ℤ) → IsReduction r → (tried : List Polynomial) (note : Note) (rows : Rows) → IsGood r tried rows → IsGood r tried (with_note note rows)
good_note r ring tried note rows g =
    let h = good_added r ring tried [] rows (with_note note rows) g (added_note r [] note rows g.kept) in
    record { kept = g.kept; spanned = λ n. (h.spanned n).1; back = g.back }

good_plain : (m : Option ℕ) → IsModulus m → IsReduction (reduced_by m) → (equations tried : List Polynomial) (number place : ℕ) (end : Reduced) (rows : Rows) → IsOverEnd (reduced_by m) end → IsGood (reduced_by m) tried rows → IsGood (reduced_by m) (remainder_of end ++ tried) (add_plain m equations number place end rows)
good_plain m modulus ring equations tried number place (Done rest cs spent) rows h g =
    good_added (reduced_by m) ring tried rest rows (add_plain m equations number place (Done rest cs spent) rows) g (added_row m modulus ring equations _ rows g.kept h)
good_plain m modulus ring equations tried number place (TooWide at) rows h g = good_note (reduced_by m) ring tried (WideAt place) rows g
good_plain m modulus ring equations tried number place (TooLarge what n) rows h g = good_note (reduced_by m) ring tried (WideAt place) rows g

pub good_rows : (m : Option ℕ) → IsModulus m → IsReduction (reduced_by m) → (defs : List Definition) (equations : List Polynomial) (places : List ℕ) (n : ℕ) → AreDefinitions (reduced_by m) defs → AllByRecursion (IsPolynomial (reduced_by m)) equations → IsGood (reduced_by m) (remainders_to m defs equations n) (rows_to m defs equations places n)
good_rows m modulus ring defs equations places zero d h = record { kept = tt; spanned = λ _. tt; back = tt }
good_rows m modulus ring defs equations places (suc k) d h =
    let number = length defs + k in
    let e = equation_at equations number in
    good_plain m modulus ring equations (remainders_to m defs equations k) number (slice_index_or places number 0) (reduced_of m defs e) (rows_to m defs equations places k)
    (reduced_over m ring defs (length defs) e _ [] d (equation_over (reduced_by m) equations number h))
    (good_rows m modulus ring defs equations places k d h)

-- without a note each reduction has a remainder
plain_whole : (m : Option ℕ) → IsModulus m → IsReduction (reduced_by m) → (equations : List Polynomial) (number place : ℕ) (end : Reduced) (rows : Rows) → IsOverEnd (reduced_by m) end → AreKept (reduced_by m) rows.kept → (add_plain m equations number place end rows).notes ≡ [] → (rows.notes ≡ []) × ((xs : List Polynomial) → length (remainder_of end ++ xs) ≡ suc (length xs))
plain_whole m modulus ring equations number place (Done rest cs spent) rows h k n = ((added_row m modulus ring equations _ rows k h).silent n, λ xs. refl)
plain_whole m modulus ring equations number place (TooWide at) rows h k n = absurd (some_more rows.notes (WideAt place) n)
plain_whole m modulus ring equations number place (TooLarge what size) rows h k n = absurd (some_more rows.notes (WideAt place) n)

pub rows_whole : (m : Option ℕ) → IsModulus m → IsReduction (reduced_by m) → (defs : List Definition) (equations : List Polynomial) (places : List ℕ) (n : ℕ) → AreDefinitions (reduced_by m) defs → AllByRecursion (IsPolynomial (reduced_by m)) equations → (rows_to m defs equations places n).notes ≡ [] → length (remainders_to m defs equations n) ≡ n
rows_whole m modulus ring defs equations places zero d h e = refl
rows_whole m modulus ring defs equations places (suc k) d h e =
    let number = length defs + k in
    let q = equation_at equations number in
    let w = plain_whole m modulus ring equations number (slice_index_or places number 0) (reduced_of m defs q) (rows_to m defs equations places k)
    (reduced_over m ring defs (length defs) q _ [] d (equation_over (reduced_by m) equations number h))
    (good_rows m modulus ring defs equations places k d h).kept e in
    w.1 (remainders_to m defs equations k) ∙ ap suc (rows_whole m modulus ring defs equations places k d h w.0)

-- ---- the remainders in their order

polys_join : (xs ys : List Row) → polynomials_in (xs ++ ys) ≡ polynomials_in xs ++ polynomials_in ys
polys_join [] ys = refl
polys_join (x ∷ xs) ys = ap (λ zs. x.poly ∷ zs) (polys_join xs ys)

row_polys : (m : Option ℕ) (number place : ℕ) (end : Reduced) → polynomials_in (plain_row m number place end) ≡ remainder_of end
row_polys m number place (Done rest cs spent) = refl
row_polys m number place (TooWide at) = refl
row_polys m number place (TooLarge what n) = refl

length_join : {X : Type 0} (xs ys : List X) → length (xs ++ ys) ≡ length xs + length ys
length_join [] ys = omega arith
length_join (x ∷ xs) ys = omega (arith, length_join xs ys)

split_all : {X : Type 0} (P : X → Type 0) (xs ys : List X) → AllByRecursion P (xs ++ ys) → AllByRecursion P xs × AllByRecursion P ys
split_all P [] ys h = (tt, h)
split_all P (x ∷ xs) ys h = let k = split_all P xs ys h.1 in ((h.0, k.0), k.1)

pub all_remainders : (P : Polynomial → Type 0) (m : Option ℕ) (defs : List Definition) (equations : List Polynomial) (places : List ℕ) (n : ℕ) → AllByRecursion P (remainders_to m defs equations n) → AllByRecursion P (polynomials_in (plain_rows_to m defs equations places n))
all_remainders P m defs equations places zero h = tt
all_remainders P m defs equations places (suc k) h =
    let number = length defs + k in
    let end = reduced_of m defs (equation_at equations number) in
    let front = plain_rows_to m defs equations places k in
    let last = plain_row m number (slice_index_or places number 0) end in
    let A : List Polynomial → Type 0 = λ ps. AllByRecursion P ps in
    let both = split_all P (remainder_of end) (remainders_to m defs equations k) h in
    subst A (sym (polys_join front last))
    (all_join P (polynomials_in front) (polynomials_in last) (all_remainders P m defs equations places k both.1)
    (subst A (sym (row_polys m number (slice_index_or places number 0) end)) both.0))

pub each_remainder : (P : Polynomial → Type 0) (m : Option ℕ) (defs : List Definition) (equations : List Polynomial) (places : List ℕ) (n : ℕ) → AllByRecursion P (polynomials_in (plain_rows_to m defs equations places n)) → AllByRecursion P (remainders_to m defs equations n)
each_remainder P m defs equations places zero h = tt
each_remainder P m defs equations places (suc k) h =
    let number = length defs + k in
    let end = reduced_of m defs (equation_at equations number) in
    let front = plain_rows_to m defs equations places k in
    let last = plain_row m number (slice_index_or places number 0) end in
    let A : List Polynomial → Type 0 = λ ps. AllByRecursion P ps in
    let both = split_all P (polynomials_in front) (polynomials_in last) (subst A (polys_join front last) h) in
    all_join P (remainder_of end) (remainders_to m defs equations k)
    (subst A (row_polys m number (slice_index_or places number 0) end) both.1) (each_remainder P m defs equations places k both.0)

length_polys : (xs : List Row) → length (polynomials_in xs) ≡ length xs
length_polys [] = refl
length_polys (x ∷ xs) = ap suc (length_polys xs)

pub count_remainders : (m : Option ℕ) (defs : List Definition) (equations : List Polynomial) (places : List ℕ) (n : ℕ) → length (plain_rows_to m defs equations places n) ≡ length (remainders_to m defs equations n)
count_remainders m defs equations places zero = refl
count_remainders m defs equations places (suc k) =
    let number = length defs + k in
    let end = reduced_of m defs (equation_at equations number) in
    let front = plain_rows_to m defs equations places k in
    let last = plain_row m number (slice_index_or places number 0) end in
    let here : length last ≡ length (remainder_of end) = sym (length_polys last) ∙ ap length (row_polys m number (slice_index_or places number 0) end) in
    omega (arith, length_join front last, length_join (remainder_of end) (remainders_to m defs equations k), here, count_remainders m defs equations places k)

-- these remainders span the same
pub remainders_spanned : (r : ℤ → ℤ) (m : Option ℕ) (defs : List Definition) (equations : List Polynomial) (places : List ℕ) (n : ℕ) → AreSpanned r (polynomials_in (plain_rows_to m defs equations places n)) (remainders_to m defs equations n)
remainders_spanned r m defs equations places n =
    let ps = polynomials_in (plain_rows_to m defs equations places n) in
    each_remainder (λ q. IsSpanned r ps (coefficient q)) m defs equations places n (spans_itself r ps)

pub ordered_spanned : (r : ℤ → ℤ) (m : Option ℕ) (defs : List Definition) (equations : List Polynomial) (places : List ℕ) (n : ℕ) → AreSpanned r (remainders_to m defs equations n) (polynomials_in (plain_rows_to m defs equations places n))
ordered_spanned r m defs equations places n =
    let ps = remainders_to m defs equations n in
    all_remainders (λ q. IsSpanned r ps (coefficient q)) m defs equations places n (spans_itself r ps)

pub rows_span : RowsSpan
rows_span m defs equations places modulus d h n =
    let r = reduced_by m in
    let ring = is_reduction m modulus in
    let count = length equations - length defs in
    let g = good_rows m modulus ring defs equations places count d h in
    let kept = polys (rows_of m defs equations places).kept in
    let plain = polynomials_in (plain_rows_to m defs equations places count) in (
      count_remainders m defs equations places count ∙ rows_whole m modulus ring defs equations places count d h n,
      all_remainders (λ q. IsSpanned r kept (coefficient q)) m defs equations places count (g.spanned n),
      spans_chain r ring plain (remainders_to m defs equations count) kept (remainders_spanned r m defs equations places count) g.back,
    )

-- ---- products

abbrev pub IsMultiple : (ℤ → ℤ) → Multiple → Type 0
IsMultiple r x = IsPivot r x.0 × IsMonomial x.1

pub added_multiple : (m : Option ℕ) → IsModulus m → IsReduction (reduced_by m) → (equations : List Polynomial) (x : Multiple) (rows : Rows) → AreKept (reduced_by m) rows.kept → IsMultiple (reduced_by m) x → IsAdded (reduced_by m) (product_at (reduced_by m) x) rows (add_multiple m equations x rows)
added_multiple m modulus ring equations x rows h i =
    let r = reduced_by m in
    let a = multiplied r x.1 x.0.row in
    on_if (IsAdded r a.poly rows) (are_wide m equations 0 a.cofactors) (with_note (WideAt a.place) rows) (add_row m equations a rows)
    (λ _. added_note r a.poly (WideAt a.place) rows h)
    (λ _. added_row m modulus ring equations a rows h (scaled_is r ring (x.1, r (pos 1)) x.0.row.poly i.1 i.0.over))
