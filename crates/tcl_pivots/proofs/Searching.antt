-- What the search leaves open without a note is no combination of what was tried.
use Rattle.std.proofs.Common.{◌≡◌, inl, inr, ℕ, suc, ◌-◌, refl, sym, ◌∙◌, ap, subst, arith, Bool, true, false, List, [], ◌∷◌, ◌++◌, length, ◌==◌, if◌then◌else◌, ℤ, ◌-ℤ◌, unsigned_abs, Option, Some, None}
use Rattle.std.specs.List.{AllByRecursion}
use Rattle.std.proofs.lemmas.Bool.{eqb-true}
use Rattle.tcl_num.proofs.IntegerOrder.{unsigned_abs_zero}
use Rattle.tcl_ring.specs.Reduction.{IsReduction, reduced_by, IsModulus}
use Rattle.tcl_ring.proofs.Reductions.{is_reduction}
use Rattle.tcl_poly.specs.Monomial.{Monomial}
use Rattle.tcl_poly.specs.Polynomial.{Polynomial, IsPolynomial, coefficient, norm_of}
use Rattle.tcl_poly.proofs.Canonical.{same_poly, coefficient_is}
use Rattle.tcl_reduce.specs.CofactorSum.{are_wide}
use Rattle.tcl_reduce.specs.Row.{Pivot, Note, Rows, WideAt, leading, by_leading, rows_of, plain_rows}
use Rattle.tcl_reduce.specs.Multiple.{Multiple, add_multiple, multiples_of}
use Rattle.tcl_reduce.specs.Membership.{Target, target_less, noted, target_by, Stage, noted_rows, stage_of, stage_by, Found, Cofactors, Spent, Open, first_note, is_nothing, found_by}
use Rattle.tcl_reduce.specs.Span.{total, IsSpanned}
use Rattle.tcl_pivots.specs.Apart.{AreApart}
use Rattle.tcl_pivots.specs.RowLaws.{Lacks, AreSpanned, OpenIsApart}
use Rattle.tcl_pivots.specs.Tried.{polynomials_in, product_at, products_of}
use Rattle.tcl_pivots.proofs.Vanishing.{vanishes, lacks_alike}
use Rattle.tcl_pivots.proofs.Inverting.{on_if}
use Rattle.tcl_pivots.proofs.Spanning.{span_chain, spans_chain, apart_chain, apart_itself, spans_between, spans_front, spans_back, all_join}
use Rattle.tcl_pivots.specs.Kept.{lead, IsPivot, AreKept}
use Rattle.tcl_pivots.proofs.Pivots.{polys, kept_rows, all_pivots, all_sorted, from_sorted, AreDescending, sorted_descends, sorted_spanned}
use Rattle.tcl_pivots.proofs.Clearing.{less_is, IsCleared, cleared_end, cleared_skip, cleared_wide, cleared_step}
use Rattle.tcl_pivots.proofs.Adding.{IsGrown, apart_span, some_more}
use Rattle.tcl_pivots.proofs.Trying.{grown_spans, good_rows, rows_whole, remainders_to, count_remainders, ordered_spanned, IsMultiple, added_multiple}
use Rattle.tcl_pivots.proofs.Keys.{listed}

clash : (b : Bool) → b ≡ true → b ≡ false → ⊥
clash b e f = cc

-- a note stays
stays_noted : (m : Option ℕ) (equations : List Polynomial) (norm : ℕ) (ps : List Pivot) (f : Target) → f.noted ≡ true → (target_by m equations norm ps f).noted ≡ true
stays_noted m equations norm [] f e = e
stays_noted m equations norm (p ∷ ps) f e =
    let P : Target → Type 0 = λ g. g.noted ≡ true in
    let n = unsigned_abs (coefficient f.poly (leading p.row.poly)) in
    let after = target_less (reduced_by m) f p in
    let wide = are_wide m equations norm after.cofactors in
    on_if P (n == 0) (target_by m equations norm ps f) (if wide then target_by m equations norm ps (noted f) else target_by m equations norm ps after)
    (λ _. stays_noted m equations norm ps f e)
    (λ _. on_if P wide (target_by m equations norm ps (noted f)) (target_by m equations norm ps after)
    (λ _. stays_noted m equations norm ps (noted f) refl) (λ _. stays_noted m equations norm ps after e))

pub target_cleared : (m : Option ℕ) → IsReduction (reduced_by m) → (equations K : List Polynomial) (norm : ℕ) (ps : List Pivot) (f : Target) → AllByRecursion (IsPivot (reduced_by m)) ps → AllByRecursion (λ q. IsSpanned (reduced_by m) K (coefficient q.row.poly)) ps → AreDescending ps → IsPolynomial (reduced_by m) f.poly → IsCleared (reduced_by m) K ps f.poly (target_by m equations norm ps f).poly ((target_by m equations norm ps f).noted ≡ false)
target_cleared m ring equations K norm [] f i k d h = cleared_end (reduced_by m) K f.poly (f.noted ≡ false) h
target_cleared m ring equations K norm (p ∷ ps) f i k d h =
    let r = reduced_by m in
    let P : Target → Type 0 = λ g. IsCleared r K (p ∷ ps) f.poly g.poly (g.noted ≡ false) in
    let n = unsigned_abs (coefficient f.poly (lead p)) in
    let after = target_less r f p in
    let wide = are_wide m equations norm after.cofactors in
    let here = target_by m equations norm ps f in
    let passed = target_by m equations norm ps (noted f) in
    let made = target_by m equations norm ps after in
    on_if P (n == 0) here (if wide then passed else made)
    (λ t. cleared_skip r K p ps f.poly here.poly (here.noted ≡ false) d (unsigned_abs_zero (coefficient f.poly (lead p)) (eqb-true n 0 t)) (target_cleared m ring equations K norm ps f i.1 k.1 d.1 h))
    (λ _. on_if P wide passed made
    (λ _. cleared_wide r K p ps f.poly passed.poly (passed.noted ≡ false) (clash passed.noted (stays_noted m equations norm ps (noted f) refl)) (target_cleared m ring equations K norm ps (noted f) i.1 k.1 d.1 h))
    (λ _. cleared_step r ring K p ps f.poly made.poly (made.noted ≡ false) i.0 k.0 d (target_cleared m ring equations K norm ps after i.1 k.1 d.1 (less_is r ring f.poly p h i.0))))

-- ---- between two products

pub record IsStage (W : Type 0) (r : ℤ → ℤ) (rest : Polynomial) (tried : List Polynomial) (s : Stage) : Type 0 where
  pub whole : s.rows.notes ≡ [] → W
  pub kept : AreKept r s.rows.kept
  pub spanned : s.rows.notes ≡ [] → AreSpanned r (polys s.rows.kept) tried
  pub over : IsPolynomial r s.target.poly
  pub apart : AreApart r (polys s.rows.kept) rest s.target.poly
  pub gone : s.rows.notes ≡ [] → AllByRecursion (λ p. Lacks r (coefficient s.target.poly) p.row.poly) s.rows.kept

stage_made : (W : Type 0) (r : ℤ → ℤ) → IsReduction r → (rest f : Polynomial) (tried : List Polynomial) (rows : Rows) (g : Target) (place : ℕ) (b : Bool) → g.noted ≡ b → (rows.notes ≡ [] → W) → AreKept r rows.kept → (rows.notes ≡ [] → AreSpanned r (polys rows.kept) tried) → AreApart r (polys rows.kept) rest f → IsCleared r (polys rows.kept) (by_leading rows.kept) f g.poly (g.noted ≡ false) → IsStage W r rest tried (record { rows = noted_rows b place rows; target = g })
stage_made W r ring rest f tried rows g place true e w h j a c = record {
  whole = λ n. absurd (some_more rows.notes (WideAt place) n);
  kept = h;
  spanned = λ n. absurd (some_more rows.notes (WideAt place) n);
  over = c.over;
  apart = apart_chain r ring (polys rows.kept) rest f g.poly a c.apart;
  gone = λ n. absurd (some_more rows.notes (WideAt place) n);
}
stage_made W r ring rest f tried rows g place false e w h j a c = record {
  whole = w;
  kept = h;
  spanned = j;
  over = c.over;
  apart = apart_chain r ring (polys rows.kept) rest f g.poly a c.apart;
  gone = λ n. from_sorted (λ p. Lacks r (coefficient g.poly) p.row.poly) rows.kept (c.gone e);
}

pub stage_holds : (W : Type 0) (m : Option ℕ) → IsReduction (reduced_by m) → (equations : List Polynomial) (norm place : ℕ) (rest : Polynomial) (tried : List Polynomial) (rows : Rows) (f : Target) → (rows.notes ≡ [] → W) → AreKept (reduced_by m) rows.kept → (rows.notes ≡ [] → AreSpanned (reduced_by m) (polys rows.kept) tried) → IsPolynomial (reduced_by m) f.poly → AreApart (reduced_by m) (polys rows.kept) rest f.poly → IsStage W (reduced_by m) rest tried (stage_of m equations norm place rows f)
stage_holds W m ring equations norm place rest tried rows f w h j o a =
    let r = reduced_by m in
    let ps = by_leading rows.kept in
    let start : Target = record { poly = f.poly; cofactors = f.cofactors; noted = false } in
    let g = target_by m equations norm ps start in
    stage_made W r ring rest f.poly tried rows g place g.noted refl w h j a
    (target_cleared m ring equations (polys rows.kept) norm ps start (all_sorted (IsPivot r) rows.kept (all_pivots r rows.kept h)) (sorted_spanned r rows.kept) (sorted_descends r ring rows.kept h) o)

same_length : (ps qs : List Pivot) → IsGrown ps qs → length qs ≡ length ps → qs ≡ ps
same_length ps qs (inl e) l = e
same_length ps qs (inr (b, e)) l = absurd (more ps b (sym (ap length e) ∙ l)) where
  more : (xs : List Pivot) (x : Pivot) → length (xs ++ x ∷ []) ≡ length xs → ⊥
  more [] x z = absurd (omega (arith, z))
  more (y ∷ xs) x z = more xs x (omega (arith, z))

pub next_stage : (W : Type 0) (m : Option ℕ) → IsModulus m → IsReduction (reduced_by m) → (equations : List Polynomial) (norm place : ℕ) (rest : Polynomial) (tried : List Polynomial) (x : Multiple) (s : Stage) → IsMultiple (reduced_by m) x → IsStage W (reduced_by m) rest tried s → IsStage W (reduced_by m) rest (product_at (reduced_by m) x ∷ tried) (stage_by m equations norm place x s)
next_stage W m modulus ring equations norm place rest tried x s i h =
    let r = reduced_by m in
    let rows = add_multiple m equations x s.rows in
    let p = product_at r x in
    let a = added_multiple m modulus ring equations x s.rows h.kept i in
    let P : Stage → Type 0 = λ y. IsStage W r rest (p ∷ tried) y in
    let wider = grown_spans r s.rows.kept rows.kept a.grown in
    let spans : rows.notes ≡ [] → AreSpanned r (polys rows.kept) (p ∷ tried) =
    λ n. (a.spanned n, spans_chain r ring (polys rows.kept) (polys s.rows.kept) tried wider (h.spanned (a.silent n))) in
    let apart : AreApart r (polys rows.kept) rest s.target.poly =
    span_chain r ring (polys rows.kept) (polys s.rows.kept) (λ n. coefficient rest n -ℤ coefficient s.target.poly n) wider h.apart in
    on_if P (length rows.kept == length s.rows.kept) (record { rows = rows; target = s.target }) (stage_of m equations norm place rows s.target)
    (λ t. record {
      whole = λ n. h.whole (a.silent n);
      kept = a.kept;
      spanned = spans;
      over = h.over;
      apart = apart;
      gone = λ n.
          let Q : List Pivot → Type 0 = λ qs. AllByRecursion (λ q. Lacks r (coefficient s.target.poly) q.row.poly) qs in
          subst Q (sym (same_length s.rows.kept rows.kept a.grown (eqb-true (length rows.kept) (length s.rows.kept) t))) (h.gone (a.silent n));
    })
    (λ _. stage_holds W m ring equations norm place rest (p ∷ tried) rows s.target (λ n. h.whole (a.silent n)) a.kept spans h.over apart)

-- a combination of what was tried leaves nothing
gone_polys : (r : ℤ → ℤ) (φ : Monomial → ℤ) (ps : List Pivot) → AllByRecursion (λ p. Lacks r φ p.row.poly) ps → AllByRecursion (Lacks r φ) (polys ps)
gone_polys r φ [] h = tt
gone_polys r φ (p ∷ ps) h = (h.0, gone_polys r φ ps h.1)

pub leaves_nothing : (W : Type 0) (r : ℤ → ℤ) → IsReduction r → (rest : Polynomial) (tried : List Polynomial) (s : Stage) → IsStage W r rest tried s → s.rows.notes ≡ [] → IsSpanned r tried (coefficient rest) → s.target.poly ≡ []
leaves_nothing W r ring rest tried s h n j =
    let K = polys s.rows.kept in
    let f = s.target.poly in
    let span = apart_span r ring K rest f h.apart (span_chain r ring K tried (coefficient rest) (h.spanned n) j) in
    let lacks = lacks_alike r (coefficient f) (total span.0 K) K span.1 (gone_polys r (coefficient f) s.rows.kept (h.gone n)) in
    same_poly r f [] h.over tt
    (λ x. sym (coefficient_is r ring f h.over x) ∙ span.1 x ∙ vanishes r ring K span.0 (kept_rows r s.rows.kept h.kept) lacks x ∙ ring.null)

-- ---- the whole search

abbrev OnOpen : Type 0 → Found → Type 0
OnOpen Q (Cofactors cs) = Unit {0}
OnOpen Q (Spent n) = Unit {0}
OnOpen Q (Open None) = Q
OnOpen Q (Open (Some note)) = Unit {0}

open_note : (Q : Type 0) (notes : List Note) → (notes ≡ [] → Q) → OnOpen Q (Open (first_note notes))
open_note Q [] f = f refl
open_note Q (n ∷ ns) f = tt

some_left : (f : Polynomial) → is_nothing f ≡ false → f ≡ [] → ⊥
some_left f e z = clash (is_nothing f) (ap is_nothing z) e

found_open : (W : Type 0) (m : Option ℕ) → IsModulus m → IsReduction (reduced_by m) → (equations : List Polynomial) (norm place budget : ℕ) (rest : Polynomial) (xs : List Multiple) (tried : List Polynomial) (n : ℕ) (s : Stage) → AllByRecursion (IsMultiple (reduced_by m)) xs → IsStage W (reduced_by m) rest tried s → is_nothing s.target.poly ≡ false → OnOpen (W × (IsSpanned (reduced_by m) (products_of (reduced_by m) xs ++ tried) (coefficient rest) → ⊥)) (found_by m equations norm place budget xs n s)
found_open W m modulus ring equations norm place budget rest [] tried n s i h e =
    open_note (W × (IsSpanned (reduced_by m) tried (coefficient rest) → ⊥)) s.rows.notes
    (λ none. (h.whole none, λ j. some_left s.target.poly e (leaves_nothing W (reduced_by m) ring rest tried s h none j)))
found_open W m modulus ring equations norm place budget rest (x ∷ xs) tried n s i h e =
    let r = reduced_by m in
    let p = product_at r x in
    let after = stage_by m equations norm place x s in
    let Q = W × (IsSpanned r (p ∷ (products_of r xs ++ tried)) (coefficient rest) → ⊥) in
    let further = found_by m equations norm place budget xs (suc n) after in
    on_if (OnOpen Q) (is_nothing after.target.poly) (Cofactors after.target.cofactors) (if suc n == budget then Spent budget else further)
    (λ _. tt)
    (λ some. on_if (OnOpen Q) (suc n == budget) (Spent budget) further (λ _. tt)
    (λ _. on_open (W × (IsSpanned r (products_of r xs ++ (p ∷ tried)) (coefficient rest) → ⊥)) Q further
    (λ both. (both.0, λ j. both.1 (span_chain r ring (products_of r xs ++ (p ∷ tried)) (p ∷ (products_of r xs ++ tried)) (coefficient rest) (spans_between r p (products_of r xs) tried) j)))
    (found_open W m modulus ring equations norm place budget rest xs (p ∷ tried) (suc n) after i.1 (next_stage W m modulus ring equations norm place rest tried x s i.0 h) some))) where
      on_open : (A B : Type 0) (o : Found) → (A → B) → OnOpen A o → OnOpen B o
      on_open A B (Cofactors cs) f a = tt
      on_open A B (Spent k) f a = tt
      on_open A B (Open None) f a = f a
      on_open A B (Open (Some note)) f a = tt

-- the remainders in the other order
turned_products : (r : ℤ → ℤ) → IsReduction r → (xs ps qs : List Polynomial) → AreSpanned r qs ps → AreSpanned r (xs ++ qs) (xs ++ ps)
turned_products r ring xs ps qs h =
    all_join (λ x. IsSpanned r (xs ++ qs) (coefficient x)) xs ps (spans_front r xs qs) (spans_chain r ring (xs ++ qs) qs ps (spans_back r xs qs) h)

pub open_is_apart : OpenIsApart
open_is_apart m defs equations places claim place budget rest cofactors modulus d h o e =
    let r = reduced_by m in
    let ring = is_reduction m modulus in
    let rows = rows_of m defs equations places in
    let count = length equations - length defs in
    let tried = remainders_to m defs equations count in
    let plain = polynomials_in (plain_rows m defs equations places) in
    let good = good_rows m modulus ring defs equations places count d h in
    let f : Target = record { poly = rest; cofactors = cofactors; noted = false } in
    let start = stage_of m equations (norm_of claim) place rows f in
    let xs = multiples_of rows.kept rest in
    let W = length tried ≡ count in
    let Q = W × (IsSpanned r (products_of r xs ++ tried) (coefficient rest) → ⊥) in
    let stage = stage_holds W m ring equations (norm_of claim) place rest tried rows f (rows_whole m modulus ring defs equations places count d h) good.kept good.spanned o (apart_itself r (polys rows.kept) rest) in
    let further = found_by m equations (norm_of claim) place budget xs 0 start in
    let both : Q = subst (OnOpen Q) e
    (on_if (OnOpen Q) (is_nothing start.target.poly) (Cofactors start.target.cofactors) further (λ _. tt)
    (λ some. found_open W m modulus ring equations (norm_of claim) place budget rest xs tried 0 start (listed (IsPivot r) rows.kept rest (all_pivots r rows.kept good.kept)) stage some)) in (
      count_remainders m defs equations places count ∙ both.0,
      λ j. both.1 (span_chain r ring (products_of r xs ++ tried) (products_of r xs ++ plain) (coefficient rest)
          (turned_products r ring (products_of r xs) plain tried (ordered_spanned r m defs equations places count)) j),
    )
