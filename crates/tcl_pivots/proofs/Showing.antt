-- Cofactors that the search finds show the claim.
use Rattle.std.proofs.Common.{◌≡◌, ℕ, zero, suc, ◌+◌, ◌-◌, ◌<◌, ◌≤◌, refl, sym, ◌∙◌, ap, subst, arith, Bool, true, false, ◌||◌, leb, List, [], ◌∷◌, length, ◌==◌, if◌then◌else◌, ℤ, pos, negsuc, ◌+ℤ◌, ◌*ℤ◌, neg_ℤ, unsigned_abs, Option}
use Rattle.std.specs.Prelude.{slice_index_or, nat_le}
use Rattle.std.specs.List.{AllByRecursion}
use Rattle.std.proofs.lemmas.Int.{ints}
use Rattle.std.proofs.lemmas.Bool.Decides.{nat_tests}
use Rattle.tcl_num.proofs.IntegerRing.{int_zero_add, int_add_zero, int_one_mul, int_neg_mul}
use Rattle.tcl_ring.specs.Reduction.{IsReduction, reduced_by, IsModulus, is_wide}
use Rattle.tcl_ring.proofs.Reductions.{is_reduction}
use Rattle.tcl_poly.specs.Monomial.{Monomial}
use Rattle.tcl_poly.specs.Polynomial.{Polynomial, IsPolynomial, scaled, weigh, coefficient, norm_of, degree_of, number_of}
use Rattle.tcl_poly.proofs.Weights.{two_sums, right_sum, weigh_sum, weigh_scaled, weigh_front, reduced_weight}
use Rattle.tcl_poly.proofs.Canonical.{number_is, same_alike}
use Rattle.tcl_poly.proofs.Norms.{narrower}
use Rattle.tcl_poly.proofs.TermLists.{terms_itself}
use Rattle.tcl_poly.specs.Combination.{equation_at, combination_of, weight_of, AreOver, AreCofactors}
use Rattle.tcl_poly.proofs.Combinations.{combination_is}
use Rattle.tcl_reduce.specs.CofactorSum.{put_cofactor, scaled_cofactors, is_deep, are_wide}
use Rattle.tcl_reduce.specs.Reduction.{Definition, Reduced, reduced_of}
use Rattle.tcl_reduce.specs.Reduction.Reduced.{Done, TooWide, TooLarge}
use Rattle.tcl_reduce.specs.Remainder.{AreDefinitions, BeginsWith, IsRemainder}
use Rattle.tcl_reduce.proofs.Remainders.{reductions_keep}
use Rattle.tcl_reduce.specs.Row.{Pivot, Rows, WideAt, leading, by_leading, quotient_at, with_note, add_row, add_plain, rows_to, rows_of}
use Rattle.tcl_reduce.specs.Multiple.{Multiple, multiplied, add_multiple, multiples_of}
use Rattle.tcl_reduce.specs.Membership.{Target, target_less, noted, target_by, Stage, noted_rows, stage_of, stage_by, Found, Cofactors, Spent, Open, is_nothing, found_by}
use Rattle.tcl_pivots.specs.RowLaws.{AreLow, CofactorsShow}
use Rattle.tcl_pivots.proofs.Residues.{same_negation}
use Rattle.tcl_pivots.proofs.Inverting.{on_if}
use Rattle.tcl_pivots.proofs.Pivots.{all_sorted}
use Rattle.tcl_pivots.proofs.Trying.{equation_over}
use Rattle.tcl_pivots.proofs.Keys.{IsListed, listed}
use Rattle.tcl_pivots.proofs.Making.{heavy, inner, combination_heavy, put_heavy, sum_heavy, scaled_heavy, AreMade, put_made, sum_made, scaled_made, IsRow, AreRowsOf, add_rows, multiplied_row}

-- ---- the rows of the equations

pub fit_made : (m : Option ℕ) (es : List Polynomial) (cs : List (ℕ × Polynomial)) → AreCofactors m (λ n. n) es cs → AreMade (reduced_by m) (length es) cs
fit_made m es [] h = tt
fit_made m es (c ∷ cs) h = ((h.0, subst (IsPolynomial (reduced_by m)) (terms_itself c.1) h.1), fit_made m es cs h.3)

one_weighs : (r : ℤ → ℤ) → IsReduction r → (es : List Polynomial) (φ : Monomial → ℤ) (k : ℕ) → r (weigh (inner es φ k) (number_of r (pos 1))) ≡ r (weigh φ (equation_at es k))
one_weighs r ring es φ k =
    let w = weigh φ (equation_at es k) in
    ap r (weigh_front (inner es φ k) [] (r (pos 1)) [] ∙ int_add_zero (r (pos 1) *ℤ w))
    ∙ reduced_weight r ring (pos 1) w
    ∙ ap r (int_one_mul w)

pub taken : (a b : ℤ) → (a +ℤ b) +ℤ negsuc 0 *ℤ b ≡ a
taken a b = omega (arith, ints)

plain_row : (m : Option ℕ) → IsReduction (reduced_by m) → (es : List Polynomial) (number place : ℕ) (rest : Polynomial) (cs : List (ℕ × Polynomial)) → number < length es → IsRemainder m (λ n. n) es (equation_at es number) rest cs → IsRow (reduced_by m) es (record { poly = rest; cofactors = put_cofactor (reduced_by m) (number, number_of (reduced_by m) (pos 1)) (scaled_cofactors (reduced_by m) ([], negsuc 0) cs); place = place })
plain_row m ring es number place rest cs l h =
    let r = reduced_by m in
    let one = number_of r (pos 1) in
    let minus = scaled_cofactors r ([], negsuc 0) cs in
    let e = equation_at es number in
    record {
      made = put_made r ring (length es) (number, one) minus l (number_is r ring (pos 1)) (scaled_made r ring (length es) ([], negsuc 0) cs tt (fit_made m es cs h.fit));
      sum = λ φ.
          let all : r (weigh φ e) ≡ r (weigh φ rest +ℤ heavy es φ cs) =
          ap (λ p. r (weigh φ p)) h.kept
          ∙ weigh_sum r ring φ rest (combination_of r (λ n. n) es cs)
          ∙ right_sum r ring (weigh φ rest) (weigh φ (combination_of r (λ n. n) es cs)) (heavy es φ cs) (combination_heavy r ring es φ cs) in
          sym (put_heavy r ring es φ (number, one) minus
          ∙ two_sums r ring (weigh (inner es φ number) one) (weigh φ rest +ℤ heavy es φ cs) (heavy es φ minus) (negsuc 0 *ℤ heavy es φ cs) (one_weighs r ring es φ number ∙ all) (scaled_heavy r ring es φ (negsuc 0) cs)
          ∙ ap r (taken (weigh φ rest) (heavy es φ cs)));
    }

low_at : (es : List Polynomial) (k : ℕ) → AreLow es → degree_of (equation_at es k) ≤ 1024
low_at [] zero h = omega arith
low_at [] (suc k) h = omega arith
low_at (e ∷ es) zero h = h.0
low_at (e ∷ es) (suc k) h = low_at es k h.1

plain_rows : (m : Option ℕ) → IsReduction (reduced_by m) → (es : List Polynomial) (number place : ℕ) (o : Reduced) (rows : Rows) → number < length es → ((rest : Polynomial) (cs : List (ℕ × Polynomial)) (spent : ℕ) → o ≡ Done rest cs spent → IsRemainder m (λ n. n) es (equation_at es number) rest cs) → AreRowsOf (reduced_by m) es rows.kept → AreRowsOf (reduced_by m) es (add_plain m es number place o rows).kept
plain_rows m ring es number place (Done rest cs spent) rows l f h = add_rows m ring es _ rows h (plain_row m ring es number place rest cs l (f rest cs spent refl))
plain_rows m ring es number place (TooWide at) rows l f h = h
plain_rows m ring es number place (TooLarge what n) rows l f h = h

all_rows : (m : Option ℕ) → IsModulus m → IsReduction (reduced_by m) → (defs : List Definition) (es : List Polynomial) (places : List ℕ) (n : ℕ) → n ≤ length es - length defs → AreDefinitions (reduced_by m) defs → AllByRecursion (IsPolynomial (reduced_by m)) es → AreLow es → BeginsWith m (λ n. n) defs es → AreRowsOf (reduced_by m) es (rows_to m defs es places n).kept
all_rows m modulus ring defs es places zero b d h w begins = tt
all_rows m modulus ring defs es places (suc k) b d h w begins =
    let number = length defs + k in
    let e = equation_at es number in
    plain_rows m ring es number (slice_index_or places number 0) (reduced_of m defs e) (rows_to m defs es places k) (omega (arith, b))
    (λ rest cs spent is. reductions_keep m defs e rest cs spent es modulus d (equation_over (reduced_by m) es number h) (low_at es number w) begins is)
    (all_rows m modulus ring defs es places k (omega (arith, b)) d h w begins)

product_rows : (m : Option ℕ) → IsReduction (reduced_by m) → (es : List Polynomial) (x : Multiple) (rows : Rows) → AllByRecursion (IsPolynomial (reduced_by m)) es → IsListed (λ p. IsRow (reduced_by m) es p.row) x → AreRowsOf (reduced_by m) es rows.kept → AreRowsOf (reduced_by m) es (add_multiple m es x rows).kept
product_rows m ring es x rows h i j =
    let r = reduced_by m in
    let a = multiplied r x.1 x.0.row in
    on_if (λ y. AreRowsOf r es y.kept) (are_wide m es 0 a.cofactors) (with_note (WideAt a.place) rows) (add_row m es a rows) (λ _. j)
    (λ _. add_rows m ring es a rows j (multiplied_row r ring es x.1 x.0.row h i.1 i.0))

-- ---- the claim

pub record IsAim (m : Option ℕ) (es : List Polynomial) (claim : Polynomial) (f : Target) : Type 0 where
  pub made : AreMade (reduced_by m) (length es) f.cofactors
  pub sum : (φ : Monomial → ℤ) → reduced_by m (weigh φ claim) ≡ reduced_by m (weigh φ f.poly +ℤ heavy es φ f.cofactors)
  pub shallow : is_deep es f.cofactors ≡ false
  pub narrow : is_wide m (weight_of (λ n. n) es f.cofactors) ≡ false

pub or_left : (a b : Bool) → (a || b) ≡ false → a ≡ false
or_left true b e = e
or_left false b e = refl

pub or_right : (a b : Bool) → (a || b) ≡ false → b ≡ false
or_right true b e = absurd (clash e) where
  clash : true ≡ false → ⊥
  clash z = cc
or_right false b e = e

moved : (f p c h k : ℤ) → (f +ℤ neg_ℤ c *ℤ p) +ℤ (h +ℤ c *ℤ k) ≡ (f +ℤ h) +ℤ (c *ℤ k +ℤ neg_ℤ (c *ℤ p))
moved f p c h k = omega (arith, ints, int_neg_mul c p)

level : (a : ℤ) → a +ℤ neg_ℤ a ≡ pos 0
level a = omega (arith, ints)

-- a step keeps what makes the claim
pub aim_sum : (r : ℤ → ℤ) → IsReduction r → (es : List Polynomial) (claim : Polynomial) (f : Target) (p : Pivot) → ((φ : Monomial → ℤ) → r (weigh φ claim) ≡ r (weigh φ f.poly +ℤ heavy es φ f.cofactors)) → IsRow r es p.row → (φ : Monomial → ℤ) → r (weigh φ claim) ≡ r (weigh φ (target_less r f p).poly +ℤ heavy es φ (target_less r f p).cofactors)
aim_sum r ring es claim f p sum j φ =
    let c = quotient_at r f.poly p in
    let a = f.poly in let q = p.row.poly in
    let more = scaled_cofactors r ([], c) p.row.cofactors in
    let after = target_less r f p in
    let k = heavy es φ p.row.cofactors in
    let own = heavy es φ f.cofactors in
    let poly : r (weigh φ after.poly) ≡ r (weigh φ a +ℤ neg_ℤ c *ℤ weigh φ q) =
    weigh_sum r ring φ a (scaled r ([], neg_ℤ c) q) ∙ right_sum r ring (weigh φ a) (weigh φ (scaled r ([], neg_ℤ c) q)) (neg_ℤ c *ℤ weigh φ q) (weigh_scaled r ring φ ([], neg_ℤ c) q) in
    let cofactors : r (heavy es φ after.cofactors) ≡ r (own +ℤ c *ℤ k) =
    sum_heavy r ring es φ f.cofactors more ∙ right_sum r ring own (heavy es φ more) (c *ℤ k) (scaled_heavy r ring es φ c p.row.cofactors) in
    let none : r (c *ℤ k +ℤ neg_ℤ (c *ℤ weigh φ q)) ≡ r (pos 0) =
    right_sum r ring (c *ℤ k) (neg_ℤ (c *ℤ weigh φ q)) (neg_ℤ (c *ℤ k)) (same_negation r ring (c *ℤ weigh φ q) (c *ℤ k) (ring.products (weigh φ q) k c (j.sum φ))) ∙ ap r (level (c *ℤ k)) in
    sum φ
    ∙ sym (two_sums r ring (weigh φ after.poly) (weigh φ a +ℤ neg_ℤ c *ℤ weigh φ q) (heavy es φ after.cofactors) (own +ℤ c *ℤ k) poly cofactors
    ∙ ap r (moved (weigh φ a) (weigh φ q) c own k)
    ∙ right_sum r ring (weigh φ a +ℤ own) (c *ℤ k +ℤ neg_ℤ (c *ℤ weigh φ q)) (pos 0) none
    ∙ ap r (int_add_zero (weigh φ a +ℤ own)))

less_aim : (m : Option ℕ) → IsReduction (reduced_by m) → (es : List Polynomial) (norm : ℕ) (claim : Polynomial) (f : Target) (p : Pivot) → IsAim m es claim f → IsRow (reduced_by m) es p.row → are_wide m es norm (target_less (reduced_by m) f p).cofactors ≡ false → IsAim m es claim (target_less (reduced_by m) f p)
less_aim m ring es norm claim f p h j w =
    let r = reduced_by m in
    let c = quotient_at r f.poly p in
    let more = scaled_cofactors r ([], c) p.row.cofactors in
    let after = target_less r f p in
    let weight = weight_of (λ n. n) es after.cofactors in
    record {
      made = sum_made r ring (length es) f.cofactors more h.made (scaled_made r ring (length es) ([], c) p.row.cofactors tt j.made);
      sum = aim_sum r ring es claim f p h.sum j;
      shallow = or_left (is_deep es after.cofactors) (is_wide m (norm + weight)) w;
      narrow = narrower m (norm + weight) weight (or_right (is_deep es after.cofactors) (is_wide m (norm + weight)) w) (omega arith);
    }

noted_aim : (m : Option ℕ) (es : List Polynomial) (claim : Polynomial) (f : Target) (b : Bool) → IsAim m es claim f → IsAim m es claim (record { poly = f.poly; cofactors = f.cofactors; noted = b })
noted_aim m es claim f b h = record { made = h.made; sum = h.sum; shallow = h.shallow; narrow = h.narrow }

aim_by : (m : Option ℕ) → IsReduction (reduced_by m) → (es : List Polynomial) (norm : ℕ) (claim : Polynomial) (ps : List Pivot) (f : Target) → AreRowsOf (reduced_by m) es ps → IsAim m es claim f → IsAim m es claim (target_by m es norm ps f)
aim_by m ring es norm claim [] f h j = j
aim_by m ring es norm claim (p ∷ ps) f h j =
    let P = IsAim m es claim in
    let after = target_less (reduced_by m) f p in
    let wide = are_wide m es norm after.cofactors in
    on_if P (unsigned_abs (coefficient f.poly (leading p.row.poly)) == 0) (target_by m es norm ps f) (if wide then target_by m es norm ps (noted f) else target_by m es norm ps after)
    (λ _. aim_by m ring es norm claim ps f h.1 j)
    (λ _. on_if P wide (target_by m es norm ps (noted f)) (target_by m es norm ps after)
    (λ _. aim_by m ring es norm claim ps (noted f) h.1 (noted_aim m es claim f true j))
    (λ w. aim_by m ring es norm claim ps after h.1 (less_aim m ring es norm claim f p j h.0 w)))

pub record IsAimed (m : Option ℕ) (es : List Polynomial) (claim : Polynomial) (s : Stage) : Type 0 where
  pub rows : AreRowsOf (reduced_by m) es s.rows.kept
  pub aim : IsAim m es claim s.target

noted_kept : (m : Option ℕ) (es : List Polynomial) (b : Bool) (place : ℕ) (rows : Rows) → AreRowsOf (reduced_by m) es rows.kept → AreRowsOf (reduced_by m) es (noted_rows b place rows).kept
noted_kept m es true place rows h = h
noted_kept m es false place rows h = h

aimed_of : (m : Option ℕ) → IsReduction (reduced_by m) → (es : List Polynomial) (norm place : ℕ) (claim : Polynomial) (rows : Rows) (f : Target) → AreRowsOf (reduced_by m) es rows.kept → IsAim m es claim f → IsAimed m es claim (stage_of m es norm place rows f)
aimed_of m ring es norm place claim rows f h j =
    let start : Target = record { poly = f.poly; cofactors = f.cofactors; noted = false } in
    record {
      rows = noted_kept m es (target_by m es norm (by_leading rows.kept) start).noted place rows h;
      aim = aim_by m ring es norm claim (by_leading rows.kept) start (all_sorted (λ p. IsRow (reduced_by m) es p.row) rows.kept h) (noted_aim m es claim f false j);
    }

aimed_by : (m : Option ℕ) → IsReduction (reduced_by m) → (es : List Polynomial) (norm place : ℕ) (claim : Polynomial) (x : Multiple) (s : Stage) → AllByRecursion (IsPolynomial (reduced_by m)) es → IsListed (λ p. IsRow (reduced_by m) es p.row) x → IsAimed m es claim s → IsAimed m es claim (stage_by m es norm place x s)
aimed_by m ring es norm place claim x s h i j =
    let rows = add_multiple m es x s.rows in
    let kept = product_rows m ring es x s.rows h i j.rows in
    on_if (IsAimed m es claim) (length rows.kept == length s.rows.kept) (record { rows = rows; target = s.target }) (stage_of m es norm place rows s.target)
    (λ _. record { rows = kept; aim = j.aim })
    (λ _. aimed_of m ring es norm place claim rows s.target kept j.aim)

-- ---- the end

abbrev IsShowing : Option ℕ → List Polynomial → Polynomial → List (ℕ × Polynomial) → Type 0
IsShowing m es claim cs =
    (claim ≡ combination_of (reduced_by m) (λ n. n) es cs) × AreCofactors m (λ n. n) es cs × (is_wide m (weight_of (λ n. n) es cs) ≡ false)

abbrev OnCofactors : (List (ℕ × Polynomial) → Type 0) → Found → Type 0
OnCofactors P (Cofactors cs) = P cs
OnCofactors P (Spent n) = Unit {0}
OnCofactors P (Open _) = Unit {0}

not_deep : (n : ℕ) → leb 1025 n ≡ false → n ≤ 1024
not_deep n e = grind (arith, nat_tests)

pub made_fit : (m : Option ℕ) (es : List Polynomial) (cs : List (ℕ × Polynomial)) → AreMade (reduced_by m) (length es) cs → is_deep es cs ≡ false → AreCofactors m (λ n. n) es cs
made_fit m es [] h e = tt
made_fit m es (c ∷ cs) h e =
    let n = degree_of c.1 + degree_of (equation_at es c.0) in
    (h.0.0, subst (IsPolynomial (reduced_by m)) (sym (terms_itself c.1)) h.0.1, not_deep n (or_left (nat_le 1025 n) (is_deep es cs) e), made_fit m es cs h.1 (or_right (nat_le 1025 n) (is_deep es cs) e))

all_over : (m : Option ℕ) (es : List Polynomial) → AllByRecursion (IsPolynomial (reduced_by m)) es → AreOver m (λ n. n) es
all_over m [] h = tt
all_over m (e ∷ es) h = (subst (IsPolynomial (reduced_by m)) (sym (terms_itself e)) h.0, all_over m es h.1)

nothing_left : (f : Polynomial) → is_nothing f ≡ true → f ≡ []
nothing_left [] e = refl
nothing_left (t ∷ f) e = absurd (clash e) where
  clash : false ≡ true → ⊥
  clash z = cc

aim_shows : (m : Option ℕ) → IsReduction (reduced_by m) → (es : List Polynomial) (claim : Polynomial) (f : Target) → AllByRecursion (IsPolynomial (reduced_by m)) es → IsPolynomial (reduced_by m) claim → IsAim m es claim f → is_nothing f.poly ≡ true → IsShowing m es claim f.cofactors
aim_shows m ring es claim f h i j e =
    let r = reduced_by m in
    let cs = f.cofactors in
    let fit = made_fit m es cs j.made j.shallow in (
      same_alike r ring claim (combination_of r (λ n. n) es cs) i (combination_is m ring (λ n. n) es cs (all_over m es h) fit)
          (λ φ. j.sum φ ∙ ap (λ p. r (weigh φ p +ℤ heavy es φ cs)) (nothing_left f.poly e) ∙ ap r (int_zero_add (heavy es φ cs)) ∙ sym (combination_heavy r ring es φ cs)),
      fit,
      j.narrow,
    )

found_shows : (m : Option ℕ) → IsReduction (reduced_by m) → (es : List Polynomial) (norm place budget : ℕ) (claim : Polynomial) (xs : List Multiple) (n : ℕ) (s : Stage) → AllByRecursion (IsPolynomial (reduced_by m)) es → IsPolynomial (reduced_by m) claim → AllByRecursion (IsListed (λ p. IsRow (reduced_by m) es p.row)) xs → IsAimed m es claim s → OnCofactors (IsShowing m es claim) (found_by m es norm place budget xs n s)
found_shows m ring es norm place budget claim [] n s h i j k = tt
found_shows m ring es norm place budget claim (x ∷ xs) n s h i j k =
    let P = OnCofactors (IsShowing m es claim) in
    let after = stage_by m es norm place x s in
    let next = aimed_by m ring es norm place claim x s h j.0 k in
    let further = found_by m es norm place budget xs (suc n) after in
    on_if P (is_nothing after.target.poly) (Cofactors after.target.cofactors) (if suc n == budget then Spent budget else further)
    (λ t. aim_shows m ring es claim after.target h i next.aim t)
    (λ _. on_if P (suc n == budget) (Spent budget) further (λ _. tt) (λ _. found_shows m ring es norm place budget claim xs (suc n) after h i j.1 next))

fit_shallow : (m : Option ℕ) (es : List Polynomial) (cs : List (ℕ × Polynomial)) → AreCofactors m (λ n. n) es cs → is_deep es cs ≡ false
fit_shallow m es [] h = refl
fit_shallow m es (c ∷ cs) h =
    let first : nat_le 1025 (degree_of c.1 + degree_of (equation_at es c.0)) ≡ false = low (degree_of c.1 + degree_of (equation_at es c.0)) h.2 in
    ap (λ b. b || is_deep es cs) first ∙ fit_shallow m es cs h.3 where
      low : (n : ℕ) → n ≤ 1024 → leb 1025 n ≡ false
      low n l = grind (arith, nat_tests)

pub cofactors_show : CofactorsShow
cofactors_show m defs es places claim place budget rest cofactors found spent modulus d h w begins i deg is e =
    let r = reduced_by m in
    let ring = is_reduction m modulus in
    let keeps = reductions_keep m defs claim rest cofactors spent es modulus d i deg begins is in
    let f : Target = record { poly = rest; cofactors = cofactors; noted = false } in
    let aim : IsAim m es claim f = record {
      made = fit_made m es cofactors keeps.fit;
      sum = λ φ.
          ap (λ p. r (weigh φ p)) keeps.kept
          ∙ weigh_sum r ring φ rest (combination_of r (λ n. n) es cofactors)
          ∙ right_sum r ring (weigh φ rest) (weigh φ (combination_of r (λ n. n) es cofactors)) (heavy es φ cofactors) (combination_heavy r ring es φ cofactors);
      shallow = fit_shallow m es cofactors keeps.fit;
      narrow = keeps.narrow;
    } in
    let rows = rows_of m defs es places in
    let kept = all_rows m modulus ring defs es places (length es - length defs) (omega arith) d h w begins in
    let start = stage_of m es (norm_of claim) place rows f in
    let aimed = aimed_of m ring es (norm_of claim) place claim rows f kept aim in
    let further = found_by m es (norm_of claim) place budget (multiples_of rows.kept rest) 0 start in
    subst (OnCofactors (IsShowing m es claim)) e
    (on_if (OnCofactors (IsShowing m es claim)) (is_nothing start.target.poly) (Cofactors start.target.cofactors) further
    (λ t. aim_shows m ring es claim start.target h i aimed.aim t)
    (λ _. found_shows m ring es (norm_of claim) place budget claim (multiples_of rows.kept rest) 0 start h i (listed (λ p. IsRow r es p.row) rows.kept rest kept) aimed))
