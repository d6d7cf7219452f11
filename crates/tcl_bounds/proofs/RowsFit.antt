-- The rows of an instruction lie in the types of its results, where its operands' intervals lie in their types: an end of
-- a row is a result of ends.
use Rattle.std.proofs.Common.{◌≡◌, ◌⊎◌, inl, inr, ℕ, ◌^◌, ◌≤◌, refl, sym, ◌∙◌, ap, subst, arith, ℤ, pos, negsuc, ◌+ℤ◌, ◌-ℤ◌, ◌*ℤ◌, int_lt, int_le, nat_lt, Bool, true, false, ◌&&◌, cond, List, [], ◌∷◌, Option, Some, None}
use Rattle.std.specs.Int.{int_div_euclid, int_rem_euclid, int_min, int_max}
use Rattle.std.specs.Ordering.{int_eq}
use Rattle.std.proofs.lemmas.Int.{ints, int_min_is, int_max_is}
use Rattle.std.proofs.lemmas.Bool.{and_parts, ltb-true}
use Rattle.std.proofs.lemmas.Nat.{pow_pos}
use Rattle.std.proofs.Math.Nat.{pow-le-pow_right}
use Rattle.tcl_num.specs.Range.{InRange, least_value, values_end}
use Rattle.tcl_num.proofs.EuclideanDivision.{euclid_split}
use Rattle.tcl_lang.specs.declared.ty.Ty.{Ty}
use Rattle.tcl_lang.specs.declared.instr.Op.{Op}
use Rattle.tcl_lang.specs.declared.instr.Op.TheVariants.{Mov, Add, Adds, Adc, Adcs, Sub, Subb, Sbb, Sbbs, Mul, Mull, Mulj, Shl, Split, Join, Cast, Vpc, Cmov, And, Or, Xor, Not, Nondet}
use Rattle.tcl_lang.specs.Types.{InType, unsigned_of, double_of}
use Rattle.tcl_lang.specs.Results.{result_types}
use Rattle.tcl_lang.specs.Operands.{HasOperands}
use Rattle.tcl_lang.proofs.ResultTypes.{results_fit}
use Rattle.tcl_bounds.specs.declared.interval.Interval.{Interval}
use Rattle.tcl_bounds.specs.Intervals.{between, is_within, hull, product_of, floors_of}
use Rattle.tcl_bounds.specs.Rows.{if_within, joined_of, and_of, flipped_of, row}
use Rattle.tcl_bounds.specs.Conditions.{CanTake}
use Rattle.tcl_bounds.proofs.Ranges.{bool_cases, le_yes, lt_yes, both_yes, eq_same}

-- a row lies in the type of its result
abbrev pub RowFits : Ty → Option Interval → Type 0
RowFits T None = Unit {0}
RowFits T (Some i) = is_within T i ≡ true

abbrev pub RowsFit : List Ty → List (Option Interval) → Type 0
RowsFit (T ∷ Ts) (r ∷ rows) = RowFits T r × RowsFit Ts rows
RowsFit _ _ = Unit {0}

-- an interval whose ends are values of the type
fits : (T : Ty) (i : Interval) → InType T i.least → InType T i.greatest → is_within T i ≡ true
fits T i p q =
    both_yes (int_le (least_value T.signed T.width) i.least) (int_lt i.greatest (values_end T.signed T.width))
    (le_yes (least_value T.signed T.width) i.least p.0) (lt_yes i.greatest (values_end T.signed T.width) q.1)

tested_fits : (b : Bool) (T : Ty) (i : Interval) → is_within T i ≡ b → RowFits T (cond b (Some i) None)
tested_fits true T i e = e
tested_fits false T i e = tt

if_fits : (T : Ty) (i : Interval) → RowFits T (if_within T i)
if_fits T i = tested_fits (is_within T i) T i refl

-- the lesser and the greater of two integers are one of them
least_is : (a b : ℤ) → (int_min a b ≡ a) ⊎ (int_min a b ≡ b)
least_is a b = elim (bool_cases (int_le a b)) [
  | inl e ↦ inl (omega (arith, ints, e, int_min_is a b))
  | inr e ↦ inr (omega (arith, ints, e, int_min_is a b))
]

greatest_is : (a b : ℤ) → (int_max a b ≡ a) ⊎ (int_max a b ≡ b)
greatest_is a b = elim (bool_cases (int_le a b)) [
  | inl e ↦ inr (omega (arith, ints, e, int_max_is a b))
  | inr e ↦ inl (omega (arith, ints, e, int_max_is a b))
]

least_has : (P : ℤ → Type 0) (a b : ℤ) → P a → P b → P (int_min a b)
least_has P a b p q = elim (least_is a b) [ inl e ↦ subst P (sym e) p | inr e ↦ subst P (sym e) q ]

greatest_has : (P : ℤ → Type 0) (a b : ℤ) → P a → P b → P (int_max a b)
greatest_has P a b p q = elim (greatest_is a b) [ inl e ↦ subst P (sym e) p | inr e ↦ subst P (sym e) q ]

-- what holds of the four products of ends holds of the least and of the greatest
pub record OfProducts (P : ℤ → Type 0) (a b : Interval) : Type 0 where
  pub ll : P (a.least *ℤ b.least)
  pub lg : P (a.least *ℤ b.greatest)
  pub gl : P (a.greatest *ℤ b.least)
  pub gg : P (a.greatest *ℤ b.greatest)

least_product : (P : ℤ → Type 0) (a b : Interval) → OfProducts P a b → P (product_of a b).least
least_product P a b o =
    least_has P (int_min (a.least *ℤ b.least) (a.least *ℤ b.greatest)) (int_min (a.greatest *ℤ b.least) (a.greatest *ℤ b.greatest))
    (least_has P (a.least *ℤ b.least) (a.least *ℤ b.greatest) o.ll o.lg) (least_has P (a.greatest *ℤ b.least) (a.greatest *ℤ b.greatest) o.gl o.gg)

greatest_product : (P : ℤ → Type 0) (a b : Interval) → OfProducts P a b → P (product_of a b).greatest
greatest_product P a b o =
    greatest_has P (int_max (a.least *ℤ b.least) (a.least *ℤ b.greatest)) (int_max (a.greatest *ℤ b.least) (a.greatest *ℤ b.greatest))
    (greatest_has P (a.least *ℤ b.least) (a.least *ℤ b.greatest) o.ll o.lg) (greatest_has P (a.greatest *ℤ b.least) (a.greatest *ℤ b.greatest) o.gl o.gg)

-- results of ends
high_in : (T : Ty) (n : ℕ) (a b c d e f : ℤ) → HasOperands Mull T n a b c → HasOperands Mull T n d e f → InType T (int_div_euclid (a *ℤ e) (pos (2 ^ T.width)))
high_in T n a b c d e f p q =
    (results_fit Mull T n (a ∷ e ∷ []) (record { type_of_words = p.type_of_words; allowed = p.allowed; amount = p.amount; values = (p.first, (q.second, tt)) })).0

wide_in : (T : Ty) (n : ℕ) (a b c d e f : ℤ) → HasOperands Mulj T n a b c → HasOperands Mulj T n d e f → InType (double_of T) (a *ℤ e)
wide_in T n a b c d e f p q =
    (results_fit Mulj T n (a ∷ e ∷ []) (record { type_of_words = p.type_of_words; allowed = p.allowed; amount = p.amount; values = (p.first, (q.second, tt)) })).0

joined_in : (T : Ty) (n : ℕ) (a b c : ℤ) → HasOperands Join T n a b c → InType (double_of T) (pos (2 ^ T.width) *ℤ a +ℤ b)
joined_in T n a b c p =
    (results_fit Join T n (a ∷ b ∷ []) (record { type_of_words = p.type_of_words; allowed = p.allowed; amount = p.amount; values = (p.first, (p.second, tt)) })).0

parts_in : (T : Ty) (n : ℕ) (a b c : ℤ) → HasOperands Split T n a b c → InType T (int_div_euclid a (pos (2 ^ n))) × InType (unsigned_of T) (int_rem_euclid a (pos (2 ^ n)))
parts_in T n a b c p =
    let both = results_fit Split T n (a ∷ []) (record { type_of_words = p.type_of_words; allowed = p.allowed; amount = p.amount; values = (p.first, tt) }) in
    (both.0, both.1.0)

-- the remainders of a split
less_floor : (a : ℤ) (n : ℕ) → int_rem_euclid a (pos (2 ^ n)) ≡ a -ℤ pos (2 ^ n) *ℤ int_div_euclid a (pos (2 ^ n))
less_floor a n = omega (arith, ints, euclid_split a (2 ^ n) (pow_pos n))

power_below : (n w : ℕ) → (nat_lt 0 n && nat_lt n w) ≡ true → 2 ^ n ≤ 2 ^ w
power_below n w e =
    let less = ltb-true n w (and_parts (nat_lt 0 n) (nat_lt n w) e).1 in pow-le-pow_right {n = 2} (omega arith) {i = n} {j = w} (omega arith)

remainders_at : (t : Bool) (T : Ty) (n : ℕ) (i : Interval) → int_eq (int_div_euclid i.least (pos (2 ^ n))) (int_div_euclid i.greatest (pos (2 ^ n))) ≡ t → InType (unsigned_of T) (int_rem_euclid i.least (pos (2 ^ n))) → InType (unsigned_of T) (int_rem_euclid i.greatest (pos (2 ^ n))) → 2 ^ n ≤ 2 ^ T.width → is_within (unsigned_of T) (cond t (between (i.least -ℤ pos (2 ^ n) *ℤ int_div_euclid i.least (pos (2 ^ n))) (i.greatest -ℤ pos (2 ^ n) *ℤ int_div_euclid i.least (pos (2 ^ n)))) (between (pos 0) (pos (2 ^ n) -ℤ pos 1))) ≡ true
remainders_at true T n i e p q h =
    let low = int_div_euclid i.least (pos (2 ^ n)) in
    let same = eq_same low (int_div_euclid i.greatest (pos (2 ^ n))) e in
    fits (unsigned_of T) (between (i.least -ℤ pos (2 ^ n) *ℤ low) (i.greatest -ℤ pos (2 ^ n) *ℤ low))
    (subst (InType (unsigned_of T)) (less_floor i.least n) p)
    (subst (InType (unsigned_of T)) (less_floor i.greatest n ∙ ap (λ q. i.greatest -ℤ pos (2 ^ n) *ℤ q) (sym same)) q)
remainders_at false T n i e p q h =
    fits (unsigned_of T) (between (pos 0) (pos (2 ^ n) -ℤ pos 1))
    (omega (arith, ints), omega (arith, ints, pow_pos T.width))
    (omega (arith, ints, pow_pos n), omega (arith, ints, h))

-- the conjunction of two words
and_fits : (s : Bool) (w : ℕ) (a b : Interval) → InRange s w a.greatest → InRange s w b.greatest → RowFits (record { signed = s; width = w }) (and_of s a b)
and_fits true w a b p q = tt
and_fits false w a b p q =
    let T : Ty = record { signed = false; width = w } in
    fits T (between (pos 0) (int_min a.greatest b.greatest)) (omega (arith, ints), omega (arith, ints, pow_pos w))
    (least_has (InType T) a.greatest b.greatest p q)

-- every bit flipped
flipped_fits : (s : Bool) (w : ℕ) (a : Interval) → InRange s w a.least → InRange s w a.greatest → is_within (record { signed = s; width = w }) (flipped_of (record { signed = s; width = w }) a) ≡ true
flipped_fits true w a p q =
    fits (record { signed = true; width = w }) (between (negsuc 0 -ℤ a.greatest) (negsuc 0 -ℤ a.least))
    (omega (arith, ints, q.1), omega (arith, ints, q.0)) (omega (arith, ints, p.1), omega (arith, ints, p.0))
flipped_fits false w a p q =
    fits (record { signed = false; width = w }) (between (pos (2 ^ w) -ℤ pos 1 -ℤ a.greatest) (pos (2 ^ w) -ℤ pos 1 -ℤ a.least))
    (omega (arith, ints, q.1), omega (arith, ints, q.0)) (omega (arith, ints, p.1), omega (arith, ints, p.0))

hull_fits : (T : Ty) (a b : Interval) → InType T a.least → InType T a.greatest → InType T b.least → InType T b.greatest → is_within T (hull a b) ≡ true
hull_fits T a b p q r s =
    fits T (hull a b) (least_has (InType T) a.least b.least p r) (greatest_has (InType T) a.greatest b.greatest q s)

pub rows_fit : (op : Op) (T : Ty) (n : ℕ) (a b c : Interval) → CanTake op T n a b c → RowsFit (result_types op T) (row op T n a b c)
rows_fit Mov T n a b c t = (fits T a t.least.first t.greatest.first, tt)
rows_fit Add T n a b c t = (if_fits T _, tt)
rows_fit Adds T n a b c t = tt
rows_fit Adc T n a b c t = (if_fits T _, tt)
rows_fit Adcs T n a b c t = tt
rows_fit Sub T n a b c t = (if_fits T _, tt)
rows_fit Subb T n a b c t = tt
rows_fit Sbb T n a b c t = (if_fits T _, tt)
rows_fit Sbbs T n a b c t = tt
rows_fit Mul T n a b c t = (if_fits T _, tt)
rows_fit Mull T n a b c t =
    let P : ℤ → Type 0 = λ m. InType T (int_div_euclid m (pos (2 ^ T.width))) in
    let four : OfProducts P a b = record {
      ll = high_in T n a.least b.least c.least a.least b.least c.least t.least t.least;
      lg = high_in T n a.least b.least c.least a.greatest b.greatest c.greatest t.least t.greatest;
      gl = high_in T n a.greatest b.greatest c.greatest a.least b.least c.least t.greatest t.least;
      gg = high_in T n a.greatest b.greatest c.greatest a.greatest b.greatest c.greatest t.greatest t.greatest;
    } in
    (fits T (floors_of T.width (product_of a b)) (least_product P a b four) (greatest_product P a b four), tt)
rows_fit Mulj T n a b c t =
    let P : ℤ → Type 0 = InType (double_of T) in
    let four : OfProducts P a b = record {
      ll = wide_in T n a.least b.least c.least a.least b.least c.least t.least t.least;
      lg = wide_in T n a.least b.least c.least a.greatest b.greatest c.greatest t.least t.greatest;
      gl = wide_in T n a.greatest b.greatest c.greatest a.least b.least c.least t.greatest t.least;
      gg = wide_in T n a.greatest b.greatest c.greatest a.greatest b.greatest c.greatest t.greatest t.greatest;
    } in
    (fits (double_of T) (product_of a b) (least_product P a b four) (greatest_product P a b four), tt)
rows_fit Shl T n a b c t = (if_fits T _, tt)
rows_fit Split T n a b c t =
    let low = parts_in T n a.least b.least c.least t.least in
    let high = parts_in T n a.greatest b.greatest c.greatest t.greatest in (
      fits T (floors_of n a) low.0 high.0,
      (remainders_at _ T n a refl low.1 high.1 (power_below n T.width t.least.amount), tt),
    )
rows_fit Join T n a b c t =
    (fits (double_of T) (joined_of T.width a b) (joined_in T n a.least b.least c.least t.least) (joined_in T n a.greatest b.greatest c.greatest t.greatest), tt)
rows_fit Cast T n a b c t = (if_fits T _, tt)
rows_fit Vpc T n a b c t = (if_fits T _, tt)
rows_fit Cmov T n a b c t = (hull_fits T b c t.least.second t.greatest.second t.least.third t.greatest.third, tt)
rows_fit And T n a b c t = (and_fits T.signed T.width a b t.greatest.first t.greatest.second, tt)
rows_fit Or T n a b c t = tt
rows_fit Xor T n a b c t = tt
rows_fit Not T n a b c t = (flipped_fits T.signed T.width a t.least.first t.greatest.first, tt)
rows_fit Nondet T n a b c t = tt
