-- Each assignment of the free bits has a number, and an assignment has the values that its number gives.
use Rattle.std.proofs.Common.{◌≡◌, ◌≢◌, ℕ, zero, suc, ◌+◌, ◌*◌, ◌/◌, ◌%◌, ◌^◌, ◌<◌, ◌≤◌, inl, inr, refl, sym, ◌∙◌, ap, subst, arith, ℤ, pos, unsigned_abs, Bool, true, false, ◌||◌, nat_eq, List, [], ◌∷◌, ◌++◌, length, set, All, Option, Some, None}
use Rattle.std.specs.List.{slice_get}
use Rattle.std.specs.Int.{int_rem_euclid}
use Rattle.std.proofs.lemmas.Bool.{cases_lt, eqb-true}
use Rattle.std.proofs.lemmas.Bool.Decides.{nat_tests}
use Rattle.std.proofs.lemmas.List.{get_or-set_same, get_or-set_other, get_or_past, length-set}
use Rattle.std.proofs.lemmas.List.Folds.{list_any-append}
use Rattle.std.proofs.lemmas.Nat.{pow_pos, pow-add, div-mul-add, mod-mul-add}
use Rattle.std.proofs.Math.Nat.{mul-le-mul_right}
use Rattle.tcl_num.proofs.EuclideanDivision.{euclid_range, euclid_natural}
use Rattle.tcl_num.proofs.Divisibility.{congruent_from_remainder}
use Rattle.tcl_num.proofs.WrappedValues.{wrapped_only}
use Rattle.tcl_list.proofs.Booleans.{or_cases}
use Rattle.tcl_lang.specs.declared.variable.Variable.{Variable}
use Rattle.tcl_lang.specs.Program.{VersionedProgram}
use Rattle.tcl_lang.specs.Types.{IsTy, InType, least_width, wrap_of}
use Rattle.tcl_lang.specs.Store.{pattern_of}
use Rattle.tcl_lang.specs.Values.{value_at, AreValues}
use Rattle.tcl_lang.specs.Defined.{is_among}
use Rattle.tcl_goals.specs.Numbers.{those_below}
use Rattle.tcl_goals.specs.declared.fact.Fact.{Fact}
use Rattle.tcl_goals.specs.declared.lemma.Numbered.{Numbered}
use Rattle.tcl_goals.specs.Free.{width_in, is_free, free_variables}
use Rattle.tcl_goals.proofs.Numbers.{those_none, those_yes, those_no}
use Rattle.tcl_enum.specs.declared.ended.FreeValue.{FreeValue}
use Rattle.tcl_enum.specs.Patterns.{bit_count, value_with, values_numbered, given}
use Rattle.tcl_enum.proofs.Walks.{item_at, given_count}
use Rattle.tcl_enum.proofs.Agreement.{among_right}
use Rattle.tcl_enum.proofs.Executions.{at_among}
use Rattle.tcl_enum.proofs.Denials.{values_count}

-- the number of the assignment of these variables that these values make
abbrev pub number_of : List Variable → List ℕ → List ℤ → ℕ
number_of vs [] values = 0
number_of vs (v ∷ xs) values = pattern_of (width_in (slice_get vs v)) (value_at values v) * 2 ^ bit_count vs xs + number_of vs xs values

-- patterns
pattern_is : (w : ℕ) (n : ℤ) → (pattern_of w n < 2 ^ w) × (int_rem_euclid n (pos (2 ^ w)) ≡ pos (pattern_of w n))
pattern_is w n =
    let r = euclid_range n (2 ^ w) (pow_pos w) in
    let same : r.0 ≡ pattern_of w n = sym (ap unsigned_abs r.2) in
    (subst (λ p. p < 2 ^ w) same r.1, r.2 ∙ ap pos same)

digits_less : (p r w b : ℕ) → p < 2 ^ w → r < 2 ^ b → p * 2 ^ b + r < 2 ^ (w + b)
digits_less p r w b h g =
    let whole : (p + 1) * 2 ^ b ≤ 2 ^ w * 2 ^ b = mul-le-mul_right (2 ^ b) (omega (arith, h)) in
    let first : (p + 1) * 2 ^ b ≡ p * 2 ^ b + 2 ^ b = omega arith in
    omega (arith, whole, first, g, pow-add 2 w b)

pub number_less : (vs : List Variable) (xs : List ℕ) (values : List ℤ) → number_of vs xs values < 2 ^ bit_count vs xs
unfolding bit_count
number_less vs [] values = omega arith
number_less vs (x ∷ xs) values =
    digits_less (pattern_of (width_in (slice_get vs x)) (value_at values x)) (number_of vs xs values) (width_in (slice_get vs x)) (bit_count vs xs)
    (pattern_is (width_in (slice_get vs x)) (value_at values x)).0 (number_less vs xs values)

-- a value is given by its pattern
value_typed : (vs : List Variable) (values : List ℤ) (x : ℕ) (y : Variable) → AreValues vs values → slice_get vs x ≡ Some y → InType y.ty (value_at values x)
value_typed [] values x y a e = absurd (cc)
value_typed (z ∷ vs) [] x y a e = absurd a
value_typed (z ∷ vs) (m ∷ values) zero y a e = subst (λ (u : Variable). InType u.ty m) (same z y e) a.0
  where
    same : (z y : Variable) → Some z ≡ Some y → z ≡ y
    same z y e = cc
value_typed (z ∷ vs) (m ∷ values) (suc x) y a e = value_typed vs values x y a.1 e

positive : (s : Bool) (w : ℕ) → least_width s ≤ w → 0 < w
positive true w p = omega (arith, p)
positive false w p = omega (arith, p)

pattern_gives : (y : Variable) (c : ℕ) (n : ℤ) → IsTy y.ty → InType y.ty n → wrap_of y.ty (pos (c * 2 ^ y.ty.width + pattern_of y.ty.width n)) ≡ n
pattern_gives y c n h i =
    let w = y.ty.width in
    let p = pattern_is w n in
    let low : (c * 2 ^ w + pattern_of w n) % 2 ^ w ≡ pattern_of w n = mod-mul-add c (2 ^ w) (pattern_of w n) p.0 in
    let same : int_rem_euclid (pos (c * 2 ^ w + pattern_of w n)) (pos (2 ^ w)) ≡ int_rem_euclid n (pos (2 ^ w)) =
    (euclid_natural (c * 2 ^ w + pattern_of w n) (2 ^ w)).1 ∙ ap pos low ∙ sym p.1 in
    sym (wrapped_only y.ty.signed w (pos (c * 2 ^ w + pattern_of w n)) n (positive y.ty.signed w h.0) i (congruent_from_remainder (2 ^ w) (pos (c * 2 ^ w + pattern_of w n)) n (pow_pos w) same))

value_back : (vs : List Variable) (values : List ℤ) (x c : ℕ) → All (λ y. IsTy y.ty) vs → AreValues vs values → x < length vs → value_with (slice_get vs x) (c * 2 ^ width_in (slice_get vs x) + pattern_of (width_in (slice_get vs x)) (value_at values x)) ≡ value_at values x
value_back vs values x c h a less = at (slice_get vs x) refl
  where
    there : (o : Option Variable) → slice_get vs x ≡ o → o ≡ None → ⊥
    there None e f = past vs x less e
      where
        past : (us : List Variable) (k : ℕ) → k < length us → slice_get us k ≡ None → ⊥
        past [] k l g = absurd (omega (arith, l))
        past (u ∷ us) zero l g = absurd (cc)
        past (u ∷ us) (suc k) l g = past us k (omega (arith, l)) g
    there (Some y) e f = absurd (cc)

    at : (o : Option Variable) → slice_get vs x ≡ o → value_with o (c * 2 ^ width_in o + pattern_of (width_in o) (value_at values x)) ≡ value_at values x
    at None e = absurd (there None e refl)
    at (Some y) e = pattern_gives y c (value_at values x) (item_at (λ z. IsTy z.ty) vs x y h e) (value_typed vs values x y a e)

-- so the assignment of the number has these values
set_given : (vs : List Variable) (values start : List ℤ) (x c : ℕ) → All (λ y. IsTy y.ty) vs → AreValues vs values → length start ≡ length vs → value_at (set start x (value_with (slice_get vs x) (c * 2 ^ width_in (slice_get vs x) + pattern_of (width_in (slice_get vs x)) (value_at values x)))) x ≡ value_at values x
set_given vs values start x c h a l =
    let m : ℤ = value_with (slice_get vs x) (c * 2 ^ width_in (slice_get vs x) + pattern_of (width_in (slice_get vs x)) (value_at values x)) in
    elim (cases_lt x (length vs)) [
      | inl less ↦ get_or-set_same start x m (pos 0) (omega (arith, less, l)) ∙ value_back vs values x c h a less
      | inr past ↦
          get_or_past (set start x m) x (pos 0) (omega (arith, past, l, length-set start x m))
          ∙ sym (get_or_past values x (pos 0) (omega (arith, past, values_count vs values a)))
    ]

differs : (x v : ℕ) → nat_eq x v ≡ false → v ≢ x
differs x v h e = grind (arith, nat_tests, h, e)

pub number_gives : (vs : List Variable) (xs : List ℕ) (values start : List ℤ) (c v : ℕ) → All (λ y. IsTy y.ty) vs → AreValues vs values → length start ≡ length vs → is_among xs v ≡ true → value_at (given (values_numbered vs xs (c * 2 ^ bit_count vs xs + number_of vs xs values)) start) v ≡ value_at values v
unfolding values_numbered bit_count
number_gives vs [] values start c v h a l m = absurd (cc)
number_gives vs (x ∷ xs) values start c v h a l m =
    let w = width_in (slice_get vs x) in
    let b = bit_count vs xs in
    let p = pattern_of w (value_at values x) in
    let r = number_of vs xs values in
    let d = c * 2 ^ w + p in
    let split : c * 2 ^ (w + b) + (p * 2 ^ b + r) ≡ d * 2 ^ b + r =
    ap (λ z. c * z + (p * 2 ^ b + r)) (pow-add 2 w b) ∙ regroup c (2 ^ w) (2 ^ b) p r in
    let high : (d * 2 ^ b + r) / 2 ^ b ≡ d = div-mul-add d (2 ^ b) r (number_less vs xs values) in
    let G = given (values_numbered vs xs (d * 2 ^ b + r)) start in
    let count : length G ≡ length vs = given_count vs xs (d * 2 ^ b + r) start ∙ l in
    ap (λ n. value_at (set (given (values_numbered vs xs n) start) x (value_with (slice_get vs x) (n / 2 ^ b))) v) split
    ∙ ap (λ n. value_at (set G x (value_with (slice_get vs x) n)) v) high
    ∙ at (nat_eq x v) refl G d (set_given vs values G x c h a count) (λ f. number_gives vs xs values start d v h a l f)
  where
    regroup : (c s t p r : ℕ) → c * (s * t) + (p * t + r) ≡ (c * s + p) * t + r
    regroup c s t p r = omega arith

    at : (q : Bool) → nat_eq x v ≡ q → (G : List ℤ) (d : ℕ) → value_at (set G x (value_with (slice_get vs x) d)) x ≡ value_at values x → (is_among xs v ≡ true → value_at G v ≡ value_at values v) → value_at (set G x (value_with (slice_get vs x) d)) v ≡ value_at values v
    at true e G d here rest = subst (λ u. value_at (set G x (value_with (slice_get vs x) d)) u ≡ value_at values u) (eqb-true x v e) here
    at false e G d here rest = get_or-set_other G x v (value_with (slice_get vs x) d) (pos 0) (differs x v e) ∙ rest (other (nat_eq x v) (is_among xs v) e m)
      where
        other : (a b : Bool) → a ≡ false → (a || b) ≡ true → b ≡ true
        other true b f g = absurd (cc)
        other false b f g = g

-- lists of variables that differ
abbrev pub AreApart : List ℕ → Type 0
AreApart [] = Unit {0}
AreApart (x ∷ xs) = (is_among xs x ≡ false) × AreApart xs

fails : (b : Bool) → b ≡ true → b ≡ false → ⊥
fails b e f = cc

-- each of these variables has the value that it was given
pub numbered_var : (vs : List Variable) (xs : List ℕ) (n k : ℕ) (f : FreeValue) → slice_get (values_numbered vs xs n) k ≡ Some f → is_among xs f.var ≡ true
unfolding values_numbered
numbered_var vs [] n k f e = absurd (cc)
numbered_var vs (x ∷ xs) n zero f e = subst (λ v. is_among (x ∷ xs) v ≡ true) (ap (λ (g : FreeValue). g.var) (same _ f e)) (at_among (x ∷ xs) 0 x refl)
  where
    same : (a b : FreeValue) → Some a ≡ Some b → a ≡ b
    same a b h = cc
numbered_var vs (x ∷ xs) n (suc k) f e = among_right (x ∷ []) xs f.var (numbered_var vs xs n k f e)

pub given_own : (vs : List Variable) (xs : List ℕ) (n : ℕ) (start : List ℤ) (k : ℕ) (f : FreeValue) → AreApart xs → ((v : ℕ) → is_among xs v ≡ true → v < length start) → slice_get (values_numbered vs xs n) k ≡ Some f → value_at (given (values_numbered vs xs n) start) f.var ≡ f.value
unfolding values_numbered
given_own vs [] n start k f apart within e = absurd (cc)
given_own vs (x ∷ xs) n start zero f apart within e =
    let m : ℤ = value_with (slice_get vs x) (n / 2 ^ bit_count vs xs) in
    let G = given (values_numbered vs xs n) start in
    let y : FreeValue = record { var = x; value = m } in
    let here : value_at (set G x m) x ≡ m = get_or-set_same G x m (pos 0) (omega (arith, within x (at_among (x ∷ xs) 0 x refl), given_count vs xs n start)) in
    subst (λ (g : FreeValue). value_at (set G x m) g.var ≡ g.value) (same y f e) here
  where
    same : (a b : FreeValue) → Some a ≡ Some b → a ≡ b
    same a b h = cc
given_own vs (x ∷ xs) n start (suc k) f apart within e =
    let m : ℤ = value_with (slice_get vs x) (n / 2 ^ bit_count vs xs) in
    let G = given (values_numbered vs xs n) start in
    let named = numbered_var vs xs n k f e in
    get_or-set_other G x f.var m (pos 0) (λ h. fails (is_among xs x) (subst (λ v. is_among xs v ≡ true) h named) apart.0)
    ∙ given_own vs xs n start k f apart.1 (λ v l. within v (among_right (x ∷ []) xs v l)) e

-- the numbers that pass a test differ, and pass it
one_is : (n v : ℕ) → is_among (n ∷ []) v ≡ true → n ≡ v
one_is n v e = elim (or_cases (nat_eq n v) false e) [
  | inl here ↦ eqb-true n v here
  | inr none ↦ absurd (cc)
]

pub those_pass : (test : ℕ → Bool) (count v : ℕ) → is_among (those_below test count) v ≡ true → (v < count) × (test v ≡ true)
those_pass test zero v e = absurd (fails (is_among (those_below test 0) v) e (ap (λ ns. is_among ns v) (those_none test)))
those_pass test (suc n) v e = at (test n) refl (λ m. those_pass test n v m)
  where
    at : (b : Bool) → test n ≡ b → (is_among (those_below test n) v ≡ true → (v < n) × (test v ≡ true)) → (v < suc n) × (test v ≡ true)
    at true f rest =
        elim (or_cases (is_among (those_below test n) v) (is_among (n ∷ []) v) (sym (ap (λ ns. is_among ns v) (those_yes test n f) ∙ list_any-append (λ u. nat_eq u v) (those_below test n) (n ∷ [])) ∙ e)) [
          | inl m ↦ let r = rest m in (omega (arith, r.0), r.1)
          | inr m ↦ let same : n ≡ v = one_is n v m in (omega (arith, same), ap test (sym same) ∙ f)
        ]
    at false f rest = let r = rest (sym (ap (λ ns. is_among ns v) (those_no test n f)) ∙ e) in (omega (arith, r.0), r.1)

apart_parts : (a b : Bool) → (a || b) ≡ false → (a ≡ false) × (b ≡ false)
apart_parts true b e = absurd (cc)
apart_parts false b e = (refl, e)

both_false : (a b : Bool) → a ≡ false → b ≡ false → (a || b) ≡ false
both_false true b e f = absurd (cc)
both_false false b e f = f

turned : (x n : ℕ) → nat_eq x n ≡ false → nat_eq n x ≡ false
turned x n e = grind (arith, nat_tests, e)

apart_more : (xs : List ℕ) (n : ℕ) → AreApart xs → is_among xs n ≡ false → AreApart (xs ++ n ∷ [])
apart_more [] n a e = (refl, tt)
apart_more (x ∷ xs) n a e =
    let parts = apart_parts (nat_eq x n) (is_among xs n) e in
    let last : is_among (n ∷ []) x ≡ false = both_false (nat_eq n x) false (turned x n parts.0) refl in
    (list_any-append (λ u. nat_eq u x) xs (n ∷ []) ∙ both_false (is_among xs x) (is_among (n ∷ []) x) a.0 last, apart_more xs n a.1 parts.1)

not_among : (test : ℕ → Bool) (n : ℕ) → is_among (those_below test n) n ≡ false
not_among test n = at (is_among (those_below test n) n) refl
  where
    at : (b : Bool) → is_among (those_below test n) n ≡ b → is_among (those_below test n) n ≡ false
    at true e = absurd (omega (arith, (those_pass test n n e).0))
    at false e = e

pub those_apart : (test : ℕ → Bool) (count : ℕ) → AreApart (those_below test count)
those_apart test zero = subst (λ ns. AreApart ns) (sym (those_none test)) tt
those_apart test (suc n) = at (test n) refl (those_apart test n)
  where
    at : (b : Bool) → test n ≡ b → AreApart (those_below test n) → AreApart (those_below test (suc n))
    at true f a = subst (λ ns. AreApart ns) (sym (those_yes test n f)) (apart_more (those_below test n) n a (not_among test n))
    at false f a = subst (λ ns. AreApart ns) (sym (those_no test n f)) a

-- so it is with the free variables of a fact
pub free_apart : (p : VersionedProgram) (lemmas : List Numbered) (fact : Fact) → AreApart (free_variables p lemmas fact)
unfolding free_variables
free_apart p lemmas fact = those_apart (is_free p lemmas fact) (length p.variables)

pub free_within : (p : VersionedProgram) (lemmas : List Numbered) (fact : Fact) (v : ℕ) → is_among (free_variables p lemmas fact) v ≡ true → (v < length p.variables) × (is_free p lemmas fact v ≡ true)
unfolding free_variables
free_within p lemmas fact v e = those_pass (is_free p lemmas fact) (length p.variables) v e
