-- The exponent of a modulus that is a power of two: no number strictly between two powers is one, and what follows the first
-- power of a modulus is less than the last power of it.
use Rattle.std.proofs.Common.{◌≡◌, ◌⊎◌, inl, inr, ℕ, zero, suc, ◌+◌, ◌-◌, ◌*◌, ◌^◌, ◌<◌, ◌≤◌, Bool, true, false, not, ◌&&◌, cond, nat_lt, List, [], ◌∷◌, ◌++◌, length, drop, get_or, Option, Some, None, refl, sym, ◌∙◌, ap, subst, arith, ℤ, pos, neg_ℤ, ◌+ℤ◌, ◌<ℤ◌, unsigned_abs}
use Rattle.std.specs.Prelude.{int_lt, int_le}
use Rattle.std.specs.List.{list_all}
use Rattle.std.specs.Ordering.{int_eq}
use Rattle.std.proofs.lemmas.Bool.{and_parts, and_from, cases_eq}
use Rattle.std.proofs.lemmas.Bool.Decides.{Decides-int_eq, nat_tests}
use Rattle.std.proofs.lemmas.Int.{ints}
use Rattle.std.proofs.lemmas.Nat.{pow_pos, pow_below}
use Rattle.std.proofs.Math.Pow.{pow_mono}
use Rattle.std.proofs.Math.Nat.{pow-suc}
use Rattle.tcl_lang.specs.declared.term.Part.{Part}
use Rattle.tcl_lang.specs.Modulus.{modulus_value, falls_from, is_modulus}
use Rattle.tcl_lang.specs.Shape.{is_number, is_exponent, is_part}
use Rattle.tcl_measure.specs.SoundModulus.{IsSoundModulus}
use Rattle.tcl_measure.proofs.Moduli.{read_part, value_none, end_value, last_part, sum_below, power_part, first_number, first_power, rest_numbers}
use Rattle.tcl_goals.specs.Numbers.{those_below}
use Rattle.tcl_goals.proofs.Numbers.{those_none, those_yes, those_no}
use Rattle.tcl_blast.specs.Lifted.{is_exponent_of, first_exponent, exponent_of}

-- a test that no number below n passes, and one that only k passes
none_pass : (test : ℕ → Bool) (n : ℕ) → ((j : ℕ) → j < n → test j ≡ false) → those_below test n ≡ []
none_pass test zero h = those_none test
none_pass test (suc n) h = those_no test n (h n (omega arith)) ∙ none_pass test n (λ j l. h j (omega (arith, l)))

one_passes : (test : ℕ → Bool) (n k : ℕ) → k < n → test k ≡ true → ((j : ℕ) → j < n → (j ≡ k → ⊥) → test j ≡ false) → those_below test n ≡ k ∷ []
one_passes test zero k less e h = absurd (omega (arith, less))
one_passes test (suc n) k less e h = elim (cases_eq k n) [
  | inl same ↦
      those_yes test n (ap test (sym same) ∙ e) ∙ ap (λ xs. xs ++ n ∷ []) (none_pass test n (λ j l. h j (omega (arith, l)) (λ s. absurd (omega (arith, s, same, l))))) ∙ ap (λ m. m ∷ []) (sym same)
  | inr other ↦ those_no test n (h n (omega arith) (λ s. other (sym s))) ∙ one_passes test n k (omega (arith, less, other)) e (λ j l. h j (omega (arith, l)))
]

no_and : (a b : Bool) → (b ≡ true → ⊥) → (a && b) ≡ false
no_and false b h = refl
no_and true false h = refl
no_and true true h = absurd (h refl)

no_first : (a b : Bool) → a ≡ false → (a && b) ≡ false
no_first a b e = ap (λ c. c && b) e

apart : (i j : ℕ) → (i ≡ j → ⊥) → pos (2 ^ i) ≡ pos (2 ^ j) → ⊥
apart i j h e = elim (cases_less i j) [
  | inl less ↦ let p = pow_below i j less in omega (arith, ints, p, e)
  | inr more ↦ let p = pow_below j i (omega (arith, more, h)) in omega (arith, ints, p, e)
]
  where
    cases_less : (i j : ℕ) → (i < j) ⊎ (j ≤ i)
    cases_less i zero = inr (omega arith)
    cases_less zero (suc j) = inl (omega arith)
    cases_less (suc i) (suc j) = elim (cases_less i j) [ inl l ↦ inl (omega (arith, l)) | inr m ↦ inr (omega (arith, m)) ]

int_same : (n : ℤ) → int_eq n n ≡ true
int_same n = (Decides-int_eq n n).1 refl

positive_test : (k : ℕ) → nat_lt 0 (suc k) ≡ true
positive_test k = grind (arith, nat_tests)

-- the exponent of a power
pub exponent_power : (k : ℕ) → k < 1026 → exponent_of (pos (2 ^ k)) ≡ k
unfolding exponent_of
exponent_power zero h = ap first_exponent (none_pass (is_exponent_of (pos (2 ^ 0))) 1026 none)
  where
    none : (j : ℕ) → j < 1026 → is_exponent_of (pos (2 ^ 0)) j ≡ false
    none zero l = refl
    none (suc j) l = no_and (nat_lt 0 (suc j)) (int_eq (pos (2 ^ 0)) (pos (2 ^ suc j))) (λ e. apart 0 (suc j) (λ s. absurd (omega (arith, s))) ((Decides-int_eq (pos (2 ^ 0)) (pos (2 ^ suc j))).0 e))
exponent_power (suc k) h =
    ap first_exponent
    (one_passes (is_exponent_of (pos (2 ^ suc k))) 1026 (suc k) h (and_from (nat_lt 0 (suc k)) (int_eq (pos (2 ^ suc k)) (pos (2 ^ suc k))) (positive_test k) (int_same (pos (2 ^ suc k))))
    (λ j l other. no_and (nat_lt 0 j) (int_eq (pos (2 ^ suc k)) (pos (2 ^ j))) (λ e. apart (suc k) j (λ s. other (sym s)) ((Decides-int_eq (pos (2 ^ suc k)) (pos (2 ^ j))).0 e))))

-- a number that is no power
pub exponent_none : (n : ℤ) → ((k : ℕ) → 0 < k → n ≡ pos (2 ^ k) → ⊥) → exponent_of n ≡ 0
unfolding exponent_of
exponent_none n h = ap first_exponent (none_pass (is_exponent_of n) 1026 (λ j l. none j))
  where
    none : (j : ℕ) → is_exponent_of n j ≡ false
    none zero = refl
    none (suc j) = no_and (nat_lt 0 (suc j)) (int_eq n (pos (2 ^ suc j))) (λ e. h (suc j) (omega arith) ((Decides-int_eq n (pos (2 ^ suc j))).0 e))

pub exponent_between : (n : ℤ) (a : ℕ) → pos (2 ^ a) <ℤ n → n <ℤ pos (2 ^ suc a) → exponent_of n ≡ 0
exponent_between n a h g = exponent_none n (λ k l e. apart_from k e (cases_less k a))
  where
    cases_less : (i j : ℕ) → (i ≤ j) ⊎ (j < i)
    cases_less zero j = inl (omega arith)
    cases_less (suc i) zero = inr (omega arith)
    cases_less (suc i) (suc j) = elim (cases_less i j) [ inl l ↦ inl (omega (arith, l)) | inr m ↦ inr (omega (arith, m)) ]

    apart_from : (k : ℕ) → n ≡ pos (2 ^ k) → (k ≤ a) ⊎ (a < k) → ⊥
    apart_from k e (inl less) = let p : 2 ^ k ≤ 2 ^ a = pow_mono less in omega (arith, ints, p, e, h)
    apart_from k e (inr more) = let p : 2 ^ suc a ≤ 2 ^ k = pow_mono (omega (arith, more)) in omega (arith, ints, p, e, g)

-- a number by itself
pub number_found : (n k : ℕ) → k < 1026 → 2 ^ k ≡ n → k ≡ exponent_of (pos n)
number_found n k h e = sym (ap (λ m. exponent_of (pos m)) (sym e) ∙ exponent_power k h)

pub number_none : (n : ℕ) → n < 2 ^ 128 → ((j : ℕ) → 0 < j → j < 128 → 2 ^ j ≡ n → ⊥) → 0 ≡ exponent_of (pos n)
number_none n h g = sym (exponent_none (pos n) (λ k l e. none k l (some_pos n (2 ^ k) e) (cases_small k)))
  where
    some_pos : (m n : ℕ) → pos m ≡ pos n → m ≡ n
    some_pos m n e = omega (arith, ints, e)

    cases_small : (k : ℕ) → (k < 128) ⊎ (128 ≤ k)
    cases_small k = elim (cases_lt k 128) [ inl l ↦ inl l | inr m ↦ inr m ]
      where
        cases_lt : (i j : ℕ) → (i < j) ⊎ (j ≤ i)
        cases_lt i zero = inr (omega arith)
        cases_lt zero (suc j) = inl (omega arith)
        cases_lt (suc i) (suc j) = elim (cases_lt i j) [ inl l ↦ inl (omega (arith, l)) | inr m ↦ inr (omega (arith, m)) ]

    none : (k : ℕ) → 0 < k → n ≡ 2 ^ k → (k < 128) ⊎ (128 ≤ k) → ⊥
    none k l e (inl less) = g k l less (sym e)
    none k l e (inr more) = let p : 2 ^ 128 ≤ 2 ^ k = pow_mono more in omega (arith, p, e, h)

-- a power with a number that is less
abbrev pub with_number : ℕ → Bool → ℕ → ℤ
with_number k minus n = pos (2 ^ k) +ℤ cond minus (neg_ℤ (pos n)) (pos n)

pub with_zero : (k n : ℕ) (minus : Bool) → k < 1026 → n ≡ 0 → k ≡ exponent_of (with_number k minus n)
with_zero k n minus h e = sym (ap exponent_of (same minus) ∙ exponent_power k h)
  where
    same : (b : Bool) → with_number k b n ≡ pos (2 ^ k)
    same true = omega (arith, ints, e)
    same false = omega (arith, ints, e)

pub with_minus : (k n r : ℕ) (minus : Bool) → minus ≡ true → n < 2 ^ k → r ≡ exponent_of (pos (2 ^ k - n)) → r ≡ exponent_of (with_number k minus n)
with_minus k n r minus e h f = f ∙ ap exponent_of (same ∙ ap (λ b. with_number k b n) (sym e))
  where
    same : pos (2 ^ k - n) ≡ pos (2 ^ k) +ℤ neg_ℤ (pos n)
    same = omega (arith, ints, h)

pub with_plus : (k n : ℕ) (minus : Bool) → minus ≡ false → 0 < n → n < 2 ^ k → 0 ≡ exponent_of (with_number k minus n)
with_plus k n minus e p h = sym (ap (λ b. exponent_of (with_number k b n)) e ∙ exponent_between (pos (2 ^ k) +ℤ pos n) k (omega (arith, ints, p)) (omega (arith, ints, h, pow-suc 2 k)))

pub with_wide : (k n : ℕ) (minus : Bool) → minus ≡ true → 128 ≤ k → 0 < n → n < 2 ^ 127 → 0 ≡ exponent_of (with_number k minus n)
with_wide zero n minus e w p h = absurd (omega (arith, w))
with_wide (suc k) n minus e w p h =
    let more : 2 ^ 127 ≤ 2 ^ k = pow_mono {i = 127} {j = k} (omega (arith, w)) in
    sym (ap (λ b. exponent_of (with_number (suc k) b n)) e ∙ exponent_between (pos (2 ^ suc k) +ℤ neg_ℤ (pos n)) k (omega (arith, ints, p, h, more, pow-suc 2 k)) (omega (arith, ints, p, h, more, pow-suc 2 k)))

-- parts
pub rest_below : (k : ℕ) (ps : List Part) → falls_from k ps ≡ true → list_all is_part ps ≡ true → unsigned_abs (modulus_value ps) < 2 ^ k
rest_below k [] f n = subst (λ (z : ℤ). unsigned_abs z < 2 ^ k) (sym value_none) (pow_pos k)
rest_below k (p ∷ ps) f n = by p.power refl (λ j g m. rest_below j ps g m)
  where
    by : (o : Option ℕ) → p.power ≡ o → ((j : ℕ) → falls_from j ps ≡ true → list_all is_part ps ≡ true → unsigned_abs (modulus_value ps) < 2 ^ j) → unsigned_abs (modulus_value (p ∷ ps)) < 2 ^ k
    by None e rest =
        let l = last_part (p ∷ ps) 0 k p refl f n e in
        subst (λ (z : ℤ). unsigned_abs z < 2 ^ k) l.value l.below
    by (Some j) e rest =
        let l = power_part (p ∷ ps) 0 k p j refl f n e in
        subst (λ (z : ℤ). unsigned_abs z < 2 ^ k) (l.value (modulus_value ps) refl) (sum_below j k p.minus (modulus_value ps) l.less (rest j l.falls l.numbers))

pub from_end : (parts : List Part) (from k : ℕ) → k < 1026 → length parts ≤ from → k ≡ exponent_of (pos (2 ^ k) +ℤ modulus_value (drop from parts))
from_end parts from k h past =
    sym (ap exponent_of (ap (λ z. pos (2 ^ k) +ℤ z) (sym (end_value parts from past)) ∙ zero_more (pos (2 ^ k))) ∙ exponent_power k h)
  where
    zero_more : (n : ℤ) → n +ℤ pos 0 ≡ n
    zero_more n = omega (arith, ints)

-- the part at a place
abbrev pub no_part : Part
no_part = record { minus = false; base = pos 0; power = None }

number_sign : (n : ℤ) → is_number n ≡ true → pos (unsigned_abs n) ≡ n
number_sign n e =
    let parts = and_parts (int_le (pos 0) n) (int_lt n (pos (2 ^ 127))) e in
    omega (arith, ints, parts.0)

first_is : (p : Part) (ps : List Part) → list_all is_part (p ∷ ps) ≡ true → is_part p ≡ true
first_is p ps e = (and_parts (is_part p) (list_all is_part ps) e).0

pub record IsLastNumber (parts : List Part) (from k : ℕ) : Type 0 where
  pub less : unsigned_abs (get_or parts from no_part).base < 2 ^ k
  pub small : unsigned_abs (get_or parts from no_part).base < 2 ^ 127
  pub value : with_number k (get_or parts from no_part).minus (unsigned_abs (get_or parts from no_part).base) ≡ pos (2 ^ k) +ℤ modulus_value (drop from parts)

pub last_number : (parts : List Part) (from k : ℕ) → from < length parts → falls_from k (drop from parts) ≡ true → list_all is_part (drop from parts) ≡ true → (get_or parts from no_part).power ≡ None → IsLastNumber parts from k
last_number parts from k h falls numbers e =
    let p = get_or parts from no_part in
    let read = read_part parts from no_part h in
    let l = last_part parts from k p read falls numbers e in
    let own = number_sign p.base (and_parts (is_number p.base) (is_exponent p.power) (first_is p (drop (from + 1) parts) (ap (list_all is_part) (sym read) ∙ numbers))).0 in
    record {
      less = subst (λ n. n < 2 ^ k) (size p.minus p.base) l.below;
      small = l.small;
      value = ap (λ z. pos (2 ^ k) +ℤ z) (ap (λ z. cond p.minus (neg_ℤ z) z) own ∙ l.value);
    }
  where
    size : (b : Bool) (n : ℤ) → unsigned_abs (cond b (neg_ℤ n) n) ≡ unsigned_abs n
    size true n = omega (arith, ints)
    size false n = refl

pub record IsHalving (parts : List Part) (from k j : ℕ) : Type 0 where
  pub falls : falls_from j (drop (from + 1) parts) ≡ true
  pub numbers : list_all is_part (drop (from + 1) parts) ≡ true
  pub bound : j < 1026
  pub value : pos (2 ^ j) +ℤ modulus_value (drop (from + 1) parts) ≡ pos (2 ^ k) +ℤ modulus_value (drop from parts)

pub halving : (parts : List Part) (from k j : ℕ) → k < 1026 → from < length parts → falls_from k (drop from parts) ≡ true → list_all is_part (drop from parts) ≡ true → (get_or parts from no_part).power ≡ Some j → (get_or parts from no_part).minus ≡ true
    → j + 1 ≡ k → IsHalving parts from k j
halving parts from k j small h falls numbers e minus half =
    let p = get_or parts from no_part in
    let rest = modulus_value (drop (from + 1) parts) in
    let f = power_part parts from k p j (read_part parts from no_part h) falls numbers e in
    let value : neg_ℤ (pos (2 ^ j)) +ℤ rest ≡ modulus_value (drop from parts) = ap (λ b. cond b (neg_ℤ (pos (2 ^ j))) (pos (2 ^ j)) +ℤ rest) (sym minus) ∙ f.value rest refl in
    let double : 2 ^ k ≡ 2 ^ j * 2 = ap (λ m. 2 ^ m) (sym half ∙ more j) ∙ pow-suc 2 j in
    record {
      falls = f.falls;
      numbers = f.numbers;
      bound = omega (arith, small, f.less);
      value = omega (arith, ints, double) ∙ ap (λ z. pos (2 ^ k) +ℤ z) value;
    }
  where
    more : (j : ℕ) → j + 1 ≡ suc j
    more j = omega arith

pub no_power : (parts : List Part) (from k j : ℕ) → k < 1026 → from < length parts → falls_from k (drop from parts) ≡ true → list_all is_part (drop from parts) ≡ true → (get_or parts from no_part).power ≡ Some j
    → ((get_or parts from no_part).minus ≡ true → j + 1 ≡ k → ⊥) → 0 ≡ exponent_of (pos (2 ^ k) +ℤ modulus_value (drop from parts))
no_power parts from k j small h falls numbers e other =
    let p = get_or parts from no_part in
    let rest = modulus_value (drop (from + 1) parts) in
    let f = power_part parts from k p j (read_part parts from no_part h) falls numbers e in
    let below = rest_below j (drop (from + 1) parts) f.falls f.numbers in
    sym (ap (λ z. exponent_of (pos (2 ^ k) +ℤ z)) (sym (f.value rest refl)) ∙ by k p.minus rest f.less below other)
  where
    by : (k : ℕ) (b : Bool) (v : ℤ) → j < k → unsigned_abs v < 2 ^ j → (b ≡ true → j + 1 ≡ k → ⊥) → exponent_of (pos (2 ^ k) +ℤ (cond b (neg_ℤ (pos (2 ^ j))) (pos (2 ^ j)) +ℤ v)) ≡ 0
    by k false v less below other =
        let more : 2 ^ suc j ≤ 2 ^ k = pow_mono (omega (arith, less)) in
        exponent_between (pos (2 ^ k) +ℤ (pos (2 ^ j) +ℤ v)) k (omega (arith, ints, below)) (omega (arith, ints, below, more, pow-suc 2 j, pow-suc 2 k))
    by zero true v less below other = absurd (omega (arith, less))
    by (suc k) true v less below other =
        let apart : j + 1 ≡ suc k → ⊥ = other refl in
        let more : 2 ^ suc j ≤ 2 ^ k = pow_mono (omega (arith, less, apart)) in
        exponent_between (pos (2 ^ suc k) +ℤ (neg_ℤ (pos (2 ^ j)) +ℤ v)) k (omega (arith, ints, below, more, pow-suc 2 j, pow-suc 2 k)) (omega (arith, ints, below))

-- the first part
pub record IsFirstNumber (parts : List Part) : Type 0 where
  pub value : pos (unsigned_abs (get_or parts 0 no_part).base) ≡ modulus_value parts

pub first_number_is : (parts : List Part) → IsSoundModulus parts → (get_or parts 0 no_part).power ≡ None → IsFirstNumber parts
first_number_is [] s e = absurd (wrong s.sound)
  where
    wrong : is_modulus [] ≡ true → ⊥
    wrong e = cc
first_number_is (p ∷ ps) s e = let f = first_number p ps s.sound e in record { value = sign p.base f.positive ∙ f.value }
  where
    sign : (n : ℤ) → pos 0 <ℤ n → pos (unsigned_abs n) ≡ n
    sign n h = omega (arith, ints, h)

pub record IsFirstPower (parts : List Part) (k : ℕ) : Type 0 where
  pub falls : falls_from k (drop 1 parts) ≡ true
  pub numbers : list_all is_part (drop 1 parts) ≡ true
  pub bound : k < 1026
  pub value : pos (2 ^ k) +ℤ modulus_value (drop 1 parts) ≡ modulus_value parts

pub first_power_is : (parts : List Part) (k : ℕ) → IsSoundModulus parts → (get_or parts 0 no_part).power ≡ Some k → IsFirstPower parts k
first_power_is [] k s e = absurd (wrong s.sound)
  where
    wrong : is_modulus [] ≡ true → ⊥
    wrong e = cc
first_power_is (p ∷ ps) k s e =
    let f = first_power p ps k s.sound e in
    let part = first_is p ps (and_parts (not p.minus) (list_all is_part (p ∷ ps)) s.shape).1 in
    record { falls = f.falls; numbers = rest_numbers p ps s.shape; bound = least p.power e (and_parts (is_number p.base) (is_exponent p.power) part).1; value = f.value }
  where
    least : (o : Option ℕ) → o ≡ Some k → is_exponent o ≡ true → k < 1026
    least None e f = absurd (cc)
    least (Some j) e f = subst (λ n. n < 1026) (same j k e) (small j f)
      where
        same : (j k : ℕ) → Some j ≡ Some k → j ≡ k
        same j k e = cc

        small : (j : ℕ) → is_exponent (Some j) ≡ true → j < 1026
        small j f = grind (arith, nat_tests)
