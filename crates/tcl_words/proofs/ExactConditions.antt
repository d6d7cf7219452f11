-- The exactness circuits show whether the condition holds.
use Rattle.std.proofs.Common.{◌≡◌, ℕ, ◌+◌, Bool, true, false, List, length, refl, ◌∙◌, ap, ap₂, subst, arith, ℤ, pos, ◌+ℤ◌, ◌-ℤ◌, ◌*ℤ◌, ◌^◌, int_le, int_lt, ◌≤ℤ◌, ◌<ℤ◌, Decides, max}
use Rattle.std.proofs.lemmas.Int.{ints}
use Rattle.std.proofs.lemmas.Bool.{and_from}
use Rattle.std.proofs.lemmas.Bool.Decides.{same_from_decides}
use Rattle.tcl_num.specs.Range.{InRange, least_value, values_end}
use Rattle.tcl_gates.specs.declared.gate.Gate.{Gate}
use Rattle.tcl_lang.specs.declared.ty.Ty.{Ty}
use Rattle.tcl_lang.specs.declared.instr.Op.{Op}
use Rattle.tcl_lang.specs.declared.instr.Op.TheVariants.{Add, Adc, Sub, Sbb, Mul, Shl, Vpc}
use Rattle.tcl_lang.specs.Types.{IsTy, is_in_type, InType}
use Rattle.tcl_lang.specs.Exactness.{has_condition, exact_value}
use Rattle.tcl_lang.proofs.TypedStores.{is_in_type_sound}
use Rattle.tcl_bits.specs.Value.{bit_value}
use Rattle.tcl_bits.specs.Circuit.{sum_bits, difference_bits, extended_bits, shifted_bits, range_bit}
use Rattle.tcl_bits.specs.Exactness.{full_product, sum_fits, difference_fits}
use Rattle.tcl_bits.proofs.ExactResults.{sum_exact, difference_exact, product_exact, shift_exact, cast_exact}
use Rattle.tcl_circuits.proofs.Adders.{ShowsCarried, adder_shows}
use Rattle.tcl_circuits.proofs.Chains.{ShowsWires, ShowsWire, difference_shows, extended_shows, shifted_shows, range_shows}
use Rattle.tcl_circuits.specs.Circuits.{adder, difference, extended}
use Rattle.tcl_circuits.specs.Wires.{Wires, Carried}
use Rattle.tcl_gates.proofs.Shown.{begins_same, begins_trans, shows_length, true_shows, false_shows}
use Rattle.tcl_gates.specs.Meaning.{ShowsBit, Shows}
use Rattle.tcl_words.proofs.Outcomes.{first_shows, wide_shows}
use Rattle.tcl_words.proofs.Rows.{width_positive, sum_none, difference_none}
use Rattle.tcl_words.proofs.Values.{bit_is, same_length, positive}
use Rattle.tcl_words.specs.Exactness.{plain, fits, exact_lit, exact_bit}
use Rattle.tcl_words.specs.Instructions.{first_bit}
use Rattle.tcl_words.specs.Words.{AreOperands}

-- the range of a word that was made
made_fits : {free : List Bool} {gates : List Gate} {s : Wires} {bs : List Bool} (signed : Bool) (width : ℕ) → ShowsWires free gates s bs → ShowsWire free gates (fits signed width s) (range_bit signed width bs)
made_fits signed width h =
    let r = range_shows signed width h.word in
    record { grown = begins_trans h.grown r.grown; shows = r.shows }

pub plain_shows : {free : List Bool} {gates : List Gate} {s : Carried} {bs : List Bool} {c : Bool} → ShowsCarried free gates s bs c → ShowsWires free gates (plain s) bs
plain_shows h = record { grown = h.grown; word = h.word }

sum_range : {free : List Bool} {gates : List Gate} {xs ys : List ℕ} {xbits ybits : List Bool} {c : ℕ} {k : Bool} (signed : Bool) → Shows gates free xs xbits → Shows gates free ys ybits → ShowsBit gates free c k
    → ShowsWire free gates (fits signed (length xs) (plain (adder gates (extended signed (length xs + 2) xs) (extended signed (length xs + 2) ys) c))) (sum_fits signed xbits ybits k)
sum_range {free} {gates} {xs} {ys} {xbits} {ybits} {c} {k} signed t u v =
    subst (λ n. ShowsWire free gates (fits signed (length xs) (plain (adder gates (extended signed (length xs + 2) xs) (extended signed (length xs + 2) ys) c)))
    (range_bit signed n (sum_bits (extended_bits signed (n + 2) xbits) (extended_bits signed (n + 2) ybits) k))) (shows_length t)
    (made_fits signed (length xs) (plain_shows (adder_shows (extended_shows signed (length xs + 2) t) (extended_shows signed (length xs + 2) u) v)))

difference_range : {free : List Bool} {gates : List Gate} {xs ys : List ℕ} {xbits ybits : List Bool} {c : ℕ} {k : Bool} (signed : Bool) → Shows gates free xs xbits → Shows gates free ys ybits → ShowsBit gates free c k
    → ShowsWire free gates (fits signed (length xs) (plain (difference gates (extended signed (length xs + 2) xs) (extended signed (length xs + 2) ys) c))) (difference_fits signed xbits ybits k)
difference_range {free} {gates} {xs} {ys} {xbits} {ybits} {c} {k} signed t u v =
    subst (λ n. ShowsWire free gates (fits signed (length xs) (plain (difference gates (extended signed (length xs + 2) xs) (extended signed (length xs + 2) ys) c)))
    (range_bit signed n (difference_bits (extended_bits signed (n + 2) xbits) (extended_bits signed (n + 2) ybits) k))) (shows_length t)
    (made_fits signed (length xs) (plain_shows (difference_shows (extended_shows signed (length xs + 2) t) (extended_shows signed (length xs + 2) u) v)))

pub exactness_shows : {free : List Bool} {gates : List Gate} {a b c : List ℕ} {xs ys zs : List Bool} (op : Op) (T S : Ty) (n : ℕ) → Shows gates free a xs → Shows gates free b ys → Shows gates free c zs
    → ShowsWire free gates (exact_lit gates op T S n a b c) (exact_bit op T S n xs ys zs)
exactness_shows {free} {gates} Add T S n t u v = sum_range T.signed t u (false_shows gates free)
exactness_shows Adc T S n t u v = sum_range T.signed t u (first_shows v)
exactness_shows {free} {gates} Sub T S n t u v = difference_range T.signed t u (false_shows gates free)
exactness_shows Sbb T S n t u v = difference_range T.signed t u (first_shows v)
exactness_shows {free} {gates} {a} {b} {c} {xs} {ys} {zs} Mul T S n t u v =
    subst (λ m. ShowsWire free gates (exact_lit gates Mul T S n a b c) (range_bit T.signed m (full_product T.signed xs ys))) (shows_length t) (made_fits T.signed (length a) (wide_shows T.signed t u))
exactness_shows {free} {gates} {a} {b} {c} {xs} {ys} {zs} Shl T S n t u v =
    subst (λ m. ShowsWire free gates (exact_lit gates Shl T S n a b c) (range_bit T.signed m (shifted_bits n (extended_bits T.signed (m + n) xs)))) (shows_length t)
    (range_shows T.signed (length a) (shifted_shows n (extended_shows T.signed (length a + n) t)))
exactness_shows {free} {gates} {a} {b} {c} {xs} {ys} {zs} Vpc T S n t u v =
    subst (λ m. ShowsWire free gates (exact_lit gates Vpc T S n a b c) (range_bit T.signed T.width (extended_bits S.signed (max m T.width + 1) xs))) (shows_length t)
    (range_shows T.signed T.width (extended_shows S.signed (max (length a) T.width + 1) t))
exactness_shows {free} {gates} _ T S n t u v = record { grown = begins_same gates; shows = true_shows gates free }

-- the test of a type's values decides them
le_true : (a b : ℤ) → a ≤ℤ b → int_le a b ≡ true
le_true a b h = grind (arith, ints)

lt_true : (a b : ℤ) → a <ℤ b → int_lt a b ≡ true
lt_true a b h = grind (arith, ints)

pub in_type_decides : (T : Ty) (n : ℤ) → Decides (is_in_type T n) (InType T n)
in_type_decides T n = (is_in_type_sound T n, λ h. and_from (int_le (least_value T.signed T.width) n) (int_lt n (values_end T.signed T.width)) (le_true _ _ h.0) (lt_true _ _ h.1))

exact_from : (T : Ty) (r : Bool) (w : ℕ) (m n : ℤ) → w ≡ T.width → m ≡ n → Decides r (InRange T.signed w m) → r ≡ is_in_type T n
exact_from T r w m n e f d = same_from_decides r (is_in_type T n) (subst (λ v. Decides r (InRange T.signed T.width v)) f (subst (λ w. Decides r (InRange T.signed w m)) e d)) (in_type_decides T n)

pub exactness_is : (xs ys zs : List Bool) (a b c : ℤ) (op : Op) (T S : Ty) (n : ℕ) → IsTy T → has_condition op ≡ true → AreOperands op T S xs ys zs a b c
    → exact_bit op T S n xs ys zs ≡ is_in_type T (exact_value op n a b c)
exactness_is xs ys zs a b c Add T S n t k h =
    let p = width_positive T t in
    exact_from T _ (length xs) _ (a +ℤ b) h.0.length (ap₂ (λ u v. u +ℤ v +ℤ pos 0) h.0.value h.1.value ∙ sum_none a b) (sum_exact T.signed xs ys false (same_length h.0 h.1) (positive p h.0))
exactness_is xs ys zs a b c Adc T S n t k h =
    let p = width_positive T t in
    exact_from T _ (length xs) _ (a +ℤ b +ℤ c) h.0.length (ap₂ (λ u v. u +ℤ v +ℤ pos (bit_value (first_bit zs))) h.0.value h.1.value ∙ ap (λ v. a +ℤ b +ℤ v) (bit_is h.2)) (sum_exact T.signed xs ys (first_bit zs) (same_length h.0 h.1) (positive p h.0))
exactness_is xs ys zs a b c Sub T S n t k h =
    let p = width_positive T t in
    exact_from T _ (length xs) _ (a -ℤ b) h.0.length (ap₂ (λ u v. u -ℤ v -ℤ pos 0) h.0.value h.1.value ∙ difference_none a b) (difference_exact T.signed xs ys false (same_length h.0 h.1) (positive p h.0))
exactness_is xs ys zs a b c Sbb T S n t k h =
    let p = width_positive T t in
    exact_from T _ (length xs) _ (a -ℤ b -ℤ c) h.0.length (ap₂ (λ u v. u -ℤ v -ℤ pos (bit_value (first_bit zs))) h.0.value h.1.value ∙ ap (λ v. a -ℤ b -ℤ v) (bit_is h.2)) (difference_exact T.signed xs ys (first_bit zs) (same_length h.0 h.1) (positive p h.0))
exactness_is xs ys zs a b c Mul T S n t k h =
    let p = width_positive T t in
    exact_from T _ (length xs) _ _ h.0.length (ap₂ (λ u v. u *ℤ v) h.0.value h.1.value) (product_exact T.signed xs ys (same_length h.0 h.1) (positive p h.0))
exactness_is xs ys zs a b c Shl T S n t k h = exact_from T _ (length xs) _ _ h.length (ap (λ v. v *ℤ pos (2 ^ n)) h.value) (shift_exact T.signed n xs (positive (width_positive T t) h))
exactness_is xs ys zs a b c Vpc T S n t k h = exact_from T _ T.width _ _ refl h.value (cast_exact S.signed T.signed T.width xs (width_positive T t))
exactness_is xs ys zs a b c _ T S n t k h = absurd (no_condition k)
  where
    no_condition : false ≡ true → ⊥
    no_condition e = cc
