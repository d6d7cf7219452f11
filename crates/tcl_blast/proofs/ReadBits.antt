-- The literals of bits show the bits of a store, so the clauses and units of bits are met.
use Rattle.std.proofs.Common.{◌≡◌, ◌⊎◌, inl, inr, ℕ, zero, suc, ◌+◌, ◌*◌, ◌/◌, ◌%◌, ◌^◌, ◌<◌, ◌≤◌, ◌==◌, Bool, true, false, not, ◌||◌, if◌then◌else◌, List, [], ◌∷◌, length, map, drop, get_or, Some, slice_get, refl, sym, ◌∙◌, ap, ap₂, subst, arith, ℤ, unsigned_abs, nat_eq}
use Rattle.std.proofs.lemmas.Bool.{and_parts}
use Rattle.std.proofs.Math.Nat.{div-eq_of_lt}
use Rattle.std.proofs.Math.Pow.{pow_mono}
use Rattle.tcl_cnf.specs.Literal.{neg}
use Rattle.tcl_cnf.specs.Clause.{clause_true}
use Rattle.tcl_bits.specs.Value.{unsigned_value}
use Rattle.tcl_bits.proofs.Cuts.{unsigned-drop}
use Rattle.tcl_bits.proofs.Words.{pattern_law}
use Rattle.tcl_gates.specs.declared.gate.Gate.{Gate}
use Rattle.tcl_gates.specs.Gates.{value_at, values_of as circuit_values}
use Rattle.tcl_gates.specs.Meaning.{word_bits, AreWithin, Begins, ShowsBit}
use Rattle.tcl_gates.proofs.Shown.{bit_kept, neg_shows, false_shows, shows_own, shows_length, within_tail}
use Rattle.tcl_lang.specs.declared.ty.Ty.{Ty}
use Rattle.tcl_lang.specs.declared.ty.Word.{Word}
use Rattle.tcl_lang.specs.declared.variable.Variable.{Variable}
use Rattle.tcl_lang.specs.Store.{empty_word, word_at, pattern_of}
use Rattle.tcl_goals.specs.declared.fact.BitLit.{BitLit}
use Rattle.tcl_goals.specs.Holds.{bit_of, bit_holds, clause_holds, cube_holds}
use Rattle.tcl_words.specs.Stores.{ShowsWord, ShowsVariable}
use Rattle.tcl_blast.specs.declared.blasted.Blasted.{Blasted}
use Rattle.tcl_blast.specs.Blasted.{with_clause, bit_lit, with_bit, without_bit, with_bits, without_bits}
use Rattle.tcl_blast.proofs.States.{IsState, clause_state, unit_state}

-- bit j of a number
low_bit : (xs : List Bool) → (unsigned_value xs % 2 == 1) ≡ get_or xs 0 false
low_bit [] = refl
low_bit (true ∷ xs) = odd (unsigned_value xs)
  where
    odd : (n : ℕ) → ((1 + 2 * n) % 2 == 1) ≡ true
    odd n = ap (λ m. m == 1) (mod_odd n)
      where
        mod_odd : (n : ℕ) → (1 + 2 * n) % 2 ≡ 1
        mod_odd n = omega arith
low_bit (false ∷ xs) = even (unsigned_value xs)
  where
    even : (n : ℕ) → ((0 + 2 * n) % 2 == 1) ≡ false
    even n = ap (λ m. m == 1) (mod_even n)
      where
        mod_even : (n : ℕ) → (0 + 2 * n) % 2 ≡ 0
        mod_even n = omega arith

first_dropped : (xs : List Bool) (j : ℕ) → get_or (drop j xs) 0 false ≡ get_or xs j false
first_dropped xs zero = refl
first_dropped [] (suc j) = refl
first_dropped (x ∷ xs) (suc j) = first_dropped xs j

pub number_bit : (xs : List Bool) (j : ℕ) → (unsigned_value xs / 2 ^ j % 2 == 1) ≡ get_or xs j false
number_bit xs j = ap (λ n. n % 2 == 1) (sym (unsigned-drop j xs)) ∙ low_bit (drop j xs) ∙ first_dropped xs j

-- each literal of a word, and false behind them
item_shows : (gates : List Gate) (free : List Bool) (ls : List ℕ) (j : ℕ) → AreWithin (length gates) ls → ShowsBit gates free (get_or ls j 1) (get_or (word_bits gates free ls) j false)
item_shows gates free [] j w = false_shows gates free
item_shows gates free (l ∷ ls) zero w = record { within = w.each 0 l refl; value = refl }
item_shows gates free (l ∷ ls) (suc j) w = item_shows gates free ls j (within_tail _ l ls w)

pub word_bit : {gates : List Gate} {free : List Bool} {T : Ty} {ls : List ℕ} {n : ℤ} (j : ℕ) → ShowsWord gates free T ls n → ShowsBit gates free (get_or ls j 1) (pattern_of T.width n / 2 ^ j % 2 == 1)
word_bit {gates} {free} {T} {ls} {n} j w =
    let bs = word_bits gates free ls in
    let long : length bs ≡ T.width = sym (shows_length (shows_own gates free ls w.within)) ∙ w.count in
    let pattern : pattern_of T.width n ≡ unsigned_value bs =
    ap₂ (λ k m. pattern_of k m) (sym long) (sym w.value) ∙ ap unsigned_abs (pattern_law T.signed bs) in
    subst (λ b. ShowsBit gates free (get_or ls j 1) b) (sym (ap (λ m. m / 2 ^ j % 2 == 1) pattern ∙ number_bit bs j)) (item_shows gates free ls j w.within)

-- a variable that is known, or that there is not
abbrev pub IsReadable : List Variable → (ℕ → Bool) → ℕ → Type 0
IsReadable variables known v = (known v ≡ true) ⊎ ((length variables ≤ v))

chosen_shows : {gates : List Gate} {free : List Bool} {l : ℕ} {x : Bool} (c : Bool) → ShowsBit gates free l x → ShowsBit gates free (if c then l else neg l) (if c then x else not x)
chosen_shows true s = s
chosen_shows false s = neg_shows s

pub past_item : (xs : List (List ℕ)) (v : ℕ) → length xs ≤ v → get_or xs v [] ≡ []
past_item [] v h = refl
past_item (x ∷ xs) zero h = absurd (omega arith)
past_item (x ∷ xs) (suc v) h = past_item xs v (omega (arith, h))

high_bit : (n w k : ℕ) → n < 2 ^ w → w ≤ k → nat_eq (n / 2 ^ k % 2) 1 ≡ false
high_bit n w k h g =
    let small : n < 2 ^ k = omega (arith, h, pow_mono g) in
    ap (λ m. nat_eq (m % 2) 1) (div-eq_of_lt small)

zero_bit : (k : ℕ) → bit_of empty_word k ≡ false
zero_bit k = high_bit 0 0 k (omega arith) (omega arith)

pub literal_at : (gates : List Gate) (free : List Bool) (words : List (List ℕ)) (variables : List Variable) (store : List Word) (b : BitLit)
    → ShowsVariable gates free words variables store b.var ⊎ ((get_or words b.var [] ≡ []) × (word_at store b.var ≡ empty_word)) → ShowsBit gates free (bit_lit words b) (bit_holds store b)
literal_at gates free words variables store b (inl y) =
    chosen_shows b.value
    (subst (λ (T : Ty). ShowsBit gates free (get_or (get_or words b.var []) b.bit 1) (pattern_of T.width (word_at store b.var).value / 2 ^ b.bit % 2 == 1)) (sym y.ty) (word_bit b.bit y.word))
literal_at gates free words variables store b (inr none) =
    chosen_shows b.value
    (subst (λ (ls : List ℕ). ShowsBit gates free (get_or ls b.bit 1) (bit_of (word_at store b.var) b.bit)) (sym none.0)
    (subst (λ (w : Word). ShowsBit gates free 1 (bit_of w b.bit)) (sym none.1) (subst (λ b. ShowsBit gates free 1 b) (sym (zero_bit b.bit)) (false_shows gates free))))

pub literal_shows : {variables : List Variable} {store : List Word} {free : List Bool} {known : ℕ → Bool} (s : Blasted) (b : BitLit) → ((v : ℕ) → length variables ≤ v → word_at store v ≡ empty_word) → IsReadable variables known b.var
    → IsState variables store free known s → ShowsBit s.gates free (bit_lit s.words b) (bit_holds store b)
literal_shows {variables} {store} {free} {known} s b past readable x =
    let count = x.count in
    literal_at s.gates free s.words variables store b
    (elim readable [ inl kn ↦ inl (x.shown b.var kn) | inr more ↦ inr (past_item s.words b.var (omega (arith, count, more)), past b.var more) ])

-- all bits of a list can be read
abbrev pub AreReadable : List Variable → (ℕ → Bool) → List BitLit → Type 0
AreReadable variables known bits = (n : ℕ) (b : BitLit) → slice_get bits n ≡ Some b → IsReadable variables known b.var

clause_is : {variables : List Variable} {store : List Word} {free : List Bool} {known : ℕ → Bool} (s : Blasted) (bits : List BitLit) → ((v : ℕ) → length variables ≤ v → word_at store v ≡ empty_word) → AreReadable variables known bits
    → IsState variables store free known s → (all : List Gate) → Begins s.gates all → clause_true (value_at (circuit_values all free)) (map (bit_lit s.words) bits) ≡ clause_holds store bits
clause_is s [] past r x all g = refl
clause_is s (b ∷ bits) past r x all g =
    ap₂ (λ y z. y || z) (bit_kept g (literal_shows s b past (r 0 b refl) x)).value (clause_is s bits past (λ n c e. r (suc n) c e) x all g)

-- a lemma's clause
pub lemma_state : {variables : List Variable} {store : List Word} {free : List Bool} {known : ℕ → Bool} (s : Blasted) (bits : List BitLit) → ((v : ℕ) → length variables ≤ v → word_at store v ≡ empty_word) → AreReadable variables known bits
    → clause_holds store bits ≡ true → IsState variables store free known s → IsState variables store free known (with_clause s (map (bit_lit s.words) bits))
lemma_state s bits past r e x = clause_state s (map (bit_lit s.words) bits) (λ all g. clause_is s bits past r x all g ∙ e) x

-- bits that have their values
pub bits_state : {variables : List Variable} {store : List Word} {free : List Bool} {known : ℕ → Bool} (s : Blasted) (bits : List BitLit) → ((v : ℕ) → length variables ≤ v → word_at store v ≡ empty_word) → AreReadable variables known bits
    → cube_holds store bits ≡ true → IsState variables store free known s → IsState variables store free known (with_bits s bits)
bits_state s [] past r e x = x
bits_state {store = store} {free = free} s (b ∷ bits) past r e x =
    let parts = and_parts (bit_holds store b) (cube_holds store bits) e in
    bits_state (with_bit s b) bits past (λ n c f. r (suc n) c f) parts.1
    (unit_state s (bit_lit s.words b) (subst (λ y. ShowsBit s.gates free (bit_lit s.words b) y) parts.0 (literal_shows s b past (r 0 b refl) x)) x)

-- bits of which none has its value
no_bit : (x y : Bool) → (x || y) ≡ false → (x ≡ false) × (y ≡ false)
no_bit true y e = absurd (cc)
no_bit false y e = (refl, e)

pub denied_bits_state : {variables : List Variable} {store : List Word} {free : List Bool} {known : ℕ → Bool} (s : Blasted) (bits : List BitLit) → ((v : ℕ) → length variables ≤ v → word_at store v ≡ empty_word) → AreReadable variables known bits
    → clause_holds store bits ≡ false → IsState variables store free known s → IsState variables store free known (without_bits s bits)
denied_bits_state s [] past r e x = x
denied_bits_state {store = store} {free = free} s (b ∷ bits) past r e x =
    let parts = no_bit (bit_holds store b) (clause_holds store bits) e in
    denied_bits_state (without_bit s b) bits past (λ n c f. r (suc n) c f) parts.1
    (unit_state s (neg (bit_lit s.words b)) (subst (λ y. ShowsBit s.gates free (neg (bit_lit s.words b)) (not y)) parts.0 (neg_shows (literal_shows s b past (r 0 b refl) x))) x)
