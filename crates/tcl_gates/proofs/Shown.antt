-- What literals show: kept where gates are appended, the bit of a new gate, and the bits of words that are made of others.
use Rattle.std.proofs.Common.{◌≡◌, ℕ, ◌+◌, ◌-◌, ◌*◌, ◌/◌, ◌≤◌, zero, suc, Bool, true, false, not, List, [], ◌∷◌, ◌++◌, length, map, take, drop, replicate, Some, None, slice_get, refl, sym, ◌∙◌, ap, ap₂, subst, arith, length-append}
use Rattle.std.proofs.lemmas.List.{append-nil, append_assoc}
use Rattle.tcl_cnf.specs.Literal.{neg, literal_true}
use Rattle.tcl_cnf.proofs.Members.{neg-half}
use Rattle.tcl_cnf.proofs.Truth.{neg_true}
use Rattle.tcl_gates.specs.Gates.{value_at, values_of, gate_value, is_free}
use Rattle.tcl_gates.specs.Meaning.{next_lit, lit_bit, word_bits, AreWithin, Begins, IsPart, ShowsBit, Shows}
use Rattle.tcl_gates.specs.Meaning.Shows.{none, bit}
use Rattle.tcl_gates.specs.declared.gate.Gate.{Gate}
use Rattle.tcl_gates.proofs.Values.{literal_kept, literal-new, value_at-zero}

none_some : {l : ℕ} → None ≡ Some l → ⊥
none_some e = cc

some_same : {l m : ℕ} → Some l ≡ Some m → l ≡ m
some_same e = cc

pub begins_same : (gs : List Gate) → Begins gs gs
begins_same gs = record { more = []; is = sym (append-nil gs) }

pub begins_push : (gs : List Gate) (gate : Gate) → Begins gs (gs ++ gate ∷ [])
begins_push gs gate = record { more = gate ∷ []; is = refl }

pub begins_trans : {gs hs is : List Gate} → Begins gs hs → Begins hs is → Begins gs is
begins_trans {gs} {hs} {is} b c = record { more = b.more ++ c.more; is = c.is ∙ ap (λ t. t ++ c.more) b.is ∙ append_assoc gs b.more c.more }

pub begins_length : {gs hs : List Gate} → Begins gs hs → length gs ≤ length hs
begins_length {gs} {hs} b = omega (arith, ap length b.is, length-append gs b.more)

pub bit_kept : {gs hs : List Gate} {free : List Bool} {l : ℕ} {b : Bool} → Begins gs hs → ShowsBit gs free l b → ShowsBit hs free l b
bit_kept {gs} {hs} {free} {l} {b} g s = record {
  within = omega (arith, s.within, ap length g.is, length-append gs g.more);
  value = ap (λ t. lit_bit t free l) g.is ∙ literal_kept gs g.more free l s.within ∙ s.value;
}

pub word_kept : {gs hs : List Gate} {free : List Bool} {ls : List ℕ} {bs : List Bool} → Begins gs hs → Shows gs free ls bs → Shows hs free ls bs
word_kept g none = none
word_kept g (bit s t) = bit (bit_kept g s) (word_kept g t)

-- a new gate shows its value
pub new_shows : (gs : List Gate) (free : List Bool) (gate : Gate) (b : Bool) → is_free gate ≡ false → gate_value (value_at (values_of gs free)) gate ≡ b → ShowsBit (gs ++ gate ∷ []) free (next_lit gs) b
new_shows gs free gate b f e = record {
  within = omega (arith, length-append gs (gate ∷ []));
  value = literal-new gs gate free f ∙ e;
}

-- a negated literal shows the other bit
pub neg_shows : {gs : List Gate} {free : List Bool} {l : ℕ} {b : Bool} → ShowsBit gs free l b → ShowsBit gs free (neg l) (not b)
neg_shows {gs} {free} {l} {b} s = record {
  within = subst (λ t. t ≤ length gs) (sym (neg-half l)) s.within;
  value = neg_true (value_at (values_of gs free)) l ∙ ap not s.value;
}

-- the constants
pub true_shows : (gates : List Gate) (free : List Bool) → ShowsBit gates free 0 true
unfolding literal_true
true_shows gates free = record { within = omega arith; value = value_at-zero gates free }

pub false_shows : (gates : List Gate) (free : List Bool) → ShowsBit gates free 1 false
unfolding literal_true
false_shows gates free = record { within = omega arith; value = ap not (value_at-zero gates free) }

-- lists of literals that show bits
pub shows_append : {gs : List Gate} {free : List Bool} {ls ms : List ℕ} {bs cs : List Bool} → Shows gs free ls bs → Shows gs free ms cs → Shows gs free (ls ++ ms) (bs ++ cs)
shows_append none t = t
shows_append (bit s r) t = bit s (shows_append r t)

pub shows_one : {gs : List Gate} {free : List Bool} {l : ℕ} {b : Bool} → ShowsBit gs free l b → Shows gs free (l ∷ []) (b ∷ [])
shows_one s = bit s none

pub neg_word : {gs : List Gate} {free : List Bool} {ls : List ℕ} {bs : List Bool} → Shows gs free ls bs → Shows gs free (map neg ls) (map not bs)
neg_word none = none
neg_word (bit s t) = bit (neg_shows s) (neg_word t)

-- as many literals as bits
pub shows_length : {gs : List Gate} {free : List Bool} {ls : List ℕ} {bs : List Bool} → Shows gs free ls bs → length ls ≡ length bs
shows_length none = refl
shows_length (bit s t) = ap suc (shows_length t)

-- the bits are those of the literals
pub shows_bits : {gs : List Gate} {free : List Bool} {ls : List ℕ} {bs : List Bool} → Shows gs free ls bs → word_bits gs free ls ≡ bs
shows_bits none = refl
shows_bits (bit s t) = ap₂ (λ x xs. x ∷ xs) s.value (shows_bits t)

-- literals within the gates show their own bits
pub shows_own : (gs : List Gate) (free : List Bool) (ls : List ℕ) → AreWithin (length gs) ls → Shows gs free ls (word_bits gs free ls)
shows_own gs free [] w = none
shows_own gs free (l ∷ ls) w = bit (record { within = w.each 0 l refl; value = refl }) (shows_own gs free ls (record { each = λ k m e. w.each (suc k) m e }))

-- and such literals are within
within_each : {gs : List Gate} {free : List Bool} {ls : List ℕ} {bs : List Bool} → Shows gs free ls bs → (k l : ℕ) → slice_get ls k ≡ Some l → l / 2 ≤ length gs
within_each none k l e = absurd (none_some e)
within_each {gs} (bit s t) zero l e = subst (λ m. m / 2 ≤ length gs) (some_same e) s.within
within_each (bit s t) (suc k) l e = within_each t k l e

pub shows_within : {gs : List Gate} {free : List Bool} {ls : List ℕ} {bs : List Bool} → Shows gs free ls bs → AreWithin (length gs) ls
shows_within s = record { each = within_each s }

-- lists of literals within the gates
pub within_none : (n : ℕ) → AreWithin n []
within_none n = record { each = λ k l e. absurd (none_some e) }

within_head : (n l : ℕ) (ls : List ℕ) → l / 2 ≤ n → AreWithin n ls → (k m : ℕ) → slice_get (l ∷ ls) k ≡ Some m → m / 2 ≤ n
within_head n l ls h w zero m e = subst (λ t. t / 2 ≤ n) (some_same e) h
within_head n l ls h w (suc k) m e = w.each k m e

pub within_cons : (n l : ℕ) (ls : List ℕ) → l / 2 ≤ n → AreWithin n ls → AreWithin n (l ∷ ls)
within_cons n l ls h w = record { each = within_head n l ls h w }

pub within_tail : (n l : ℕ) (ls : List ℕ) → AreWithin n (l ∷ ls) → AreWithin n ls
within_tail n l ls w = record { each = λ k m e. w.each (suc k) m e }

pub within_append : (n : ℕ) (ls ms : List ℕ) → AreWithin n ls → AreWithin n ms → AreWithin n (ls ++ ms)
within_append n [] ms v w = w
within_append n (l ∷ ls) ms v w = within_cons n l (ls ++ ms) (v.each 0 l refl) (within_append n ls ms (within_tail n l ls v) w)

pub within_one : (n l : ℕ) → l / 2 ≤ n → AreWithin n (l ∷ [])
within_one n l h = within_cons n l [] h (within_none n)

pub within_grown : (n m : ℕ) (ls : List ℕ) → n ≤ m → AreWithin n ls → AreWithin m ls
within_grown n m ls h w = record { each = λ k l e. omega (arith, h, w.each k l e) }

pub neg_variable : (l : ℕ) → neg l / 2 ≡ l / 2
neg_variable l = neg-half l

pub within_negated : (n : ℕ) (ls : List ℕ) → AreWithin n ls → AreWithin n (map neg ls)
within_negated n [] w = within_none n
within_negated n (l ∷ ls) w = within_cons n (neg l) (map neg ls) (omega (arith, neg-half l, w.each 0 l refl)) (within_negated n ls (within_tail n l ls w))

pub within_drop : (n k : ℕ) (ls : List ℕ) → AreWithin n ls → AreWithin n (drop k ls)
within_drop n zero ls w = w
within_drop n (suc k) [] w = within_none n
within_drop n (suc k) (l ∷ ls) w = within_drop n k ls (within_tail n l ls w)

pub within_take : (n k : ℕ) (ls : List ℕ) → AreWithin n ls → AreWithin n (take k ls)
within_take n zero ls w = within_none n
within_take n (suc k) [] w = within_none n
within_take n (suc k) (l ∷ ls) w = within_cons n l (take k ls) (w.each 0 l refl) (within_take n k ls (within_tail n l ls w))

pub within_copies : (n k l : ℕ) → l / 2 ≤ n → AreWithin n (replicate k l)
within_copies n zero l h = within_none n
within_copies n (suc k) l h = within_cons n l (replicate k l) h (within_copies n k l h)

pub within_ones : (n k : ℕ) → AreWithin n (replicate k 1)
within_ones n k = within_copies n k 1 (omega arith)

-- parts of words
pub shows_take : {gates : List Gate} {free : List Bool} {ls : List ℕ} {bs : List Bool} (n : ℕ) → Shows gates free ls bs → Shows gates free (take n ls) (take n bs)
shows_take zero h = none
shows_take (suc n) none = none
shows_take (suc n) (bit s t) = bit s (shows_take n t)

pub shows_drop : {gates : List Gate} {free : List Bool} {ls : List ℕ} {bs : List Bool} (n : ℕ) → Shows gates free ls bs → Shows gates free (drop n ls) (drop n bs)
shows_drop zero h = h
shows_drop (suc n) none = none
shows_drop (suc n) (bit s t) = shows_drop n t

pub shows_copies : {gates : List Gate} {free : List Bool} {l : ℕ} {b : Bool} (n : ℕ) → ShowsBit gates free l b → Shows gates free (replicate n l) (replicate n b)
shows_copies zero s = none
shows_copies (suc n) s = bit s (shows_copies n s)

-- parts of a circuit
pub part_none : {gs hs : List Gate} → Begins gs hs → IsPart gs gs hs
part_none {gs} b = record { kept = begins_same gs; rest = b }

-- the first of two circuits is made in part
pub part_first : {gs now middle hs : List Gate} → Begins middle hs → IsPart gs now middle → IsPart gs now hs
part_first b p = record { kept = p.kept; rest = begins_trans p.rest b }

-- the first of two circuits is made, and the second in part
pub part_second : {gs middle now hs : List Gate} → Begins gs middle → IsPart middle now hs → IsPart gs now hs
part_second b p = record { kept = begins_trans b p.kept; rest = p.rest }

-- all of a circuit is made
pub part_all : {gs now hs : List Gate} → Begins gs hs → now ≡ hs → IsPart gs now hs
part_all {gs} {now} {hs} b e = subst (λ t. IsPart gs t hs) (sym e) (record { kept = b; rest = begins_same hs })
