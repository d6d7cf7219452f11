-- The adder shows the sum.
use Rattle.std.proofs.Common.{◌≡◌, inl, inr, min, ℕ, ◌+◌, ◌≤◌, ◌*◌, ◌/◌, arith, length-append, ap₂, drop, Some, slice_get, drop-cons, drop_of_length-le, add-one, Bool, List, [], ◌∷◌, ◌++◌, length, refl, sym, ◌∙◌, ap, subst}
use Rattle.std.proofs.lemmas.List.{append-nil, append_assoc}
use Rattle.std.proofs.lemmas.Option.{slice_get_within, get_or_from_slice_get}
use Rattle.tcl_gates.specs.Gates.{value_at, values_of}
use Rattle.tcl_gates.specs.declared.gate.Gate.{Gate}
use Rattle.tcl_gates.specs.declared.gate.Gate.TheVariants.{And, Xor, Major, Choice}
use Rattle.tcl_bits.specs.Circuit.{xor_bit, major_bit, sum_bits, carry_out}
use Rattle.tcl_gates.specs.Meaning.{next_lit, lit_bit, Begins, IsPart, ShowsBit, Shows, AreWithin}
use Rattle.tcl_gates.specs.Meaning.Shows.{none, bit}
use Rattle.tcl_circuits.specs.Wires.{Carried}
use Rattle.tcl_circuits.specs.Circuits.{carried, add_lit, add_lits, adder}
use Rattle.tcl_gates.proofs.Shown.{begins_same, begins_push, begins_trans, bit_kept, word_kept, shows_append, shows_one, begins_length, within_none, within_append, within_grown, within_one}
use Rattle.tcl_circuits.proofs.Bits.{xor_shows, major_shows}
use Rattle.tcl_circuits.proofs.Within.{short}

-- the gates grow, and the word and the carry show these bits
pub record ShowsCarried (free : List Bool) (before : List Gate) (s : Carried) (bits : List Bool) (c : Bool) : Type 0 where
  pub grown : Begins before s.gates
  pub word : Shows s.gates free s.word bits
  pub carry : ShowsBit s.gates free s.carry c

add_step : {free : List Bool} {before : List Gate} {s : Carried} {x y : ℕ} {bits : List Bool} {carry a b : Bool}
    → ShowsCarried free before s bits carry → ShowsBit s.gates free x a → ShowsBit s.gates free y b
    → ShowsCarried free s.gates (add_lit s x y) (bits ++ xor_bit (xor_bit a b) carry ∷ []) (major_bit a b carry)
add_step {free} {before} {s} {x} {y} {bits} {carry} {a} {b} c t u =
    let halves = s.gates ++ Xor x y ∷ [] in
    let sums = halves ++ Xor (next_lit s.gates) s.carry ∷ [] in
    let first : Begins s.gates halves = begins_push s.gates (Xor x y) in
    let second : Begins halves sums = begins_push halves (Xor (next_lit s.gates) s.carry) in
    let third : Begins sums (sums ++ Major x y s.carry ∷ []) = begins_push sums (Major x y s.carry) in
    let two = begins_trans first second in
    let all = begins_trans two third in
    let sum : ShowsBit sums free (next_lit halves) (xor_bit (xor_bit a b) carry) = xor_shows (xor_shows t u) (bit_kept first c.carry) in
    record {
      grown = all;
      word = shows_append (word_kept all c.word) (shows_one (bit_kept third sum));
      carry = major_shows (bit_kept two t) (bit_kept two u) (bit_kept two c.carry);
    }

from_before : {free : List Bool} {before more : List Gate} {s : Carried} {bits : List Bool} {carry : Bool} → Begins before more → ShowsCarried free more s bits carry → ShowsCarried free before s bits carry
from_before g c = record { grown = begins_trans g c.grown; word = c.word; carry = c.carry }

add_all : {free : List Bool} {before : List Gate} (s : Carried) (xs ys : List ℕ) (bits : List Bool) {xbits ybits : List Bool} (carry : Bool)
    → ShowsCarried free before s bits carry → Shows s.gates free xs xbits → Shows s.gates free ys ybits
    → ShowsCarried free before (add_lits s xs ys) (bits ++ sum_bits xbits ybits carry) (carry_out xbits ybits carry)
unfolding add_lits
add_all {free} {before} s [] ys bits carry c none u = subst (λ w. ShowsCarried free before s w carry) (sym (append-nil bits)) c
add_all {free} {before} s (x ∷ xs) [] bits carry c (bit p t) none = subst (λ w. ShowsCarried free before s w carry) (sym (append-nil bits)) c
add_all {free} {before} s (x ∷ xs) (y ∷ ys) bits carry c (bit {b = a} {bs = xbits} p t) (bit {b = b} {bs = ybits} q u) =
    let next = add_step c p q in
    subst (λ w. ShowsCarried free before (add_lits (add_lit s x y) xs ys) w (carry_out xbits ybits (major_bit a b carry)))
    (append_assoc bits (xor_bit (xor_bit a b) carry ∷ []) (sum_bits xbits ybits (major_bit a b carry)))
    (add_all (add_lit s x y) xs ys (bits ++ xor_bit (xor_bit a b) carry ∷ []) (major_bit a b carry) (from_before c.grown next)
    (word_kept next.grown t) (word_kept next.grown u))

-- the adder shows the bits of the sum, and its carry
pub adder_shows : {free : List Bool} {gates : List Gate} {xs ys : List ℕ} {carry : ℕ} {xbits ybits : List Bool} {c : Bool}
    → Shows gates free xs xbits → Shows gates free ys ybits → ShowsBit gates free carry c
    → ShowsCarried free gates (adder gates xs ys carry) (sum_bits xbits ybits c) (carry_out xbits ybits c)
unfolding adder
adder_shows {free} {gates} {xs} {ys} {carry} {xbits} {ybits} {c} t u v =
    add_all (record { gates = gates; word = []; carry = carry }) xs ys [] c (record { grown = begins_same gates; word = none; carry = v }) t u

step_begins : (s : Carried) (x y : ℕ) → Begins s.gates (add_lit s x y).gates
step_begins s x y = begins_trans (begins_trans (begins_push _ _) (begins_push _ _)) (begins_push _ _)

pub drop_is : (xs : List ℕ) (k x : ℕ) → slice_get xs k ≡ Some x → drop k xs ≡ x ∷ drop (k + 1) xs
drop_is xs k x e = drop-cons xs k 0 (slice_get_within xs k x e) ∙ ap₂ (λ t n. t ∷ drop n xs) (get_or_from_slice_get xs k x 0 e) (sym (add-one k))

add_cons : (s : Carried) (x y : ℕ) (xs ys : List ℕ) → add_lits s (x ∷ xs) (y ∷ ys) ≡ add_lits (add_lit s x y) xs ys
unfolding add_lits
add_cons s x y xs ys = refl

add_lits_begins : (s : Carried) (xs ys : List ℕ) → Begins s.gates (add_lits s xs ys).gates
unfolding add_lits
add_lits_begins s [] ys = begins_same s.gates
add_lits_begins s (x ∷ xs) [] = begins_same s.gates
add_lits_begins s (x ∷ xs) (y ∷ ys) = begins_trans (step_begins s x y) (add_lits_begins (add_lit s x y) xs ys)

pub adder_begins : (gates : List Gate) (xs ys : List ℕ) (carry : ℕ) → Begins gates (adder gates xs ys carry).gates
unfolding adder
adder_begins gates xs ys carry = add_lits_begins (carried gates [] carry) xs ys

sizes : (s : Carried) (x y : ℕ) → length (add_lit s x y).gates ≡ length s.gates + 3 × (next_lit (s.gates ++ Xor x y ∷ []) ≡ 2 * (length s.gates + 2)) × ((add_lit s x y).carry ≡ 2 * (length s.gates + 3))
sizes s x y =
    let a = length-append s.gates (Xor x y ∷ []) in
    let b = length-append (s.gates ++ Xor x y ∷ []) (Xor (next_lit s.gates) s.carry ∷ []) in
    let c = length-append ((s.gates ++ Xor x y ∷ []) ++ Xor (next_lit s.gates) s.carry ∷ []) (Major x y s.carry ∷ []) in
    (omega (arith, a, b, c), omega (arith, a), omega (arith, a, b))

-- the loop of the adder: what is made so far, with the adders of the bits that are left, is the whole
pub record AddsOn (old : List Gate) (s whole : Carried) (xs ys : List ℕ) : Type 0 where
  pub rest : add_lits s xs ys ≡ whole
  pub grown : Begins old s.gates
  pub longer : length old ≤ length s.gates
  pub within : s.carry / 2 ≤ length s.gates
  pub word : AreWithin (length s.gates) s.word

pub add_none : (gates : List Gate) (word : List ℕ) (xs ys : List ℕ) (carry : ℕ) → word ≡ [] → carry / 2 ≤ length gates → AddsOn gates (carried gates word carry) (adder gates xs ys carry) xs ys
unfolding adder
add_none gates word xs ys carry e h =
    subst (λ w. AddsOn gates (carried gates w carry) (add_lits (carried gates [] carry) xs ys) xs ys) (sym e)
    (record { rest = refl; grown = begins_same gates; longer = omega arith; within = h; word = within_none (length gates) })

pub add_more : (old : List Gate) (s whole : Carried) (xs ys : List ℕ) (k x y : ℕ) → slice_get xs k ≡ Some x → slice_get ys k ≡ Some y
    → AddsOn old s whole (drop k xs) (drop k ys) → AddsOn old (add_lit s x y) whole (drop (k + 1) xs) (drop (k + 1) ys)
add_more old s whole xs ys k x y e f a = record {
  rest = sym (add_cons s x y (drop (k + 1) xs) (drop (k + 1) ys)) ∙ sym (ap₂ (λ p q. add_lits s p q) (drop_is xs k x e) (drop_is ys k y f)) ∙ a.rest;
  grown = begins_trans a.grown (step_begins s x y);
  longer = omega (arith, a.longer, begins_length (step_begins s x y));
  within = omega (arith, sizes s x y);
  word = within_append _ _ _ (within_grown _ _ _ (begins_length (step_begins s x y)) a.word) (within_one _ _ (omega (arith, sizes s x y)));
}

add_second : (s : Carried) (xs : List ℕ) → add_lits s xs [] ≡ s
unfolding add_lits
add_second s [] = refl
add_second s (x ∷ xs) = refl

pub add_end : (old : List Gate) (s whole : Carried) (xs ys : List ℕ) (k : ℕ) → min (length xs) (length ys) ≤ k → AddsOn old s whole (drop k xs) (drop k ys) → s ≡ whole
unfolding add_lits
add_end old s whole xs ys k h a = elim (short (length xs) (length ys) k h) [
  | inl e ↦ ap (λ p. add_lits s p (drop k ys)) (sym (drop_of_length-le xs e)) ∙ a.rest
  | inr e ↦ sym (add_second s (drop k xs)) ∙ ap (λ p. add_lits s (drop k xs) p) (sym (drop_of_length-le ys e)) ∙ a.rest
]

-- the same in the words of the code
pub add_next : (old gates gates1 : List Gate) (word word1 : List ℕ) (carry carry1 : ℕ) (whole : Carried) (xs ys : List ℕ) (k x y : ℕ) → slice_get xs k ≡ Some x → slice_get ys k ≡ Some y
    → AddsOn old (carried gates word carry) whole (drop k xs) (drop k ys)
    → gates1 ≡ (add_lit (carried gates word carry) x y).gates → word1 ≡ (add_lit (carried gates word carry) x y).word → carry1 ≡ (add_lit (carried gates word carry) x y).carry
    → AddsOn old (carried gates1 word1 carry1) whole (drop (k + 1) xs) (drop (k + 1) ys)
add_next old gates gates1 word word1 carry carry1 whole xs ys k x y e f a g h i =
    let same : carried gates1 word1 carry1 ≡ add_lit (carried gates word carry) x y = ap₂ (λ p q. carried p q carry1) g h ∙ ap (λ r. carried (add_lit (carried gates word carry) x y).gates (add_lit (carried gates word carry) x y).word r) i in
    subst (λ t. AddsOn old t whole (drop (k + 1) xs) (drop (k + 1) ys)) (sym same) (add_more old (carried gates word carry) whole xs ys k x y e f a)

-- memory ran out in the adder of one bit
pub add_part : (old now : List Gate) (s whole : Carried) (xs ys : List ℕ) (k x y : ℕ) → slice_get xs k ≡ Some x → slice_get ys k ≡ Some y
    → AddsOn old s whole (drop k xs) (drop k ys) → IsPart s.gates now (add_lit s x y).gates → IsPart old now whole.gates
add_part old now s whole xs ys k x y e f a p =
    let b = add_more old s whole xs ys k x y e f a in
    record {
      kept = begins_trans a.grown p.kept;
      rest = begins_trans p.rest (subst (λ t. Begins (add_lit s x y).gates t.gates) b.rest (add_lits_begins (add_lit s x y) (drop (k + 1) xs) (drop (k + 1) ys)));
    }
