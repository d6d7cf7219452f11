-- What the clauses of the circuits say of bits: the literals of the operands show their own bits, and those of the result the bits of the circuit.
use Rattle.std.proofs.Common.{◌≡◌, ℕ, ◌/◌, ◌≤◌, ◌^◌, ℤ, pos, unsigned_abs, Bool, ◌&&◌, ◌||◌, List, [], length, map, replicate, refl, sym, ◌∙◌, ap, ap₂, subst}
use Rattle.std.specs.Int.{int_rem_euclid}
use Rattle.tcl_cnf.specs.Literal.{neg}
use Rattle.tcl_bits.specs.Value.{number_bits}
use Rattle.tcl_bits.specs.Circuit.{xor_bit, sum_bits, carry_out, difference_bits, borrow_out, negation_bits, product_bits, less_bit, equal_bit, range_bit, met_bits, chosen_bits, flipped_bits, extended_bits, shifted_bits}
use Rattle.tcl_gates.specs.declared.gate.Gate.{Gate}
use Rattle.tcl_gates.specs.Meaning.{lit_bit, word_bits, AreWithin, ShowsBit, Shows}
use Rattle.tcl_gates.proofs.Shown.{shows_own, shows_bits, neg_word, neg_shows}
use Rattle.tcl_circuits.specs.Circuits.{adder, difference, negation, product, less, equal, in_range, choose, bitwise_and, bitwise_or, bitwise_xor, extended, shifted, constant}
use Rattle.tcl_circuits.proofs.Adders.{adder_shows}
use Rattle.tcl_circuits.proofs.Chains.{difference_shows, negation_shows, less_shows, equal_shows, range_shows, choose_shows, both_show, differ_show, either_shows, extended_shows, shifted_shows, constant_shows}
use Rattle.tcl_circuits.proofs.Products.{product_shows}

own : {gates : List Gate} {free : List Bool} {l : ℕ} → l / 2 ≤ length gates → ShowsBit gates free l (lit_bit gates free l)
own h = record { within = h; value = refl }

word_of : {free : List Bool} {gs hs : List Gate} {ls ms : List ℕ} {bs : List Bool} → gs ≡ hs → ls ≡ ms → Shows hs free ms bs → word_bits gs free ls ≡ bs
word_of {free} {gs} {hs} {ls} {ms} e f h = ap₂ (λ g w. word_bits g free w) e f ∙ shows_bits h

lit_of : {free : List Bool} {gs hs : List Gate} {l m : ℕ} {b : Bool} → gs ≡ hs → l ≡ m → ShowsBit hs free m b → lit_bit gs free l ≡ b
lit_of {free} e f h = ap₂ (λ g w. lit_bit g free w) e f ∙ h.value

pub adder_word : (gates gates1 : List Gate) (xs ys word : List ℕ) (carry : ℕ) → AreWithin (length gates) xs → AreWithin (length gates) ys → carry / 2 ≤ length gates
    → gates1 ≡ (adder gates xs ys carry).gates → word ≡ (adder gates xs ys carry).word
    → (free : List Bool) → word_bits gates1 free word ≡ sum_bits (word_bits gates free xs) (word_bits gates free ys) (lit_bit gates free carry)
adder_word gates gates1 xs ys word carry h i j e f free = word_of e f (adder_shows (shows_own gates free xs h) (shows_own gates free ys i) (own j)).word

pub adder_carry : (gates gates1 : List Gate) (xs ys : List ℕ) (carry out : ℕ) → AreWithin (length gates) xs → AreWithin (length gates) ys → carry / 2 ≤ length gates
    → gates1 ≡ (adder gates xs ys carry).gates → out ≡ (adder gates xs ys carry).carry
    → (free : List Bool) → lit_bit gates1 free out ≡ carry_out (word_bits gates free xs) (word_bits gates free ys) (lit_bit gates free carry)
adder_carry gates gates1 xs ys carry out h i j e f free = lit_of e f (adder_shows (shows_own gates free xs h) (shows_own gates free ys i) (own j)).carry

pub difference_word : (gates gates1 : List Gate) (xs ys word : List ℕ) (borrow : ℕ) → AreWithin (length gates) xs → AreWithin (length gates) ys → borrow / 2 ≤ length gates
    → gates1 ≡ (difference gates xs ys borrow).gates → word ≡ (difference gates xs ys borrow).word
    → (free : List Bool) → word_bits gates1 free word ≡ difference_bits (word_bits gates free xs) (word_bits gates free ys) (lit_bit gates free borrow)
difference_word gates gates1 xs ys word borrow h i j e f free = word_of e f (difference_shows (shows_own gates free xs h) (shows_own gates free ys i) (own j)).word

pub difference_borrow : (gates gates1 : List Gate) (xs ys : List ℕ) (borrow out : ℕ) → AreWithin (length gates) xs → AreWithin (length gates) ys → borrow / 2 ≤ length gates
    → gates1 ≡ (difference gates xs ys borrow).gates → out ≡ (difference gates xs ys borrow).carry
    → (free : List Bool) → lit_bit gates1 free out ≡ borrow_out (word_bits gates free xs) (word_bits gates free ys) (lit_bit gates free borrow)
difference_borrow gates gates1 xs ys borrow out h i j e f free = lit_of e f (difference_shows (shows_own gates free xs h) (shows_own gates free ys i) (own j)).carry

pub negation_word : (gates gates1 : List Gate) (xs word : List ℕ) → AreWithin (length gates) xs → gates1 ≡ (negation gates xs).gates → word ≡ (negation gates xs).word
    → (free : List Bool) → word_bits gates1 free word ≡ negation_bits (word_bits gates free xs)
negation_word gates gates1 xs word h e f free = word_of e f (negation_shows (shows_own gates free xs h)).word

pub product_word : (gates gates1 : List Gate) (xs ys word : List ℕ) → AreWithin (length gates) xs → AreWithin (length gates) ys → gates1 ≡ (product gates xs ys).gates → word ≡ (product gates xs ys).word
    → (free : List Bool) → word_bits gates1 free word ≡ product_bits (word_bits gates free xs) (word_bits gates free ys)
product_word gates gates1 xs ys word h i e f free = word_of e f (product_shows (shows_own gates free xs h) (shows_own gates free ys i)).word

pub and_word : (gates gates1 : List Gate) (xs ys word : List ℕ) → AreWithin (length gates) xs → AreWithin (length gates) ys → gates1 ≡ (bitwise_and gates xs ys).gates → word ≡ (bitwise_and gates xs ys).word
    → (free : List Bool) → word_bits gates1 free word ≡ met_bits (λ x y. x && y) (word_bits gates free xs) (word_bits gates free ys)
and_word gates gates1 xs ys word h i e f free = word_of e f (both_show (shows_own gates free xs h) (shows_own gates free ys i)).word

pub xor_word : (gates gates1 : List Gate) (xs ys word : List ℕ) → AreWithin (length gates) xs → AreWithin (length gates) ys → gates1 ≡ (bitwise_xor gates xs ys).gates → word ≡ (bitwise_xor gates xs ys).word
    → (free : List Bool) → word_bits gates1 free word ≡ met_bits xor_bit (word_bits gates free xs) (word_bits gates free ys)
xor_word gates gates1 xs ys word h i e f free = word_of e f (differ_show (shows_own gates free xs h) (shows_own gates free ys i)).word

pub or_word : (gates gates1 : List Gate) (xs ys word : List ℕ) → AreWithin (length gates) xs → AreWithin (length gates) ys → gates1 ≡ (bitwise_or gates xs ys).gates → word ≡ (bitwise_or gates xs ys).word
    → (free : List Bool) → word_bits gates1 free word ≡ met_bits (λ x y. x || y) (word_bits gates free xs) (word_bits gates free ys)
or_word gates gates1 xs ys word h i e f free = word_of e f (either_shows (shows_own gates free xs h) (shows_own gates free ys i)).word

pub chosen_word : (gates gates1 : List Gate) (c : ℕ) (xs ys word : List ℕ) → c / 2 ≤ length gates → AreWithin (length gates) xs → AreWithin (length gates) ys
    → gates1 ≡ (choose gates c xs ys).gates → word ≡ (choose gates c xs ys).word
    → (free : List Bool) → word_bits gates1 free word ≡ chosen_bits (lit_bit gates free c) (word_bits gates free xs) (word_bits gates free ys)
chosen_word gates gates1 c xs ys word j h i e f free = word_of e f (choose_shows (own j) (shows_own gates free xs h) (shows_own gates free ys i)).word

pub less_lit : (gates gates1 : List Gate) (signed : Bool) (xs ys : List ℕ) (lit : ℕ) → AreWithin (length gates) xs → AreWithin (length gates) ys → gates1 ≡ (less gates signed xs ys).gates → lit ≡ (less gates signed xs ys).lit
    → (free : List Bool) → lit_bit gates1 free lit ≡ less_bit signed (word_bits gates free xs) (word_bits gates free ys)
less_lit gates gates1 signed xs ys lit h i e f free = lit_of e f (less_shows signed (shows_own gates free xs h) (shows_own gates free ys i)).shows

pub equal_lit : (gates gates1 : List Gate) (xs ys : List ℕ) (lit : ℕ) → AreWithin (length gates) xs → AreWithin (length gates) ys → gates1 ≡ (equal gates xs ys).gates → lit ≡ (equal gates xs ys).lit
    → (free : List Bool) → lit_bit gates1 free lit ≡ equal_bit (word_bits gates free xs) (word_bits gates free ys)
equal_lit gates gates1 xs ys lit h i e f free = lit_of e f (equal_shows (shows_own gates free xs h) (shows_own gates free ys i)).shows

pub range_lit : (gates gates1 : List Gate) (signed : Bool) (width : ℕ) (xs : List ℕ) (lit : ℕ) → AreWithin (length gates) xs → gates1 ≡ (in_range gates signed width xs).gates → lit ≡ (in_range gates signed width xs).lit
    → (free : List Bool) → lit_bit gates1 free lit ≡ range_bit signed width (word_bits gates free xs)
range_lit gates gates1 signed width xs lit h e f free = lit_of e f (range_shows signed width (shows_own gates free xs h)).shows

-- words without a gate
pub flipped_value : (word xs : List ℕ) → word ≡ map neg xs → (gates : List Gate) (free : List Bool) → AreWithin (length gates) xs → word_bits gates free word ≡ flipped_bits (word_bits gates free xs)
flipped_value word xs e gates free h = word_of refl e (neg_word (shows_own gates free xs h))

pub extended_value : (word xs : List ℕ) (signed : Bool) (width : ℕ) → word ≡ extended signed width xs
    → (gates : List Gate) (free : List Bool) → AreWithin (length gates) xs → word_bits gates free word ≡ extended_bits signed width (word_bits gates free xs)
extended_value word xs signed width e gates free h = word_of refl e (extended_shows signed width (shows_own gates free xs h))

pub shifted_value : (word xs : List ℕ) (count : ℕ) → word ≡ shifted count xs
    → (gates : List Gate) (free : List Bool) → AreWithin (length gates) xs → word_bits gates free word ≡ shifted_bits count (word_bits gates free xs)
shifted_value word xs count e gates free h = word_of refl e (shifted_shows count (shows_own gates free xs h))

pub constant_value : (word : List ℕ) (width : ℕ) (n : ℤ) → word ≡ constant width n
    → (gates : List Gate) (free : List Bool) → word_bits gates free word ≡ number_bits width (unsigned_abs (int_rem_euclid n (pos (2 ^ width))))
constant_value word width n e gates free = word_of refl e (constant_shows gates free width n)
