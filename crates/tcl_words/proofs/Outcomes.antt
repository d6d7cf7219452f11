-- The results of each instruction show their bits.
use Rattle.std.proofs.Common.{ℕ, ◌*◌, Bool, List, [], ◌∷◌, length, subst, false, take, drop}
use Rattle.tcl_gates.specs.declared.gate.Gate.{Gate}
use Rattle.tcl_lang.specs.declared.ty.Ty.{Ty}
use Rattle.tcl_lang.specs.declared.instr.Op.{Op}
use Rattle.tcl_lang.specs.declared.instr.Op.TheVariants.{Mov, Add, Adds, Adc, Adcs, Sub, Subb, Sbb, Sbbs, Mul, Mull, Mulj, Shl, Split, Join, Cast, Vpc, Cmov, And, Or, Xor, Not, Nondet}
use Rattle.tcl_bits.specs.Circuit.{extended_bits, product_bits}
use Rattle.tcl_bits.specs.Exactness.{full_product}
use Rattle.tcl_circuits.proofs.Adders.{ShowsCarried, adder_shows}
use Rattle.tcl_circuits.proofs.Chains.{ShowsWires, both_show, differ_show, choose_shows, either_shows, difference_shows, extended_shows, shifted_shows}
use Rattle.tcl_circuits.proofs.Products.{product_shows}
use Rattle.tcl_circuits.specs.Wires.{Wires, Carried}
use Rattle.tcl_gates.proofs.Shown.{begins_same, shows_append, shows_one, shows_length, neg_word, false_shows, shows_take, shows_drop}
use Rattle.tcl_gates.specs.Meaning.{ShowsBit, Shows}
use Rattle.tcl_words.specs.Instructions.{outcome, sum_alone, carry_first, one_word, high_first, first_lit, first_bit, wide_product, result_lits, result_bits}
use Rattle.tcl_words.specs.Words.{ShowsOutcome}
use Rattle.tcl_gates.specs.Meaning.Shows.{none as no_lits, bit as one_lit}
use Rattle.tcl_words.specs.Words.ShowsAll.{none, word}

pub first_shows : {gates : List Gate} {free : List Bool} {ls : List ℕ} {bs : List Bool} → Shows gates free ls bs → ShowsBit gates free (first_lit ls) (first_bit bs)
first_shows {gates} {free} no_lits = false_shows gates free
first_shows (one_lit s t) = s

old_word : {free : List Bool} {gates : List Gate} {ls : List ℕ} {bs : List Bool} → Shows gates free ls bs → ShowsOutcome free gates (outcome gates (ls ∷ [])) (bs ∷ [])
old_word {gates = gates} h = record { grown = begins_same gates; words = word h none }

new_word : {free : List Bool} {gates : List Gate} {s : Wires} {bs : List Bool} → ShowsWires free gates s bs → ShowsOutcome free gates (one_word s) (bs ∷ [])
new_word h = record { grown = h.grown; words = word h.word none }

high_low : {free : List Bool} {gates : List Gate} {s : Wires} {bs : List Bool} (n : ℕ) → ShowsWires free gates s bs → ShowsOutcome free gates (high_first n s) (drop n bs ∷ take n bs ∷ [])
high_low n h = record { grown = h.grown; words = word (shows_drop n h.word) (word (shows_take n h.word) none) }

the_sum : {free : List Bool} {gates : List Gate} {s : Carried} {bs : List Bool} {c : Bool} → ShowsCarried free gates s bs c → ShowsOutcome free gates (sum_alone s) (bs ∷ [])
the_sum h = record { grown = h.grown; words = word h.word none }

with_carry : {free : List Bool} {gates : List Gate} {s : Carried} {bs : List Bool} {c : Bool} → ShowsCarried free gates s bs c → ShowsOutcome free gates (carry_first s) ((c ∷ []) ∷ bs ∷ [])
with_carry h = record { grown = h.grown; words = word (shows_one h.carry) (word h.word none) }

pub wide_shows : {free : List Bool} {gates : List Gate} {xs ys : List ℕ} {xbits ybits : List Bool} (signed : Bool) → Shows gates free xs xbits → Shows gates free ys ybits
    → ShowsWires free gates (wide_product gates signed xs ys) (full_product signed xbits ybits)
wide_shows {free} {gates} {xs} {ys} {xbits} {ybits} signed t u =
    subst (λ n. ShowsWires free gates (wide_product gates signed xs ys) (product_bits (extended_bits signed (2 * n) xbits) (extended_bits signed (2 * n) ybits))) (shows_length t)
    (product_shows (extended_shows signed (2 * length xs) t) (extended_shows signed (2 * length xs) u))

pub outcome_shows : {free : List Bool} {gates : List Gate} {a b c : List ℕ} {xs ys zs : List Bool} (op : Op) (T S : Ty) (n : ℕ)
    → Shows gates free a xs → Shows gates free b ys → Shows gates free c zs → ShowsOutcome free gates (result_lits gates op T S n a b c) (result_bits op T S n xs ys zs)
outcome_shows Mov T S n t u v = old_word t
outcome_shows {free} {gates} Add T S n t u v = the_sum (adder_shows t u (false_shows gates free))
outcome_shows {free} {gates} Adds T S n t u v = with_carry (adder_shows t u (false_shows gates free))
outcome_shows Adc T S n t u v = the_sum (adder_shows t u (first_shows v))
outcome_shows Adcs T S n t u v = with_carry (adder_shows t u (first_shows v))
outcome_shows {free} {gates} Sub T S n t u v = the_sum (difference_shows t u (false_shows gates free))
outcome_shows {free} {gates} Subb T S n t u v = with_carry (difference_shows t u (false_shows gates free))
outcome_shows Sbb T S n t u v = the_sum (difference_shows t u (first_shows v))
outcome_shows Sbbs T S n t u v = with_carry (difference_shows t u (first_shows v))
outcome_shows Mul T S n t u v = new_word (product_shows t u)
outcome_shows Mull T S n t u v = high_low T.width (wide_shows T.signed t u)
outcome_shows Mulj T S n t u v = new_word (wide_shows T.signed t u)
outcome_shows Shl T S n t u v = old_word (shifted_shows n t)
outcome_shows {gates = gates} Split T S n t u v = record { grown = begins_same gates; words = word (extended_shows T.signed T.width (shows_drop n t)) (word (extended_shows false T.width (shows_take n t)) none) }
outcome_shows Join T S n t u v = old_word (shows_append u t)
outcome_shows Cast T S n t u v = old_word (extended_shows S.signed T.width t)
outcome_shows Vpc T S n t u v = old_word (extended_shows S.signed T.width t)
outcome_shows Cmov T S n t u v = new_word (choose_shows (first_shows t) u v)
outcome_shows And T S n t u v = new_word (both_show t u)
outcome_shows Or T S n t u v = new_word (either_shows t u)
outcome_shows Xor T S n t u v = new_word (differ_show t u)
outcome_shows Not T S n t u v = old_word (neg_word t)
outcome_shows Nondet T S n t u v = old_word t
