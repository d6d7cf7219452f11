-- What the other circuits show.
use Rattle.std.proofs.Common.{◌≡◌, ℕ, ◌+◌, ◌-◌, ◌*◌, ◌/◌, ◌^◌, ◌<◌, ◌≤◌, ℤ, pos, unsigned_abs, zero, suc, Bool, true, false, not, ◌&&◌, ◌||◌, List, [], ◌∷◌, ◌++◌, length, map, take, drop, replicate, refl, sym, ◌∙◌, ap, ap₂, subst, arith, length-take, length-drop, take_all}
use Rattle.std.proofs.lemmas.List.{append-nil, append_assoc}
use Rattle.tcl_cnf.specs.Literal.{neg, literal_true}
use Rattle.tcl_gates.specs.Gates.{value_at, values_of}
use Rattle.tcl_gates.specs.declared.gate.Gate.{Gate}
use Rattle.tcl_gates.specs.declared.gate.Gate.TheVariants.{And, Xor, Major, Choice}
use Rattle.std.specs.Int.{int_rem_euclid}
use Rattle.tcl_bits.specs.Value.{number_bits}
use Rattle.tcl_bits.specs.Value.{last_bit, top_bit}
use Rattle.tcl_bits.specs.Circuit.{xor_bit, major_bit, choice_bit, sum_bits, carry_out, difference_bits, borrow_out, negation_bits, met_bits, chosen_bits, less_carry, less_bit, equal_chain, equal_bit, clear_chain, sign_chain, range_bit, top_flipped, fill_bit, extended_bits, shifted_bits, flipped_bits, no_bits}
use Rattle.tcl_circuits.specs.declared.links.Meet.{Meet}
use Rattle.tcl_circuits.specs.declared.links.Meet.TheVariants as Meet
use Rattle.tcl_circuits.specs.declared.links.Link.{Link}
use Rattle.tcl_circuits.specs.declared.links.Link.TheVariants as Link
use Rattle.tcl_gates.specs.Meaning.{next_lit, lit_bit, Begins, ShowsBit, Shows}
use Rattle.tcl_gates.specs.Meaning.Shows.{none, bit}
use Rattle.tcl_circuits.specs.Wires.{Wire, Wires, Carried}
use Rattle.tcl_circuits.specs.Circuits.{carried, adder, meet_gate, wires, wire, meet_lit, meet_lits, meet, link, links, chain, top_negated, compared, negated, less, equal, choose, last_lit, fill_lit, extended, in_range, difference, negation, bitwise_and, bitwise_xor, bitwise_or, shifted, constant_lit, constant}
use Rattle.tcl_gates.proofs.Shown.{begins_same, begins_push, begins_trans, bit_kept, word_kept, neg_shows, neg_word, shows_append, shows_one, shows_length, shows_take, shows_drop, shows_copies, true_shows, false_shows}
use Rattle.tcl_circuits.proofs.Bits.{and_shows, xor_shows, major_shows, choice_shows}
use Rattle.tcl_circuits.proofs.Adders.{ShowsCarried, adder_shows}

-- the gates grow, and the word shows these bits
pub record ShowsWires (free : List Bool) (before : List Gate) (s : Wires) (bits : List Bool) : Type 0 where
  pub grown : Begins before s.gates
  pub word : Shows s.gates free s.word bits

-- the gates grow, and the literal shows this bit
pub record ShowsWire (free : List Bool) (before : List Gate) (s : Wire) (b : Bool) : Type 0 where
  pub grown : Begins before s.gates
  pub shows : ShowsBit s.gates free s.lit b

-- what a kind of gate does to two bits; a choice is by this bit
abbrev pub meet_bit : Meet → Bool → Bool → Bool → Bool
meet_bit Meet.And k = λ x y. x && y
meet_bit Meet.Xor k = xor_bit
meet_bit (Meet.Choice c) k = choice_bit k

-- the literal by which it is chosen shows the bit
abbrev pub MeetShows : List Gate → List Bool → Meet → Bool → Type 0
MeetShows gates free Meet.And k = Unit {0}
MeetShows gates free Meet.Xor k = Unit {0}
MeetShows gates free (Meet.Choice c) k = ShowsBit gates free c k

meet_kept : (gs hs : List Gate) (free : List Bool) (kind : Meet) (k : Bool) → Begins gs hs → MeetShows gs free kind k → MeetShows hs free kind k
meet_kept gs hs free Meet.And k g m = tt
meet_kept gs hs free Meet.Xor k g m = tt
meet_kept gs hs free (Meet.Choice c) k g m = bit_kept g m

meet_gate_shows : {gs : List Gate} {free : List Bool} {x y : ℕ} {a b : Bool} (kind : Meet) (k : Bool) → MeetShows gs free kind k → ShowsBit gs free x a → ShowsBit gs free y b
    → ShowsBit (gs ++ meet_gate kind x y ∷ []) free (next_lit gs) (meet_bit kind k a b)
meet_gate_shows Meet.And k m s t = and_shows s t
meet_gate_shows Meet.Xor k m s t = xor_shows s t
meet_gate_shows (Meet.Choice c) k m s t = choice_shows m s t

meet_all : {free : List Bool} {before : List Gate} (kind : Meet) (k : Bool) (s : Wires) (xs ys : List ℕ) (bits : List Bool) {xbits ybits : List Bool}
    → MeetShows s.gates free kind k → ShowsWires free before s bits → Shows s.gates free xs xbits → Shows s.gates free ys ybits
    → ShowsWires free before (meet_lits kind s xs ys) (bits ++ met_bits (meet_bit kind k) xbits ybits)
unfolding meet_lits
meet_all {free} {before} kind k s [] ys bits m c none u = subst (λ w. ShowsWires free before s w) (sym (append-nil bits)) c
meet_all {free} {before} kind k s (x ∷ xs) [] bits m c (bit p t) none = subst (λ w. ShowsWires free before s w) (sym (append-nil bits)) c
meet_all {free} {before} kind k s (x ∷ xs) (y ∷ ys) bits m c (bit {b = a} {bs = xbits} p t) (bit {b = b} {bs = ybits} q u) =
    let grown = begins_push s.gates (meet_gate kind x y) in
    let next : ShowsWires free before (meet_lit kind s x y) (bits ++ meet_bit kind k a b ∷ []) = record {
      grown = begins_trans c.grown grown;
      word = shows_append (word_kept grown c.word) (shows_one (meet_gate_shows kind k m p q));
    } in
    subst (λ w. ShowsWires free before (meet_lits kind (meet_lit kind s x y) xs ys) w)
    (append_assoc bits (meet_bit kind k a b ∷ []) (met_bits (meet_bit kind k) xbits ybits))
    (meet_all kind k (meet_lit kind s x y) xs ys (bits ++ meet_bit kind k a b ∷ []) (meet_kept s.gates (meet_lit kind s x y).gates free kind k grown m) next (word_kept grown t) (word_kept grown u))

pub meet_shows : {free : List Bool} {gates : List Gate} {xs ys : List ℕ} {xbits ybits : List Bool} (kind : Meet) (k : Bool)
    → MeetShows gates free kind k → Shows gates free xs xbits → Shows gates free ys ybits → ShowsWires free gates (meet kind gates xs ys) (met_bits (meet_bit kind k) xbits ybits)
unfolding meet
meet_shows {free} {gates} {xs} {ys} kind k m t u = meet_all kind k (wires gates []) xs ys [] m (record { grown = begins_same gates; word = none }) t u

pub choose_shows : {free : List Bool} {gates : List Gate} {c : ℕ} {xs ys : List ℕ} {k : Bool} {xbits ybits : List Bool}
    → ShowsBit gates free c k → Shows gates free xs xbits → Shows gates free ys ybits → ShowsWires free gates (choose gates c xs ys) (chosen_bits k xbits ybits)
unfolding choose
choose_shows {c = c} {k = k} m t u = meet_shows (Meet.Choice c) k m t u

-- the bit that a link hands on
abbrev pub link_bit : Link → Bool → Bool → Bool → Bool
link_bit Link.Less c x y = major_bit x (not y) c
link_bit Link.Equal c x y = c && not (xor_bit x y)
link_bit Link.Clear c x y = c && not x

link_shows : {free : List Bool} {before : List Gate} {s : Wire} {x y : ℕ} {c a b : Bool} (kind : Link) → ShowsWire free before s c → ShowsBit s.gates free x a → ShowsBit s.gates free y b
    → ShowsWire free s.gates (link kind s x y) (link_bit kind c a b)
link_shows Link.Less c t u = record { grown = begins_push _ _; shows = major_shows t (neg_shows u) c.shows }
link_shows {s = s} {x = x} {y = y} Link.Equal c t u =
    let first = begins_push s.gates (Xor x y) in
    record { grown = begins_trans first (begins_push _ _); shows = and_shows (bit_kept first c.shows) (neg_shows (xor_shows t u)) }
link_shows Link.Clear c t u = record { grown = begins_push _ _; shows = and_shows c.shows (neg_shows t) }

-- the bit behind the last link
abbrev pub link_bits : Link → Bool → List Bool → List Bool → Bool
link_bits kind c [] ys = c
link_bits kind c (x ∷ xs) [] = c
link_bits kind c (x ∷ xs) (y ∷ ys) = link_bits kind (link_bit kind c x y) xs ys

links_show : {free : List Bool} {before : List Gate} (kind : Link) (s : Wire) (xs ys : List ℕ) {xbits ybits : List Bool} {c : Bool}
    → ShowsWire free before s c → Shows s.gates free xs xbits → Shows s.gates free ys ybits → ShowsWire free before (links kind s xs ys) (link_bits kind c xbits ybits)
unfolding links
links_show kind s [] ys c none u = c
links_show kind s (x ∷ xs) [] c (bit p t) none = c
links_show kind s (x ∷ xs) (y ∷ ys) c (bit p t) (bit q u) =
    let next = link_shows kind c p q in
    links_show kind (link kind s x y) xs ys (record { grown = begins_trans c.grown next.grown; shows = next.shows }) (word_kept next.grown t) (word_kept next.grown u)

pub chain_shows : {free : List Bool} {gates : List Gate} {xs ys : List ℕ} {xbits ybits : List Bool} (kind : Link)
    → Shows gates free xs xbits → Shows gates free ys ybits → ShowsWire free gates (chain kind gates xs ys) (link_bits kind true xbits ybits)
unfolding chain
chain_shows {free} {gates} {xs} {ys} kind t u = links_show kind (wire gates 0) xs ys (record { grown = begins_same gates; shows = true_shows gates free }) t u

less_is : (c : Bool) (xs ys : List Bool) → link_bits Link.Less c xs ys ≡ less_carry xs ys c
less_is c [] ys = refl
less_is c (x ∷ xs) [] = refl
less_is c (x ∷ xs) (y ∷ ys) = less_is (major_bit x (not y) c) xs ys

equal_is : (c : Bool) (xs ys : List Bool) → link_bits Link.Equal c xs ys ≡ equal_chain xs ys c
equal_is c [] ys = refl
equal_is c (x ∷ xs) [] = refl
equal_is c (x ∷ xs) (y ∷ ys) = equal_is (c && not (xor_bit x y)) xs ys

clear_is : (c : Bool) (xs : List Bool) → link_bits Link.Clear c xs xs ≡ clear_chain xs c
clear_is c [] = refl
clear_is c (x ∷ xs) = clear_is (c && not x) xs

sign_is : (c s : Bool) (xs : List Bool) → link_bits Link.Equal c xs (replicate (length xs) s) ≡ sign_chain s xs c
sign_is c s [] = refl
sign_is c s (x ∷ xs) = sign_is (c && not (xor_bit x s)) s xs

wire_is : {free : List Bool} {gates : List Gate} {s : Wire} {b c : Bool} → b ≡ c → ShowsWire free gates s b → ShowsWire free gates s c
wire_is {free} {gates} {s} e h = subst (λ t. ShowsWire free gates s t) e h

pub negated_shows : {free : List Bool} {gates : List Gate} {s : Wire} {b : Bool} → ShowsWire free gates s b → ShowsWire free gates (negated s) (not b)
negated_shows h = record { grown = h.grown; shows = neg_shows h.shows }

pub equal_shows : {free : List Bool} {gates : List Gate} {xs ys : List ℕ} {xbits ybits : List Bool} → Shows gates free xs xbits → Shows gates free ys ybits → ShowsWire free gates (equal gates xs ys) (equal_bit xbits ybits)
unfolding equal
equal_shows {xbits = xbits} {ybits = ybits} t u = wire_is (equal_is true xbits ybits) (chain_shows Link.Equal t u)

top_shows : {gates : List Gate} {free : List Bool} {ls : List ℕ} {bs : List Bool} → Shows gates free ls bs → Shows gates free (top_negated ls) (top_flipped bs)
top_shows none = none
top_shows (bit s none) = bit (neg_shows s) none
top_shows (bit s (bit t u)) = bit s (top_shows (bit t u))

pub less_shows : {free : List Bool} {gates : List Gate} {xs ys : List ℕ} {xbits ybits : List Bool} (signed : Bool) → Shows gates free xs xbits → Shows gates free ys ybits
    → ShowsWire free gates (less gates signed xs ys) (less_bit signed xbits ybits)
unfolding less
less_shows {xbits = xbits} {ybits = ybits} true t u = wire_is (ap not (less_is true (top_flipped xbits) (top_flipped ybits))) (negated_shows (chain_shows Link.Less (top_shows t) (top_shows u)))
less_shows {xbits = xbits} {ybits = ybits} false t u = wire_is (ap not (less_is true xbits ybits)) (negated_shows (chain_shows Link.Less t u))

last_shows : {gates : List Gate} {free : List Bool} {ls : List ℕ} {bs : List Bool} {l : ℕ} {b : Bool} → ShowsBit gates free l b → Shows gates free ls bs → ShowsBit gates free (last_lit l ls) (last_bit b bs)
last_shows s none = s
last_shows s (bit t u) = last_shows t u

fill_shows : {gates : List Gate} {free : List Bool} {ls : List ℕ} {bs : List Bool} (signed : Bool) → Shows gates free ls bs → ShowsBit gates free (fill_lit signed ls) (fill_bit signed bs)
fill_shows {gates} {free} true h = last_shows (false_shows gates free) h
fill_shows {gates} {free} false h = false_shows gates free

pub extended_shows : {gates : List Gate} {free : List Bool} {ls : List ℕ} {bs : List Bool} (signed : Bool) (width : ℕ) → Shows gates free ls bs → Shows gates free (extended signed width ls) (extended_bits signed width bs)
unfolding extended
extended_shows {gates} {free} {ls} {bs} signed width h =
    shows_append (shows_take width h)
    (subst (λ n. Shows gates free (replicate (width - length ls) (fill_lit signed ls)) (replicate (width - n) (fill_bit signed bs))) (shows_length h) (shows_copies (width - length ls) (fill_shows signed h)))

pub shifted_shows : {gates : List Gate} {free : List Bool} {ls : List ℕ} {bs : List Bool} (count : ℕ) → Shows gates free ls bs → Shows gates free (shifted count ls) (shifted_bits count bs)
unfolding shifted
shifted_shows {gates} {free} {ls} {bs} count h =
    shows_append (shows_copies count (false_shows gates free)) (subst (λ n. Shows gates free (take (length ls - count) ls) (take (n - count) bs)) (shows_length h) (shows_take (length ls - count) h))

pub range_shows : {free : List Bool} {gates : List Gate} {ls : List ℕ} {bs : List Bool} (signed : Bool) (width : ℕ) → Shows gates free ls bs → ShowsWire free gates (in_range gates signed width ls) (range_bit signed width bs)
unfolding in_range
range_shows {free} {gates} {ls} {bs} true width h =
    let top = top_bit (take width bs) in
    let sign : ShowsBit gates free (last_lit 1 (take width ls)) top = last_shows (false_shows gates free) (shows_take width h) in
    let count : length ls - width ≡ length (drop width bs) = omega (arith, shows_length h, length-drop width bs) in
    let signs : Shows gates free (replicate (length ls - width) (last_lit 1 (take width ls))) (replicate (length (drop width bs)) top) =
    subst (λ n. Shows gates free (replicate (length ls - width) (last_lit 1 (take width ls))) (replicate n top)) count (shows_copies (length ls - width) sign) in
    wire_is (sign_is true top (drop width bs)) (chain_shows Link.Equal (shows_drop width h) signs)
range_shows {bs = bs} false width h = wire_is (clear_is true (drop width bs)) (chain_shows Link.Clear (shows_drop width h) (shows_drop width h))

-- the difference, the negation, and the union
pub difference_shows : {free : List Bool} {gates : List Gate} {xs ys : List ℕ} {borrow : ℕ} {xbits ybits : List Bool} {c : Bool}
    → Shows gates free xs xbits → Shows gates free ys ybits → ShowsBit gates free borrow c
    → ShowsCarried free gates (difference gates xs ys borrow) (difference_bits xbits ybits c) (borrow_out xbits ybits c)
unfolding difference
difference_shows t u v =
    let s = adder_shows t (neg_word u) (neg_shows v) in
    record { grown = s.grown; word = s.word; carry = neg_shows s.carry }

pub negation_shows : {free : List Bool} {gates : List Gate} {xs : List ℕ} {xbits : List Bool} → Shows gates free xs xbits → ShowsWires free gates (negation gates xs) (negation_bits xbits)
unfolding negation
negation_shows {free} {gates} {xs} {xbits} t =
    let zeros : Shows gates free (replicate (length xs) 1) (no_bits (length xbits)) =
    subst (λ n. Shows gates free (replicate (length xs) 1) (no_bits n)) (shows_length t) (shows_copies (length xs) (false_shows gates free)) in
    let s = adder_shows zeros (neg_word t) (true_shows gates free) in
    record { grown = s.grown; word = s.word }

either_is : (xs ys : List Bool) → map not (met_bits (λ x y. x && y) (map not xs) (map not ys)) ≡ met_bits (λ x y. x || y) xs ys
either_is [] ys = refl
either_is (x ∷ xs) [] = refl
either_is (true ∷ xs) (y ∷ ys) = ap (λ t. true ∷ t) (either_is xs ys)
either_is (false ∷ xs) (true ∷ ys) = ap (λ t. true ∷ t) (either_is xs ys)
either_is (false ∷ xs) (false ∷ ys) = ap (λ t. false ∷ t) (either_is xs ys)

pub either_shows : {free : List Bool} {gates : List Gate} {xs ys : List ℕ} {xbits ybits : List Bool} → Shows gates free xs xbits → Shows gates free ys ybits
    → ShowsWires free gates (bitwise_or gates xs ys) (met_bits (λ x y. x || y) xbits ybits)
unfolding bitwise_or
either_shows {free} {gates} {xs} {ys} {xbits} {ybits} t u =
    let s = meet_shows Meet.And false tt (neg_word t) (neg_word u) in
    subst (λ w. ShowsWires free gates (wires (meet Meet.And gates (map neg xs) (map neg ys)).gates (map neg (meet Meet.And gates (map neg xs) (map neg ys)).word)) w) (either_is xbits ybits) (record { grown = s.grown; word = neg_word s.word })

pub both_show : {free : List Bool} {gates : List Gate} {xs ys : List ℕ} {xbits ybits : List Bool} → Shows gates free xs xbits → Shows gates free ys ybits
    → ShowsWires free gates (bitwise_and gates xs ys) (met_bits (λ x y. x && y) xbits ybits)
unfolding bitwise_and
both_show t u = meet_shows Meet.And false tt t u

pub differ_show : {free : List Bool} {gates : List Gate} {xs ys : List ℕ} {xbits ybits : List Bool} → Shows gates free xs xbits → Shows gates free ys ybits
    → ShowsWires free gates (bitwise_xor gates xs ys) (met_bits xor_bit xbits ybits)
unfolding bitwise_xor
differ_show t u = meet_shows Meet.Xor false tt t u

-- known bits
pub constants_show : (gates : List Gate) (free : List Bool) (bs : List Bool) → Shows gates free (map constant_lit bs) bs
constants_show gates free [] = none
constants_show gates free (true ∷ bs) = bit (true_shows gates free) (constants_show gates free bs)
constants_show gates free (false ∷ bs) = bit (false_shows gates free) (constants_show gates free bs)

pub constant_shows : (gates : List Gate) (free : List Bool) (width : ℕ) (n : ℤ) → Shows gates free (constant width n) (number_bits width (unsigned_abs (int_rem_euclid n (pos (2 ^ width)))))
unfolding constant
constant_shows gates free width n = constants_show gates free _
