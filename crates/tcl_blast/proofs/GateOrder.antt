-- Circuits keep the order of gates: the literals of each gate that they make are of variable 0 or of earlier gates.
use Rattle.std.proofs.Common.{◌≡◌, inl, inr, ℕ, zero, suc, ◌+◌, ◌-◌, ◌/◌, ◌<◌, ◌≤◌, Bool, true, false, List, [], ◌∷◌, ◌++◌, length, map, take, drop, replicate, Some, slice_get, refl, sym, ◌∙◌, ap, subst, arith, length-append}
use Rattle.std.proofs.lemmas.Bool.{cases_lt}
use Rattle.std.proofs.lemmas.Option.{same_Some, slice_get_within}
use Rattle.tcl_cnf.specs.Literal.{neg}
use Rattle.tcl_cnf.proofs.Members.{neg-half}
use Rattle.tcl_gates.specs.declared.gate.Gate.{Gate}
use Rattle.tcl_gates.specs.declared.gate.Gate.TheVariants.{And, Xor, Major}
use Rattle.tcl_gates.specs.Gates.{is_free, IsBelow, AreGates}
use Rattle.tcl_gates.specs.Meaning.{next_lit, AreWithin, Begins}
use Rattle.tcl_gates.proofs.Shown.{begins_same, begins_push, begins_trans, begins_length, within_none, within_tail, within_append, within_one, within_grown, within_negated, within_take, within_drop, within_copies}
use Rattle.tcl_circuits.specs.declared.links.Meet.{Meet}
use Rattle.tcl_circuits.specs.declared.links.Link.{Link}
use Rattle.tcl_circuits.specs.Wires.{Wire, Wires, Carried}
use Rattle.tcl_circuits.specs.Circuits.{add_lit, add_lits, adder, meet_gate, wires, wire, meet_lit, meet_lits, meet, link, links, chain, compared, negated, less, equal, choose, in_range, row_added, rows_added, product, difference, negation, bitwise_and, bitwise_xor, bitwise_or, MeetWithin}
use Rattle.tcl_circuits.proofs.Within.{within_last, within_compared}

-- more gates behind, of which none is free, and which are in order where those before are
pub record Grows (old new : List Gate) : Type 0 where
  pub begins : Begins old new
  pub ordered : AreGates old → AreGates new
  pub fixed : (k : ℕ) (h : Gate) → length old ≤ k → slice_get new k ≡ Some h → is_free h ≡ false

pub grows_same : (gs : List Gate) → Grows gs gs
grows_same gs = record { begins = begins_same gs; ordered = λ a. a; fixed = λ k h more e. absurd (omega (arith, more, slice_get_within gs k h e)) }

kept_item : (gs more : List Gate) (h : Gate) (k : ℕ) → k < length gs → slice_get (gs ++ more) k ≡ Some h → slice_get gs k ≡ Some h
kept_item [] more h k less e = absurd (omega (arith, less))
kept_item (g ∷ gs) more h zero less e = e
kept_item (g ∷ gs) more h (suc k) less e = kept_item gs more h k (omega (arith, less)) e

pub grows_trans : {gs hs is : List Gate} → Grows gs hs → Grows hs is → Grows gs is
grows_trans {gs} {hs} {is} a b = record { begins = begins_trans a.begins b.begins; ordered = λ g. b.ordered (a.ordered g); fixed = fixed }
  where
    fixed : (k : ℕ) (h : Gate) → length gs ≤ k → slice_get is k ≡ Some h → is_free h ≡ false
    fixed k h more e = elim (cases_lt k (length hs)) [
      | inl less ↦ a.fixed k h more (kept_item hs b.begins.more h k less (ap (λ t. slice_get t k) (sym b.begins.is) ∙ e))
      | inr behind ↦ b.fixed k h behind e
    ]

pub grows_length : {gs hs : List Gate} → Grows gs hs → length gs ≤ length hs
grows_length a = begins_length a.begins

left_item : (gs : List Gate) (gate h : Gate) (k : ℕ) → k < length gs → slice_get (gs ++ gate ∷ []) k ≡ Some h → slice_get gs k ≡ Some h
left_item [] gate h k less e = absurd (omega arith)
left_item (g ∷ gs) gate h zero less e = e
left_item (g ∷ gs) gate h (suc k) less e = left_item gs gate h k (omega arith) e

last_item : (gs : List Gate) (gate h : Gate) (k : ℕ) → length gs ≤ k → slice_get (gs ++ gate ∷ []) k ≡ Some h → (k ≡ length gs) × (gate ≡ h)
last_item [] gate h zero less e = (refl, same_Some gate h e)
last_item [] gate h (suc k) less e = absurd (cc)
last_item (g ∷ gs) gate h zero less e = absurd (omega arith)
last_item (g ∷ gs) gate h (suc k) less e = let r = last_item gs gate h k (omega arith) e in (ap suc r.0, r.1)

pub grows_push : (gs : List Gate) (gate : Gate) → is_free gate ≡ false → IsBelow (length gs + 1) gate → Grows gs (gs ++ gate ∷ [])
grows_push gs gate f b = record { begins = begins_push gs gate; ordered = λ a. record { each = each a }; fixed = λ k h more e. subst (λ g. is_free g ≡ false) (last_item gs gate h k more e).1 f }
  where
    each : AreGates gs → (k : ℕ) (h : Gate) → slice_get (gs ++ gate ∷ []) k ≡ Some h → IsBelow (k + 1) h
    each a k h e = elim (cases_lt k (length gs)) [
      | inl less ↦ a.each k h (left_item gs gate h k less e)
      | inr more ↦ let r = last_item gs gate h k more e in subst (λ g. IsBelow (k + 1) g) r.1 (subst (λ n. IsBelow (n + 1) gate) (sym r.0) b)
    ]

-- what a circuit gives, within its gates
pub record CarryMade (old : List Gate) (s : Carried) : Type 0 where
  pub grows : Grows old s.gates
  pub word : AreWithin (length s.gates) s.word
  pub carry : s.carry / 2 ≤ length s.gates

pub record WordMade (old : List Gate) (s : Wires) : Type 0 where
  pub grows : Grows old s.gates
  pub word : AreWithin (length s.gates) s.word

pub record LitMade (old : List Gate) (s : Wire) : Type 0 where
  pub grows : Grows old s.gates
  pub lit : s.lit / 2 ≤ length s.gates

pub pushed : (gs : List Gate) (gate : Gate) → length (gs ++ gate ∷ []) ≡ length gs + 1
pushed gs gate = length-append gs (gate ∷ []) ∙ omega arith

pub half_neg : (l n : ℕ) → l / 2 ≤ n → neg l / 2 ≤ n
half_neg l n h = omega (arith, h, neg-half l)

-- the adder
step_made : {old : List Gate} (s : Carried) (x y : ℕ) → CarryMade old s → x / 2 ≤ length s.gates → y / 2 ≤ length s.gates → CarryMade old (add_lit s x y)
step_made {old} s x y m a b =
    let halves = s.gates ++ Xor x y ∷ [] in
    let sums = halves ++ Xor (next_lit s.gates) s.carry ∷ [] in
    let all = sums ++ Major x y s.carry ∷ [] in
    let n : length halves ≡ length s.gates + 1 = pushed s.gates (Xor x y) in
    let k : length sums ≡ length halves + 1 = pushed halves (Xor (next_lit s.gates) s.carry) in
    let j : length all ≡ length sums + 1 = pushed sums (Major x y s.carry) in
    let c = m.carry in
    let first : Grows s.gates halves = grows_push s.gates (Xor x y) refl (omega (arith, a), omega (arith, b)) in
    let second : Grows halves sums = grows_push halves (Xor (next_lit s.gates) s.carry) refl (omega (arith, n), omega (arith, n, c)) in
    let third : Grows sums all = grows_push sums (Major x y s.carry) refl (omega (arith, n, k, a), omega (arith, n, k, b), omega (arith, n, k, c)) in
    record {
      grows = grows_trans m.grows (grows_trans first (grows_trans second third));
      word = within_append _ _ _ (within_grown (length s.gates) (length all) s.word (omega (arith, n, k, j)) m.word) (within_one _ _ (omega (arith, n, k, j)));
      carry = omega (arith, n, k, j);
    }

pub add_longer : (s : Carried) (x y : ℕ) → length s.gates ≤ length (add_lit s x y).gates
add_longer s x y =
    let halves = s.gates ++ Xor x y ∷ [] in
    let sums = halves ++ Xor (next_lit s.gates) s.carry ∷ [] in
    omega (arith, pushed s.gates (Xor x y), pushed halves (Xor (next_lit s.gates) s.carry), pushed sums (Major x y s.carry))

adds_made : {old : List Gate} (s : Carried) (xs ys : List ℕ) → CarryMade old s → AreWithin (length s.gates) xs → AreWithin (length s.gates) ys → CarryMade old (add_lits s xs ys)
unfolding add_lits
adds_made s [] ys m a b = m
adds_made s (x ∷ xs) [] m a b = m
adds_made s (x ∷ xs) (y ∷ ys) m a b =
    adds_made (add_lit s x y) xs ys (step_made s x y m (a.each 0 x refl) (b.each 0 y refl))
    (within_grown _ _ xs (add_longer s x y) (within_tail _ x xs a)) (within_grown _ _ ys (add_longer s x y) (within_tail _ y ys b))

pub adder_made : (gates : List Gate) (xs ys : List ℕ) (c : ℕ) → AreWithin (length gates) xs → AreWithin (length gates) ys → c / 2 ≤ length gates → CarryMade gates (adder gates xs ys c)
unfolding adder
adder_made gates xs ys c a b h = adds_made (record { gates = gates; word = []; carry = c }) xs ys (record { grows = grows_same gates; word = within_none _; carry = h }) a b

pub difference_made : (gates : List Gate) (xs ys : List ℕ) (c : ℕ) → AreWithin (length gates) xs → AreWithin (length gates) ys → c / 2 ≤ length gates → CarryMade gates (difference gates xs ys c)
unfolding difference
difference_made gates xs ys c a b h =
    let m = adder_made gates xs (map neg ys) (neg c) a (within_negated _ ys b) (half_neg c _ h) in
    record { grows = m.grows; word = m.word; carry = half_neg _ _ m.carry }

pub negation_made : (gates : List Gate) (xs : List ℕ) → AreWithin (length gates) xs → WordMade gates (negation gates xs)
unfolding negation
negation_made gates xs a =
    let m = adder_made gates (replicate (length xs) 1) (map neg xs) 0 (within_copies _ (length xs) 1 (omega arith)) (within_negated _ xs a) (omega arith) in
    record { grows = m.grows; word = m.word }

-- two words met bit by bit
meet_grown : (kind : Meet) (n m : ℕ) → n ≤ m → MeetWithin n kind → MeetWithin m kind
meet_grown Meet.And n m h w = tt
meet_grown Meet.Xor n m h w = tt
meet_grown (Meet.Choice c) n m h w = omega (arith, h, w)

meet_below : (kind : Meet) (n x y : ℕ) → MeetWithin n kind → x / 2 ≤ n → y / 2 ≤ n → IsBelow (n + 1) (meet_gate kind x y)
meet_below Meet.And n x y w a b = (omega (arith, a), omega (arith, b))
meet_below Meet.Xor n x y w a b = (omega (arith, a), omega (arith, b))
meet_below (Meet.Choice c) n x y w a b = (omega (arith, w), omega (arith, a), omega (arith, b))

meet_fixed : (kind : Meet) (x y : ℕ) → is_free (meet_gate kind x y) ≡ false
meet_fixed Meet.And x y = refl
meet_fixed Meet.Xor x y = refl
meet_fixed (Meet.Choice c) x y = refl

meets_made : {old : List Gate} (kind : Meet) (s : Wires) (xs ys : List ℕ) → MeetWithin (length s.gates) kind → WordMade old s → AreWithin (length s.gates) xs → AreWithin (length s.gates) ys → WordMade old (meet_lits kind s xs ys)
unfolding meet_lits
meets_made kind s [] ys w m a b = m
meets_made kind s (x ∷ xs) [] w m a b = m
meets_made {old} kind s (x ∷ xs) (y ∷ ys) w m a b =
    let gate = meet_gate kind x y in
    let next = s.gates ++ gate ∷ [] in
    let n : length next ≡ length s.gates + 1 = pushed s.gates gate in
    let longer : length s.gates ≤ length next = omega (arith, n) in
    let made : WordMade old (meet_lit kind s x y) = record {
      grows = grows_trans m.grows (grows_push s.gates gate (meet_fixed kind x y) (meet_below kind (length s.gates) x y w (a.each 0 x refl) (b.each 0 y refl)));
      word = within_append _ _ _ (within_grown (length s.gates) (length next) s.word longer m.word) (within_one _ _ (omega (arith, n)));
    } in
    meets_made kind (meet_lit kind s x y) xs ys (meet_grown kind (length s.gates) (length next) longer w) made
    (within_grown _ _ xs longer (within_tail _ x xs a)) (within_grown _ _ ys longer (within_tail _ y ys b))

pub meet_made : (kind : Meet) (gates : List Gate) (xs ys : List ℕ) → MeetWithin (length gates) kind → AreWithin (length gates) xs → AreWithin (length gates) ys → WordMade gates (meet kind gates xs ys)
unfolding meet
meet_made kind gates xs ys w a b = meets_made kind (wires gates []) xs ys w (record { grows = grows_same gates; word = within_none _ }) a b

pub and_made : (gates : List Gate) (xs ys : List ℕ) → AreWithin (length gates) xs → AreWithin (length gates) ys → WordMade gates (bitwise_and gates xs ys)
unfolding bitwise_and
and_made gates xs ys a b = meet_made Meet.And gates xs ys tt a b

pub xor_made : (gates : List Gate) (xs ys : List ℕ) → AreWithin (length gates) xs → AreWithin (length gates) ys → WordMade gates (bitwise_xor gates xs ys)
unfolding bitwise_xor
xor_made gates xs ys a b = meet_made Meet.Xor gates xs ys tt a b

pub or_made : (gates : List Gate) (xs ys : List ℕ) → AreWithin (length gates) xs → AreWithin (length gates) ys → WordMade gates (bitwise_or gates xs ys)
unfolding bitwise_or
or_made gates xs ys a b =
    let m = meet_made Meet.And gates (map neg xs) (map neg ys) tt (within_negated _ xs a) (within_negated _ ys b) in
    record { grows = m.grows; word = within_negated _ _ m.word }

pub choose_made : (gates : List Gate) (c : ℕ) (xs ys : List ℕ) → c / 2 ≤ length gates → AreWithin (length gates) xs → AreWithin (length gates) ys → WordMade gates (choose gates c xs ys)
unfolding choose
choose_made gates c xs ys h a b = meet_made (Meet.Choice c) gates xs ys h a b

-- chains
link_made : {old : List Gate} (kind : Link) (s : Wire) (x y : ℕ) → LitMade old s → x / 2 ≤ length s.gates → y / 2 ≤ length s.gates → LitMade old (link kind s x y)
link_made Link.Less s x y m a b =
    let gate = Major x (neg y) s.lit in
    let n = pushed s.gates gate in
    let c = m.lit in
    record { grows = grows_trans m.grows (grows_push s.gates gate refl (omega (arith, a), omega (arith, half_neg y _ b), omega (arith, c))); lit = omega (arith, n) }
link_made Link.Equal s x y m a b =
    let pair = s.gates ++ Xor x y ∷ [] in
    let n : length pair ≡ length s.gates + 1 = pushed s.gates (Xor x y) in
    let gate = And s.lit (neg (next_lit s.gates)) in
    let k : length (pair ++ gate ∷ []) ≡ length pair + 1 = pushed pair gate in
    let c = m.lit in
    record {
      grows = grows_trans m.grows (grows_trans (grows_push s.gates (Xor x y) refl (omega (arith, a), omega (arith, b))) (grows_push pair gate refl (omega (arith, n, c), omega (arith, n, neg-half (next_lit s.gates)))));
      lit = omega (arith, n, k);
    }
link_made Link.Clear s x y m a b =
    let gate = And s.lit (neg x) in
    let n = pushed s.gates gate in
    let c = m.lit in
    record { grows = grows_trans m.grows (grows_push s.gates gate refl (omega (arith, c), omega (arith, half_neg x _ a))); lit = omega (arith, n) }

pub link_longer : (kind : Link) (s : Wire) (x y : ℕ) → length s.gates ≤ length (link kind s x y).gates
link_longer Link.Less s x y = omega (arith, pushed s.gates (Major x (neg y) s.lit))
link_longer Link.Equal s x y = omega (arith, pushed s.gates (Xor x y), pushed (s.gates ++ Xor x y ∷ []) (And s.lit (neg (next_lit s.gates))))
link_longer Link.Clear s x y = omega (arith, pushed s.gates (And s.lit (neg x)))

links_made : {old : List Gate} (kind : Link) (s : Wire) (xs ys : List ℕ) → LitMade old s → AreWithin (length s.gates) xs → AreWithin (length s.gates) ys → LitMade old (links kind s xs ys)
unfolding links
links_made kind s [] ys m a b = m
links_made kind s (x ∷ xs) [] m a b = m
links_made kind s (x ∷ xs) (y ∷ ys) m a b =
    links_made kind (link kind s x y) xs ys (link_made kind s x y m (a.each 0 x refl) (b.each 0 y refl))
    (within_grown _ _ xs (link_longer kind s x y) (within_tail _ x xs a)) (within_grown _ _ ys (link_longer kind s x y) (within_tail _ y ys b))

pub chain_made : (kind : Link) (gates : List Gate) (xs ys : List ℕ) → AreWithin (length gates) xs → AreWithin (length gates) ys → LitMade gates (chain kind gates xs ys)
unfolding chain
chain_made kind gates xs ys a b = links_made kind (wire gates 0) xs ys (record { grows = grows_same gates; lit = omega arith }) a b

pub negated_made : {old : List Gate} {s : Wire} → LitMade old s → LitMade old (negated s)
negated_made {old} {s} m = record { grows = m.grows; lit = half_neg s.lit _ m.lit }

pub less_made : (gates : List Gate) (signed : Bool) (xs ys : List ℕ) → AreWithin (length gates) xs → AreWithin (length gates) ys → LitMade gates (less gates signed xs ys)
unfolding less
less_made gates signed xs ys a b = negated_made (chain_made Link.Less gates (compared signed xs) (compared signed ys) (within_compared _ signed xs a) (within_compared _ signed ys b))

pub equal_made : (gates : List Gate) (xs ys : List ℕ) → AreWithin (length gates) xs → AreWithin (length gates) ys → LitMade gates (equal gates xs ys)
unfolding equal
equal_made gates xs ys a b = chain_made Link.Equal gates xs ys a b

pub range_made : (gates : List Gate) (signed : Bool) (width : ℕ) (ls : List ℕ) → AreWithin (length gates) ls → LitMade gates (in_range gates signed width ls)
unfolding in_range
range_made gates true width ls a =
    chain_made Link.Equal gates _ _ (within_drop _ width ls a) (within_copies _ (length ls - width) _ (within_last _ 1 (take width ls) (omega arith) (within_take _ width ls a)))
range_made gates false width ls a = chain_made Link.Clear gates _ _ (within_drop _ width ls a) (within_drop _ width ls a)

-- the product
row_made : {old : List Gate} (xs : List ℕ) (place : ℕ) (s : Wires) (y : ℕ) → WordMade old s → AreWithin (length s.gates) xs → y / 2 ≤ length s.gates → WordMade s.gates (row_added xs place s y)
row_made xs place s y m a h =
    let count = length xs - place in
    let row = meet Meet.And s.gates (take count xs) (replicate count y) in
    let r = meet_made Meet.And s.gates (take count xs) (replicate count y) tt (within_take _ count xs a) (within_copies _ count y h) in
    let sum = adder_made row.gates (drop place s.word) row.word 1 (within_grown _ _ _ (grows_length r.grows) (within_drop _ place s.word m.word)) r.word (omega arith) in
    record {
      grows = grows_trans r.grows sum.grows;
      word = within_append _ _ _ (within_grown _ _ _ (grows_length (grows_trans r.grows sum.grows)) (within_take _ place s.word m.word)) sum.word;
    }

rows_made : {old : List Gate} (xs : List ℕ) (place : ℕ) (s : Wires) (ys : List ℕ) → WordMade old s → AreWithin (length s.gates) xs → AreWithin (length s.gates) ys → WordMade old (rows_added xs place s ys)
unfolding rows_added
rows_made xs place s [] m a b = m
rows_made {old} xs place s (y ∷ ys) m a b =
    let next = row_made xs place s y m a (b.each 0 y refl) in
    let longer = grows_length next.grows in
    let made : WordMade old (row_added xs place s y) = record { grows = grows_trans m.grows next.grows; word = next.word } in
    rows_made xs (place + 1) (row_added xs place s y) ys made (within_grown _ _ xs longer a) (within_grown _ _ ys longer (within_tail _ y ys b))

pub product_made : (gates : List Gate) (xs ys : List ℕ) → AreWithin (length gates) xs → AreWithin (length gates) ys → WordMade gates (product gates xs ys)
unfolding product
product_made gates xs [] a b = record { grows = grows_same gates; word = within_copies _ (length xs) 1 (omega arith) }
product_made gates xs (y ∷ ys) a b =
    let row = meet Meet.And gates xs (replicate (length xs) y) in
    let r = meet_made Meet.And gates xs (replicate (length xs) y) tt a (within_copies _ (length xs) y (b.each 0 y refl)) in
    let longer = grows_length r.grows in
    rows_made xs 1 row ys r (within_grown _ _ xs longer a) (within_grown _ _ ys longer (within_tail _ y ys b))
