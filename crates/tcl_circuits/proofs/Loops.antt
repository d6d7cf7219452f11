-- The loops of the circuits that go bit by bit: what is made so far, with what is left, is the whole.
use Rattle.std.proofs.Common.{◌≡◌, inl, inr, min, Bool, true, false, ℕ, ◌+◌, ◌*◌, ◌/◌, ◌<◌, ◌≤◌, List, [], ◌∷◌, ◌++◌, length, map, take, replicate, ◌-◌, drop, get_or, Some, slice_get, refl, sym, ◌∙◌, ap, ap₂, subst, arith, length-append, drop-cons, drop_of_length-le, add-one}
use Rattle.std.proofs.lemmas.List.{append-nil, append_assoc}
use Rattle.tcl_cnf.specs.Literal.{neg}
use Rattle.tcl_gates.specs.declared.gate.Gate.{Gate}
use Rattle.tcl_gates.specs.declared.gate.Gate.TheVariants.{And, Xor, Major, Choice}
use Rattle.tcl_circuits.specs.declared.links.Meet.{Meet}
use Rattle.tcl_circuits.specs.declared.links.Meet.TheVariants as Meet
use Rattle.tcl_circuits.specs.declared.links.Link.{Link}
use Rattle.tcl_circuits.specs.declared.links.Link.TheVariants as Link
use Rattle.tcl_gates.specs.Meaning.{next_lit, AreWithin, Begins, IsPart}
use Rattle.tcl_circuits.specs.Wires.{Wire, Wires}
use Rattle.tcl_circuits.specs.Circuits.{last_lit, wires, wire, meet_gate, meet_lit, meet_lits, meet, link, links, chain, less, equal, choose, bitwise_and, bitwise_or, bitwise_xor, negation, difference, in_range, adder}
use Rattle.tcl_gates.proofs.Shown.{begins_same, begins_push, begins_trans, begins_length, within_none, within_append, within_grown, within_one}
use Rattle.tcl_circuits.proofs.Within.{short}
use Rattle.tcl_circuits.proofs.Adders.{drop_is, adder_begins}

-- meeting
meets_begin : (kind : Meet) (s : Wires) (xs ys : List ℕ) → Begins s.gates (meet_lits kind s xs ys).gates
unfolding meet_lits
meets_begin kind s [] ys = begins_same s.gates
meets_begin kind s (x ∷ xs) [] = begins_same s.gates
meets_begin kind s (x ∷ xs) (y ∷ ys) = begins_trans (begins_push s.gates (meet_gate kind x y)) (meets_begin kind (meet_lit kind s x y) xs ys)

pub meet_begins : (kind : Meet) (gates : List Gate) (xs ys : List ℕ) → Begins gates (meet kind gates xs ys).gates
unfolding meet
meet_begins kind gates xs ys = meets_begin kind (wires gates []) xs ys

pub record MeetsOn (kind : Meet) (old : List Gate) (s whole : Wires) (xs ys : List ℕ) : Type 0 where
  pub rest : meet_lits kind s xs ys ≡ whole
  pub grown : Begins old s.gates
  pub longer : length old ≤ length s.gates
  pub within : AreWithin (length s.gates) s.word

pub meet_none : (kind : Meet) (gates : List Gate) (word xs ys : List ℕ) → word ≡ [] → MeetsOn kind gates (wires gates word) (meet kind gates xs ys) xs ys
unfolding meet
meet_none kind gates word xs ys e =
    subst (λ w. MeetsOn kind gates (wires gates w) (meet_lits kind (wires gates []) xs ys) xs ys) (sym e)
    (record { rest = refl; grown = begins_same gates; longer = omega arith; within = within_none (length gates) })

meet_cons : (kind : Meet) (s : Wires) (x y : ℕ) (xs ys : List ℕ) → meet_lits kind s (x ∷ xs) (y ∷ ys) ≡ meet_lits kind (meet_lit kind s x y) xs ys
unfolding meet_lits
meet_cons kind s x y xs ys = refl

meet_more : (kind : Meet) (old : List Gate) (s whole : Wires) (xs ys : List ℕ) (k x y : ℕ) → slice_get xs k ≡ Some x → slice_get ys k ≡ Some y → MeetsOn kind old s whole (drop k xs) (drop k ys)
    → MeetsOn kind old (meet_lit kind s x y) whole (drop (k + 1) xs) (drop (k + 1) ys)
meet_more kind old s whole xs ys k x y h g a =
    let gate = meet_gate kind x y in
    let more = length-append s.gates (gate ∷ []) in
    record {
      rest = sym (meet_cons kind s x y (drop (k + 1) xs) (drop (k + 1) ys)) ∙ sym (ap₂ (λ p q. meet_lits kind s p q) (drop_is xs k x h) (drop_is ys k y g)) ∙ a.rest;
      grown = begins_trans a.grown (begins_push s.gates gate);
      longer = omega (arith, a.longer, more);
      within = within_append _ _ _ (within_grown _ _ _ (begins_length (begins_push s.gates gate)) a.within) (within_one _ _ (omega (arith, more)));
    }

pub meet_next : (kind : Meet) (old gates gates1 : List Gate) (word word1 : List ℕ) (whole : Wires) (xs ys : List ℕ) (k x y : ℕ) → slice_get xs k ≡ Some x → slice_get ys k ≡ Some y
    → MeetsOn kind old (wires gates word) whole (drop k xs) (drop k ys)
    → gates1 ≡ (meet_lit kind (wires gates word) x y).gates → word1 ≡ (meet_lit kind (wires gates word) x y).word
    → MeetsOn kind old (wires gates1 word1) whole (drop (k + 1) xs) (drop (k + 1) ys)
meet_next kind old gates gates1 word word1 whole xs ys k x y h g a e f =
    subst (λ t. MeetsOn kind old t whole (drop (k + 1) xs) (drop (k + 1) ys)) (sym (ap₂ (λ p q. wires p q) e f)) (meet_more kind old (wires gates word) whole xs ys k x y h g a)

meet_second : (kind : Meet) (s : Wires) (xs : List ℕ) → meet_lits kind s xs [] ≡ s
unfolding meet_lits
meet_second kind s [] = refl
meet_second kind s (x ∷ xs) = refl

pub meet_end : (kind : Meet) (old : List Gate) (s whole : Wires) (xs ys : List ℕ) (k : ℕ) → min (length xs) (length ys) ≤ k → MeetsOn kind old s whole (drop k xs) (drop k ys) → s ≡ whole
unfolding meet_lits
meet_end kind old s whole xs ys k h a = elim (short (length xs) (length ys) k h) [
  | inl e ↦ ap (λ p. meet_lits kind s p (drop k ys)) (sym (drop_of_length-le xs e)) ∙ a.rest
  | inr e ↦ sym (meet_second kind s (drop k xs)) ∙ ap (λ p. meet_lits kind s (drop k xs) p) (sym (drop_of_length-le ys e)) ∙ a.rest
]

pub meet_part : (kind : Meet) (old now : List Gate) (s whole : Wires) (xs ys : List ℕ) (k x y : ℕ) → slice_get xs k ≡ Some x → slice_get ys k ≡ Some y
    → MeetsOn kind old s whole (drop k xs) (drop k ys) → IsPart s.gates now (meet_lit kind s x y).gates → IsPart old now whole.gates
meet_part kind old now s whole xs ys k x y h g a p =
    let b = meet_more kind old s whole xs ys k x y h g a in
    let next = meet_lit kind s x y in
    record {
      kept = begins_trans a.grown p.kept;
      rest = begins_trans p.rest (subst (λ t. Begins next.gates t.gates) b.rest (meets_begin kind next (drop (k + 1) xs) (drop (k + 1) ys)));
    }

-- chains
link_begins : (kind : Link) (s : Wire) (x y : ℕ) → Begins s.gates (link kind s x y).gates
link_begins Link.Less s x y = begins_push _ _
link_begins Link.Equal s x y = begins_trans (begins_push _ _) (begins_push _ _)
link_begins Link.Clear s x y = begins_push _ _

links_begin : (kind : Link) (s : Wire) (xs ys : List ℕ) → Begins s.gates (links kind s xs ys).gates
unfolding links
links_begin kind s [] ys = begins_same s.gates
links_begin kind s (x ∷ xs) [] = begins_same s.gates
links_begin kind s (x ∷ xs) (y ∷ ys) = begins_trans (link_begins kind s x y) (links_begin kind (link kind s x y) xs ys)

pub chain_begins : (kind : Link) (gates : List Gate) (xs ys : List ℕ) → Begins gates (chain kind gates xs ys).gates
unfolding chain
chain_begins kind gates xs ys = links_begin kind (wire gates 0) xs ys

pub record LinksOn (kind : Link) (old : List Gate) (s whole : Wire) (xs ys : List ℕ) : Type 0 where
  pub rest : links kind s xs ys ≡ whole
  pub grown : Begins old s.gates
  pub longer : length old ≤ length s.gates
  pub within : s.lit / 2 ≤ length s.gates

pub link_none : (kind : Link) (gates : List Gate) (lit : ℕ) (xs ys : List ℕ) → lit ≡ 0 → LinksOn kind gates (wire gates lit) (chain kind gates xs ys) xs ys
unfolding chain
link_none kind gates lit xs ys e =
    subst (λ l. LinksOn kind gates (wire gates l) (links kind (wire gates 0) xs ys) xs ys) (sym e)
    (record { rest = refl; grown = begins_same gates; longer = omega arith; within = omega arith })

link_cons : (kind : Link) (s : Wire) (x y : ℕ) (xs ys : List ℕ) → links kind s (x ∷ xs) (y ∷ ys) ≡ links kind (link kind s x y) xs ys
unfolding links
link_cons kind s x y xs ys = refl

link_rest : (kind : Link) (old : List Gate) (s whole : Wire) (xs ys : List ℕ) (k x y : ℕ) → slice_get xs k ≡ Some x → slice_get ys k ≡ Some y → LinksOn kind old s whole (drop k xs) (drop k ys)
    → links kind (link kind s x y) (drop (k + 1) xs) (drop (k + 1) ys) ≡ whole
link_rest kind old s whole xs ys k x y h g a =
    sym (link_cons kind s x y (drop (k + 1) xs) (drop (k + 1) ys)) ∙ sym (ap₂ (λ p q. links kind s p q) (drop_is xs k x h) (drop_is ys k y g)) ∙ a.rest

pub link_next : (kind : Link) (old gates gates1 : List Gate) (lit lit1 : ℕ) (whole : Wire) (xs ys : List ℕ) (k x y : ℕ) → slice_get xs k ≡ Some x → slice_get ys k ≡ Some y
    → LinksOn kind old (wire gates lit) whole (drop k xs) (drop k ys)
    → gates1 ≡ (link kind (wire gates lit) x y).gates → lit1 ≡ (link kind (wire gates lit) x y).lit → lit1 / 2 ≤ length gates1
    → LinksOn kind old (wire gates1 lit1) whole (drop (k + 1) xs) (drop (k + 1) ys)
link_next kind old gates gates1 lit lit1 whole xs ys k x y h g a e f w =
    let next = link kind (wire gates lit) x y in
    let same : wire gates1 lit1 ≡ next = ap₂ (λ p q. wire p q) e f in
    let grown : Begins old gates1 = begins_trans a.grown (subst (Begins gates) (sym e) (link_begins kind (wire gates lit) x y)) in
    record {
      rest = ap (λ t. links kind t (drop (k + 1) xs) (drop (k + 1) ys)) same ∙ link_rest kind old (wire gates lit) whole xs ys k x y h g a;
      grown = grown;
      longer = begins_length grown;
      within = w;
    }

link_second : (kind : Link) (s : Wire) (xs : List ℕ) → links kind s xs [] ≡ s
unfolding links
link_second kind s [] = refl
link_second kind s (x ∷ xs) = refl

pub link_end : (kind : Link) (old : List Gate) (s whole : Wire) (xs ys : List ℕ) (k : ℕ) → min (length xs) (length ys) ≤ k → LinksOn kind old s whole (drop k xs) (drop k ys) → s ≡ whole
unfolding links
link_end kind old s whole xs ys k h a = elim (short (length xs) (length ys) k h) [
  | inl e ↦ ap (λ p. links kind s p (drop k ys)) (sym (drop_of_length-le xs e)) ∙ a.rest
  | inr e ↦ sym (link_second kind s (drop k xs)) ∙ ap (λ p. links kind s (drop k xs) p) (sym (drop_of_length-le ys e)) ∙ a.rest
]

pub link_part : (kind : Link) (old now : List Gate) (s whole : Wire) (xs ys : List ℕ) (k x y : ℕ) → slice_get xs k ≡ Some x → slice_get ys k ≡ Some y
    → LinksOn kind old s whole (drop k xs) (drop k ys) → IsPart s.gates now (link kind s x y).gates → IsPart old now whole.gates
link_part kind old now s whole xs ys k x y h g a p =
    let next = link kind s x y in
    record {
      kept = begins_trans a.grown p.kept;
      rest = begins_trans p.rest (subst (λ t. Begins next.gates t.gates) (link_rest kind old s whole xs ys k x y h g a) (links_begin kind next (drop (k + 1) xs) (drop (k + 1) ys)));
    }

-- a word made literal by literal
pub negate_more : (word word1 xs whole : List ℕ) (k x y : ℕ) → slice_get xs k ≡ Some x → y ≡ neg x → word ++ map neg (drop k xs) ≡ whole → word1 ≡ word ++ y ∷ [] → word1 ++ map neg (drop (k + 1) xs) ≡ whole
negate_more word word1 xs whole k x y e f h g =
    ap (λ w. w ++ map neg (drop (k + 1) xs)) (g ∙ ap (λ n. word ++ n ∷ []) f)
    ∙ append_assoc word (neg x ∷ []) (map neg (drop (k + 1) xs)) ∙ ap (λ t. word ++ map neg t) (sym (drop_is xs k x e)) ∙ h

pub negate_end : (word xs : List ℕ) (k : ℕ) → length xs ≤ k → word ++ map neg (drop k xs) ≡ map neg xs → word ≡ map neg xs
negate_end word xs k h e = sym (append-nil word) ∙ ap (λ t. word ++ map neg t) (sym (drop_of_length-le xs h)) ∙ e

pub last_more : (last : ℕ) (xs : List ℕ) (w k x : ℕ) → slice_get xs k ≡ Some x → last_lit last (drop k xs) ≡ w → last_lit x (drop (k + 1) xs) ≡ w
last_more last xs w k x e h = sym (ap (last_lit last) (drop_is xs k x e)) ∙ h

pub difference_begins : (gates : List Gate) (xs ys : List ℕ) (borrow : ℕ) → Begins gates (difference gates xs ys borrow).gates
unfolding difference
difference_begins gates xs ys borrow = adder_begins gates xs (map neg ys) (neg borrow)

pub range_begins : (gates : List Gate) (signed : Bool) (width : ℕ) (ls : List ℕ) → Begins gates (in_range gates signed width ls).gates
unfolding in_range
range_begins gates true width ls = chain_begins Link.Equal gates _ _
range_begins gates false width ls = chain_begins Link.Clear gates _ _

pub negation_begins : (gates : List Gate) (xs : List ℕ) → Begins gates (negation gates xs).gates
unfolding negation
negation_begins gates xs = adder_begins gates _ _ 0

pub and_begins : (gates : List Gate) (xs ys : List ℕ) → Begins gates (bitwise_and gates xs ys).gates
unfolding bitwise_and
and_begins gates xs ys = meet_begins Meet.And gates xs ys

pub or_begins : (gates : List Gate) (xs ys : List ℕ) → Begins gates (bitwise_or gates xs ys).gates
unfolding bitwise_or
or_begins gates xs ys = meet_begins Meet.And gates _ _

pub xor_begins : (gates : List Gate) (xs ys : List ℕ) → Begins gates (bitwise_xor gates xs ys).gates
unfolding bitwise_xor
xor_begins gates xs ys = meet_begins Meet.Xor gates xs ys

pub choose_begins : (gates : List Gate) (c : ℕ) (xs ys : List ℕ) → Begins gates (choose gates c xs ys).gates
unfolding choose
choose_begins gates c xs ys = meet_begins (Meet.Choice c) gates xs ys

pub less_begins : (gates : List Gate) (signed : Bool) (xs ys : List ℕ) → Begins gates (less gates signed xs ys).gates
unfolding less
less_begins gates signed xs ys = chain_begins Link.Less gates _ _

pub equal_begins : (gates : List Gate) (xs ys : List ℕ) → Begins gates (equal gates xs ys).gates
unfolding equal
equal_begins gates xs ys = chain_begins Link.Equal gates xs ys
