-- A range predicate has at least as many gates as its size says, and each of them gives two clauses at least.
use Rattle.std.proofs.Common.{◌≡◌, inl, inr, ℕ, zero, suc, ◌+◌, ◌-◌, ◌*◌, ◌<◌, ◌≤◌, min, nat_le, Bool, true, false, if◌then◌else◌, List, [], ◌∷◌, ◌++◌, length, map, take, drop, replicate, Some, refl, sym, ◌∙◌, ap, subst, arith, length-append}
use Rattle.std.specs.List.{slice_get}
use Rattle.std.proofs.lemmas.Bool.{cases_lt}
use Rattle.std.proofs.lemmas.Bool.Decides.{nat_tests}
use Rattle.std.proofs.lemmas.List.{length-take, length-drop, length-replicate, length-map}
use Rattle.tcl_cnf.specs.Literal.{neg}
use Rattle.tcl_gates.specs.declared.gate.Gate.{Gate}
use Rattle.tcl_gates.specs.declared.gate.Gate.TheVariants as gate
use Rattle.tcl_gates.specs.Gates.{is_free, IsBelow, AreGates, gate_table, clauses_of_table, clauses_from, clauses_behind}
use Rattle.tcl_gates.specs.Meaning.{next_lit}
use Rattle.tcl_gates.proofs.Counts.{two_clauses}
use Rattle.tcl_circuits.specs.declared.links.Meet.{Meet}
use Rattle.tcl_circuits.specs.declared.links.Link.{Link}
use Rattle.tcl_circuits.specs.Wires.{Wire, Wires, Carried}
use Rattle.tcl_circuits.specs.Circuits.{add_lit, add_lits, adder, meet_gate, wires, wire, meet_lit, meet_lits, meet, link, links, chain, top_negated, compared, less, equal, row_added, rows_added, product, difference, negation, bitwise_and, bitwise_xor, bitwise_or}
use Rattle.tcl_circuits.proofs.Within.{length_extended}
use Rattle.tcl_lang.specs.declared.ty.Ty.{Ty}
use Rattle.tcl_lang.specs.declared.instr.Atom.{Atom}
use Rattle.tcl_lang.specs.declared.range.RngOp.{RngOp}
use Rattle.tcl_lang.specs.declared.range.RngOp.TheVariants as rng
use Rattle.tcl_lang.specs.declared.range.CmpOp.{CmpOp}
use Rattle.tcl_lang.specs.declared.range.CmpOp.TheVariants as cmp
use Rattle.tcl_lang.specs.declared.range.RngTerm.{RngTerm, RngTerm-F, roll-RngTerm, map-RngTerm, fold-roll-RngTerm, ind-RngTerm}
use Rattle.tcl_lang.specs.declared.range.RngTerm.TheOpen as term_layer
use Rattle.tcl_lang.specs.declared.range.RngPred.{RngPred, RngPred-F, roll-RngPred, map-RngPred, fold-roll-RngPred, ind-RngPred}
use Rattle.tcl_lang.specs.declared.range.RngPred.TheOpen as pred_layer
use Rattle.tcl_words.specs.Ranges.{Typed, combined_lits, term_step, term_lits, compared_lits, both_sides, pred_step, pred_lit}
use Rattle.tcl_blast.specs.declared.sizes.Size.{Size}
use Rattle.tcl_blast.specs.Sizes.{counted, product_gates, combined_gates, combined_bits, combined_size, term_size_step, term_size, compared_size, pred_size_step, pred_size}
use Rattle.tcl_blast.proofs.GateOrder.{Grows, grows_length, pushed}

-- at least n gates more, and a word of at least k bits
pub record HasSize (old new : List Gate) (word : List ℕ) (n k : ℕ) : Type 0 where
  pub gates : length old + n ≤ length new
  pub bits : k ≤ length word

one_more : (ls : List ℕ) (l : ℕ) → length (ls ++ l ∷ []) ≡ length ls + 1
one_more ls l = length-append ls (l ∷ []) ∙ omega arith

-- the adder
lit_gates : (s : Carried) (x y : ℕ) → length (add_lit s x y).gates ≡ length s.gates + 3
lit_gates s x y =
    let halves = s.gates ++ gate.Xor x y ∷ [] in
    let sums = halves ++ gate.Xor (next_lit s.gates) s.carry ∷ [] in
    omega (arith, pushed s.gates (gate.Xor x y), pushed halves (gate.Xor (next_lit s.gates) s.carry), pushed sums (gate.Major x y s.carry))

lit_bits : (s : Carried) (x y : ℕ) → length (add_lit s x y).word ≡ length s.word + 1
lit_bits s x y = one_more s.word (next_lit (s.gates ++ gate.Xor x y ∷ []))

adds_size : (s : Carried) (xs ys : List ℕ) (k : ℕ) → k ≤ length xs → k ≤ length ys → HasSize s.gates (add_lits s xs ys).gates (add_lits s xs ys).word (3 * k) (length s.word + k)
unfolding add_lits
adds_size s [] ys k h g = record { gates = omega (arith, h); bits = omega (arith, h) }
adds_size s (x ∷ xs) [] k h g = record { gates = omega (arith, g); bits = omega (arith, g) }
adds_size s (x ∷ xs) (y ∷ ys) zero h g =
    let r = adds_size (add_lit s x y) xs ys 0 (omega arith) (omega arith) in
    let a = r.gates in
    let b = r.bits in
    record { gates = omega (arith, a, lit_gates s x y); bits = omega (arith, b, lit_bits s x y) }
adds_size s (x ∷ xs) (y ∷ ys) (suc k) h g =
    let r = adds_size (add_lit s x y) xs ys k (omega (arith, h)) (omega (arith, g)) in
    let a = r.gates in
    let b = r.bits in
    record { gates = omega (arith, a, lit_gates s x y); bits = omega (arith, b, lit_bits s x y) }

adder_size : (gates : List Gate) (xs ys : List ℕ) (c k : ℕ) → k ≤ length xs → k ≤ length ys → HasSize gates (adder gates xs ys c).gates (adder gates xs ys c).word (3 * k) k
unfolding adder
adder_size gates xs ys c k h g = let r = adds_size (record { gates = gates; word = []; carry = c }) xs ys k h g in let b = r.bits in record { gates = r.gates; bits = omega (arith, b) }

difference_size : (gates : List Gate) (xs ys : List ℕ) (c k : ℕ) → k ≤ length xs → k ≤ length ys → HasSize gates (difference gates xs ys c).gates (difference gates xs ys c).word (3 * k) k
unfolding difference
difference_size gates xs ys c k h g = let r = adder_size gates xs (map neg ys) (neg c) k h (omega (arith, g, length-map ys neg)) in record { gates = r.gates; bits = r.bits }

negation_size : (gates : List Gate) (xs : List ℕ) (k : ℕ) → k ≤ length xs → HasSize gates (negation gates xs).gates (negation gates xs).word (3 * k) k
unfolding negation
negation_size gates xs k h =
    let r = adder_size gates (replicate (length xs) 1) (map neg xs) 0 k (omega (arith, h, length-replicate {A = ℕ} (length xs) 1)) (omega (arith, h, length-map xs neg)) in
    record { gates = r.gates; bits = r.bits }

-- two words met bit by bit
meets_size : (kind : Meet) (s : Wires) (xs ys : List ℕ) (k : ℕ) → k ≤ length xs → k ≤ length ys → HasSize s.gates (meet_lits kind s xs ys).gates (meet_lits kind s xs ys).word k (length s.word + k)
unfolding meet_lits
meets_size kind s [] ys k h g = record { gates = omega (arith, h); bits = omega (arith, h) }
meets_size kind s (x ∷ xs) [] k h g = record { gates = omega (arith, g); bits = omega (arith, g) }
meets_size kind s (x ∷ xs) (y ∷ ys) zero h g =
    let r = meets_size kind (meet_lit kind s x y) xs ys 0 (omega arith) (omega arith) in
    let a = r.gates in
    let b = r.bits in
    record { gates = omega (arith, a, pushed s.gates (meet_gate kind x y)); bits = omega (arith, b, one_more s.word (next_lit s.gates)) }
meets_size kind s (x ∷ xs) (y ∷ ys) (suc k) h g =
    let r = meets_size kind (meet_lit kind s x y) xs ys k (omega (arith, h)) (omega (arith, g)) in
    let a = r.gates in
    let b = r.bits in
    record { gates = omega (arith, a, pushed s.gates (meet_gate kind x y)); bits = omega (arith, b, one_more s.word (next_lit s.gates)) }

meet_size : (kind : Meet) (gates : List Gate) (xs ys : List ℕ) (k : ℕ) → k ≤ length xs → k ≤ length ys → HasSize gates (meet kind gates xs ys).gates (meet kind gates xs ys).word k k
unfolding meet
meet_size kind gates xs ys k h g = let r = meets_size kind (wires gates []) xs ys k h g in let b = r.bits in record { gates = r.gates; bits = omega (arith, b) }

and_size : (gates : List Gate) (xs ys : List ℕ) (k : ℕ) → k ≤ length xs → k ≤ length ys → HasSize gates (bitwise_and gates xs ys).gates (bitwise_and gates xs ys).word k k
unfolding bitwise_and
and_size gates xs ys k h g = meet_size Meet.And gates xs ys k h g

xor_size : (gates : List Gate) (xs ys : List ℕ) (k : ℕ) → k ≤ length xs → k ≤ length ys → HasSize gates (bitwise_xor gates xs ys).gates (bitwise_xor gates xs ys).word k k
unfolding bitwise_xor
xor_size gates xs ys k h g = meet_size Meet.Xor gates xs ys k h g

or_size : (gates : List Gate) (xs ys : List ℕ) (k : ℕ) → k ≤ length xs → k ≤ length ys → HasSize gates (bitwise_or gates xs ys).gates (bitwise_or gates xs ys).word k k
unfolding bitwise_or
or_size gates xs ys k h g =
    let s = meet Meet.And gates (map neg xs) (map neg ys) in
    let r = meet_size Meet.And gates (map neg xs) (map neg ys) k (omega (arith, h, length-map xs neg)) (omega (arith, g, length-map ys neg)) in
    let b = r.bits in
    record { gates = r.gates; bits = omega (arith, b, length-map s.word neg) }

-- chains
link_gates : (kind : Link) (s : Wire) (x y : ℕ) → length s.gates + 1 ≤ length (link kind s x y).gates
link_gates Link.Less s x y = omega (arith, pushed s.gates (gate.Major x (neg y) s.lit))
link_gates Link.Equal s x y = omega (arith, pushed s.gates (gate.Xor x y), pushed (s.gates ++ gate.Xor x y ∷ []) (gate.And s.lit (neg (next_lit s.gates))))
link_gates Link.Clear s x y = omega (arith, pushed s.gates (gate.And s.lit (neg x)))

links_size : (kind : Link) (s : Wire) (xs ys : List ℕ) (k : ℕ) → k ≤ length xs → k ≤ length ys → length s.gates + k ≤ length (links kind s xs ys).gates
unfolding links
links_size kind s [] ys k h g = omega (arith, h)
links_size kind s (x ∷ xs) [] k h g = omega (arith, g)
links_size kind s (x ∷ xs) (y ∷ ys) zero h g = omega (arith, links_size kind (link kind s x y) xs ys 0 (omega arith) (omega arith), link_gates kind s x y)
links_size kind s (x ∷ xs) (y ∷ ys) (suc k) h g = omega (arith, links_size kind (link kind s x y) xs ys k (omega (arith, h)) (omega (arith, g)), link_gates kind s x y)

chain_size : (kind : Link) (gates : List Gate) (xs ys : List ℕ) (k : ℕ) → k ≤ length xs → k ≤ length ys → length gates + k ≤ length (chain kind gates xs ys).gates
unfolding chain
chain_size kind gates xs ys k h g = links_size kind (wire gates 0) xs ys k h g

top_length : (ls : List ℕ) → length (top_negated ls) ≡ length ls
top_length [] = refl
top_length (l ∷ []) = refl
top_length (l ∷ m ∷ ls) = ap suc (top_length (m ∷ ls))

compared_length : (signed : Bool) (ls : List ℕ) → length (compared signed ls) ≡ length ls
compared_length true ls = top_length ls
compared_length false ls = refl

less_size : (gates : List Gate) (signed : Bool) (xs ys : List ℕ) (k : ℕ) → k ≤ length xs → k ≤ length ys → length gates + k ≤ length (less gates signed xs ys).gates
unfolding less
less_size gates signed xs ys k h g =
    chain_size Link.Less gates (compared signed xs) (compared signed ys) k (omega (arith, h, compared_length signed xs)) (omega (arith, g, compared_length signed ys))

equal_size : (gates : List Gate) (xs ys : List ℕ) (k : ℕ) → k ≤ length xs → k ≤ length ys → length gates + k ≤ length (equal gates xs ys).gates
unfolding equal
equal_size gates xs ys k h g = chain_size Link.Equal gates xs ys k h g

-- the product
row_size : (xs : List ℕ) (place : ℕ) (s : Wires) (y : ℕ) → length xs ≤ length s.word → HasSize s.gates (row_added xs place s y).gates (row_added xs place s y).word (4 * (length xs - place)) (length xs)
row_size xs place s y long =
    let count = length xs - place in
    let row = meet Meet.And s.gates (take count xs) (replicate count y) in
    let r = meet_size Meet.And s.gates (take count xs) (replicate count y) count (omega (arith, length-take count xs)) (omega (arith, length-replicate count y)) in
    let a = r.gates in
    let b = r.bits in
    let sum = adder row.gates (drop place s.word) row.word 1 in
    let t = adder_size row.gates (drop place s.word) row.word 1 count (omega (arith, long, length-drop place s.word)) b in
    let c = t.gates in
    let d = t.bits in
    record { gates = omega (arith, a, c); bits = omega (arith, d, long, length-append (take place s.word) sum.word, length-take place s.word) }

-- the rows behind the first
abbrev rows_gates : ℕ → ℕ
rows_gates zero = 0
rows_gates (suc r) = 4 * suc r + rows_gates r

rows_size : (xs : List ℕ) (place : ℕ) (s : Wires) (ys : List ℕ) (r : ℕ) → r ≤ length xs - place → r ≤ length ys → length xs ≤ length s.word → HasSize s.gates (rows_added xs place s ys).gates (rows_added xs place s ys).word (rows_gates r) (length xs)
unfolding rows_added
rows_size xs place s [] zero p h long = record { gates = omega arith; bits = long }
rows_size xs place s [] (suc r) p h long = absurd (omega (arith, h))
rows_size xs place s (y ∷ ys) zero p h long =
    let a = row_size xs place s y long in
    let b = rest xs (place + 1) (row_added xs place s y) ys a.bits in
    let c = a.gates in
    let d = b.gates in
    record { gates = omega (arith, c, d); bits = b.bits }
  where
    rest : (xs : List ℕ) (place : ℕ) (s : Wires) (ys : List ℕ) → length xs ≤ length s.word → HasSize s.gates (rows_added xs place s ys).gates (rows_added xs place s ys).word 0 (length xs)
    rest xs place s [] long = record { gates = omega arith; bits = long }
    rest xs place s (y ∷ ys) long =
        let a = row_size xs place s y long in
        let b = rest xs (place + 1) (row_added xs place s y) ys a.bits in
        let c = a.gates in
        let d = b.gates in
        record { gates = omega (arith, c, d); bits = b.bits }
rows_size xs place s (y ∷ ys) (suc r) p h long =
    let a = row_size xs place s y long in
    let b = rows_size xs (place + 1) (row_added xs place s y) ys r (omega (arith, p)) (omega (arith, h)) a.bits in
    let c = a.gates in
    let d = b.gates in
    record { gates = omega (arith, c, d, p); bits = b.bits }

rows_are : (r : ℕ) → product_gates (suc r) ≡ suc r + rows_gates r
unfolding product_gates
rows_are zero = refl
rows_are (suc r) = omega (arith, rows_are r)

no_product : product_gates 0 ≡ 0
unfolding product_gates
no_product = refl

whole_product : (gates : List Gate) (xs ys : List ℕ) (n : ℕ) → n ≤ length xs → n ≤ length ys → HasSize gates (product gates xs ys).gates (product gates xs ys).word (product_gates n) n
unfolding product
whole_product gates xs [] zero h g = record { gates = omega (arith, no_product); bits = omega arith }
whole_product gates xs [] (suc n) h g = absurd (omega (arith, g))
whole_product gates xs (y ∷ ys) n h g =
    let row = meet Meet.And gates xs (replicate (length xs) y) in
    let r = meet_size Meet.And gates xs (replicate (length xs) y) (length xs) (omega arith) (omega (arith, length-replicate (length xs) y)) in
    by n h g row r.gates r.bits
  where
    by : (n : ℕ) → n ≤ length xs → n ≤ suc (length ys) → (row : Wires) → length gates + length xs ≤ length row.gates → length xs ≤ length row.word → HasSize gates (rows_added xs 1 row ys).gates (rows_added xs 1 row ys).word (product_gates n) n
    by zero h g row a b =
        let r = rows_size xs 1 row ys 0 (omega arith) (omega arith) b in
        let c = r.gates in
        record { gates = omega (arith, a, c, no_product); bits = omega arith }
    by (suc n) h g row a b =
        let r = rows_size xs 1 row ys n (omega (arith, h)) (omega (arith, g)) b in
        let c = r.gates in
        let d = r.bits in
        record { gates = omega (arith, a, c, h, rows_are n); bits = omega (arith, d, h) }

product_long : (xs : List ℕ) (place : ℕ) (s : Wires) (ys : List ℕ) → length xs ≤ length s.word → HasSize s.gates (rows_added xs place s ys).gates (rows_added xs place s ys).word 0 (length xs)
product_long xs place s ys long = rows_size xs place s ys 0 (omega arith) (omega arith) long

product_bits : (gates : List Gate) (xs ys : List ℕ) → length xs ≤ length (product gates xs ys).word
unfolding product
product_bits gates xs [] = omega (arith, length-replicate {A = ℕ} (length xs) 1)
product_bits gates xs (y ∷ ys) =
    let row = meet Meet.And gates xs (replicate (length xs) y) in
    let r = meet_size Meet.And gates xs (replicate (length xs) y) (length xs) (omega arith) (omega (arith, length-replicate (length xs) y)) in
    (product_long xs 1 row ys r.bits).bits

-- range terms
abbrev TermSized : (List Gate → Typed) → Size → Type 0
TermSized f z = (gates : List Gate) → HasSize gates (f gates).gates (f gates).word z.gates z.bits

product_yes : (a b : ℕ) → a ≤ b → nat_le a b ≡ true
product_yes a b h = grind (arith, nat_tests, h)

product_no : (a b : ℕ) → b < a → nat_le a b ≡ false
product_no a b h = grind (arith, nat_tests, h)

combined_at : (gates : List Gate) (o : RngOp) (xs ys : List ℕ) (a b : ℕ) → a ≤ length xs → b ≤ length ys → HasSize gates (combined_lits gates o xs ys).gates (combined_lits gates o xs ys).word (combined_gates o a b) (combined_bits o a b)
combined_at gates rng.Add xs ys a b h g = let r = adder_size gates xs ys 1 (min a b) (omega (arith, h)) (omega (arith, g)) in record { gates = r.gates; bits = r.bits }
combined_at gates rng.Sub xs ys a b h g = let r = difference_size gates xs ys 1 (min a b) (omega (arith, h)) (omega (arith, g)) in record { gates = r.gates; bits = r.bits }
combined_at gates rng.Mul xs ys a b h g = elim (cases_lt b a) [
  | inl less ↦
      let r = whole_product gates xs ys 0 (omega arith) (omega arith) in
      let c = r.gates in
      record { gates = subst (λ (t : Bool). length gates + (if t then product_gates a else 0) ≤ length (product gates xs ys).gates) (sym (product_no a b less)) (omega (arith, c)); bits = omega (arith, h, product_bits gates xs ys) }
  | inr more ↦
      let r = whole_product gates xs ys a h (omega (arith, g, more)) in
      record { gates = subst (λ (t : Bool). length gates + (if t then product_gates a else 0) ≤ length (product gates xs ys).gates) (sym (product_yes a b more)) r.gates; bits = r.bits }
]
combined_at gates rng.And xs ys a b h g = and_size gates xs ys (min a b) (omega (arith, h)) (omega (arith, g))
combined_at gates rng.Or xs ys a b h g = or_size gates xs ys (min a b) (omega (arith, h)) (omega (arith, g))
combined_at gates rng.Xor xs ys a b h g = xor_size gates xs ys (min a b) (omega (arith, h)) (omega (arith, g))

leaf_sized : (words : List (List ℕ)) (types : List Ty) (atom : Atom) → TermSized (term_step words types (term_layer.Leaf atom)) (term_size_step words (term_layer.Leaf atom))
leaf_sized words types atom gates = record { gates = omega arith; bits = omega arith }

neg_sized : (words : List (List ℕ)) (types : List Ty) (f : List Gate → Typed) (z : Size) → TermSized f z → TermSized (term_step words types (term_layer.Neg f)) (term_size_step words (term_layer.Neg z))
neg_sized words types f z s gates =
    let a = s gates in
    let r = negation_size (f gates).gates (f gates).word z.bits a.bits in
    let c = a.gates in
    let d = r.gates in
    record { gates = omega (arith, c, d); bits = r.bits }

flip_sized : (words : List (List ℕ)) (types : List Ty) (f : List Gate → Typed) (z : Size) → TermSized f z → TermSized (term_step words types (term_layer.Flip f)) z
flip_sized words types f z s gates = let a = s gates in let b = a.bits in record { gates = a.gates; bits = omega (arith, b, length-map (f gates).word neg) }

bin_sized : (words : List (List ℕ)) (types : List Ty) (o : RngOp) (f g : List Gate → Typed) (y z : Size) → TermSized f y → TermSized g z → TermSized (term_step words types (term_layer.Bin o f g)) (combined_size o y z)
bin_sized words types o f g y z s t gates =
    let a = s gates in
    let b = t (f gates).gates in
    let r = combined_at (g (f gates).gates).gates o (f gates).word (g (f gates).gates).word y.bits z.bits a.bits b.bits in
    let c = a.gates in
    let d = b.gates in
    let e = r.gates in
    record { gates = omega (arith, c, d, e); bits = r.bits }

cast_sized : (words : List (List ℕ)) (types : List Ty) (T : Ty) (f : List Gate → Typed) (z : Size) → TermSized f z → TermSized (term_step words types (term_layer.Cast T f)) (term_size_step words (term_layer.Cast T z))
cast_sized words types T f z s gates =
    let a = s gates in
    let c = a.gates in
    record { gates = omega (arith, c); bits = omega (arith, length_extended (f gates).ty.signed T.width (f gates).word) }

abbrev TermGood : List (List ℕ) → List Ty → RngTerm → Type 0
TermGood words types t = TermSized (term_lits words types t) (term_size words t)

abbrev TermPair : List (List ℕ) → List Ty → Type 0
TermPair words types = (t : RngTerm) × TermGood words types t

term_to : (words : List (List ℕ)) (types : List Ty) (y : RngTerm-F RngTerm) (f : List Gate → Typed) (z : Size) → term_lits words types (roll-RngTerm y) ≡ f → term_size words (roll-RngTerm y) ≡ z → TermSized f z → TermGood words types (roll-RngTerm y)
term_to words types y f z e g s gates = subst (λ (k : List Gate → Typed). HasSize gates (k gates).gates (k gates).word (term_size words (roll-RngTerm y)).gates (term_size words (roll-RngTerm y)).bits) (sym e)
    (subst (λ (k : Size). HasSize gates (f gates).gates (f gates).word k.gates k.bits) (sym g) (s gates))

term_layer_good : (words : List (List ℕ)) (types : List Ty) (y : RngTerm-F (TermPair words types)) → TermGood words types (roll-RngTerm (map-RngTerm (TermPair words types) RngTerm (λ e. e.0) y))
term_layer_good words types (term_layer.Leaf atom) =
    term_to words types (term_layer.Leaf atom) _ _ (fold-roll-RngTerm (List Gate → Typed) (term_step words types) (term_layer.Leaf atom)) (fold-roll-RngTerm Size (term_size_step words) (term_layer.Leaf atom)) (leaf_sized words types atom)
term_layer_good words types (term_layer.Neg a) =
    term_to words types (term_layer.Neg a.0) _ _ (fold-roll-RngTerm (List Gate → Typed) (term_step words types) (term_layer.Neg a.0)) (fold-roll-RngTerm Size (term_size_step words) (term_layer.Neg a.0)) (neg_sized words types (term_lits words types a.0) (term_size words a.0) a.1)
term_layer_good words types (term_layer.Flip a) =
    term_to words types (term_layer.Flip a.0) _ _ (fold-roll-RngTerm (List Gate → Typed) (term_step words types) (term_layer.Flip a.0)) (fold-roll-RngTerm Size (term_size_step words) (term_layer.Flip a.0)) (flip_sized words types (term_lits words types a.0) (term_size words a.0) a.1)
term_layer_good words types (term_layer.Bin o a b) =
    term_to words types (term_layer.Bin o a.0 b.0) _ _ (fold-roll-RngTerm (List Gate → Typed) (term_step words types) (term_layer.Bin o a.0 b.0)) (fold-roll-RngTerm Size (term_size_step words) (term_layer.Bin o a.0 b.0))
    (bin_sized words types o (term_lits words types a.0) (term_lits words types b.0) (term_size words a.0) (term_size words b.0) a.1 b.1)
term_layer_good words types (term_layer.Cast T a) =
    term_to words types (term_layer.Cast T a.0) _ _ (fold-roll-RngTerm (List Gate → Typed) (term_step words types) (term_layer.Cast T a.0)) (fold-roll-RngTerm Size (term_size_step words) (term_layer.Cast T a.0)) (cast_sized words types T (term_lits words types a.0) (term_size words a.0) a.1)

term_sized : (words : List (List ℕ)) (types : List Ty) (t : RngTerm) → TermGood words types t
term_sized words types = ind-RngTerm (TermGood words types) (λ x y is. subst (λ z. TermGood words types (roll-RngTerm z)) is (term_layer_good words types y))

-- range predicates
abbrev PredSized : (List Gate → Wire) → ℕ → Type 0
PredSized f n = (gates : List Gate) → length gates + n ≤ length (f gates).gates

compared_at : (gates : List Gate) (o : CmpOp) (signed : Bool) (xs ys : List ℕ) (k : ℕ) → k ≤ length xs → k ≤ length ys → length gates + k ≤ length (compared_lits gates o signed xs ys).gates
compared_at gates cmp.Eq signed xs ys k h g = equal_size gates xs ys k h g
compared_at gates cmp.Ne signed xs ys k h g = equal_size gates xs ys k h g
compared_at gates cmp.Lt signed xs ys k h g = less_size gates signed xs ys k h g
compared_at gates cmp.Le signed xs ys k h g = less_size gates signed ys xs k g h
compared_at gates cmp.Gt signed xs ys k h g = less_size gates signed ys xs k g h
compared_at gates cmp.Ge signed xs ys k h g = less_size gates signed xs ys k h g

sides_sized : (words : List (List ℕ)) (types : List Ty) (o : CmpOp) (t u : RngTerm) → PredSized (λ gates. both_sides o (term_lits words types u) (term_lits words types t gates)) (compared_size (term_size words t) (term_size words u))
sides_sized words types o t u gates =
    let first = term_lits words types t gates in
    let second = term_lits words types u first.gates in
    let x = term_size words t in
    let y = term_size words u in
    let a = term_sized words types t gates in
    let b = term_sized words types u first.gates in
    let i = a.bits in
    let j = b.bits in
    let r = compared_at second.gates o first.ty.signed first.word second.word (min x.bits y.bits) (omega (arith, i)) (omega (arith, j)) in
    let c = a.gates in
    let d = b.gates in
    omega (arith, c, d, r)

pair_sized : (f g : List Gate → Wire) (n m : ℕ) → PredSized f n → PredSized g m → (gates : List Gate) → length gates + (n + m) ≤ length (g (f gates).gates).gates
pair_sized f g n m s t gates = omega (arith, s gates, t (f gates).gates)

joined_sized : (old gates : List Gate) (l m n : ℕ) → length old + n ≤ length gates → length old + counted (n + 1) ≤ length (gates ++ gate.And l m ∷ [])
joined_sized old gates l m n h = omega (arith, h, pushed gates (gate.And l m))

abbrev PredGood : List (List ℕ) → List Ty → RngPred → Type 0
PredGood words types p = PredSized (pred_lit words types p) (pred_size words p)

abbrev PredPair : List (List ℕ) → List Ty → Type 0
PredPair words types = (p : RngPred) × PredGood words types p

pred_to : (words : List (List ℕ)) (types : List Ty) (y : RngPred-F RngPred) (f : List Gate → Wire) (n : ℕ) → pred_lit words types (roll-RngPred y) ≡ f → pred_size words (roll-RngPred y) ≡ n → PredSized f n → PredGood words types (roll-RngPred y)
pred_to words types y f n e g s gates = subst (λ (k : List Gate → Wire). length gates + pred_size words (roll-RngPred y) ≤ length (k gates).gates) (sym e)
    (subst (λ (k : ℕ). length gates + k ≤ length (f gates).gates) (sym g) (s gates))

pred_layer_good : (words : List (List ℕ)) (types : List Ty) (y : RngPred-F (PredPair words types)) → PredGood words types (roll-RngPred (map-RngPred (PredPair words types) RngPred (λ e. e.0) y))
pred_layer_good words types pred_layer.True =
    pred_to words types pred_layer.True _ _ (fold-roll-RngPred (List Gate → Wire) (pred_step words types) pred_layer.True) (fold-roll-RngPred ℕ (pred_size_step words) pred_layer.True) (λ gates. omega arith)
pred_layer_good words types pred_layer.False =
    pred_to words types pred_layer.False _ _ (fold-roll-RngPred (List Gate → Wire) (pred_step words types) pred_layer.False) (fold-roll-RngPred ℕ (pred_size_step words) pred_layer.False) (λ gates. omega arith)
pred_layer_good words types (pred_layer.Cmp o t u) =
    pred_to words types (pred_layer.Cmp o t u) _ _ (fold-roll-RngPred (List Gate → Wire) (pred_step words types) (pred_layer.Cmp o t u)) (fold-roll-RngPred ℕ (pred_size_step words) (pred_layer.Cmp o t u)) (sides_sized words types o t u)
pred_layer_good words types (pred_layer.Not p) =
    pred_to words types (pred_layer.Not p.0) _ _ (fold-roll-RngPred (List Gate → Wire) (pred_step words types) (pred_layer.Not p.0)) (fold-roll-RngPred ℕ (pred_size_step words) (pred_layer.Not p.0)) p.1
pred_layer_good words types (pred_layer.Both p q) =
    pred_to words types (pred_layer.Both p.0 q.0) _ _ (fold-roll-RngPred (List Gate → Wire) (pred_step words types) (pred_layer.Both p.0 q.0)) (fold-roll-RngPred ℕ (pred_size_step words) (pred_layer.Both p.0 q.0))
    (λ gates. joined_sized gates _ _ _ _ (pair_sized (pred_lit words types p.0) (pred_lit words types q.0) (pred_size words p.0) (pred_size words q.0) p.1 q.1 gates))
pred_layer_good words types (pred_layer.Either p q) =
    pred_to words types (pred_layer.Either p.0 q.0) _ _ (fold-roll-RngPred (List Gate → Wire) (pred_step words types) (pred_layer.Either p.0 q.0)) (fold-roll-RngPred ℕ (pred_size_step words) (pred_layer.Either p.0 q.0))
    (λ gates. joined_sized gates _ _ _ _ (pair_sized (pred_lit words types p.0) (pred_lit words types q.0) (pred_size words p.0) (pred_size words q.0) p.1 q.1 gates))

pub pred_sized : (words : List (List ℕ)) (types : List Ty) (p : RngPred) → PredGood words types p
pred_sized words types = ind-RngPred (PredGood words types) (λ x y is. subst (λ z. PredGood words types (roll-RngPred z)) is (pred_layer_good words types y))

-- gates that are not free give two clauses each, at least
each_two : (n : ℕ) (gates : List Gate) → ((k : ℕ) (g : Gate) → slice_get gates k ≡ Some g → (is_free g ≡ false) × IsBelow (n + k) g) → 2 * length gates ≤ length (clauses_from n gates)
unfolding clauses_from
each_two n [] h = omega arith
each_two n (g ∷ gates) h =
    let here = h 0 g refl in
    let two = two_clauses n g here.0 (subst (λ m. IsBelow m g) (omega arith) here.1) in
    let rest = each_two (n + 1) gates (λ k i e. let x = h (suc k) i e in (x.0, subst (λ m. IsBelow m i) (omega arith) x.1)) in
    omega (arith, two, rest, length-append (clauses_of_table (gate_table (2 * n) g)) (clauses_from (n + 1) gates))

dropped_item : (gates : List Gate) (n k : ℕ) → slice_get (drop n gates) k ≡ slice_get gates (n + k)
dropped_item gates zero k = let e : k ≡ 0 + k = omega arith in ap (slice_get gates) e
dropped_item [] (suc n) k = refl
dropped_item (g ∷ gates) (suc n) k = let e : suc (n + k) ≡ suc n + k = omega arith in dropped_item gates n k ∙ ap (slice_get (g ∷ gates)) e

pub many_clauses : (old new : List Gate) → Grows old new → AreGates old → 2 * length new ≤ 2 * length old + length (clauses_behind (length old) new)
unfolding clauses_behind
many_clauses old new g a =
    let all = g.ordered a in
    let n = length old in
    let two = each_two (n + 1) (drop n new) (λ k h e.
    let at = sym (dropped_item new n k) ∙ e in
    (g.fixed (n + k) h (omega arith) at, subst (λ m. IsBelow m h) (omega arith) (all.each (n + k) h at))) in
    omega (arith, two, length-drop n new, grows_length g)
