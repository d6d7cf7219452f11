-- The loop of the product: the rows so far, with those that are left, are the whole.
use Rattle.std.proofs.Common.{◌≡◌, ℕ, ◌+◌, ◌-◌, ◌≤◌, List, [], ◌∷◌, length, take, drop, replicate, Some, slice_get, refl, sym, ◌∙◌, ap, ap₂, subst, arith, length-append, drop_of_length-le}
use Rattle.tcl_gates.specs.declared.gate.Gate.{Gate}
use Rattle.tcl_circuits.specs.declared.links.Meet.{Meet}
use Rattle.tcl_circuits.specs.declared.links.Meet.TheVariants as Meet
use Rattle.tcl_gates.specs.Meaning.{next_lit, AreWithin, Begins, IsPart}
use Rattle.tcl_circuits.specs.Wires.{Wires}
use Rattle.tcl_circuits.specs.Circuits.{wires, meet_lit, meet_lits, meet, rows_added, row_added, adder, product}
use Rattle.tcl_gates.proofs.Shown.{begins_same, begins_trans, begins_length, part_first, part_second}
use Rattle.tcl_circuits.proofs.Adders.{drop_is, adder_begins}
use Rattle.tcl_circuits.proofs.Loops.{meet_begins}

-- rows of a product
pub rows_cons : (xs : List ℕ) (place : ℕ) (s : Wires) (y : ℕ) (ys : List ℕ) → rows_added xs place s (y ∷ ys) ≡ rows_added xs (place + 1) (row_added xs place s y) ys
unfolding rows_added
rows_cons xs place s y ys = refl

pub row_begins : (xs : List ℕ) (place : ℕ) (s : Wires) (y : ℕ) → Begins s.gates (row_added xs place s y).gates
row_begins xs place s y = begins_trans (meet_begins Meet.And s.gates _ _) (adder_begins _ _ _ _)

pub record RowsOn (old : List Gate) (xs : List ℕ) (place : ℕ) (s whole : Wires) (ys : List ℕ) : Type 0 where
  pub rest : rows_added xs place s ys ≡ whole
  pub grown : Begins old s.gates
  pub longer : length old ≤ length s.gates
  pub within : AreWithin (length s.gates) s.word

rows_begin : (xs : List ℕ) (place : ℕ) (s : Wires) (ys : List ℕ) → Begins s.gates (rows_added xs place s ys).gates
unfolding rows_added
rows_begin xs place s [] = begins_same s.gates
rows_begin xs place s (y ∷ ys) = begins_trans (row_begins xs place s y) (rows_begin xs (place + 1) (row_added xs place s y) ys)

pub product_begins : (gates : List Gate) (xs ys : List ℕ) → Begins gates (product gates xs ys).gates
unfolding product
product_begins gates xs [] = begins_same gates
product_begins gates xs (y ∷ ys) = begins_trans (meet_begins Meet.And gates xs _) (rows_begin xs 1 (meet Meet.And gates xs (replicate (length xs) y)) ys)

product_cons : (gates : List Gate) (xs ys : List ℕ) (y : ℕ) → rows_added xs 1 (meet Meet.And gates xs (replicate (length xs) y)) ys ≡ product gates xs (y ∷ ys)
unfolding product
product_cons gates xs ys y = refl

pub rows_none : (gates gates1 : List Gate) (xs ys bits word : List ℕ) (y : ℕ) → slice_get ys 0 ≡ Some y → bits ≡ replicate (length xs) y → gates1 ≡ (meet Meet.And gates xs bits).gates → word ≡ (meet Meet.And gates xs bits).word → AreWithin (length gates1) word
    → RowsOn gates xs 1 (wires gates1 word) (product gates xs ys) (drop 1 ys)
rows_none gates gates1 xs ys bits word y e f g h w =
    let row = meet Meet.And gates xs bits in
    let grown : Begins gates gates1 = subst (Begins gates) (sym g) (meet_begins Meet.And gates xs bits) in
    record {
      rest = ap₂ (λ p q. rows_added xs 1 (wires p q) (drop 1 ys)) g h ∙ ap (λ b. rows_added xs 1 (meet Meet.And gates xs b) (drop 1 ys)) f ∙ product_cons gates xs (drop 1 ys) y ∙ ap (product gates xs) (sym (drop_is ys 0 y e));
      grown = grown;
      longer = begins_length grown;
      within = w;
    }

row_rest : (old : List Gate) (xs : List ℕ) (place : ℕ) (s whole : Wires) (ys : List ℕ) (y : ℕ) → slice_get ys place ≡ Some y → RowsOn old xs place s whole (drop place ys) → rows_added xs (place + 1) (row_added xs place s y) (drop (place + 1) ys) ≡ whole
row_rest old xs place s whole ys y e r = sym (rows_cons xs place s y (drop (place + 1) ys)) ∙ ap (rows_added xs place s) (sym (drop_is ys place y e)) ∙ r.rest

pub rows_next : (old gates gates1 : List Gate) (xs : List ℕ) (place : ℕ) (word word1 : List ℕ) (whole : Wires) (ys : List ℕ) (y : ℕ) → slice_get ys place ≡ Some y → RowsOn old xs place (wires gates word) whole (drop place ys)
    → gates1 ≡ (row_added xs place (wires gates word) y).gates → word1 ≡ (row_added xs place (wires gates word) y).word → AreWithin (length gates1) word1
    → RowsOn old xs (place + 1) (wires gates1 word1) whole (drop (place + 1) ys)
rows_next old gates gates1 xs place word word1 whole ys y e r f g w =
    let grown : Begins old gates1 = begins_trans r.grown (subst (Begins gates) (sym f) (row_begins xs place (wires gates word) y)) in
    record {
      rest = ap₂ (λ p q. rows_added xs (place + 1) (wires p q) (drop (place + 1) ys)) f g ∙ row_rest old xs place (wires gates word) whole ys y e r;
      grown = grown;
      longer = begins_length grown;
      within = w;
    }

pub rows_end : (old : List Gate) (xs : List ℕ) (place : ℕ) (s whole : Wires) (ys : List ℕ) → length ys ≤ place → RowsOn old xs place s whole (drop place ys) → s ≡ whole
unfolding rows_added
rows_end old xs place s whole ys h r = ap (rows_added xs place s) (sym (drop_of_length-le ys h)) ∙ r.rest

pub rows_part : (old now : List Gate) (xs : List ℕ) (place : ℕ) (s whole : Wires) (ys : List ℕ) (y : ℕ) → slice_get ys place ≡ Some y → RowsOn old xs place s whole (drop place ys) → IsPart s.gates now (row_added xs place s y).gates → IsPart old now whole.gates
rows_part old now xs place s whole ys y e r p = record {
  kept = begins_trans r.grown p.kept;
  rest = begins_trans p.rest (subst (λ t. Begins (row_added xs place s y).gates t.gates) (row_rest old xs place s whole ys y e r) (rows_begin xs (place + 1) (row_added xs place s y) (drop (place + 1) ys)));
}

pub no_rows : (gates : List Gate) (xs ys : List ℕ) → ys ≡ [] → product gates xs ys ≡ wires gates (replicate (length xs) 1)
unfolding product
no_rows gates xs ys e = ap (product gates xs) e

-- a row in the words of the code
pub meet_then_adder : (kind : Meet) (gates : List Gate) (xs ys us vs : List ℕ) (c : ℕ) → Begins gates (adder (meet kind gates xs ys).gates us vs c).gates
meet_then_adder kind gates xs ys us vs c = begins_trans (meet_begins kind gates xs ys) (adder_begins (meet kind gates xs ys).gates us vs c)

-- what a row is made of
pub record RowParts (gates : List Gate) (xs sum : List ℕ) (place count y : ℕ) (factor bits high : List ℕ) : Type 0 where
  pub first : count ≡ length xs - place
  pub second : factor ≡ take count xs
  pub third : bits ≡ replicate count y
  pub fourth : high ≡ drop place sum

row_meet : {gates : List Gate} {xs sum : List ℕ} {place count y : ℕ} {factor bits high : List ℕ} → RowParts gates xs sum place count y factor bits high
    → meet Meet.And gates factor bits ≡ meet Meet.And gates (take (length xs - place) xs) (replicate (length xs - place) y)
row_meet {gates} {xs} {sum} {place} {count} {y} r = ap₂ (λ p q. meet Meet.And gates p q) r.second r.third ∙ ap (λ n. meet Meet.And gates (take n xs) (replicate n y)) r.first

pub row_first : {gates : List Gate} {xs sum : List ℕ} {place count y : ℕ} {factor bits high : List ℕ} (now : List Gate) → RowParts gates xs sum place count y factor bits high
    → IsPart gates now (meet Meet.And gates factor bits).gates → IsPart gates now (row_added xs place (wires gates sum) y).gates
row_first {gates} now r p = part_first (adder_begins _ _ _ _) (subst (λ s. IsPart gates now s.gates) (row_meet r) p)

row_adder : {gates : List Gate} {xs sum : List ℕ} {place count y : ℕ} {factor bits high : List ℕ} (middle : List Gate) (row : List ℕ) → RowParts gates xs sum place count y factor bits high
    → middle ≡ (meet Meet.And gates factor bits).gates → row ≡ (meet Meet.And gates factor bits).word
    → (adder middle high row 1).gates ≡ (row_added xs place (wires gates sum) y).gates
row_adder {gates} {xs} {place = place} {y = y} {high = high} middle row r e f =
    let made = meet Meet.And gates (take (length xs - place) xs) (replicate (length xs - place) y) in
    ap₂ (λ m w. (adder m high w 1).gates) e f ∙ ap (λ s. (adder s.gates high s.word 1).gates) (row_meet r) ∙ ap (λ h. (adder made.gates h made.word 1).gates) r.fourth

pub row_second : {gates : List Gate} {xs sum : List ℕ} {place count y : ℕ} {factor bits high : List ℕ} (middle now : List Gate) (row : List ℕ) → RowParts gates xs sum place count y factor bits high
    → middle ≡ (meet Meet.And gates factor bits).gates → row ≡ (meet Meet.And gates factor bits).word → IsPart middle now (adder middle high row 1).gates → IsPart gates now (row_added xs place (wires gates sum) y).gates
row_second {gates} {factor = factor} {bits = bits} middle now row r e f p =
    part_second (subst (Begins gates) (sym e) (meet_begins Meet.And gates factor bits)) (subst (λ t. IsPart middle now t) (row_adder middle row r e f) p)

-- the first row in part
pub first_row_part : (gates now : List Gate) (xs ys bits : List ℕ) (y : ℕ) → slice_get ys 0 ≡ Some y → bits ≡ replicate (length xs) y → IsPart gates now (meet Meet.And gates xs bits).gates → IsPart gates now (product gates xs ys).gates
first_row_part gates now xs ys bits y e f p =
    let row = meet Meet.And gates xs (replicate (length xs) y) in
    let rest : Begins row.gates (product gates xs ys).gates = subst (λ t. Begins row.gates t.gates) (product_cons gates xs (drop 1 ys) y ∙ ap (product gates xs) (sym (drop_is ys 0 y e))) (rows_begin xs 1 row (drop 1 ys)) in
    part_first rest (subst (λ b. IsPart gates now (meet Meet.And gates xs b).gates) f p)
