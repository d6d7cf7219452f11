-- What the product shows.
use Rattle.std.proofs.Common.{◌≡◌, ℕ, ◌+◌, ◌-◌, ◌≤◌, Bool, false, ◌&&◌, List, [], ◌∷◌, ◌++◌, length, map, take, drop, replicate, refl, sym, ◌∙◌, ap, subst, arith, take_all, length-take}
use Rattle.tcl_gates.specs.declared.gate.Gate.{Gate}
use Rattle.tcl_gates.specs.Meaning.{Begins, ShowsBit, Shows}
use Rattle.tcl_gates.specs.Meaning.Shows.{none, bit}
use Rattle.tcl_gates.proofs.Shown.{begins_same, begins_trans, word_kept, shows_append, shows_length, shows_take, shows_drop, shows_copies, false_shows}
use Rattle.tcl_bits.specs.Circuit.{met_bits, row_bits, product_bits, no_bits}
use Rattle.tcl_bits.specs.Circuit as bits
use Rattle.tcl_circuits.specs.declared.links.Meet.TheVariants as Meet
use Rattle.tcl_circuits.specs.Wires.{Wires}
use Rattle.tcl_circuits.specs.Circuits.{adder, meet, wires, row_added, rows_added, product}
use Rattle.tcl_circuits.proofs.Adders.{adder_shows}
use Rattle.tcl_circuits.proofs.Chains.{ShowsWires, meet_shows}

row_is : (xs : List Bool) (y : Bool) → met_bits (λ x y. x && y) xs (replicate (length xs) y) ≡ map (λ x. x && y) xs
row_is [] y = refl
row_is (x ∷ xs) y = ap (λ t. (x && y) ∷ t) (row_is xs y)

row_shows : {free : List Bool} {gates : List Gate} {xs : List ℕ} {y : ℕ} {xbits : List Bool} {b : Bool} (count : ℕ) → count ≤ length xs → Shows gates free xs xbits → ShowsBit gates free y b
    → ShowsWires free gates (meet Meet.And gates (take count xs) (replicate count y)) (row_bits xbits b count)
row_shows {free} {gates} {xs} {y} {xbits} {b} count h t u =
    let n : count ≡ length (take count xbits) = omega (arith, h, shows_length t, length-take count xbits) in
    subst (λ w. ShowsWires free gates (meet Meet.And gates (take count xs) (replicate count y)) w)
    (ap (λ n. met_bits (λ x y. x && y) (take count xbits) (replicate n b)) n ∙ row_is (take count xbits) b)
    (meet_shows Meet.And false tt (shows_take count t) (shows_copies count u))

row_added_shows : {free : List Bool} {before : List Gate} {s : Wires} {xs : List ℕ} {y : ℕ} {xbits sum : List Bool} {b : Bool} (place : ℕ)
    → ShowsWires free before s sum → Shows s.gates free xs xbits → ShowsBit s.gates free y b
    → ShowsWires free s.gates (row_added xs place s y) (bits.row_added xbits place b sum)
row_added_shows {free} {before} {s} {xs} {y} {xbits} {sum} {b} place c t u =
    let count = length xs - place in
    let row : ShowsWires free s.gates (meet Meet.And s.gates (take count xs) (replicate count y)) (row_bits xbits b (length xbits - place)) =
    subst (λ n. ShowsWires free s.gates (meet Meet.And s.gates (take count xs) (replicate count y)) (row_bits xbits b (n - place))) (shows_length t) (row_shows count (omega arith) t u) in
    let added = adder_shows (word_kept row.grown (shows_drop place c.word)) row.word (false_shows _ _) in
    record {
      grown = begins_trans row.grown added.grown;
      word = shows_append (word_kept (begins_trans row.grown added.grown) (shows_take place c.word)) added.word;
    }

rows_show : {free : List Bool} {before : List Gate} (xs ys : List ℕ) {xbits ybits sum : List Bool} (place : ℕ) (s : Wires)
    → ShowsWires free before s sum → Shows s.gates free xs xbits → Shows s.gates free ys ybits
    → ShowsWires free before (rows_added xs place s ys) (bits.rows_added xbits place ybits sum)
unfolding rows_added
rows_show xs [] place s c t none = c
rows_show xs (y ∷ ys) place s c t (bit p u) =
    let next = row_added_shows place c t p in
    rows_show xs ys (place + 1) (row_added xs place s y) (record { grown = begins_trans c.grown next.grown; word = next.word }) (word_kept next.grown t) (word_kept next.grown u)

pub product_shows : {free : List Bool} {gates : List Gate} {xs ys : List ℕ} {xbits ybits : List Bool} → Shows gates free xs xbits → Shows gates free ys ybits
    → ShowsWires free gates (product gates xs ys) (product_bits xbits ybits)
unfolding product
product_shows {free} {gates} {xs} {xbits = xbits} t none = record {
  grown = begins_same gates;
  word = subst (λ n. Shows gates free (replicate (length xs) 1) (no_bits n)) (shows_length t) (shows_copies (length xs) (false_shows gates free));
}
product_shows {free} {gates} {xs} {xbits = xbits} t (bit {l = y} {b = b} {ls = ys} p u) =
    let row : ShowsWires free gates (meet Meet.And gates xs (replicate (length xs) y)) (row_bits xbits b (length xbits)) =
    subst (λ w. ShowsWires free gates (meet Meet.And gates xs (replicate (length xs) y)) w)
    (ap (λ n. met_bits (λ x y. x && y) xbits (replicate n b)) (shows_length t) ∙ row_is xbits b ∙ ap (map (λ x. x && b)) (sym (take_all (length xbits) xbits (omega arith))))
    (meet_shows Meet.And false tt t (shows_copies (length xs) p)) in
    rows_show xs ys 1 (meet Meet.And gates xs (replicate (length xs) y)) row (word_kept row.grown t) (word_kept row.grown u)
