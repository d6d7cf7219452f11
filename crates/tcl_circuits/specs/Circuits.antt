-- The circuits of word arithmetic: what gates they append, and the literals that they give.
use Rattle.std.specs.Prelude.{ℕ, ◌+◌, ◌-◌, ◌*◌, ◌/◌, ◌^◌, ◌≤◌, ℤ, pos, unsigned_abs, Bool, true, false, List, [], ◌∷◌, ◌++◌, length, take, drop, replicate, map}
use Rattle.std.specs.Int.{int_rem_euclid}
use Rattle.tcl_cnf.specs.Literal.{neg}
use Rattle.tcl_gates.specs.declared.gate.Gate.{Gate}
use Rattle.tcl_gates.specs.declared.gate.Gate.TheVariants.{And, Xor, Major, Choice}
use Rattle.tcl_circuits.specs.declared.links.Meet.{Meet}
use Rattle.tcl_circuits.specs.declared.links.Meet.TheVariants as Meet
use Rattle.tcl_circuits.specs.declared.links.Link.{Link}
use Rattle.tcl_circuits.specs.declared.links.Link.TheVariants as Link
use Rattle.tcl_bits.specs.Value.{number_bits}
use Rattle.tcl_gates.specs.Meaning.{next_lit}
use Rattle.tcl_circuits.specs.Wires.{Wire, Wires, Carried}

abbrev pub carried : List Gate → List ℕ → ℕ → Carried
carried gates word carry = record { gates = gates; word = word; carry = carry }

-- one full adder behind the others
abbrev pub add_lit : Carried → ℕ → ℕ → Carried
add_lit s x y =
    let halves = s.gates ++ Xor x y ∷ [] in
    let sums = halves ++ Xor (next_lit s.gates) s.carry ∷ [] in
    record { gates = sums ++ Major x y s.carry ∷ []; word = s.word ++ next_lit halves ∷ []; carry = next_lit sums }

-- full adders from the lowest bit on
unfoldable pub add_lits : Carried → List ℕ → List ℕ → Carried
add_lits s [] ys = s
add_lits s (x ∷ xs) [] = s
add_lits s (x ∷ xs) (y ∷ ys) = add_lits (add_lit s x y) xs ys

-- the adder
unfoldable pub adder : List Gate → List ℕ → List ℕ → ℕ → Carried
adder gates xs ys carry = add_lits (record { gates = gates; word = []; carry = carry }) xs ys

-- the gate of a pair of bits
abbrev pub meet_gate : Meet → ℕ → ℕ → Gate
meet_gate Meet.And x y = And x y
meet_gate Meet.Xor x y = Xor x y
meet_gate (Meet.Choice c) x y = Choice c x y

abbrev pub wires : List Gate → List ℕ → Wires
wires gates word = record { gates = gates; word = word }

abbrev pub wire : List Gate → ℕ → Wire
wire gates lit = record { gates = gates; lit = lit }

abbrev pub meet_lit : Meet → Wires → ℕ → ℕ → Wires
meet_lit kind s x y = wires (s.gates ++ meet_gate kind x y ∷ []) (s.word ++ next_lit s.gates ∷ [])

unfoldable pub meet_lits : Meet → Wires → List ℕ → List ℕ → Wires
meet_lits kind s [] ys = s
meet_lits kind s (x ∷ xs) [] = s
meet_lits kind s (x ∷ xs) (y ∷ ys) = meet_lits kind (meet_lit kind s x y) xs ys

-- two words met bit by bit
unfoldable pub meet : Meet → List Gate → List ℕ → List ℕ → Wires
meet kind gates xs ys = meet_lits kind (wires gates []) xs ys

-- one link of a chain: `major x (not y) carry`, `and equal (not (xor x y))`, `and within (not x)`
abbrev pub link : Link → Wire → ℕ → ℕ → Wire
link Link.Less s x y = wire (s.gates ++ Major x (neg y) s.lit ∷ []) (next_lit s.gates)
link Link.Equal s x y =
    let pair = s.gates ++ Xor x y ∷ [] in
    wire (pair ++ And s.lit (neg (next_lit s.gates)) ∷ []) (next_lit pair)
link Link.Clear s x y = wire (s.gates ++ And s.lit (neg x) ∷ []) (next_lit s.gates)

unfoldable pub links : Link → Wire → List ℕ → List ℕ → Wire
links kind s [] ys = s
links kind s (x ∷ xs) [] = s
links kind s (x ∷ xs) (y ∷ ys) = links kind (link kind s x y) xs ys

-- a chain that begins true
unfoldable pub chain : Link → List Gate → List ℕ → List ℕ → Wire
chain kind gates xs ys = links kind (wire gates 0) xs ys

-- the word with its highest literal negated
abbrev pub top_negated : List ℕ → List ℕ
top_negated [] = []
top_negated (l ∷ []) = neg l ∷ []
top_negated (l ∷ m ∷ ls) = l ∷ top_negated (m ∷ ls)

abbrev pub compared : Bool → List ℕ → List ℕ
compared true ls = top_negated ls
compared false ls = ls

abbrev pub negated : Wire → Wire
negated s = wire s.gates (neg s.lit)

-- whether the first word is the lesser
unfoldable pub less : List Gate → Bool → List ℕ → List ℕ → Wire
less gates signed xs ys = negated (chain Link.Less gates (compared signed xs) (compared signed ys))

-- whether two words are equal
unfoldable pub equal : List Gate → List ℕ → List ℕ → Wire
equal gates xs ys = chain Link.Equal gates xs ys

-- one of two words
unfoldable pub choose : List Gate → ℕ → List ℕ → List ℕ → Wires
choose gates c xs ys = meet (Meet.Choice c) gates xs ys

-- the last literal, or this one where the list is empty
abbrev pub last_lit : ℕ → List ℕ → ℕ
last_lit x [] = x
last_lit x (y ∷ ys) = last_lit y ys

-- the literal that a word is extended by; literal 1 is false
abbrev pub fill_lit : Bool → List ℕ → ℕ
fill_lit true ls = last_lit 1 ls
fill_lit false ls = 1

-- a word at another width
unfoldable pub extended : Bool → ℕ → List ℕ → List ℕ
extended signed width ls = take width ls ++ replicate (width - length ls) (fill_lit signed ls)

-- whether a word lies in the narrower type
unfoldable pub in_range : List Gate → Bool → ℕ → List ℕ → Wire
in_range gates true width ls = chain Link.Equal gates (drop width ls) (replicate (length ls - width) (last_lit 1 (take width ls)))
in_range gates false width ls = chain Link.Clear gates (drop width ls) (drop width ls)

-- a product with one row more
abbrev pub row_added : List ℕ → ℕ → Wires → ℕ → Wires
row_added xs place s y =
    let count = length xs - place in
    let row = meet Meet.And s.gates (take count xs) (replicate count y) in
    let sum = adder row.gates (drop place s.word) row.word 1 in
    wires sum.gates (take place s.word ++ sum.word)

unfoldable pub rows_added : List ℕ → ℕ → Wires → List ℕ → Wires
rows_added xs place s [] = s
rows_added xs place s (y ∷ ys) = rows_added xs (place + 1) (row_added xs place s y) ys

-- the product, with as many bits as the first word
unfoldable pub product : List Gate → List ℕ → List ℕ → Wires
product gates xs [] = wires gates (replicate (length xs) 1)
product gates xs (y ∷ ys) = rows_added xs 1 (meet Meet.And gates xs (replicate (length xs) y)) ys

-- the difference with borrow: the word, and the borrow
unfoldable pub difference : List Gate → List ℕ → List ℕ → ℕ → Carried
difference gates xs ys borrow =
    let s = adder gates xs (map neg ys) (neg borrow) in
    carried s.gates s.word (neg s.carry)

-- the negated number
unfoldable pub negation : List Gate → List ℕ → Wires
negation gates xs =
    let s = adder gates (replicate (length xs) 1) (map neg xs) 0 in
    wires s.gates s.word

-- both of two words, bit by bit
unfoldable pub bitwise_and : List Gate → List ℕ → List ℕ → Wires
bitwise_and gates xs ys = meet Meet.And gates xs ys

-- exactly one of two words, bit by bit
unfoldable pub bitwise_xor : List Gate → List ℕ → List ℕ → Wires
bitwise_xor gates xs ys = meet Meet.Xor gates xs ys

-- either of two words, bit by bit: the negation of neither
unfoldable pub bitwise_or : List Gate → List ℕ → List ℕ → Wires
bitwise_or gates xs ys =
    let s = meet Meet.And gates (map neg xs) (map neg ys) in
    wires s.gates (map neg s.word)

-- a word shifted up within its width
unfoldable pub shifted : ℕ → List ℕ → List ℕ
shifted count xs = replicate count 1 ++ take (length xs - count) xs

-- the literal of a bit that is known: literal 0 is true, and literal 1 false
abbrev pub constant_lit : Bool → ℕ
constant_lit true = 0
constant_lit false = 1

-- the literals of an integer's lowest bits in two's complement
unfoldable pub constant : ℕ → ℤ → List ℕ
constant width n = map constant_lit (number_bits width (unsigned_abs (int_rem_euclid n (pos (2 ^ width)))))

-- the literal by which it is chosen is within n gates
abbrev pub MeetWithin : ℕ → Meet → Type 0
MeetWithin n Meet.And = Unit {0}
MeetWithin n Meet.Xor = Unit {0}
MeetWithin n (Meet.Choice c) = c / 2 ≤ n
