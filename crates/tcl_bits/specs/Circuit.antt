-- What the circuits of word arithmetic compute, gate by gate, on lists of Booleans, lowest bit first.
use Rattle.std.specs.Prelude.{ℕ, ◌+◌, ◌-◌, Bool, true, false, not, ◌&&◌, ◌||◌, List, [], ◌∷◌, ◌++◌, length, take, drop, replicate, map}
use Rattle.tcl_bits.specs.Value.{top_bit}

-- exclusive or
abbrev pub xor_bit : Bool → Bool → Bool
xor_bit true y = not y
xor_bit false y = y

-- whether at least two of three bits are set
abbrev pub major_bit : Bool → Bool → Bool → Bool
major_bit true y z = y || z
major_bit false y z = y && z

-- the second bit where the first is set, and else the third
abbrev pub choice_bit : Bool → Bool → Bool → Bool
choice_bit true x y = x
choice_bit false x y = y

-- the bits of a sum with carry: at each bit `xor (xor x y) carry`, and the next carry is the major of the three
abbrev pub sum_bits : List Bool → List Bool → Bool → List Bool
sum_bits [] ys carry = []
sum_bits (x ∷ xs) [] carry = []
sum_bits (x ∷ xs) (y ∷ ys) carry = xor_bit (xor_bit x y) carry ∷ sum_bits xs ys (major_bit x y carry)

-- the carry above the highest bit of a sum
abbrev pub carry_out : List Bool → List Bool → Bool → Bool
carry_out [] ys carry = carry
carry_out (x ∷ xs) [] carry = carry
carry_out (x ∷ xs) (y ∷ ys) carry = carry_out xs ys (major_bit x y carry)

-- every bit flipped
abbrev pub flipped_bits : List Bool → List Bool
flipped_bits xs = map not xs

-- as many bits, none of them set
abbrev pub no_bits : ℕ → List Bool
no_bits n = replicate n false

-- the bits of a difference with borrow: the sum with the flipped bits and the flipped borrow
abbrev pub difference_bits : List Bool → List Bool → Bool → List Bool
difference_bits xs ys borrow = sum_bits xs (flipped_bits ys) (not borrow)

-- the borrow of a difference: its carry, flipped
abbrev pub borrow_out : List Bool → List Bool → Bool → Bool
borrow_out xs ys borrow = not (carry_out xs (flipped_bits ys) (not borrow))

-- the bits of the negated number: zero with the flipped bits and a carry
abbrev pub negation_bits : List Bool → List Bool
negation_bits xs = sum_bits (no_bits (length xs)) (flipped_bits xs) true

-- a row of a product: the first bits of one factor, each met with one bit of the other
abbrev pub row_bits : List Bool → Bool → ℕ → List Bool
row_bits xs y count = map (λ x. x && y) (take count xs)

-- a product with one row more: the bits from `place` on are replaced by their sum with the row, carry false
abbrev pub row_added : List Bool → ℕ → Bool → List Bool → List Bool
row_added xs place y sum = take place sum ++ sum_bits (drop place sum) (row_bits xs y (length xs - place)) false

-- a product with the rows of these bits more, the first of them at `place`
abbrev pub rows_added : List Bool → ℕ → List Bool → List Bool → List Bool
rows_added xs place [] sum = sum
rows_added xs place (y ∷ ys) sum = rows_added xs (place + 1) ys (row_added xs place y sum)

-- the bits of a product, as many as the first factor has
abbrev pub product_bits : List Bool → List Bool → List Bool
product_bits xs [] = no_bits (length xs)
product_bits xs (y ∷ ys) = rows_added xs 1 ys (row_bits xs y (length xs))

-- the chain of a comparison: at each bit `major x (not y) carry`
abbrev pub less_carry : List Bool → List Bool → Bool → Bool
less_carry [] ys carry = carry
less_carry (x ∷ xs) [] carry = carry
less_carry (x ∷ xs) (y ∷ ys) carry = less_carry xs ys (major_bit x (not y) carry)

-- the bits with the highest flipped
abbrev pub top_flipped : List Bool → List Bool
top_flipped [] = []
top_flipped (x ∷ []) = not x ∷ []
top_flipped (x ∷ y ∷ ys) = x ∷ top_flipped (y ∷ ys)

-- whether the first number is the lesser: signed numbers have their highest bits flipped first, the first carry is
-- true, and the answer is the last carry, flipped
abbrev pub less_bit : Bool → List Bool → List Bool → Bool
less_bit true xs ys = not (less_carry (top_flipped xs) (top_flipped ys) true)
less_bit false xs ys = not (less_carry xs ys true)

-- the chain of an equality: at each bit `and equal (not (xor x y))`
abbrev pub equal_chain : List Bool → List Bool → Bool → Bool
equal_chain [] ys equal = equal
equal_chain (x ∷ xs) [] equal = equal
equal_chain (x ∷ xs) (y ∷ ys) equal = equal_chain xs ys (equal && not (xor_bit x y))

-- whether two numbers are equal
abbrev pub equal_bit : List Bool → List Bool → Bool
equal_bit xs ys = equal_chain xs ys true

-- the bit that a number is extended by: its highest where it is signed, and else false
abbrev pub fill_bit : Bool → List Bool → Bool
fill_bit true xs = top_bit xs
fill_bit false xs = false

-- a number at another width: its low bits, and where the width is greater the bit that it is extended by
abbrev pub extended_bits : Bool → ℕ → List Bool → List Bool
extended_bits signed width xs = take width xs ++ replicate (width - length xs) (fill_bit signed xs)

-- the chain that no further bit is set: at each bit `and within (not x)`
abbrev pub clear_chain : List Bool → Bool → Bool
clear_chain [] within = within
clear_chain (x ∷ xs) within = clear_chain xs (within && not x)

-- the chain that each further bit is the sign: at each bit `and within (not (xor x sign))`
abbrev pub sign_chain : Bool → List Bool → Bool → Bool
sign_chain sign [] within = within
sign_chain sign (x ∷ xs) within = sign_chain sign xs (within && not (xor_bit x sign))

-- whether a number lies in the narrower type of this width
abbrev pub range_bit : Bool → ℕ → List Bool → Bool
range_bit true width xs = sign_chain (top_bit (take width xs)) (drop width xs) true
range_bit false width xs = clear_chain (drop width xs) true

-- two numbers met bit by bit
abbrev pub met_bits : (Bool → Bool → Bool) → List Bool → List Bool → List Bool
met_bits gate [] ys = []
met_bits gate (x ∷ xs) [] = []
met_bits gate (x ∷ xs) (y ∷ ys) = gate x y ∷ met_bits gate xs ys

-- one of two numbers, chosen bit by bit
abbrev pub chosen_bits : Bool → List Bool → List Bool → List Bool
chosen_bits chosen xs ys = met_bits (choice_bit chosen) xs ys

-- a number shifted up within its width
abbrev pub shifted_bits : ℕ → List Bool → List Bool
shifted_bits count xs = no_bits count ++ take (length xs - count) xs
