-- Lists of Booleans as numbers, lowest bit first: unsigned, and signed in two's complement.
use Rattle.std.specs.Prelude.{ℕ, zero, suc, ◌+◌, ◌*◌, ◌/◌, ◌%◌, ◌^◌, ◌==◌, Bool, true, false, List, [], ◌∷◌, length, ℤ, pos, ◌-ℤ◌}

-- 1 for a bit that is set, and 0 else
abbrev pub bit_value : Bool → ℕ
bit_value true = 1
bit_value false = 0

-- the bits as an unsigned number
abbrev pub unsigned_value : List Bool → ℕ
unsigned_value [] = 0
unsigned_value (x ∷ xs) = bit_value x + 2 * unsigned_value xs

-- the last bit of the list, or this one where the list is empty
abbrev pub last_bit : Bool → List Bool → Bool
last_bit x [] = x
last_bit x (y ∷ ys) = last_bit y ys

-- the highest bit, which is the sign of a signed number
abbrev pub top_bit : List Bool → Bool
top_bit xs = last_bit false xs

-- the bits as a signed number: the highest counts negative
abbrev pub signed_value : List Bool → ℤ
signed_value xs = pos (unsigned_value xs) -ℤ pos (bit_value (top_bit xs) * 2 ^ length xs)

-- the bits as a number of a signed type or of an unsigned one
abbrev pub word_value : Bool → List Bool → ℤ
word_value true xs = signed_value xs
word_value false xs = pos (unsigned_value xs)

-- the lowest bits of a number, this many
abbrev pub number_bits : ℕ → ℕ → List Bool
number_bits zero n = []
number_bits (suc width) n = (n % 2 == 1) ∷ number_bits width (n / 2)
