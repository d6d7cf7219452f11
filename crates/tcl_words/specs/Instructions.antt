-- The circuit of each instruction, row by row: the literals of its results, and the bits that they show.
use Rattle.std.specs.Prelude.{ℕ, ◌*◌, Bool, false, ◌&&◌, ◌||◌, List, [], ◌∷◌, ◌++◌, length, take, drop, map}
use Rattle.tcl_cnf.specs.Literal.{neg}
use Rattle.tcl_gates.specs.declared.gate.Gate.{Gate}
use Rattle.tcl_lang.specs.declared.ty.Ty.{Ty}
use Rattle.tcl_lang.specs.declared.instr.Op.{Op}
use Rattle.tcl_lang.specs.declared.instr.Op.TheVariants.{Mov, Add, Adds, Adc, Adcs, Sub, Subb, Sbb, Sbbs, Mul, Mull, Mulj, Shl, Split, Join, Cast, Vpc, Cmov, And, Or, Xor, Not, Nondet}
use Rattle.tcl_bits.specs.Circuit.{xor_bit, sum_bits, carry_out, difference_bits, borrow_out, product_bits, met_bits, chosen_bits, flipped_bits, extended_bits, shifted_bits}
use Rattle.tcl_bits.specs.Exactness.{full_product}
use Rattle.tcl_circuits.specs.Circuits.{adder, difference, bitwise_and, bitwise_xor, bitwise_or, choose, product, extended, shifted}
use Rattle.tcl_circuits.specs.Wires.{Wires, Carried}

-- the words of the results with the gates so far
pub record Outcome : Type 0 where
  pub gates : List Gate
  pub words : List (List ℕ)

abbrev pub outcome : List Gate → List (List ℕ) → Outcome
outcome gates words = record { gates = gates; words = words }

abbrev pub sum_alone : Carried → Outcome
sum_alone s = outcome s.gates (s.word ∷ [])

abbrev pub carry_first : Carried → Outcome
carry_first s = outcome s.gates ((s.carry ∷ []) ∷ s.word ∷ [])

abbrev pub one_word : Wires → Outcome
one_word s = outcome s.gates (s.word ∷ [])

-- the part from a bit on, then the part below it
abbrev pub high_first : ℕ → Wires → Outcome
high_first n s = outcome s.gates (drop n s.word ∷ take n s.word ∷ [])

-- the literal of a word of one bit, and the bit
abbrev pub first_lit : List ℕ → ℕ
first_lit [] = 1
first_lit (l ∷ ls) = l

abbrev pub first_bit : List Bool → Bool
first_bit [] = false
first_bit (b ∷ bs) = b

-- the product at twice the width
abbrev pub wide_product : List Gate → Bool → List ℕ → List ℕ → Wires
wide_product gates signed a b = product gates (extended signed (2 * length a) a) (extended signed (2 * length a) b)

-- the results of an instruction at the stated type T, where S is the type of its first operand
abbrev pub result_lits : List Gate → Op → Ty → Ty → ℕ → List ℕ → List ℕ → List ℕ → Outcome
result_lits gates Mov T S n a b c = outcome gates (a ∷ [])
result_lits gates Add T S n a b c = sum_alone (adder gates a b 1)
result_lits gates Adds T S n a b c = carry_first (adder gates a b 1)
result_lits gates Adc T S n a b c = sum_alone (adder gates a b (first_lit c))
result_lits gates Adcs T S n a b c = carry_first (adder gates a b (first_lit c))
result_lits gates Sub T S n a b c = sum_alone (difference gates a b 1)
result_lits gates Subb T S n a b c = carry_first (difference gates a b 1)
result_lits gates Sbb T S n a b c = sum_alone (difference gates a b (first_lit c))
result_lits gates Sbbs T S n a b c = carry_first (difference gates a b (first_lit c))
result_lits gates Mul T S n a b c = one_word (product gates a b)
result_lits gates Mull T S n a b c = high_first T.width (wide_product gates T.signed a b)
result_lits gates Mulj T S n a b c = one_word (wide_product gates T.signed a b)
result_lits gates Shl T S n a b c = outcome gates (shifted n a ∷ [])
result_lits gates Split T S n a b c = outcome gates (extended T.signed T.width (drop n a) ∷ extended false T.width (take n a) ∷ [])
result_lits gates Join T S n a b c = outcome gates ((b ++ a) ∷ [])
result_lits gates Cast T S n a b c = outcome gates (extended S.signed T.width a ∷ [])
result_lits gates Vpc T S n a b c = outcome gates (extended S.signed T.width a ∷ [])
result_lits gates Cmov T S n a b c = one_word (choose gates (first_lit a) b c)
result_lits gates And T S n a b c = one_word (bitwise_and gates a b)
result_lits gates Or T S n a b c = one_word (bitwise_or gates a b)
result_lits gates Xor T S n a b c = one_word (bitwise_xor gates a b)
result_lits gates Not T S n a b c = outcome gates (map neg a ∷ [])
result_lits gates Nondet T S n a b c = outcome gates (a ∷ [])

-- the bits of the results
abbrev pub result_bits : Op → Ty → Ty → ℕ → List Bool → List Bool → List Bool → List (List Bool)
result_bits Mov T S n a b c = a ∷ []
result_bits Add T S n a b c = sum_bits a b false ∷ []
result_bits Adds T S n a b c = (carry_out a b false ∷ []) ∷ sum_bits a b false ∷ []
result_bits Adc T S n a b c = sum_bits a b (first_bit c) ∷ []
result_bits Adcs T S n a b c = (carry_out a b (first_bit c) ∷ []) ∷ sum_bits a b (first_bit c) ∷ []
result_bits Sub T S n a b c = difference_bits a b false ∷ []
result_bits Subb T S n a b c = (borrow_out a b false ∷ []) ∷ difference_bits a b false ∷ []
result_bits Sbb T S n a b c = difference_bits a b (first_bit c) ∷ []
result_bits Sbbs T S n a b c = (borrow_out a b (first_bit c) ∷ []) ∷ difference_bits a b (first_bit c) ∷ []
result_bits Mul T S n a b c = product_bits a b ∷ []
result_bits Mull T S n a b c = drop T.width (full_product T.signed a b) ∷ take T.width (full_product T.signed a b) ∷ []
result_bits Mulj T S n a b c = full_product T.signed a b ∷ []
result_bits Shl T S n a b c = shifted_bits n a ∷ []
result_bits Split T S n a b c = extended_bits T.signed T.width (drop n a) ∷ extended_bits false T.width (take n a) ∷ []
result_bits Join T S n a b c = (b ++ a) ∷ []
result_bits Cast T S n a b c = extended_bits S.signed T.width a ∷ []
result_bits Vpc T S n a b c = extended_bits S.signed T.width a ∷ []
result_bits Cmov T S n a b c = chosen_bits (first_bit a) b c ∷ []
result_bits And T S n a b c = met_bits (λ x y. x && y) a b ∷ []
result_bits Or T S n a b c = met_bits (λ x y. x || y) a b ∷ []
result_bits Xor T S n a b c = met_bits xor_bit a b ∷ []
result_bits Not T S n a b c = flipped_bits a ∷ []
result_bits Nondet T S n a b c = a ∷ []
