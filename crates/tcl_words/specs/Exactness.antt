-- The circuits of exactness conditions, and the bits that they show.
use Rattle.std.specs.Prelude.{ℕ, ◌+◌, max, Bool, true, false, List, length}
use Rattle.tcl_gates.specs.declared.gate.Gate.{Gate}
use Rattle.tcl_lang.specs.declared.ty.Ty.{Ty}
use Rattle.tcl_lang.specs.declared.instr.Op.{Op}
use Rattle.tcl_bits.specs.Exactness.{sum_fits, difference_fits, product_fits, shift_fits, cast_fits}
use Rattle.tcl_circuits.specs.Circuits.{wire, wires, adder, difference, extended, shifted, in_range}
use Rattle.tcl_circuits.specs.Wires.{Wire, Wires, Carried}
use Rattle.tcl_words.specs.Instructions.{first_lit, first_bit, wide_product}

abbrev pub plain : Carried → Wires
plain s = wires s.gates s.word

-- whether a word lies in the type of this sign and width
abbrev pub fits : Bool → ℕ → Wires → Wire
fits signed width s = in_range s.gates signed width s.word

-- the exactness condition of an instruction at the type T, where S is the type of its first operand; true where it has none
abbrev pub exact_lit : List Gate → Op → Ty → Ty → ℕ → List ℕ → List ℕ → List ℕ → Wire
exact_lit gates Op.Add T S n a b c = let w = length a + 2 in fits T.signed (length a) (plain (adder gates (extended T.signed w a) (extended T.signed w b) 1))
exact_lit gates Op.Adc T S n a b c = let w = length a + 2 in fits T.signed (length a) (plain (adder gates (extended T.signed w a) (extended T.signed w b) (first_lit c)))
exact_lit gates Op.Sub T S n a b c = let w = length a + 2 in fits T.signed (length a) (plain (difference gates (extended T.signed w a) (extended T.signed w b) 1))
exact_lit gates Op.Sbb T S n a b c = let w = length a + 2 in fits T.signed (length a) (plain (difference gates (extended T.signed w a) (extended T.signed w b) (first_lit c)))
exact_lit gates Op.Mul T S n a b c = fits T.signed (length a) (wide_product gates T.signed a b)
exact_lit gates Op.Shl T S n a b c = in_range gates T.signed (length a) (shifted n (extended T.signed (length a + n) a))
exact_lit gates Op.Vpc T S n a b c = in_range gates T.signed T.width (extended S.signed (max (length a) T.width + 1) a)
exact_lit gates _ T S n a b c = wire gates 0

abbrev pub exact_bit : Op → Ty → Ty → ℕ → List Bool → List Bool → List Bool → Bool
exact_bit Op.Add T S n a b c = sum_fits T.signed a b false
exact_bit Op.Adc T S n a b c = sum_fits T.signed a b (first_bit c)
exact_bit Op.Sub T S n a b c = difference_fits T.signed a b false
exact_bit Op.Sbb T S n a b c = difference_fits T.signed a b (first_bit c)
exact_bit Op.Mul T S n a b c = product_fits T.signed a b
exact_bit Op.Shl T S n a b c = shift_fits T.signed n a
exact_bit Op.Vpc T S n a b c = cast_fits S.signed T.signed T.width a
exact_bit _ T S n a b c = true
