-- The results of an instruction as a function of its operands, row by row in the order of the instructions: what a
-- program computes. The rows of the relation hold of it, and of no other results.
use Rattle.std.specs.Prelude.{ℕ, ◌-◌, ◌^◌, ℤ, pos, neg_ℤ, ◌+ℤ◌, ◌-ℤ◌, ◌*ℤ◌, bit_and, bit_or, bit_xor, ◌==◌, unsigned_abs, if◌then◌else◌, List, [], ◌∷◌}
use Rattle.std.specs.Int.{int_div_euclid, int_rem_euclid}
use Rattle.tcl_lang.specs.declared.ty.Ty.{Ty}
use Rattle.tcl_lang.specs.declared.instr.Op.{Op}
use Rattle.tcl_lang.specs.declared.instr.Op.TheVariants.{Mov, Add, Adds, Adc, Adcs, Sub, Subb, Sbb, Sbbs, Mul, Mull, Mulj, Shl, Split, Join, Cast, Vpc, Cmov, And, Or, Xor, Not, Nondet}
use Rattle.tcl_lang.specs.Types.{wrap_of, bit_type, unsigned_of, double_of}
use Rattle.tcl_lang.specs.Store.{pattern_of}
use Rattle.tcl_lang.specs.Instruction.{nth}

-- the floor of n / 2 ^ k, then the remainder
abbrev pub parts_of : ℕ → ℤ → List ℤ
parts_of k n = int_div_euclid n (pos (2 ^ k)) ∷ int_rem_euclid n (pos (2 ^ k)) ∷ []

-- the borrow of a difference, then the difference modulo 2 ^ k
abbrev pub borrow_of : ℕ → ℤ → List ℤ
borrow_of k n = neg_ℤ (int_div_euclid n (pos (2 ^ k))) ∷ int_rem_euclid n (pos (2 ^ k)) ∷ []

-- the results at the operands a, b, c
abbrev pub row_results : Op → Ty → ℕ → ℤ → ℤ → ℤ → List ℤ
row_results Mov T n a b c = a ∷ []
row_results Add T n a b c = wrap_of T (a +ℤ b) ∷ []
row_results Adds T n a b c = parts_of T.width (a +ℤ b)
row_results Adc T n a b c = wrap_of T (a +ℤ b +ℤ c) ∷ []
row_results Adcs T n a b c = parts_of T.width (a +ℤ b +ℤ c)
row_results Sub T n a b c = wrap_of T (a -ℤ b) ∷ []
row_results Subb T n a b c = borrow_of T.width (a -ℤ b)
row_results Sbb T n a b c = wrap_of T (a -ℤ b -ℤ c) ∷ []
row_results Sbbs T n a b c = borrow_of T.width (a -ℤ b -ℤ c)
row_results Mul T n a b c = wrap_of T (a *ℤ b) ∷ []
row_results Mull T n a b c = parts_of T.width (a *ℤ b)
row_results Mulj T n a b c = (a *ℤ b) ∷ []
row_results Shl T n a b c = wrap_of T (a *ℤ pos (2 ^ n)) ∷ []
row_results Split T n a b c = parts_of n a
row_results Join T n a b c = (pos (2 ^ T.width) *ℤ a +ℤ b) ∷ []
row_results Cast T n a b c = wrap_of T a ∷ []
row_results Vpc T n a b c = wrap_of T a ∷ []
row_results Cmov T n a b c = (if unsigned_abs a == 1 then b else c) ∷ []
row_results And T n a b c = wrap_of T (pos (bit_and (pattern_of T.width a) (pattern_of T.width b))) ∷ []
row_results Or T n a b c = wrap_of T (pos (bit_or (pattern_of T.width a) (pattern_of T.width b))) ∷ []
row_results Xor T n a b c = wrap_of T (pos (bit_xor (pattern_of T.width a) (pattern_of T.width b))) ∷ []
row_results Not T n a b c = wrap_of T (pos (2 ^ T.width - 1 - pattern_of T.width a)) ∷ []
row_results Nondet T n a b c = a ∷ []

-- the results at a list of operands
abbrev pub results_of : Op → Ty → ℕ → List ℤ → List ℤ
results_of op T n operands = row_results op T n (nth operands 0) (nth operands 1) (nth operands 2)

-- the types of the results
abbrev pub result_types : Op → Ty → List Ty
result_types Adds T = bit_type ∷ T ∷ []
result_types Adcs T = bit_type ∷ T ∷ []
result_types Subb T = bit_type ∷ T ∷ []
result_types Sbbs T = bit_type ∷ T ∷ []
result_types Mull T = T ∷ unsigned_of T ∷ []
result_types Mulj T = double_of T ∷ []
result_types Split T = T ∷ unsigned_of T ∷ []
result_types Join T = double_of T ∷ []
result_types _ T = T ∷ []
