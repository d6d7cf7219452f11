-- How many gates a range predicate has at least, counted by the lengths of its words before any of them is made. A word counts
-- for at most 64 bits, and a count of gates stands still at 4,194,304.
use Rattle.std.specs.Prelude.{ℕ, zero, suc, ◌+◌, ◌*◌, min, nat_le, if◌then◌else◌, List, length}
use Rattle.tcl_lang.specs.declared.range.RngOp.{RngOp}
use Rattle.tcl_lang.specs.declared.range.RngOp.TheVariants.{Add, Sub, Mul, And, Or, Xor}
use Rattle.tcl_lang.specs.declared.range.RngTerm.{RngTerm, RngTerm-F, fold-RngTerm}
use Rattle.tcl_lang.specs.declared.range.RngTerm.TheOpen as term_layer
use Rattle.tcl_lang.specs.declared.range.RngPred.{RngPred, RngPred-F, fold-RngPred}
use Rattle.tcl_lang.specs.declared.range.RngPred.TheOpen as pred_layer
use Rattle.tcl_words.specs.Ranges.{atom_lits}
use Rattle.tcl_blast.specs.declared.sizes.Size.{Size}

abbrev pub counted : ℕ → ℕ
counted n = min n 4194304

abbrev pub bounded : ℕ → ℕ
bounded n = min n 64

abbrev pub sized : ℕ → ℕ → Size
sized gates bits = record { gates = counted gates; bits = bits }

-- the gates of a product of two words of n bits: n rows, of which row k has n - k ands, and all but the first as many adders
unfoldable pub product_gates : ℕ → ℕ
product_gates zero = 0
product_gates (suc n) = product_gates n + (4 * n + 1)

abbrev pub combined_gates : RngOp → ℕ → ℕ → ℕ
combined_gates Add a b = 3 * min a b
combined_gates Sub a b = 3 * min a b
combined_gates Mul a b = if nat_le a b then product_gates a else 0
combined_gates And a b = min a b
combined_gates Or a b = min a b
combined_gates Xor a b = min a b

abbrev pub combined_bits : RngOp → ℕ → ℕ → ℕ
combined_bits Mul a b = a
combined_bits _ a b = min a b

abbrev pub combined_size : RngOp → Size → Size → Size
combined_size op s t = sized (s.gates + t.gates + combined_gates op s.bits t.bits) (combined_bits op s.bits t.bits)

abbrev pub term_size_step : List (List ℕ) → RngTerm-F Size → Size
term_size_step words (term_layer.Leaf atom) = sized 0 (bounded (length (atom_lits words atom)))
term_size_step words (term_layer.Neg s) = sized (s.gates + 3 * s.bits) s.bits
term_size_step words (term_layer.Flip s) = s
term_size_step words (term_layer.Bin op s t) = combined_size op s t
term_size_step words (term_layer.Cast T s) = sized s.gates (bounded T.width)

abbrev pub term_size : List (List ℕ) → RngTerm → Size
term_size words t = fold-RngTerm Size (term_size_step words) t

-- a comparison has at least one gate a bit
abbrev pub compared_size : Size → Size → ℕ
compared_size s t = counted (s.gates + t.gates + min s.bits t.bits)

abbrev pub pred_size_step : List (List ℕ) → RngPred-F ℕ → ℕ
pred_size_step words pred_layer.True = 0
pred_size_step words pred_layer.False = 0
pred_size_step words (pred_layer.Cmp op t u) = compared_size (term_size words t) (term_size words u)
pred_size_step words (pred_layer.Not n) = n
pred_size_step words (pred_layer.Both n m) = counted (n + m + 1)
pred_size_step words (pred_layer.Either n m) = counted (n + m + 1)

abbrev pub pred_size : List (List ℕ) → RngPred → ℕ
pred_size words p = fold-RngPred ℕ (pred_size_step words) p
