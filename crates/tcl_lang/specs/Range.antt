-- The value of a range term, a word that keeps the type of its operands and wraps, and the truth of a range predicate.
use Rattle.std.specs.Prelude.{◌-◌, ◌^◌, ℤ, pos, neg_ℤ, ◌+ℤ◌, ◌-ℤ◌, ◌*ℤ◌, bit_and, bit_or, bit_xor, int_lt, int_le, Bool, true, false, not, ◌&&◌, ◌||◌, List}
use Rattle.std.specs.Ordering.{int_eq}
use Rattle.tcl_lang.specs.declared.ty.Ty.{Ty}
use Rattle.tcl_lang.specs.declared.ty.Word.{Word}
use Rattle.tcl_lang.specs.declared.range.RngOp.{RngOp}
use Rattle.tcl_lang.specs.declared.range.RngOp.TheVariants.{Add, Sub, Mul, And, Or, Xor}
use Rattle.tcl_lang.specs.declared.range.CmpOp.{CmpOp}
use Rattle.tcl_lang.specs.declared.range.CmpOp.TheVariants.{Eq, Ne, Lt, Le, Gt, Ge}
use Rattle.tcl_lang.specs.declared.range.RngTerm.{RngTerm, RngTerm-F, fold-RngTerm}
use Rattle.tcl_lang.specs.declared.range.RngTerm.TheOpen as term_layer
use Rattle.tcl_lang.specs.declared.range.RngPred.{RngPred, RngPred-F, fold-RngPred}
use Rattle.tcl_lang.specs.declared.range.RngPred.TheOpen as pred_layer
use Rattle.tcl_lang.specs.Types.{wrap_of}
use Rattle.tcl_lang.specs.Store.{word_of, pattern_of}

-- the word of a type that is congruent to n
abbrev pub wrapped_word : Ty → ℤ → Word
wrapped_word T n = record { ty = T; value = wrap_of T n }

-- the integer that a binary operator makes of two words of type T, before it is wrapped
abbrev pub combined : RngOp → Ty → ℤ → ℤ → ℤ
combined Add T n m = n +ℤ m
combined Sub T n m = n -ℤ m
combined Mul T n m = n *ℤ m
combined And T n m = pos (bit_and (pattern_of T.width n) (pattern_of T.width m))
combined Or T n m = pos (bit_or (pattern_of T.width n) (pattern_of T.width m))
combined Xor T n m = pos (bit_xor (pattern_of T.width n) (pattern_of T.width m))

-- a word with every bit flipped, before it is wrapped
abbrev pub flipped : Ty → ℤ → ℤ
flipped T n = pos (2 ^ T.width - 1 - pattern_of T.width n)

-- the word of a range term from those of its parts
abbrev pub word_step : List Word → RngTerm-F Word → Word
word_step store (term_layer.Leaf atom) = word_of store atom
word_step store (term_layer.Neg u) = wrapped_word u.ty (neg_ℤ u.value)
word_step store (term_layer.Flip u) = wrapped_word u.ty (flipped u.ty u.value)
word_step store (term_layer.Bin op u v) = wrapped_word u.ty (combined op u.ty u.value v.value)
word_step store (term_layer.Cast T u) = wrapped_word T u.value

-- the word of a range term in a store
abbrev pub range_word : List Word → RngTerm → Word
range_word store t = fold-RngTerm Word (word_step store) t

-- a comparison of values
abbrev pub compares : CmpOp → ℤ → ℤ → Bool
compares Eq n m = int_eq n m
compares Ne n m = not (int_eq n m)
compares Lt n m = int_lt n m
compares Le n m = int_le n m
compares Gt n m = int_lt m n
compares Ge n m = int_le m n

-- the truth of a range predicate from that of its parts
abbrev pub truth_step : List Word → RngPred-F Bool → Bool
truth_step store pred_layer.True = true
truth_step store pred_layer.False = false
truth_step store (pred_layer.Cmp op t u) = compares op (range_word store t).value (range_word store u).value
truth_step store (pred_layer.Not p) = not p
truth_step store (pred_layer.Both p q) = p && q
truth_step store (pred_layer.Either p q) = p || q

-- the truth of a range predicate in a store
abbrev pub range_truth : List Word → RngPred → Bool
range_truth store p = fold-RngPred Bool (truth_step store) p
