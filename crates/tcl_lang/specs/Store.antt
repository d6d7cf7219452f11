-- Stores: what each name holds at one moment. A store lists words by the number of the name, and a name that has no
-- value yet has the empty word.
use Rattle.std.specs.Prelude.{ℕ, ◌^◌, ℤ, pos, unsigned_abs, false, List, slice_index_or, slice_set}
use Rattle.std.specs.Int.{int_rem_euclid}
use Rattle.tcl_lang.specs.declared.ty.Ty.{Ty}
use Rattle.tcl_lang.specs.declared.ty.Word.{Word}
use Rattle.tcl_lang.specs.declared.instr.Atom.{Atom}
use Rattle.tcl_lang.specs.declared.instr.Atom.TheVariants.{Var, Lit}

-- the word of a name without a value
abbrev pub empty_word : Word
empty_word = record { ty = record { signed = false; width = 0 }; value = pos 0 }

-- the word of a name
abbrev pub word_at : List Word → ℕ → Word
word_at store name = slice_index_or store name empty_word

-- the store in which the name has this word
abbrev pub set_word : List Word → ℕ → Ty → ℤ → List Word
set_word store name T n = slice_set store name (record { ty = T; value = n })

-- the word that an operand stands for
abbrev pub word_of : List Word → Atom → Word
word_of store (Var name) = word_at store name
word_of store (Lit T n) = record { ty = T; value = n }

-- the two's-complement pattern of an integer at a width, as a number
abbrev pub pattern_of : ℕ → ℤ → ℕ
pattern_of width n = unsigned_abs (int_rem_euclid n (pos (2 ^ width)))
