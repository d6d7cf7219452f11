-- The word of a variable from its type and its value. No public clause cites this module.
use Rattle.std.specs.Prelude.{ℤ, Option, Some, None}
use Rattle.tcl_lang.specs.declared.ty.Ty.{Ty}
use Rattle.tcl_lang.specs.declared.ty.Word.{Word}
use Rattle.tcl_lang.specs.declared.variable.Variable.{Variable}
use Rattle.tcl_lang.specs.Store.{empty_word}

-- of a type; the empty word where there is no value
abbrev pub word_with : Ty → Option ℤ → Word
word_with T None = empty_word
word_with T (Some n) = record { ty = T; value = n }

-- of a variable; the empty word where there is none
abbrev pub word_given : Option Variable → Option ℤ → Word
word_given None n = empty_word
word_given (Some x) n = word_with x.ty n
