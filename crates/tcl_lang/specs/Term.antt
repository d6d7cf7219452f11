-- The value of an algebraic term: an integer without bound. A power 0 is 1, also of 0.
use Rattle.std.specs.Prelude.{ℕ, zero, suc, ℤ, pos, neg_ℤ, ◌+ℤ◌, ◌-ℤ◌, ◌*ℤ◌, List}
use Rattle.tcl_lang.specs.declared.ty.Word.{Word}
use Rattle.tcl_lang.specs.declared.term.Term.{Term, Term-F, fold-Term}
use Rattle.tcl_lang.specs.declared.term.Term.TheOpen as layer
use Rattle.tcl_lang.specs.Store.{word_at}

-- the product of k copies of n
unfoldable pub power_of : ℤ → ℕ → ℤ
power_of n zero = pos 1
power_of n (suc k) = n *ℤ power_of n k

-- the value of a term from those of its parts
abbrev pub value_step : List Word → Term-F ℤ → ℤ
value_step store (layer.Var name) = (word_at store name).value
value_step store (layer.Num n) = n
value_step store (layer.Neg n) = neg_ℤ n
value_step store (layer.Add n m) = n +ℤ m
value_step store (layer.Sub n m) = n -ℤ m
value_step store (layer.Mul n m) = n *ℤ m
value_step store (layer.Pow n k) = power_of n k

-- the value of a term in a store
abbrev pub term_value : List Word → Term → ℤ
term_value store t = fold-Term ℤ (value_step store) t
