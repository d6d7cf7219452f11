-- Stores whose words literals show.
use Rattle.std.specs.Prelude.{◌≡◌, ℕ, ℤ, Bool, List, [], ◌∷◌, length, map, slice_get, Some}
use Rattle.tcl_bits.specs.Value.{word_value}
use Rattle.tcl_gates.specs.declared.gate.Gate.{Gate}
use Rattle.tcl_gates.specs.Meaning.{word_bits, AreWithin}
use Rattle.tcl_lang.specs.declared.ty.Ty.{Ty}
use Rattle.tcl_lang.specs.declared.ty.Word.{Word}
use Rattle.tcl_lang.specs.declared.instr.Atom.{Atom}
use Rattle.tcl_lang.specs.declared.instr.Atom.TheVariants.{Var}
use Rattle.tcl_lang.specs.declared.instr.Instr.{Instr}
use Rattle.tcl_lang.specs.declared.variable.Variable.{Variable}
use Rattle.tcl_lang.specs.Store.{word_at}
use Rattle.tcl_lang.specs.Line.{values_of}
use Rattle.tcl_lang.specs.Results.{results_of, result_types}
use Rattle.tcl_lang.specs.Values.{types_of}
use Rattle.tcl_words.specs.Ranges.{atom_lits, atom_ty}

-- as many literals as the type has bits, which show the integer in the type
pub record ShowsWord (gates : List Gate) (free : List Bool) (T : Ty) (ls : List ℕ) (n : ℤ) : Type 0 where
  pub count : length ls ≡ T.width
  pub within : AreWithin (length gates) ls
  pub value : word_value T.signed (word_bits gates free ls) ≡ n

-- the literals of a variable show its word in the store, which is of its type
pub record ShowsVariable (gates : List Gate) (free : List Bool) (words : List (List ℕ)) (variables : List Variable) (store : List Word) (v : ℕ) : Type 0 where
  pub ty : (word_at store v).ty ≡ atom_ty (types_of variables) (Var v)
  pub word : ShowsWord gates free (atom_ty (types_of variables) (Var v)) (atom_lits words (Var v)) (word_at store v).value

-- so do those of each variable among the operands
pub record ShowsOperands (gates : List Gate) (free : List Bool) (words : List (List ℕ)) (variables : List Variable) (store : List Word) (atoms : List Atom) : Type 0 where
  pub each : (k v : ℕ) → slice_get atoms k ≡ Some (Var v) → ShowsVariable gates free words variables store v

-- each word of literals shows the integer of its place
abbrev pub ShowWords : List Gate → List Bool → List Ty → List (List ℕ) → List ℤ → Type 0
ShowWords gates free [] [] [] = Unit {0}
ShowWords gates free (T ∷ types) (ls ∷ lists) (n ∷ ns) = ShowsWord gates free T ls n × ShowWords gates free types lists ns
ShowWords gates free _ _ _ = ⊥

-- each variable among the operands has as many literals as its type has bits
pub record HaveWidths (words : List (List ℕ)) (variables : List Variable) (atoms : List Atom) : Type 0 where
  pub each : (k v : ℕ) → slice_get atoms k ≡ Some (Var v) → length (atom_lits words (Var v)) ≡ (atom_ty (types_of variables) (Var v)).width

-- for every choice of the free bits and every store that the operands' literals show, the literals of the results show
-- the results
pub record ShowsResults (old : List Gate) (before : List (List ℕ)) (new : List Gate) (after : List (List ℕ)) (variables : List Variable) (i : Instr) : Type 0 where
  pub results : (free : List Bool) (store : List Word) → ShowsOperands old free before variables store i.args
      → ShowWords new free (result_types i.op i.ty) (map (λ v. atom_lits after (Var v)) i.outs) (results_of i.op i.ty i.amount (values_of store i.args))
