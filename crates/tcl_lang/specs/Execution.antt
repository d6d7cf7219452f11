-- What a step and a run ask of the store and the lines, so that every result can be computed.
use Rattle.std.specs.Prelude.{◌≡◌, ◌<◌, ℕ, ℤ, true, List, length, All, slice_get, Some}
use Rattle.std.specs.List.{list_all}
use Rattle.tcl_lang.specs.declared.ty.Word.{Word}
use Rattle.tcl_lang.specs.declared.instr.Instr.{Instr}
use Rattle.tcl_lang.specs.declared.pred.Line.{Line}
use Rattle.tcl_lang.specs.declared.pred.Line.TheVariants.{Input, Step}
use Rattle.tcl_lang.specs.Types.{InType}
use Rattle.tcl_lang.specs.Store.{word_at}
use Rattle.tcl_lang.specs.Names.{occurrences}
use Rattle.tcl_lang.specs.Line.{values_of}
use Rattle.tcl_lang.specs.Run.{operands_of}
use Rattle.tcl_lang.specs.Typing.{IsWellTyped}
use Rattle.tcl_lang.specs.Shape.{is_line, is_instruction}
use Rattle.tcl_lang.specs.Operands.{IsExecutable}

-- each word of the store is a value of its type
abbrev pub HoldsValues : List Word → Type 0
HoldsValues store = (name : ℕ) → InType (word_at store name).ty (word_at store name).value

-- the instruction can be executed in this store, with this choice
pub record CanExecute (store : List Word) (i : Instr) (choice : ℤ) : Type 0 where
  pub shape : is_instruction i ≡ true
  pub defines : All (λ name. name < length store) i.outs
  pub operands : IsExecutable i.op i.ty i.amount (operands_of i.op (values_of store i.args) choice)

-- the line can be gone through in this store, with this value for it to take
abbrev pub CanPass : List Word → Line → ℤ → Type 0
CanPass store (Input T name) taken = name < length store
CanPass store (Step i) taken = CanExecute store i taken
CanPass store _ taken = Unit {0}

-- the lines of a program over this many names can be run
pub record IsRunnable (names : ℕ) (lines : List Line) : Type 0 where
  pub shapes : list_all is_line lines ≡ true
  pub named : (k : ℕ) (l : Line) → slice_get lines k ≡ Some l → All (λ name. name < names) (occurrences l)
  pub typed : IsWellTyped names lines
