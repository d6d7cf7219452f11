-- Stores in which an instruction is executed: its results have the values that it computes. In a versioned form, where no
-- variable changes after its definition, the store at the end of a run is one for each instruction of the form.
use Rattle.std.specs.Prelude.{◌≡◌, ℕ, ℤ, pos, List, map, slice_index_or, Option, Some, None}
use Rattle.tcl_lang.specs.declared.ty.Word.{Word}
use Rattle.tcl_lang.specs.declared.instr.Instr.{Instr}
use Rattle.tcl_lang.specs.declared.pred.Line.{Line}
use Rattle.tcl_lang.specs.declared.pred.Line.TheVariants.{Step}
use Rattle.tcl_lang.specs.Store.{word_at}
use Rattle.tcl_lang.specs.Line.{values_of}
use Rattle.tcl_lang.specs.Results.{results_of}
use Rattle.tcl_lang.specs.Run.{operands_of}

-- the values of these names
abbrev pub values_at : List Word → List ℕ → List ℤ
values_at store names = map (λ name. (word_at store name).value) names

-- the value of the first, which is the choice of a `nondet`
abbrev pub choice_in : List Word → List ℕ → ℤ
choice_in store names = slice_index_or (values_at store names) 0 (pos 0)

-- the results of an instruction have the values that it computes, a `nondet` any value
abbrev pub IsExecuted : List Word → Instr → Type 0
IsExecuted store i =
    values_at store i.outs
    ≡ results_of i.op i.ty i.amount (operands_of i.op (values_of store i.args) (choice_in store i.outs))

abbrev pub IsExecutedAt : List Word → Option Line → Type 0
IsExecutedAt store None = Unit {0}
IsExecutedAt store (Some (Step i)) = IsExecuted store i
IsExecutedAt store (Some _) = Unit {0}
