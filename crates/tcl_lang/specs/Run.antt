-- Runs: the store before each line and after the last. An input lists the values that the lines take, from the first
-- line on: one for each `in` name and then one for each `nondet`. Every run goes through all lines.
use Rattle.std.specs.Prelude.{ℕ, zero, suc, ℤ, pos, List, [], ◌∷◌, take, replicate, slice_get, slice_index_or, Option, Some, None, is_some, filter_map, count_by}
use Rattle.tcl_lang.specs.declared.ty.Ty.{Ty}
use Rattle.tcl_lang.specs.declared.ty.Word.{Word}
use Rattle.tcl_lang.specs.declared.instr.Op.{Op}
use Rattle.tcl_lang.specs.declared.instr.Op.TheVariants.{Nondet}
use Rattle.tcl_lang.specs.declared.instr.Instr.{Instr}
use Rattle.tcl_lang.specs.declared.pred.Line.{Line}
use Rattle.tcl_lang.specs.declared.pred.Line.TheVariants.{Input, Step}
use Rattle.tcl_lang.specs.Types.{InType}
use Rattle.tcl_lang.specs.Store.{empty_word, set_word}
use Rattle.tcl_lang.specs.Results.{results_of, result_types}
use Rattle.tcl_lang.specs.Line.{taken_type, values_of}

-- the types of the values that the lines take
abbrev pub taken_types : List Line → List Ty
taken_types lines = filter_map taken_type lines

-- the input has one value for each, in its type
abbrev pub Fits : List Ty → List ℤ → Type 0
Fits [] [] = Unit {0}
Fits [] (n ∷ input) = ⊥
Fits (T ∷ types) [] = ⊥
Fits (T ∷ types) (n ∷ input) = InType T n × Fits types input

-- the store after results of these types were written, from left to right
abbrev pub write_all : List Word → List ℕ → List Ty → List ℤ → List Word
write_all store (name ∷ names) (T ∷ types) (n ∷ values) = write_all (set_word store name T n) names types values
write_all store _ _ _ = store

-- the operands of an instruction, the choice for `nondet`
abbrev pub operands_of : Op → List ℤ → ℤ → List ℤ
operands_of Nondet values choice = choice ∷ []
operands_of _ values choice = values

-- the store after an instruction
abbrev pub execute : List Word → Instr → ℤ → List Word
execute store i choice =
    write_all store i.outs (result_types i.op i.ty)
    (results_of i.op i.ty i.amount (operands_of i.op (values_of store i.args) choice))

-- the store after a line that takes this value, if it takes one
abbrev pub store_after : Option Line → ℤ → List Word → List Word
store_after None taken store = store
store_after (Some (Input T name)) taken store = set_word store name T taken
store_after (Some (Step i)) taken store = execute store i taken
store_after (Some _) taken store = store

-- how many values the first k lines take
unfoldable pub taken_before : List Line → ℕ → ℕ
taken_before lines k = count_by (λ l. is_some (taken_type l)) (take k lines)

-- the store before line k, in a program of `names` names; at the number of lines, the store at the end
unfoldable pub store_at : ℕ → List Line → List ℤ → ℕ → List Word
store_at names lines input zero = replicate names empty_word
store_at names lines input (suc k) =
    store_after (slice_get lines k) (slice_index_or input (taken_before lines k) (pos 0)) (store_at names lines input k)
