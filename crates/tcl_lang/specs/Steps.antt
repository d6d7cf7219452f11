-- What a line of a run does to the store, by the rows of the instructions.
use Rattle.std.specs.Prelude.{◌≡◌, ℕ, ℤ, false, List, map}
use Rattle.tcl_lang.specs.declared.ty.Word.{Word}
use Rattle.tcl_lang.specs.declared.instr.Instr.{Instr}
use Rattle.tcl_lang.specs.Store.{word_at}
use Rattle.tcl_lang.specs.Instruction.{Executes}
use Rattle.tcl_lang.specs.Results.{result_types}
use Rattle.tcl_lang.specs.Line.{values_of}
use Rattle.tcl_lang.specs.Run.{operands_of}
use Rattle.tcl_lang.specs.Defined.{is_among}
use Rattle.tcl_lang.specs.Executed.{values_at}

-- The instruction takes the store before to the store after: the values of its results are those of its row at the values
-- of its operands, with the choice that a `nondet` takes; they have the types of results; no other name changes.
pub record FollowsRow (before after : List Word) (i : Instr) (choice : ℤ) : Type 0 where
  pub row : Executes i.op i.ty i.amount (operands_of i.op (values_of before i.args) choice) (values_at after i.outs)
  pub types : map (λ name. (word_at after name).ty) i.outs ≡ result_types i.op i.ty
  pub others : (name : ℕ) → is_among i.outs name ≡ false → word_at after name ≡ word_at before name
