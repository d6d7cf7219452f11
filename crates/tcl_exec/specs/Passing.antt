-- Instructions that can be executed over values, and lines that can be gone through.
use Rattle.std.specs.Prelude.{ℤ, List}
use Rattle.tcl_lang.specs.declared.instr.Instr.{Instr}
use Rattle.tcl_lang.specs.declared.pred.Line.{Line}
use Rattle.tcl_lang.specs.declared.pred.Line.TheVariants.{Step}
use Rattle.tcl_lang.specs.Operands.{IsExecutable}
use Rattle.tcl_lang.specs.Run.{operands_of}
use Rattle.tcl_lang.specs.Values.{operand_values}

-- the instruction can be executed at these values, with this choice
abbrev pub CanBeExecuted : List ℤ → Instr → ℤ → Type 0
CanBeExecuted values i choice = IsExecutable i.op i.ty i.amount (operands_of i.op (operand_values values i.args) choice)

-- the line can be gone through at these values, with this value for it to take
abbrev pub CanBePassed : List ℤ → Line → ℤ → Type 0
CanBePassed values (Step i) taken = CanBeExecuted values i taken
CanBePassed values _ taken = Unit {0}
