-- The limits of a whole program, counted on its lines.
use Rattle.std.specs.Prelude.{◌≤◌, ℕ, Bool, true, false, List, length, take, sum_by, count_by}
use Rattle.tcl_lang.specs.declared.pred.Line.{Line}
use Rattle.tcl_lang.specs.declared.pred.Line.TheVariants.{Step}
use Rattle.tcl_lang.specs.Names.{defined_names}
use Rattle.tcl_lang.specs.Goal.{goal_count}

abbrev pub is_instruction_line : Line → Bool
is_instruction_line (Step i) = true
is_instruction_line _ = false

-- the number of instructions
abbrev pub instruction_count : List Line → ℕ
instruction_count lines = count_by is_instruction_line lines

-- the number of definitions: `in` names and results, also of names that are defined again
abbrev pub definition_count : List Line → ℕ
definition_count lines = sum_by (λ l. length (defined_names l)) lines

-- the number of definitions before line k, which is that of the first variable that the line defines
abbrev pub definitions_before : List Line → ℕ → ℕ
definitions_before lines k = definition_count (take k lines)

-- at most 4,096 instructions, 8,192 variables and 4,096 goals
pub record KeepsLimits (lines : List Line) : Type 0 where
  pub instructions : instruction_count lines ≤ 4096
  pub variables : definition_count lines ≤ 8192
  pub goals : goal_count lines ≤ 4096
