-- The limits of a whole program, in the order in which they are looked for.
use Rattle.std.specs.Prelude.{◌<◌, ◌≤◌, nat_lt, if◌then◌else◌, List, Option, Some, None}
use Rattle.tcl_lang.specs.declared.pred.Line.{Line}
use Rattle.tcl_lang.specs.Goal.{goal_count}
use Rattle.tcl_lang.specs.Limit.{instruction_count, definition_count}
use Rattle.tcl_text.specs.declared.fault.Limit.{Limit}
use Rattle.tcl_text.specs.declared.fault.Limit.TheVariants.{Instructions, Variables, Goals}

-- the first of them that the lines of a program exceed
abbrev pub exceeded_limit : List Line → Option Limit
exceeded_limit lines =
    if nat_lt 4096 (instruction_count lines) then Some Instructions
    else (if nat_lt 8192 (definition_count lines) then Some Variables
    else (if nat_lt 4096 (goal_count lines) then Some Goals else None))

-- the limit is the first that is exceeded
abbrev pub IsFirstExceeded : List Line → Limit → Type 0
IsFirstExceeded lines Instructions = 4096 < instruction_count lines
IsFirstExceeded lines Variables = (instruction_count lines ≤ 4096) × (8192 < definition_count lines)
IsFirstExceeded lines Goals = (instruction_count lines ≤ 4096) × (definition_count lines ≤ 8192) × (4096 < goal_count lines)
IsFirstExceeded lines _ = ⊥
