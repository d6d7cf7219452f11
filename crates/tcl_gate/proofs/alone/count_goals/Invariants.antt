use Rattle.std.proofs.Common.{◌≡◌, ◌≤◌, take}
use Rattle.std.specs.List.{count_by}
use Rattle.tcl_lang.specs.Line.{is_goal}
use Rattle.tcl_gate.proofs.alone.count_goals.Given as goal

abbrev pub invariant-loop-line : goal.invariant-loop-line
invariant-loop-line l = (l.goals ≡ count_by is_goal (take l.line-index l.lines)) × (l.goals ≤ l.line-index)
