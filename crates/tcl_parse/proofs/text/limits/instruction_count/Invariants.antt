use Rattle.std.proofs.Common.{◌≡◌, ◌≤◌, take}
use Rattle.std.specs.Prelude.{count_by}
use Rattle.tcl_lang.specs.Limit.{is_instruction_line}
use Rattle.tcl_parse.proofs.text.limits.instruction_count.Given as goal

abbrev pub invariant-loop-line : goal.invariant-loop-line
invariant-loop-line l = record {
  count : l.count ≡ count_by is_instruction_line (take l.line-index l.lines);
  few : l.count ≤ l.line-index;
}
