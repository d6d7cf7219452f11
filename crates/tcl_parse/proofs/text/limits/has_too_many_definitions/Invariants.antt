use Rattle.std.proofs.Common.{◌≡◌, ◌+◌, take}
use Rattle.tcl_lang.specs.Limit.{definition_count}
use Rattle.tcl_parse.proofs.text.limits.has_too_many_definitions.Given as goal

abbrev pub invariant-loop-line : goal.invariant-loop-line
invariant-loop-line l = definition_count (take l.line-index l.lines) + l.room ≡ 8192
