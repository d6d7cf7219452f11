use Rattle.std.proofs.Common.{◌≡◌, ◌≤◌, take}
use Rattle.std.specs.Prelude.{count_by}
use Rattle.tcl_text.specs.Scan.{is_operator}
use Rattle.tcl_parse.proofs.statement.scan.has_too_many_operators.Given as goal

abbrev pub invariant-loop-token : goal.invariant-loop-token
invariant-loop-token l = record {
  count : l.count ≡ count_by is_operator (take l.token-index l.tokens);
  few : l.count ≤ l.token-index;
}
