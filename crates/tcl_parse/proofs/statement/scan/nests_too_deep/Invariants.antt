-- What is left decides, where few enough brackets are open.
use Rattle.std.proofs.Common.{◌≡◌, ◌≤◌, drop}
use Rattle.tcl_text.specs.Scan.{nests_too_deep}
use Rattle.tcl_parse.proofs.statement.scan.nests_too_deep.Given as goal

abbrev pub invariant-loop-token : goal.invariant-loop-token
invariant-loop-token l = record {
  few : l.open ≤ 64;
  left : nests_too_deep l.open (drop l.token-index l.fn.tokens) ≡ nests_too_deep 0 l.fn.tokens;
}
