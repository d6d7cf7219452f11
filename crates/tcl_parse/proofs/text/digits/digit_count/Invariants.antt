use Rattle.std.proofs.Common.{◌≡◌, ◌+◌, drop}
use Rattle.std.specs.List.{prefix_len}
use Rattle.tcl_text.specs.Tokens.{is_digit}
use Rattle.tcl_parse.proofs.text.digits.digit_count.Given as goal

abbrev pub invariant-loop-byte : goal.invariant-loop-byte
invariant-loop-byte l = record {
  count : l.count ≡ l.byte-index;
  rest : prefix_len is_digit l.bytes ≡ l.byte-index + prefix_len is_digit (drop l.byte-index l.bytes);
}
