use Rattle.std.proofs.Common.{◌≡◌, ◌+◌, drop}
use Rattle.std.specs.List.{prefix_len}
use Rattle.tcl_text.specs.Tokens.{is_word_byte}
use Rattle.tcl_parse.proofs.text.cutting.word_length.Given as goal

abbrev pub invariant-loop-byte : goal.invariant-loop-byte
invariant-loop-byte l = record {
  count : l.length ≡ l.byte-index;
  rest : prefix_len is_word_byte l.bytes ≡ l.byte-index + prefix_len is_word_byte (drop l.byte-index l.bytes);
}
