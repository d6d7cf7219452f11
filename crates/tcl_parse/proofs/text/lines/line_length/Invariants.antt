use Rattle.std.proofs.Common.{◌≡◌, ◌+◌, drop}
use Rattle.tcl_text.specs.Lines.{line_length}
use Rattle.tcl_parse.proofs.text.lines.line_length.Given as goal

abbrev pub invariant-loop-byte : goal.invariant-loop-byte
invariant-loop-byte l = record {
  count : l.length ≡ l.byte-index;
  rest : line_length l.bytes ≡ l.byte-index + line_length (drop l.byte-index l.bytes);
}
