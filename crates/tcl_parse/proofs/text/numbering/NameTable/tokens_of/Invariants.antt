-- The tokens so far and those of the rest are those of the line; likewise the names.
use Rattle.std.proofs.Common.{◌≡◌, ◌++◌, drop}
use Rattle.tcl_text.specs.Numbering.{tokens_of, names_after}
use Rattle.tcl_parse.proofs.text.numbering.NameTable.tokens_of.Given as goal

abbrev pub invariant-loop-raw : goal.invariant-loop-raw
invariant-loop-raw l = record {
  tokens : l.tokens ++ tokens_of l.self (drop l.raw-index l.raws) ≡ tokens_of l.fn.self l.raws;
  names : names_after l.self (drop l.raw-index l.raws) ≡ names_after l.fn.self l.raws;
}
