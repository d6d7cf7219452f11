use Rattle.std.proofs.Common.{take}
use Rattle.tcl_report.specs.Growing.{Grows}
use Rattle.tcl_report.specs.Parts.{names_text}
use Rattle.tcl_report.proofs.line.print_names.Given as goal

abbrev pub invariant-loop-name : goal.invariant-loop-name
invariant-loop-name l = Grows l.fn.printer (names_text l.names (take l.name-index l.outs)) l.printer
