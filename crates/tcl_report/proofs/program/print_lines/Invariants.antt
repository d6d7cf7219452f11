use Rattle.std.proofs.Common.{take}
use Rattle.tcl_report.specs.Growing.{Grows}
use Rattle.tcl_report.specs.Parts.{lines_text}
use Rattle.tcl_report.proofs.program.print_lines.Given as goal

abbrev pub invariant-loop-line : goal.invariant-loop-line
invariant-loop-line l = Grows l.fn.printer (lines_text l.names (take l.line-index l.lines)) l.printer
