use Rattle.std.proofs.Common.{take}
use Rattle.tcl_report.specs.Growing.{Grows}
use Rattle.tcl_report.specs.Parts.{signed_parts_text}
use Rattle.tcl_report.proofs.term.print_more_parts.Given as goal

abbrev pub invariant-loop-part : goal.invariant-loop-part
invariant-loop-part l = Grows l.fn.printer (signed_parts_text (take l.part-index l.parts)) l.printer
