use Rattle.std.proofs.Common.{take}
use Rattle.tcl_report.specs.Growing.{Grows}
use Rattle.tcl_report.specs.Parts.{atoms_text}
use Rattle.tcl_report.proofs.line.print_atoms.Given as goal

abbrev pub invariant-loop-atom : goal.invariant-loop-atom
invariant-loop-atom l = Grows l.fn.printer (atoms_text l.names (take l.atom-index l.atoms)) l.printer
