-- What is left of the lines of the whole input.
use Rattle.std.proofs.Common.{◌≤◌, drop}
use Rattle.tcl_report.specs.Report.{values_text}
use Rattle.tcl_report.proofs.Growing.{Leaves}
use Rattle.tcl_report.proofs.inputs.print_input.Given as goal

abbrev pub invariant-loop-k : goal.invariant-loop-k
invariant-loop-k l =
    Leaves l.fn.printer (values_text l.typed.program.names l.typed.places l.input 0 0 l.lines) l.printer
    (values_text l.typed.program.names l.typed.places l.input l.k l.j (drop l.k l.lines))
    × (l.j ≤ l.k)
