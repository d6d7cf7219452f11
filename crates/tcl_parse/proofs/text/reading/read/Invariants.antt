-- What the rest reads as is what the text reads as, and what was read keeps the shape of a program.
use Rattle.std.proofs.Common.{◌≤◌, ◌-◌, ◌^◌, length}
use Rattle.tcl_text.proofs.ReadShapes.{Kept}
use Rattle.tcl_parse.specs.TextProgress.{progress_of}
use Rattle.tcl_parse.proofs.TextStepping.{Goes}
use Rattle.tcl_parse.proofs.text.reading.read.Given as goal

abbrev pub invariant-loop-line : goal.invariant-loop-line
invariant-loop-line l = record {
  goes : Goes l.fn.bytes (progress_of l.progress) l.rest;
  kept : Kept (progress_of l.progress);
  few : l.progress.number ≤ 2 ^ 32 - 1;
}

abbrev pub decreases-loop-line : goal.decreases-loop-line
decreases-loop-line l = length l.rest
