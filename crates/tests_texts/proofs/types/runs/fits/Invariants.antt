-- Where what is left of the input fits the lines that are left, all of it fits all lines.
use Rattle.std.proofs.Common.{◌≤◌, length, drop}
use Rattle.tcl_lang.specs.Run.{Fits, taken_types}
use Rattle.tests_texts.proofs.types.runs.fits.Given as goal

abbrev pub invariant-loop-k : goal.invariant-loop-k
invariant-loop-k l =
    (l.at ≤ length l.input) × (Fits (taken_types (drop l.k l.lines)) (drop l.at l.input) → Fits (taken_types l.lines) l.input)
