-- The lines that are left.
use Rattle.std.proofs.Common.{◌≡◌, drop}
use Rattle.std.specs.List.{fold}
use Rattle.tcl_slice.specs.Touching as touching
use Rattle.tcl_slice.proofs.growing.take_lines.Given as goal

abbrev pub invariant-loop-k : goal.invariant-loop-k
invariant-loop-k l = fold (touching.line_taken l.lines l.starts l.place) l.search (drop l.k l.places) ≡ fold (touching.line_taken l.lines l.starts l.place) l.fn.search l.places
