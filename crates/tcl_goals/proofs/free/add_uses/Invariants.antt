-- What is left gives the same set.
use Rattle.std.proofs.Common.{◌≡◌, drop, flat_map}
use Rattle.std.specs.List.{slice_get}
use Rattle.tcl_goals.specs.Closure as closures
use Rattle.tcl_goals.specs.Slices as slices
use Rattle.tcl_goals.proofs.free.add_uses.Given as goal

abbrev pub invariant-loop-j : goal.invariant-loop-j
invariant-loop-j l =
    closures.mark_all l.marks.marks (flat_map (λ k. slices.named_in (slice_get l.lines k)) (drop l.j l.uses))
    ≡ closures.mark_all l.fn.marks.marks (flat_map (λ k. slices.named_in (slice_get l.lines k)) l.uses)
