-- What is left gives the same set.
use Rattle.std.proofs.Common.{◌≡◌, drop, flat_map}
use Rattle.tcl_goals.specs.Closure as closures
use Rattle.tcl_goals.specs.Free as free
use Rattle.tcl_goals.proofs.free.add_hyps.Given as goal

abbrev pub invariant-loop-j : goal.invariant-loop-j
invariant-loop-j l =
    closures.mark_all l.marks.marks (flat_map (free.hyp_variables l.lines l.lemmas) (drop l.j l.hyps))
    ≡ closures.mark_all l.fn.marks.marks (flat_map (free.hyp_variables l.lines l.lemmas) l.hyps)
