-- The free variables so far have their gates and literals.
use Rattle.std.proofs.Common.{◌≡◌, fold, drop}
use Rattle.tcl_blast.specs.Begin.{free_step}
use Rattle.tcl_blast.proofs.begin.add_all_free.Given as goal

abbrev pub invariant-loop-v : goal.invariant-loop-v
invariant-loop-v l = fold (free_step l.variables) l.begun (drop l.v-index l.frees) ≡ fold (free_step l.variables) l.fn.begun l.frees
