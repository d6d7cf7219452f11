-- The values stay in their types.
use Rattle.tcl_lang.specs.Values.{AreValues}
use Rattle.tcl_bench.proofs.walking.sum_of_walk.Given as goal

abbrev pub invariant-loop-n : goal.invariant-loop-n
invariant-loop-n l = AreValues l.form.variables l.values
