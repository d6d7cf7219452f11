-- The values stay in their types.
use Rattle.tcl_lang.specs.Values.{AreValues}
use Rattle.tcl_bench.proofs.walking.last_result.Given as goal

abbrev pub invariant-loop-place : goal.invariant-loop-place
invariant-loop-place l = AreValues l.form.variables l.values
