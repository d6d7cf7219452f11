-- The lines so far that have to hold are computed as `Yes`.
use Rattle.std.proofs.Common.{◌≡◌, ◌<◌, ℕ, true}
use Rattle.tcl_lang.specs.declared.outcome.Truth.TheVariants.{Yes}
use Rattle.tcl_lang.specs.Values.{computed_of}
use Rattle.tcl_kernel.specs.Refuting.{is_required_at}
use Rattle.tcl_kernel.proofs.counterexample.are_required_met.Given as goal

abbrev pub invariant-loop-k : goal.invariant-loop-k
invariant-loop-k l = (k : ℕ) → k < l.k → is_required_at l.ssa.lines l.place k ≡ true → computed_of l.ssa l.values k ≡ Yes
