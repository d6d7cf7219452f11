-- The inputs that are tried on a goal.
use Rattle.std.specs.Prelude.{◌<◌, ℕ, ℤ, List}
use Rattle.tcl_lang.specs.Program.{VersionedProgram}
use Rattle.tcl_lang.specs.Run.{taken_types}
use Rattle.tcl_exec.specs.Trial.{trial_of}
use Rattle.tcl_kernel.specs.Counterexample.{BreakChecks}

-- as many inputs are tried
abbrev pub trial_count : ℕ
trial_count = 256

-- input k of them
abbrev pub trial_input : VersionedProgram → ℕ → List ℤ
trial_input p k = trial_of k (taken_types p.lines)

-- by the computed truths none of the first n trial inputs refutes the goal
abbrev pub NoTrialRefutes : VersionedProgram → ℕ → ℕ → Type 0
NoTrialRefutes p goal n = (k : ℕ) → k < n → BreakChecks p goal (trial_input p k) → ⊥
