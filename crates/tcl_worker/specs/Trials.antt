-- The first of the inputs that are tried on an algebraic goal.
use Rattle.std.specs.Prelude.{◌≡◌, ◌<◌, ℕ, ℤ, List, Option, Some, None}
use Rattle.tcl_lang.specs.Program.{VersionedProgram}
use Rattle.tcl_kernel.specs.Counterexample.{BreakChecks, break_proof}
use Rattle.tcl_kernel.specs.Shown.{ProofContent}
use Rattle.tcl_kernel.specs.Trials.{trial_count, trial_input, NoTrialRefutes}

-- the input is the first trial input that refutes the goal by the computed truths
pub record IsFirstTrial (p : VersionedProgram) (i : ℕ) (input : List ℤ) : Type 0 where
  pub number : ℕ
  pub within : number < trial_count
  pub input_is : input ≡ trial_input p number
  pub refutes : BreakChecks p i input
  pub before : NoTrialRefutes p i number

-- the kernel's proof that this input refutes the goal
pub record IsTrialProof (p : VersionedProgram) (i : ℕ) (proof : ProofContent) : Type 0 where
  pub input : List ℤ
  pub first : IsFirstTrial p i input
  pub proof_is : proof ≡ break_proof p i input

-- the proof by the first trial input, or none where no trial input refutes the goal
abbrev pub IsTried : VersionedProgram → ℕ → Option ProofContent → Type 0
IsTried p i None = NoTrialRefutes p i trial_count
IsTried p i (Some proof) = IsTrialProof p i proof
