-- Inputs that are checked against a goal.
use Rattle.std.specs.Prelude.{◌≡◌, true, false, ℕ, ℤ, List, [], length, Option, Some, None}
use Rattle.tcl_lang.specs.Program.{VersionedProgram}
use Rattle.tcl_lang.specs.Checked.{IsCheckedCounterexample}
use Rattle.tcl_goals.specs.declared.piece.Shown.TheVariants as shown
use Rattle.tcl_goals.specs.Places.{has_goal}
use Rattle.tcl_kernel.specs.declared.reason.Reason.{Reason}
use Rattle.tcl_kernel.specs.declared.reason.Reason.TheVariants as reason
use Rattle.tcl_kernel.specs.declared.answer.Answer.{Answer}
use Rattle.tcl_kernel.specs.declared.answer.Answer.TheVariants as answer
use Rattle.tcl_kernel.specs.Shown.{ProofContent}

-- the input refutes the goal by the computed truths
abbrev pub BreakChecks : VersionedProgram → ℕ → List ℤ → Type 0
BreakChecks p goal input = IsCheckedCounterexample (length p.variables) p.lines input goal

-- the first reason against an input: the goal does not exist, or the input does not refute it
abbrev pub IsBreakReason : VersionedProgram → ℕ → List ℤ → Reason → Type 0
IsBreakReason p goal input reason.Claim = has_goal p.lines goal ≡ false
IsBreakReason p goal input reason.Break = (has_goal p.lines goal ≡ true) × (BreakChecks p goal input → ⊥)
IsBreakReason p goal input _ = ⊥

-- the first reason, or none where the input checks
abbrev pub IsBreakEnd : VersionedProgram → ℕ → List ℤ → Option Reason → Type 0
IsBreakEnd p goal input None = BreakChecks p goal input
IsBreakEnd p goal input (Some r) = IsBreakReason p goal input r

-- the proof that an input refutes a goal
abbrev pub break_proof : VersionedProgram → ℕ → List ℤ → ProofContent
break_proof p goal input = record { program = p; cited = []; shown = shown.Breaks goal input; alone = true }

-- the answer on an input: the proof exactly where the input checks, else the reason. Memory may run out
abbrev pub IsBreakAnswer : VersionedProgram → ℕ → List ℤ → Answer → Type 0
IsBreakAnswer p goal input (answer.Proof q) = BreakChecks p goal input × (q ≡ break_proof p goal input)
IsBreakAnswer p goal input (answer.Bad r) = IsBreakReason p goal input r
IsBreakAnswer p goal input answer.Memory = Unit {0}
