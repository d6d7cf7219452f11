-- What the kernel's proofs show of a piece's fact.
use Rattle.std.specs.Prelude.{◌≡◌, true, false, List, Option, Some, None, is_none}
use Rattle.tcl_lang.specs.Program.{VersionedProgram}
use Rattle.tcl_goals.specs.declared.fact.Fact.{Fact}
use Rattle.tcl_goals.specs.declared.lemma.Numbered.{Numbered}
use Rattle.tcl_goals.specs.declared.piece.Shown.TheVariants as shown
use Rattle.tcl_gate.specs.Fits.{CitesGiven}
use Rattle.tcl_kernel.specs.declared.reason.Reason.{Reason}
use Rattle.tcl_kernel.specs.Shown.{ProofContent}
use Rattle.tcl_worker.specs.Citing.{CitesAllOrNone}

-- the proof stands alone, and shows the fact itself, or the fact with all these lemmas, which it cites as they are
pub record ProvesFact (p : VersionedProgram) (lemmas : List Numbered) (fact : Fact) (proof : ProofContent) : Type 0 where
  pub program : proof.program ≡ p
  pub alone : proof.alone ≡ true
  pub proved : Fact
  pub shown_is : proof.shown ≡ shown.Fact proved
  pub which : CitesAllOrNone p.lines lemmas fact proved
  pub cites : CitesGiven lemmas proof.cited proved

-- the proof exactly where there is no reason against it
abbrev pub IsTaken : Option Reason → ProofContent → Option ProofContent → Type 0
IsTaken reason content None = is_none reason ≡ false
IsTaken reason content (Some proof) = (is_none reason ≡ true) × (proof ≡ content)
