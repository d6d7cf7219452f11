-- What the plain reduction makes of the claim of a fact.
use Rattle.std.specs.Prelude.{Option, Some, None}
use Rattle.tcl_lang.specs.declared.term.AlgPred.{AlgPred}
use Rattle.tcl_lang.specs.Program.{VersionedProgram}
use Rattle.tcl_goals.specs.declared.fact.Fact.{Fact}
use Rattle.tcl_algebra.specs.Equations.{claim_begins}
use Rattle.tcl_algebra.specs.Ends.{claim_equation}
use Rattle.tcl_plain.specs.declared.outcome.Outcome.{Outcome}
use Rattle.tcl_plain.specs.Plain.{plain_end, outcome_of}

-- the outcome for an equation that is claimed; none where none is
abbrev pub equation_outcome : VersionedProgram → Fact → Option AlgPred → Option Outcome
equation_outcome p fact None = None
equation_outcome p fact (Some f) = Some (outcome_of (claim_begins f) (plain_end p fact f))

-- the outcome for the claim; none where it is no equation
unfoldable pub plain_outcome : VersionedProgram → Fact → Option Outcome
plain_outcome p fact = equation_outcome p fact (claim_equation p fact.claim)
