-- The causes of what a search or a reduction ends with.
use Rattle.std.proofs.Common.{◌≡◌, inl, inr, ℕ, refl, ap, Some}
use Rattle.tcl_lang.specs.declared.term.AlgPred.{AlgPred}
use Rattle.tcl_lang.specs.Program.{VersionedProgram}
use Rattle.tcl_goals.specs.declared.fact.Fact.{Fact}
use Rattle.tcl_goals.specs.declared.piece.Piece.{Piece}
use Rattle.tcl_goals.specs.Plans.{piece_fact}
use Rattle.tcl_algebra.specs.Equations.{claim_begins}
use Rattle.tcl_algebra.specs.Ends.{claim_equation}
use Rattle.tcl_plain.specs.declared.outcome.Outcome.{Outcome}
use Rattle.tcl_plain.specs.declared.outcome.Outcome.TheVariants.{Zero, Rest, Wide, Large}
use Rattle.tcl_plain.specs.Plain.{plain_end, outcome_of}
use Rattle.tcl_kernel.specs.PlainOutcome.{equation_outcome, plain_outcome}
use Rattle.tcl_kernel.specs.Causes.{IsOpen}
use Rattle.tcl_kernel.specs.CauseLaws.{FreshLogsAreSpent, ManyClausesAreLarge, IsOutcomeCause, OutcomesAreCauses}

pub logs_spent : FreshLogsAreSpent
logs_spent p budget q lines left range derives = record { left = left; range = range; number = refl; lines = lines; derives = derives }

pub clauses_large : ManyClausesAreLarge
clauses_large p budget q n left range many = inl (record { left = left; range = range; clauses = refl; many = many })

-- what plain reduction makes of the equation that is claimed
outcome_is : (p : VersionedProgram) (fact : Fact) (f : AlgPred) → claim_equation p fact.claim ≡ Some f → plain_outcome p fact ≡ Some (outcome_of (claim_begins f) (plain_end p fact f))
unfolding plain_outcome
outcome_is p fact f e = ap (equation_outcome p fact) e

outcome_cause : (p : VersionedProgram) (budget : ℕ) (q : Piece) (o : Outcome) → IsOpen p budget q → plain_outcome p (piece_fact p q) ≡ Some o → IsOutcomeCause p budget q o
outcome_cause p budget q (Zero lines) left ends = tt
outcome_cause p budget q (Rest rest) left ends = record { rest = rest; reduced = record { left = left; ends = ends } }
outcome_cause p budget q (Wide at) left ends = record { left = left; ends = ends }
outcome_cause p budget q (Large what n) left ends = inr (record { left = left; ends = ends })

pub outcomes_caused : OutcomesAreCauses
outcomes_caused p budget q f left claimed =
    outcome_cause p budget q (outcome_of (claim_begins f) (plain_end p (piece_fact p q) f)) left (outcome_is p (piece_fact p q) f claimed)
