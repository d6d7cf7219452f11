-- What settled facts say: they hold, and no cause is true of a piece with such a fact.
use Rattle.std.specs.Prelude.{◌≡◌, ◌<◌, ℕ, true, []}
use Rattle.tcl_lang.specs.Program.{VersionedProgram}
use Rattle.tcl_lang.specs.Form.{IsWellFormed}
use Rattle.tcl_goals.specs.declared.cause.Cause.{Cause}
use Rattle.tcl_goals.specs.declared.fact.Fact.{Fact}
use Rattle.tcl_goals.specs.declared.fact.Claim.TheVariants as claim
use Rattle.tcl_goals.specs.declared.piece.Piece.{Piece}
use Rattle.tcl_goals.specs.Order.{InOrder}
use Rattle.tcl_goals.specs.Holds.{FactHolds}
use Rattle.tcl_goals.specs.Places.{has_goal}
use Rattle.tcl_goals.specs.Plans.{piece_fact}
use Rattle.tcl_kernel.specs.Causes.{IsTrueCause}
use Rattle.tcl_settled.specs.Settled.{IsSettledBy}
use Rattle.tcl_settled.specs.Rings.{IsOfRing}

-- a settled fact in order, whose claim is of a ring where it is an equation, holds in every run
abbrev pub SettledHold : Type 0
SettledHold =
    (p : VersionedProgram) (fact : Fact) → IsWellFormed p → InOrder p [] fact → IsOfRing p fact.claim →
    IsSettledBy p fact → FactHolds p [] fact

-- no cause is true of a piece without a cube whose fact is settled, by a budget that is not 0
abbrev pub CausesAreUnsettled : Type 0
CausesAreUnsettled =
    (p : VersionedProgram) (budget : ℕ) (q : Piece) (c : Cause) → IsWellFormed p → 0 < budget →
    has_goal p.lines q.goal ≡ true → q.cube ≡ [] → IsOfRing p (claim.Goal q.goal) → IsTrueCause p budget q c →
    IsSettledBy p (piece_fact p q) → ⊥
