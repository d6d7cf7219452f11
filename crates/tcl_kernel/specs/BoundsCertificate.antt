-- The certificate by intervals: the claim follows from the intervals of the variables.
use Rattle.std.specs.Prelude.{◌≡◌, Bool, true, false, not, ◌&&◌, List, Option}
use Rattle.tcl_lang.specs.declared.pred.Line.{Line}
use Rattle.tcl_lang.specs.Program.{VersionedProgram}
use Rattle.tcl_goals.specs.declared.fact.Claim.{Claim}
use Rattle.tcl_goals.specs.declared.fact.Claim.TheVariants as claim
use Rattle.tcl_goals.specs.declared.fact.Fact.{Fact}
use Rattle.tcl_goals.specs.Plans.{is_algebraic_goal}
use Rattle.tcl_bounds.specs.Bounds.{bounds_of}
use Rattle.tcl_bounds.specs.Follows.{follows_of}
use Rattle.tcl_kernel.specs.declared.reason.Reason.{Reason}
use Rattle.tcl_kernel.specs.declared.reason.Reason.TheVariants as reason
use Rattle.tcl_kernel.specs.Reasons.{unless}

-- the claim is an algebraic goal; a lemma never is
abbrev pub is_algebraic_claim : List Line → Claim → Bool
is_algebraic_claim lines (claim.Goal i) = is_algebraic_goal lines i
is_algebraic_claim lines (claim.Lemma m) = false

-- the claim is not algebraic, and follows from the intervals
pub record BoundsCheck (p : VersionedProgram) (fact : Fact) : Type 0 where
  pub range : is_algebraic_claim p.lines fact.claim ≡ false
  pub follows : follows_of (bounds_of p fact) p fact.claim ≡ true

-- the same as a test
abbrev pub is_bounded : VersionedProgram → Fact → Bool
is_bounded p fact = not (is_algebraic_claim p.lines fact.claim) && follows_of (bounds_of p fact) p fact.claim

-- the reason against the certificate
unfoldable pub bounds_reason : VersionedProgram → Fact → Option Reason
bounds_reason p fact = unless (is_bounded p fact) reason.Bounds
