-- The reasons against a fact by itself, whatever its certificate.
use Rattle.std.specs.Prelude.{List, Option}
use Rattle.tcl_lang.specs.Program.{VersionedProgram}
use Rattle.tcl_goals.specs.declared.fact.Fact.{Fact}
use Rattle.tcl_goals.specs.declared.lemma.Numbered.{Numbered}
use Rattle.tcl_goals.specs.Keys.{claim_place}
use Rattle.tcl_goals.specs.Order.{has_claim, has_hyps, are_ordered, are_uses, is_cube}
use Rattle.tcl_kernel.specs.declared.reason.Reason.{Reason}
use Rattle.tcl_kernel.specs.declared.reason.Reason.TheVariants as reason
use Rattle.tcl_kernel.specs.Reasons.{unless, first_of}

-- the first part of the order of facts that the fact does not keep
unfoldable pub entry_reason : VersionedProgram → List Numbered → Fact → Option Reason
entry_reason p lemmas fact =
    first_of (unless (has_claim p fact.claim) reason.Claim)
    (first_of (unless (has_hyps p.lines lemmas fact.hyps) reason.Hyp)
    (first_of (unless (are_ordered p.lines lemmas fact.claim fact.hyps) reason.Order)
    (first_of (unless (are_uses p.lines (claim_place p.lines fact.claim) fact.uses) reason.Uses)
    (unless (is_cube p (claim_place p.lines fact.claim) fact.cube) reason.Cube))))
