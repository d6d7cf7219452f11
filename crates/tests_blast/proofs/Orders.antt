-- A fact that passes the five tests is in order.
use Rattle.std.proofs.Common.{◌≡◌, true, List}
use Rattle.tcl_lang.specs.Program.{VersionedProgram}
use Rattle.tcl_goals.specs.declared.fact.Fact.{Fact}
use Rattle.tcl_goals.specs.declared.lemma.Numbered.{Numbered}
use Rattle.tcl_goals.specs.Keys.{claim_place}
use Rattle.tcl_goals.specs.Order.{InOrder, has_claim, has_hyps, are_ordered, are_uses, is_cube}

pub in_order : (p : VersionedProgram) (lemmas : List Numbered) (fact : Fact) → has_claim p fact.claim ≡ true → has_hyps p.lines lemmas fact.hyps ≡ true → are_ordered p.lines lemmas fact.claim fact.hyps ≡ true
    → are_uses p.lines (claim_place p.lines fact.claim) fact.uses ≡ true → is_cube p (claim_place p.lines fact.claim) fact.cube ≡ true → InOrder p lemmas fact
in_order p lemmas fact c h o u b = record { claim = c; hyps = h; order = o; uses = u; cube = b }
