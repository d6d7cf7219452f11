-- The laws of facts that the proofs of this crate use. No public clause cites this module.
use Rattle.tcl_goals.specs.Laws.{LongerListsKeepOrder, LongerListsKeepTruth, LemmaFactsAreSound, PieceFactsHold, SoundGoalsUnbroken}

pub record FactLaws : Type 0 where
  pub order : LongerListsKeepOrder
  pub truth : LongerListsKeepTruth
  pub sound : LemmaFactsAreSound
  pub facts : PieceFactsHold
  pub unbroken : SoundGoalsUnbroken
