-- What may come of a piece.
use Rattle.std.specs.Prelude.{◌≡◌, ◌<◌, ◌≤◌, ℕ, ℤ, true, List, Some}
use Rattle.tcl_lang.specs.Program.{VersionedProgram}
use Rattle.tcl_lang.specs.declared.outcome.Truth.TheVariants as truth
use Rattle.tcl_goals.specs.declared.fact.Fact.{Fact}
use Rattle.tcl_goals.specs.declared.lemma.Lemma.{Lemma}
use Rattle.tcl_goals.specs.declared.lemma.Numbered.{Numbered}
use Rattle.tcl_goals.specs.declared.piece.Piece.{Piece}
use Rattle.tcl_goals.specs.declared.piece.Shown.TheVariants as shown
use Rattle.tcl_goals.specs.declared.cause.Cause.TheVariants as cause
use Rattle.tcl_goals.specs.LemmaList.{LemmaList, lemma_of}
use Rattle.tcl_goals.specs.Places.{goal_place}
use Rattle.tcl_board.specs.declared.evidence.Seen.{Seen}
use Rattle.tcl_board.specs.declared.evidence.Seen.TheVariants as seen
use Rattle.tcl_board.specs.Shows.{Causes, cites}
use Rattle.tcl_board.specs.Steps.{IsTrueCause}
use Rattle.tcl_board.specs.Judging.{proves_piece, shows_lemma}

-- both lists have the same lemma under this number
pub record HaveSame (given cited : List Numbered) (n : ℕ) : Type 0 where
  pub lemma : Lemma
  pub in_given : lemma_of given n ≡ Some lemma
  pub in_cited : lemma_of cited n ≡ Some lemma

-- each lemma that the fact cites is one that was given, under its number
abbrev pub CitesGiven : List Numbered → List Numbered → Fact → Type 0
CitesGiven given cited fact = (n : ℕ) → cites (shown.Fact fact) n ≡ true → HaveSame given cited n

-- a fact of the piece
pub record FitsProof (q : Piece) (lemmas : LemmaList) (fact : Fact) (cited : List Numbered) : Type 0 where
  pub proves : proves_piece q fact ≡ true
  pub cites : CitesGiven lemmas.items cited fact

-- a break of a goal that is not above that of the piece, and a stray of the piece where it is below
pub record FitsBreak (causes : Causes) (p : VersionedProgram) (budget : ℕ) (q : Piece) (g : ℕ) (input : List ℤ) : Type 0 where
  pub goal : g ≤ q.goal
  pub stray : g < q.goal → causes p budget q (cause.Stray (goal_place p.lines g) truth.No input)

-- a fact of a lemma, where more of them are wanted
pub record FitsLemma (p : VersionedProgram) (lemmas : LemmaList) (fact : Fact) (cited : List Numbered) : Type 0 where
  pub wanted : lemmas.more ≡ true
  pub shows : shows_lemma p.lines fact ≡ true
  pub cites : CitesGiven lemmas.items cited fact

-- what is seen of an outcome fits the piece, by the budget, where these lemmas were given for it
abbrev pub FitsPiece : Causes → VersionedProgram → ℕ → Piece → LemmaList → Seen → Type 0
FitsPiece causes p budget q lemmas (seen.Shown (shown.Fact fact) cited) = FitsProof q lemmas fact cited
FitsPiece causes p budget q lemmas (seen.Shown (shown.Breaks g input) cited) = FitsBreak causes p budget q g input
FitsPiece causes p budget q lemmas (seen.Lemma (shown.Fact fact) cited) = FitsLemma p lemmas fact cited
FitsPiece causes p budget q lemmas (seen.Lemma (shown.Breaks g input) cited) = ⊥
FitsPiece causes p budget q lemmas (seen.Ended c) = IsTrueCause causes p budget q c
