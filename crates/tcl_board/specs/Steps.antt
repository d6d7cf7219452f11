-- Steps of the board and its runs.
use Rattle.std.specs.Prelude.{◌≡◌, ◌<◌, ℕ, ℤ, Bool, true, false, List, [], ◌∷◌, length, slice_get, Option, Some}
use Rattle.tcl_lang.specs.Program.{VersionedProgram}
use Rattle.tcl_lang.specs.Goal.{is_goal_at}
use Rattle.tcl_lang.specs.Correct.{IsCounterexample}
use Rattle.tcl_lang.specs.declared.outcome.Truth.TheVariants as truth
use Rattle.tcl_goals.specs.declared.fact.Fact.{Fact}
use Rattle.tcl_goals.specs.declared.lemma.Lemma.{Lemma}
use Rattle.tcl_goals.specs.declared.fact.Claim.TheVariants as claim
use Rattle.tcl_goals.specs.declared.lemma.Numbered.{Numbered}
use Rattle.tcl_goals.specs.declared.piece.Shown.TheVariants as shown
use Rattle.tcl_goals.specs.declared.piece.Piece.{Piece}
use Rattle.tcl_goals.specs.declared.cause.Cause.{Cause}
use Rattle.tcl_goals.specs.declared.cause.Cause.TheVariants as cause
use Rattle.tcl_goals.specs.Places.{goal_place}
use Rattle.tcl_goals.specs.Order.{InOrder}
use Rattle.tcl_goals.specs.Holds.{FactHolds}
use Rattle.tcl_goals.specs.Laws.{Shows}
use Rattle.tcl_board.specs.declared.event.Event.{Event}
use Rattle.tcl_board.specs.declared.event.Event.TheVariants as event
use Rattle.tcl_board.specs.declared.event.Word.{Word}
use Rattle.tcl_board.specs.declared.event.Word.TheVariants as word
use Rattle.tcl_board.specs.declared.evidence.Seen.{Seen}
use Rattle.tcl_board.specs.declared.evidence.Seen.TheVariants as seen
use Rattle.tcl_board.specs.Shows.{Causes}
use Rattle.tcl_board.specs.Moves.{allows}
use Rattle.tcl_board.specs.State.{BoardState, stepped, given}
use Rattle.tcl_board.specs.Own.{lemmas_of}

-- a fact of the piece, in order for these lemmas, that holds
pub record Proves (p : VersionedProgram) (lemmas : List Numbered) (q : Piece) (fact : Fact) : Type 0 where
  pub claim : fact.claim ≡ claim.Goal q.goal
  pub cube : fact.cube ≡ q.cube
  pub order : InOrder p lemmas fact
  pub holds : FactHolds p lemmas fact

-- the input breaks the goal, and where that is smaller than the goal of the piece it is a stray of the piece
pub record IsBreak (causes : Causes) (p : VersionedProgram) (budget : ℕ) (q : Piece) (g h : ℕ) (input : List ℤ) : Type 0 where
  pub goal : h ≡ g
  pub breaks : IsCounterexample (length p.variables) p.lines input g
  pub stray : g < q.goal → causes p budget q (cause.Stray (goal_place p.lines g) truth.No input)

-- a stray that is a goal with the truth `No`: its input breaks that goal, and so comes as a break
abbrev pub is_broken_goal : VersionedProgram → Cause → Bool
is_broken_goal p (cause.Stray k truth.No input) = is_goal_at p.lines k
is_broken_goal p _ = false

pub record IsTrueCause (causes : Causes) (p : VersionedProgram) (budget : ℕ) (q : Piece) (c : Cause) : Type 0 where
  pub true_of : causes p budget q c
  pub not_broken : is_broken_goal p c ≡ false

-- what is submitted for the piece is what the word says
abbrev pub IsTrueGift : Causes → BoardState → Option Piece → Word → Seen → Type 0
IsTrueGift causes s (Some q) word.Proved (seen.Shown (shown.Fact fact) cited) = Proves s.program (lemmas_of s) q fact
IsTrueGift causes s (Some q) (word.Broken g) (seen.Shown (shown.Breaks h input) cited) = IsBreak causes s.program s.budget q g h input
IsTrueGift causes s (Some q) word.Ended (seen.Ended c) = IsTrueCause causes s.program s.budget q c
IsTrueGift causes s (Some q) word.Lemma (seen.Lemma (shown.Fact fact) cited) =
    (m : Lemma) × Shows s.program (lemmas_of s) (claim.Lemma m) fact
IsTrueGift causes s _ _ _ = ⊥

-- the truth that an event demands, and the state after it
abbrev pub Earns : Causes → BoardState → Event → BoardState → Type 0
Earns causes old (event.Submit w q what) new =
    (gift : Seen) × IsTrueGift causes old (slice_get old.position.pieces q) what gift × (new ≡ given old w q what gift)
Earns causes old e new = new ≡ stepped old e

pub record IsStep (causes : Causes) (old : BoardState) (e : Event) (new : BoardState) : Type 0 where
  pub allowed : allows old.position e ≡ true
  pub earned : Earns causes old e new

unfoldable pub IsRun : Causes → BoardState → List Event → BoardState → Type 0
IsRun causes old [] new = new ≡ old
IsRun causes old (e ∷ events) new = (mid : BoardState) × IsStep causes old e mid × IsRun causes mid events new
