-- What is true of what a board keeps.
use Rattle.std.specs.Prelude.{◌≡◌, ◌<◌, ℕ, ℤ, Bool, true, List, length, take, slice_get, Option, Some}
use Rattle.std.specs.Bool.{⊤}
use Rattle.tcl_lang.specs.Program.{VersionedProgram}
use Rattle.tcl_lang.specs.Correct.{IsCounterexample}
use Rattle.tcl_goals.specs.declared.fact.Fact.{Fact}
use Rattle.tcl_goals.specs.declared.fact.Claim.TheVariants as claim
use Rattle.tcl_goals.specs.declared.lemma.Lemma.{Lemma}
use Rattle.tcl_goals.specs.declared.lemma.Numbered.{Numbered}
use Rattle.tcl_goals.specs.declared.piece.Shown.TheVariants as shown
use Rattle.tcl_goals.specs.declared.piece.Piece.{Piece}
use Rattle.tcl_goals.specs.declared.cause.Cause.{Cause}
use Rattle.tcl_goals.specs.LemmaList.{Extends}
use Rattle.tcl_goals.specs.Holds.{IsSound, IsGoalSound}
use Rattle.tcl_goals.specs.Laws.{Shows}
use Rattle.tcl_board.specs.declared.event.LemmaMark.{LemmaMark}
use Rattle.tcl_board.specs.declared.event.Status.{Status}
use Rattle.tcl_board.specs.declared.event.Status.TheVariants as status
use Rattle.tcl_board.specs.declared.evidence.Seen.{Seen}
use Rattle.tcl_board.specs.declared.evidence.Seen.TheVariants as seen
use Rattle.tcl_board.specs.Shows.{Causes}
use Rattle.tcl_board.specs.Moves.{is_on, is_recorded, is_settled}
use Rattle.tcl_board.specs.Own.{lemmas_from}
use Rattle.tcl_board.specs.Steps.{Proves, IsBreak, IsTrueCause}

-- what is true of a piece with its status, under the admitted lemmas: a proved piece has a fact that is in order for them and
-- holds, an ended one a true cause; the goal of a broken one has a break, and one with a break of a smaller goal has that as
-- its cause; the goal of a cancelled one is settled
abbrev pub StatusTrue :
    Causes → VersionedProgram → ℕ → List Numbered → List Seen → List Bool → List (Option ℕ) → Piece → Status → Type 0
StatusTrue causes p budget lemmas kept admitted breaks q status.Unclaimed = ⊤
StatusTrue causes p budget lemmas kept admitted breaks q (status.Held w) = ⊤
StatusTrue causes p budget lemmas kept admitted breaks q (status.Proved n) =
    (fact : Fact) × (cited : List Numbered) × (slice_get kept n ≡ Some (seen.Shown (shown.Fact fact) cited))
    × Proves p lemmas q fact
StatusTrue causes p budget lemmas kept admitted breaks q (status.Ended n) =
    (c : Cause) × (slice_get kept n ≡ Some (seen.Ended c)) × IsTrueCause causes p budget q c
StatusTrue causes p budget lemmas kept admitted breaks q status.Broken = is_recorded (slice_get breaks q.goal) ≡ true
StatusTrue causes p budget lemmas kept admitted breaks q (status.Strayed g n) =
    (h : ℕ) × (input : List ℤ) × (cited : List Numbered) × (slice_get kept n ≡ Some (seen.Shown (shown.Breaks h input) cited))
    × IsBreak causes p budget q g h input × (is_recorded (slice_get breaks g) ≡ true) × (g < q.goal)
StatusTrue causes p budget lemmas kept admitted breaks q status.Cancelled = is_settled admitted breaks q.goal ≡ true

abbrev pub Truths :
    Causes → VersionedProgram → ℕ → List Numbered → List Seen → List Bool → List (Option ℕ) → List Piece → List Status →
    Type 0
Truths causes p budget lemmas kept admitted breaks pieces statuses =
    (k : ℕ) (q : Piece) (x : Status) → slice_get pieces k ≡ Some q → slice_get statuses k ≡ Some x →
    StatusTrue causes p budget lemmas kept admitted breaks q x

-- a submitted lemma has a fact that is in order for the admitted lemmas of smaller numbers and holds; and it is sound
pub record LemmaTrue (p : VersionedProgram) (kept : List Seen) (before : List LemmaMark) (mark : LemmaMark) : Type 0 where
  pub fact : Fact
  pub lemma : Lemma
  pub cited : List Numbered
  pub at : slice_get kept mark.kept ≡ Some (seen.Lemma (shown.Fact fact) cited)
  pub shows : Shows p (lemmas_from 0 kept before) (claim.Lemma lemma) fact
  pub sound : IsSound p lemma

abbrev pub LemmasTrue : VersionedProgram → List Seen → List LemmaMark → Type 0
LemmasTrue p kept marks =
    (n : ℕ) (mark : LemmaMark) → slice_get marks n ≡ Some mark → LemmaTrue p kept (take n marks) mark

-- what is kept cites no lemmas but admitted ones, as they are
abbrev pub CitesOwn : List Numbered → Seen → Type 0
CitesOwn lemmas (seen.Shown sh cited) = Extends cited lemmas
CitesOwn lemmas (seen.Lemma sh cited) = Extends cited lemmas
CitesOwn lemmas (seen.Ended c) = ⊤

abbrev pub AllCiteOwn : List Numbered → List Seen → Type 0
AllCiteOwn lemmas kept = (n : ℕ) (gift : Seen) → slice_get kept n ≡ Some gift → CitesOwn lemmas gift

-- a recorded break is kept, and its input refutes the goal
pub record BreakTrue (p : VersionedProgram) (kept : List Seen) (g n : ℕ) : Type 0 where
  pub input : List ℤ
  pub cited : List Numbered
  pub at : slice_get kept n ≡ Some (seen.Shown (shown.Breaks g input) cited)
  pub breaks : IsCounterexample (length p.variables) p.lines input g

abbrev pub BreaksTrue : VersionedProgram → List Seen → List (Option ℕ) → Type 0
BreaksTrue p kept breaks = (g n : ℕ) → slice_get breaks g ≡ Some (Some n) → BreakTrue p kept g n

-- an admitted goal is sound
abbrev pub GoalsTrue : VersionedProgram → List Bool → Type 0
GoalsTrue p admitted = (g : ℕ) → is_on (slice_get admitted g) ≡ true → IsGoalSound p g

-- no goal is both admitted and broken
abbrev pub Apart : List Bool → List (Option ℕ) → Type 0
Apart admitted breaks = (g : ℕ) → is_on (slice_get admitted g) ≡ true → is_recorded (slice_get breaks g) ≡ true → ⊥
