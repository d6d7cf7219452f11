-- What a board tells of goals, pieces and lemmas.
use Rattle.std.specs.Prelude.{◌≡◌, ◌<◌, ℕ, ℤ, zero, suc, nat_lt, ◌==◌, Bool, true, false, ◌&&◌, if◌then◌else◌, List, length, slice_get, Option, Some, None}
use Rattle.std.specs.Option.{is_some}
use Rattle.std.specs.List.{list_all, list_any}
use Rattle.tcl_lang.specs.declared.pred.Line.{Line}
use Rattle.tcl_lang.specs.Correct.{IsCounterexample}
use Rattle.tcl_lang.specs.declared.outcome.Truth.TheVariants as truth
use Rattle.tcl_goals.specs.declared.lemma.Numbered.{Numbered}
use Rattle.tcl_goals.specs.declared.piece.Shown.{Shown}
use Rattle.tcl_goals.specs.declared.piece.Shown.TheVariants as shown
use Rattle.tcl_goals.specs.declared.piece.Piece.{Piece}
use Rattle.tcl_goals.specs.declared.piece.Verdict.{Verdict}
use Rattle.tcl_goals.specs.declared.piece.Verdict.TheVariants as verdict
use Rattle.tcl_goals.specs.declared.cause.Cause.{Cause}
use Rattle.tcl_goals.specs.declared.cause.Cause.TheVariants as cause
use Rattle.tcl_goals.specs.LemmaList.{LemmaList}
use Rattle.tcl_goals.specs.Places.{goal_place}
use Rattle.tcl_goals.specs.Holds.{IsGoalSound}
use Rattle.tcl_board.specs.declared.event.Status.{Status}
use Rattle.tcl_board.specs.declared.event.Status.TheVariants as status
use Rattle.tcl_board.specs.declared.event.LemmaMark.{LemmaMark}
use Rattle.tcl_board.specs.declared.evidence.Seen.{Seen}
use Rattle.tcl_board.specs.declared.evidence.Seen.TheVariants as seen
use Rattle.tcl_board.specs.declared.told.GoalAnswer.{GoalAnswer}
use Rattle.tcl_board.specs.declared.told.GoalAnswer.TheVariants as goal_answer
use Rattle.tcl_board.specs.Shows.{Causes}
use Rattle.tcl_board.specs.Moves.{is_on, is_settled}
use Rattle.tcl_board.specs.State.{BoardState}
use Rattle.tcl_board.specs.Own.{fitting_from}

-- what contracts see of evidence: what it shows, and the lemmas that it cites
pub record Evident : Type 0 where
  pub shown : Shown
  pub cited : List Numbered

abbrev pub evident_of : {E : Type 0} → (E → Shown) → (E → List Numbered) → E → Evident
evident_of shows cited e = record { shown = shows e; cited = cited e }

-- the evidence that is kept under a number
abbrev pub evident_in : Option Seen → Option Evident
evident_in (Some (seen.Shown sh cited)) = Some (record { shown = sh; cited = cited })
evident_in (Some (seen.Lemma sh cited)) = Some (record { shown = sh; cited = cited })
evident_in _ = None

abbrev pub evident_at : List Seen → Option ℕ → Option Evident
evident_at kept (Some n) = evident_in (slice_get kept n)
evident_at kept None = None

-- the evidence by which a piece is proved, that of the recorded break of a goal, that of a submitted lemma
abbrev pub proved_by : Option Status → Option ℕ
proved_by (Some (status.Proved n)) = Some n
proved_by _ = None

abbrev pub broken_by : Option (Option ℕ) → Option ℕ
broken_by (Some o) = o
broken_by None = None

abbrev pub marked_by : Option LemmaMark → Option ℕ
marked_by (Some m) = Some m.kept
marked_by None = None

abbrev pub proof_of : BoardState → ℕ → Option Evident
proof_of s k = evident_at s.kept (proved_by (slice_get s.position.statuses k))

abbrev pub break_of : BoardState → ℕ → Option Evident
break_of s g = evident_at s.kept (broken_by (slice_get s.position.breaks g))

abbrev pub lemma_at : BoardState → ℕ → Option Evident
lemma_at s n = evident_at s.kept (marked_by (slice_get s.position.lemmas n))

-- the lemmas for a piece: the admitted ones whose level is at most its goal; more are wanted while fewer than 512 are
-- submitted
abbrev pub lemmas_up_to : BoardState → ℕ → LemmaList
lemmas_up_to s g = record { items = fitting_from g 0 s.kept s.position.lemmas; more = nat_lt (length s.position.lemmas) 512 }

abbrev pub goal_in : Option Piece → ℕ
goal_in (Some q) = q.goal
goal_in None = 0

abbrev pub lemmas_for : BoardState → ℕ → LemmaList
lemmas_for s k = lemmas_up_to s (goal_in (slice_get s.position.pieces k))

-- the verdict: a break is recorded; else a goal is not admitted; else all are
abbrev pub verdict_of : BoardState → Verdict
verdict_of s =
    if list_any is_some s.position.breaks
    then verdict.Refuted
    else (if list_all (λ b. b) s.position.admitted then verdict.Verified else verdict.Unproved)

-- what is told of a goal
pub data Answer : Type 0 where
  Proved : Answer
  Refuted : List ℤ → Answer
  Unproved : Cause → Answer
  Strayed : ℕ → List ℤ → Answer
  Open : Answer

abbrev pub told : GoalAnswer → Answer
told goal_answer.Proved = Proved
told (goal_answer.Refuted input) = Refuted input.now
told (goal_answer.Unproved c) = Unproved c.now
told (goal_answer.Strayed h input) = Strayed h input.now
told goal_answer.Open = Open

-- the input of a break
abbrev pub input_of : Shown → Option (List ℤ)
input_of (shown.Breaks g input) = Some input
input_of (shown.Fact fact) = None

abbrev pub input_in : Option Evident → Option (List ℤ)
input_in (Some e) = input_of e.shown
input_in None = None

-- a piece of the goal that ended with a cause: one that was submitted, or a break of a smaller goal
abbrev pub has_cause : Option Status → Bool
has_cause (Some (status.Ended n)) = true
has_cause (Some (status.Strayed g n)) = true
has_cause _ = false

abbrev pub is_of_goal : Option Piece → ℕ → Bool
is_of_goal (Some q) g = q.goal == g
is_of_goal None g = false

abbrev pub ends_with_cause : List Piece → List Status → ℕ → ℕ → Bool
ends_with_cause pieces statuses g k = is_of_goal (slice_get pieces k) g && has_cause (slice_get statuses k)

-- the greatest number below n that passes the test
unfoldable pub last_below : (ℕ → Bool) → ℕ → Option ℕ
last_below test zero = None
last_below test (suc n) = if test n then Some n else last_below test n

abbrev pub last_cause : BoardState → ℕ → Option ℕ
last_cause s g = last_below (ends_with_cause s.position.pieces s.position.statuses g) (length s.position.pieces)

-- the answer of a piece with a cause
abbrev pub cause_in : Option Seen → Answer
cause_in (Some (seen.Ended c)) = Unproved c
cause_in _ = Open

abbrev pub stray_in : ℕ → Option (List ℤ) → Answer
stray_in h (Some input) = Strayed h input
stray_in h None = Open

abbrev pub answer_by : List Line → List Seen → Option Status → Answer
answer_by lines kept (Some (status.Ended n)) = cause_in (slice_get kept n)
answer_by lines kept (Some (status.Strayed g n)) = stray_in (goal_place lines g) (input_in (evident_in (slice_get kept n)))
answer_by lines kept _ = Open

abbrev pub answer_from : BoardState → Option ℕ → Answer
answer_from s (Some k) = answer_by s.program.lines s.kept (slice_get s.position.statuses k)
answer_from s None = Open

abbrev pub unadmitted : BoardState → ℕ → Option (List ℤ) → Answer
unadmitted s g (Some input) = Refuted input
unadmitted s g None = answer_from s (last_cause s g)

-- an admitted goal is proved; else one with a recorded break is refuted; else the piece of the greatest number that ended
-- with a cause gives it
abbrev pub answer_of : BoardState → ℕ → Answer
answer_of s g = if is_on (slice_get s.position.admitted g) then Proved else unadmitted s g (input_in (break_of s g))

-- the cause is true of the piece of the goal with the greatest number that ended with one
pub record IsLastCause (causes : Causes) (s : BoardState) (g : ℕ) (c : Cause) : Type 0 where
  pub number : ℕ
  pub piece : Piece
  pub at : slice_get s.position.pieces number ≡ Some piece
  pub goal : piece.goal ≡ g
  pub unsettled : is_settled s.position.admitted s.position.breaks g ≡ false
  pub true_of : causes s.program s.budget piece c
  pub last : (k : ℕ) → number < k → ends_with_cause s.position.pieces s.position.statuses g k ≡ false

-- what is told holds
abbrev pub AnswerHolds : Causes → BoardState → ℕ → Answer → Type 0
AnswerHolds causes s g Proved = IsGoalSound s.program g
AnswerHolds causes s g (Refuted input) = IsCounterexample (length s.program.variables) s.program.lines input g
AnswerHolds causes s g (Unproved c) = IsLastCause causes s g c
AnswerHolds causes s g (Strayed h input) = IsLastCause causes s g (cause.Stray h truth.No input)
AnswerHolds causes s g Open =
    (is_settled s.position.admitted s.position.breaks g ≡ false)
    × ((k : ℕ) → ends_with_cause s.position.pieces s.position.statuses g k ≡ false)
