-- What is made of a submission.
use Rattle.std.specs.Prelude.{◌≡◌, ◌<◌, ℕ, ◌-◌, ◌==◌, nat_lt, nat_le, Bool, true, false, ◌&&◌, if◌then◌else◌, List, length, slice_get, Option, Some, None}
use Rattle.std.specs.List.{list_all}
use Rattle.std.specs.Bool.{⊤}
use Rattle.tcl_lang.specs.declared.pred.Line.{Line}
use Rattle.tcl_lang.specs.Program.{VersionedProgram}
use Rattle.tcl_lang.specs.Goal.{goal_count}
use Rattle.tcl_lang.specs.declared.outcome.Truth.TheVariants as truth
use Rattle.tcl_goals.specs.declared.fact.Hyp.{Hyp}
use Rattle.tcl_goals.specs.declared.fact.Hyp.TheVariants as hyp
use Rattle.tcl_goals.specs.declared.fact.Fact.{Fact}
use Rattle.tcl_goals.specs.declared.fact.Claim.{Claim}
use Rattle.tcl_goals.specs.declared.fact.Claim.TheVariants as claim
use Rattle.tcl_goals.specs.declared.lemma.Numbered.{Numbered}
use Rattle.tcl_goals.specs.declared.piece.Shown.{Shown}
use Rattle.tcl_goals.specs.declared.piece.Shown.TheVariants as shown
use Rattle.tcl_goals.specs.declared.piece.Piece.{Piece}
use Rattle.tcl_goals.specs.declared.cause.Cause.TheVariants as cause
use Rattle.tcl_goals.specs.Places.{goal_place, has_goal}
use Rattle.tcl_board.specs.declared.event.LemmaMark.{LemmaMark}
use Rattle.tcl_board.specs.declared.event.Word.{Word}
use Rattle.tcl_board.specs.declared.event.Word.TheVariants as word
use Rattle.tcl_board.specs.declared.event.Judged.{Judged}
use Rattle.tcl_board.specs.declared.event.Judged.TheVariants as judged
use Rattle.tcl_board.specs.declared.event.Submitted.{Submitted}
use Rattle.tcl_board.specs.declared.event.Submitted.TheVariants as submitted
use Rattle.tcl_board.specs.declared.evidence.Outcome.{Outcome}
use Rattle.tcl_board.specs.declared.evidence.Outcome.TheVariants as outcome
use Rattle.tcl_board.specs.declared.evidence.Seen.{Seen}
use Rattle.tcl_board.specs.declared.evidence.Seen.TheVariants as seen
use Rattle.tcl_board.specs.Shows.{Causes, ShownHolds, AreCited}
use Rattle.tcl_board.specs.Moves.{held_of, fits_word, is_recorded}
use Rattle.tcl_board.specs.State.{BoardState, given}
use Rattle.tcl_board.specs.Own.{lemmas_of, same_bits, cites_own}
use Rattle.tcl_board.specs.Steps.{IsTrueGift, IsTrueCause}
use Rattle.tcl_board.specs.Truths.{CitesOwn}

-- the fact is of the piece: it has its goal as claim, and its cube
abbrev pub is_goal_claim : Claim → ℕ → Bool
is_goal_claim (claim.Goal i) g = i == g
is_goal_claim (claim.Lemma m) g = false

abbrev pub proves_piece : Piece → Fact → Bool
proves_piece q fact = is_goal_claim fact.claim q.goal && same_bits fact.cube q.cube

-- a place is above the goals where it is above that of the last goal
abbrev pub last_goal_place : List Line → ℕ
last_goal_place lines = goal_place lines (goal_count lines - 1)

abbrev pub is_hyp_upto : ℕ → Hyp → Bool
is_hyp_upto last (hyp.Line k) = nat_le k last
is_hyp_upto last (hyp.Lemma n) = true

-- the claim is a lemma whose level is a goal
abbrev pub is_lemma_claim : List Line → Claim → Bool
is_lemma_claim lines (claim.Goal i) = false
is_lemma_claim lines (claim.Lemma m) = has_goal lines m.level

-- the fact is of a lemma: its level is a goal, its cube is empty, and no hypothesis is above the goals
abbrev pub shows_lemma : List Line → Fact → Bool
shows_lemma lines fact =
    is_lemma_claim lines fact.claim && (length fact.cube == 0 && list_all (is_hyp_upto (last_goal_place lines)) fact.hyps)

abbrev pub judge_lemma : Bool → Bool → Judged
judge_lemma false few = judged.Refused submitted.Foreign
judge_lemma true false = judged.Refused submitted.Full
judge_lemma true true = judged.Gives word.Lemma

-- what is made of evidence for the piece, where these things are kept and these lemmas are submitted
abbrev pub judge_for : Piece → List Seen → List LemmaMark → Shown → List Numbered → Judged
judge_for q kept marks (shown.Fact fact) cited =
    if proves_piece q fact && cites_own cited kept marks fact.hyps then judged.Gives word.Proved else judged.Refused submitted.Foreign
judge_for q kept marks (shown.Breaks g input) cited =
    if nat_le g q.goal then judged.Gives (word.Broken g) else judged.Refused submitted.Foreign

-- what is made of evidence of a lemma
abbrev pub judge_as_lemma : List Line → List Seen → List LemmaMark → Shown → List Numbered → Judged
judge_as_lemma lines kept marks (shown.Fact fact) cited =
    judge_lemma (shows_lemma lines fact && cites_own cited kept marks fact.hyps) (nat_lt (length marks) 512)
judge_as_lemma lines kept marks (shown.Breaks g input) cited = judged.Refused submitted.Foreign

abbrev pub judge_at : List Line → List Seen → List LemmaMark → Piece → Seen → Judged
judge_at lines kept marks q (seen.Shown sh cited) = judge_for q kept marks sh cited
judge_at lines kept marks q (seen.Lemma sh cited) = judge_as_lemma lines kept marks sh cited
judge_at lines kept marks q (seen.Ended c) = judged.Gives word.Ended

abbrev pub judge : BoardState → Option Piece → Seen → Judged
judge s None gift = judged.Refused submitted.NotHeld
judge s (Some q) gift = judge_at s.program.lines s.kept s.position.lemmas q gift

-- the answer: a second break of a goal is settled
abbrev pub answer_in : List (Option ℕ) → Judged → Submitted
answer_in breaks (judged.Refused answer) = answer
answer_in breaks (judged.Gives (word.Broken g)) = if is_recorded (slice_get breaks g) then submitted.Settled else submitted.Taken
answer_in breaks (judged.Gives what) = submitted.Taken

-- what a step needs
abbrev pub GoalIn : Word → ℕ → Type 0
GoalIn (word.Broken g) n = g < n
GoalIn _ n = ⊤

abbrev pub RoomFor : Word → ℕ → ℕ → Type 0
RoomFor word.Lemma n room = n < room
RoomFor _ n room = ⊤

-- the state after what is made of it
abbrev pub after_judged : BoardState → ℕ → ℕ → Seen → Judged → BoardState
after_judged s w q gift (judged.Refused answer) = s
after_judged s w q gift (judged.Gives what) = given s w q what gift

abbrev pub answer_held : BoardState → Option ℕ → Seen → Submitted
answer_held s None gift = submitted.NotHeld
answer_held s (Some q) gift = answer_in s.position.breaks (judge s (slice_get s.position.pieces q) gift)

abbrev pub after_held : BoardState → ℕ → Option ℕ → Seen → BoardState
after_held s w None gift = s
after_held s w (Some q) gift = after_judged s w q gift (judge s (slice_get s.position.pieces q) gift)

abbrev pub answer_of : BoardState → ℕ → Seen → Submitted
answer_of s w gift = answer_held s (held_of s.position.statuses w) gift

abbrev pub after_submit : BoardState → ℕ → Seen → BoardState
after_submit s w gift = after_held s w (held_of s.position.statuses w) gift

-- what must be true of a submission: causes are true of the piece, a break of a smaller goal is a stray of it
abbrev pub MayGive : Causes → BoardState → Option Piece → Seen → Type 0
MayGive causes s (Some q) (seen.Ended c) = IsTrueCause causes s.program s.budget q c
MayGive causes s (Some q) (seen.Shown (shown.Breaks g input) cited) =
    g < q.goal → causes s.program s.budget q (cause.Stray (goal_place s.program.lines g) truth.No input)
MayGive causes s _ _ = ⊤

-- the evidence speaks of the program, and stands alone
pub record Speaks (p : VersionedProgram) (q : VersionedProgram) (b : Bool) : Type 0 where
  pub program : q ≡ p
  pub alone : b ≡ true

abbrev pub OutcomeSpeaks : {E : Type 0} → VersionedProgram → (E → VersionedProgram) → (E → Bool) → Outcome E → Type 0
OutcomeSpeaks p program alone (outcome.Shown e) = Speaks p (program e) (alone e)
OutcomeSpeaks p program alone (outcome.Lemma e) = Speaks p (program e) (alone e)
OutcomeSpeaks p program alone (outcome.Ended c) = ⊤

-- what the evidence shows holds under the lemmas that it cites
pub record IsShown (p : VersionedProgram) (cited : List Numbered) (sh : Shown) : Type 0 where
  pub holds : ShownHolds p cited sh
  pub cites : AreCited cited sh

abbrev pub OutcomeHolds : {E : Type 0} → (E → VersionedProgram) → (E → List Numbered) → (E → Shown) → Outcome E → Type 0
OutcomeHolds program cited shows (outcome.Shown e) = IsShown (program e) (cited e) (shows e)
OutcomeHolds program cited shows (outcome.Lemma e) = IsShown (program e) (cited e) (shows e)
OutcomeHolds program cited shows (outcome.Ended c) = ⊤

-- a submission that is taken: what it is, that it may come, and that it cites the board's lemmas alone
pub record IsTaken (causes : Causes) (s : BoardState) (o : Option Piece) (what : Word) (gift : Seen) : Type 0 where
  pub truth : IsTrueGift causes s o what gift
  pub fits : fits_word s.position o what ≡ true
  pub cites : CitesOwn (lemmas_of s) gift
