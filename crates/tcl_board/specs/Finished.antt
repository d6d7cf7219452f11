-- Finished boards.
use Rattle.std.specs.Prelude.{◌≡◌, ◌<◌, ℕ, true, false, Bool, not, ◌&&◌, ◌||◌, List, length, slice_get, Option, Some, None}
use Rattle.std.specs.Option.{is_none}
use Rattle.std.specs.Bool.{⊤}
use Rattle.tcl_lang.specs.Program.{VersionedProgram}
use Rattle.tcl_goals.specs.declared.piece.Piece.{Piece}
use Rattle.tcl_goals.specs.declared.piece.Route.{Route}
use Rattle.tcl_goals.specs.declared.piece.Route.TheVariants as route
use Rattle.tcl_goals.specs.declared.cause.Cause.{Cause}
use Rattle.tcl_goals.specs.declared.cause.Cause.TheVariants as cause
use Rattle.tcl_board.specs.declared.event.Status.{Status}
use Rattle.tcl_board.specs.declared.event.Status.TheVariants as status
use Rattle.tcl_board.specs.Shows.{Causes}
use Rattle.tcl_board.specs.Moves.{Position, first_below, is_settled, route_proved, may_admit}
use Rattle.tcl_board.specs.State.{BoardState}
use Rattle.tcl_board.specs.Told.{Answer, Open, Unproved, ends_with_cause, answer_of}

-- the piece was worked on to its end
abbrev pub has_ended : Option Status → Bool
has_ended (Some (status.Proved n)) = true
has_ended (Some (status.Ended n)) = true
has_ended (Some status.Broken) = true
has_ended (Some (status.Strayed g n)) = true
has_ended _ = false

-- no piece is held, each piece of an unsettled goal has ended, and no unsettled goal has a route that is proved
pub record IsFinished (p : Position) : Type 0 where
  pub held : (k w : ℕ) → slice_get p.statuses k ≡ Some (status.Held w) → ⊥
  pub ended : (k : ℕ) (q : Piece) → slice_get p.pieces k ≡ Some q → is_settled p.admitted p.breaks q.goal ≡ false →
      has_ended (slice_get p.statuses k) ≡ true
  pub routes : (g : ℕ) (r : Route) → g < length p.admitted → is_settled p.admitted p.breaks g ≡ false →
      route_proved p.pieces p.statuses g r ≡ false

-- a whole piece of the goal with a true cause
pub record HasCause (causes : Causes) (s : BoardState) (g : ℕ) : Type 0 where
  pub number : ℕ
  pub piece : Piece
  pub at : slice_get s.position.pieces number ≡ Some piece
  pub goal : piece.goal ≡ g
  pub whole : piece.route ≡ route.Whole
  pub ends : ends_with_cause s.position.pieces s.position.statuses g number ≡ true
  pub cause : Cause
  pub true_of : causes s.program s.budget piece cause

abbrev pub FinishedHasCauses : Causes → BoardState → Type 0
FinishedHasCauses causes s =
    (g : ℕ) → g < length s.position.admitted → is_settled s.position.admitted s.position.breaks g ≡ false → HasCause causes s g

-- the same as a test: no piece is held or of an unsettled goal and without an end, and no goal may be admitted
abbrev pub is_held : Option Status → Bool
is_held (Some (status.Held w)) = true
is_held _ = false

abbrev pub lacks_end : List Bool → List (Option ℕ) → Option Piece → Option Status → Bool
lacks_end admitted breaks (Some q) x = not (is_settled admitted breaks q.goal) && not (has_ended x)
lacks_end admitted breaks None x = false

abbrev pub is_open : List Piece → List Status → List Bool → List (Option ℕ) → ℕ → Bool
is_open pieces statuses admitted breaks k =
    is_held (slice_get statuses k) || lacks_end admitted breaks (slice_get pieces k) (slice_get statuses k)

abbrev pub none_open : Position → Bool
none_open p = is_none (first_below (is_open p.pieces p.statuses p.admitted p.breaks) (length p.pieces))

abbrev pub none_admissible : Position → Bool
none_admissible p = is_none (first_below (may_admit p) (length p.admitted))

-- the board is of this program, plan and budget, and finished
pub record IsClosed (s : BoardState) (p : VersionedProgram) (plan : List Piece) (budget : ℕ) : Type 0 where
  pub program : s.program ≡ p
  pub same_plan : s.plan ≡ plan
  pub same_budget : s.budget ≡ budget
  pub finished : IsFinished s.position

-- what is told of a goal of a finished board is no model, and something is told
abbrev pub IsFinal : Answer → Type 0
IsFinal Open = ⊥
IsFinal (Unproved c) = c ≡ cause.Model → ⊥
IsFinal _ = ⊤

abbrev pub FinishedAnswers : BoardState → Type 0
FinishedAnswers s = (g : ℕ) → g < length s.position.admitted → IsFinal (answer_of s g)
