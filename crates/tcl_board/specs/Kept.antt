-- What every board keeps.
use Rattle.std.specs.Prelude.{◌≡◌, ◌<◌, ◌≤◌, ℕ, ◌+◌, ◌^◌, true, List, length, slice_get, Some}
use Rattle.tcl_lang.specs.Program.{VersionedProgram}
use Rattle.tcl_lang.specs.Goal.{goal_count}
use Rattle.tcl_goals.specs.declared.piece.Piece.{Piece}
use Rattle.tcl_goals.specs.declared.piece.Route.{Route}
use Rattle.tcl_goals.specs.declared.piece.Route.TheVariants as route
use Rattle.tcl_goals.specs.Places.{has_goal}
use Rattle.tcl_goals.specs.Plans.{IsPiece, plan_of}
use Rattle.tcl_board.specs.declared.event.Status.{Status}
use Rattle.tcl_board.specs.declared.event.Status.TheVariants as status
use Rattle.tcl_board.specs.Shows.{Causes}
use Rattle.tcl_board.specs.State.{BoardState, opening}
use Rattle.tcl_board.specs.Own.{lemmas_of}
use Rattle.tcl_board.specs.Steps.{IsRun}
use Rattle.tcl_board.specs.Truths.{Truths, LemmasTrue, AllCiteOwn, BreaksTrue, GoalsTrue}
use Rattle.tcl_board.specs.Covers.{Covers}
use Rattle.tcl_board.specs.Rooms.{events_left, kept_left, event_room, kept_room}

-- the plan of the program, for a split of at most 6
pub record IsPlan (p : VersionedProgram) (plan : List Piece) : Type 0 where
  pub split : ℕ
  pub small : split ≤ 6
  pub is : plan ≡ plan_of p split

-- the pieces of a board: few, each with its number, of a goal that exists, and with a cube over the first free bits of its
-- fact; the cubes of each route of a goal cover every assignment, and its whole pieces come after those of its cut route
pub record ArePieces (p : VersionedProgram) (pieces : List Piece) : Type 0 where
  pub few : length pieces < 2 ^ 20
  pub few_goals : goal_count p.lines < 2 ^ 20
  pub numbers : (k : ℕ) (q : Piece) → slice_get pieces k ≡ Some q → q.number ≡ k
  pub each : (k : ℕ) (q : Piece) → slice_get pieces k ≡ Some q → IsPiece p q
  pub covers : (g : ℕ) (r : Route) → has_goal p.lines g ≡ true → Covers pieces g r
  pub order : (j k : ℕ) (one other : Piece) → slice_get pieces j ≡ Some one → slice_get pieces k ≡ Some other → one.goal ≡ other.goal →
      one.route ≡ route.Whole → other.route ≡ route.Cut → k < j

-- a worker that holds a piece has a number below 64 and holds no other
pub record AreHolders (statuses : List Status) : Type 0 where
  pub workers : (k w : ℕ) → slice_get statuses k ≡ Some (status.Held w) → w < 64
  pub one : (j k w : ℕ) → slice_get statuses j ≡ Some (status.Held w) → slice_get statuses k ≡ Some (status.Held w) → j ≡ k

pub record IsBoard (causes : Causes) (s : BoardState) : Type 0 where
  pub run : IsRun causes (opening s.program s.plan s.budget) s.events s
  pub plan : ArePieces s.program s.position.pieces
  pub pieces : length s.position.pieces ≡ length s.plan
  pub statuses : length s.position.statuses ≡ length s.position.pieces
  pub admitted : length s.position.admitted ≡ goal_count s.program.lines
  pub breaks : length s.position.breaks ≡ goal_count s.program.lines
  pub lemmas : length s.position.lemmas ≤ 512
  pub kept : length s.kept ≡ s.position.kept
  pub events : length s.events + events_left s.position ≤ event_room (length s.plan) (goal_count s.program.lines)
  pub room : s.position.kept + kept_left s.position ≤ kept_room (length s.plan)
  pub holders : AreHolders s.position.statuses
  pub truths :
      Truths causes s.program s.budget (lemmas_of s) s.kept s.position.admitted s.position.breaks s.position.pieces
      s.position.statuses
  pub lemmas_true : LemmasTrue s.program s.kept s.position.lemmas
  pub cite_own : AllCiteOwn (lemmas_of s) s.kept
  pub breaks_true : BreaksTrue s.program s.kept s.position.breaks
  pub goals_true : GoalsTrue s.program s.position.admitted
