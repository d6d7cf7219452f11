-- How many events and things to keep may still come.
use Rattle.std.specs.Prelude.{ℕ, ◌+◌, ◌*◌, ◌-◌, Bool, true, false, if◌then◌else◌, List, [], ◌∷◌, length}
use Rattle.tcl_board.specs.declared.event.Status.{Status}
use Rattle.tcl_board.specs.declared.event.Status.TheVariants as status
use Rattle.tcl_board.specs.declared.event.LemmaMark.{LemmaMark}
use Rattle.tcl_board.specs.Moves.{Position}

unfoldable pub total : {X : Type 0} → (X → ℕ) → List X → ℕ
total f [] = 0
total f (x ∷ xs) = f x + total f xs

-- a piece is claimed once and ends once
abbrev pub piece_events : Status → ℕ
piece_events status.Unclaimed = 2
piece_events (status.Held w) = 1
piece_events _ = 0

abbrev pub piece_kept : Status → ℕ
piece_kept status.Unclaimed = 1
piece_kept (status.Held w) = 1
piece_kept _ = 0

-- a goal is admitted once, a lemma too
abbrev pub goal_events : Bool → ℕ
goal_events true = 0
goal_events false = 1

abbrev pub lemma_events : LemmaMark → ℕ
lemma_events m = if m.admitted then 0 else 1

-- the events that may still come, and the things that may still be kept
unfoldable pub events_left : Position → ℕ
events_left p =
    total piece_events p.statuses + total goal_events p.admitted + total lemma_events p.lemmas + 2 * (512 - length p.lemmas)

unfoldable pub kept_left : Position → ℕ
kept_left p = total piece_kept p.statuses + (512 - length p.lemmas)

-- the room that is taken at the start
abbrev pub event_room : ℕ → ℕ → ℕ
event_room pieces goals = 2 * pieces + goals + 1024

abbrev pub kept_room : ℕ → ℕ
kept_room pieces = pieces + 512
