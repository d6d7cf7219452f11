-- Positions of the board and its moves. Nothing here speaks of facts, inputs or causes, so a list of events alone fixes
-- the position.
use Rattle.std.specs.Prelude.{ℕ, zero, suc, ◌+◌, ◌==◌, nat_lt, nat_le, Bool, true, false, not, ◌&&◌, ◌||◌, if◌then◌else◌, List, [], ◌∷◌, ◌++◌, length, replicate, slice_get, slice_set, Option, Some, None}
use Rattle.std.specs.Option.{is_none}
use Rattle.tcl_goals.specs.declared.piece.Piece.{Piece}
use Rattle.tcl_goals.specs.declared.piece.Route.{Route}
use Rattle.tcl_goals.specs.declared.piece.Route.TheVariants as route
use Rattle.tcl_board.specs.declared.event.Event.{Event}
use Rattle.tcl_board.specs.declared.event.Event.TheVariants as event
use Rattle.tcl_board.specs.declared.event.Word.{Word}
use Rattle.tcl_board.specs.declared.event.Word.TheVariants as word
use Rattle.tcl_board.specs.declared.event.Admitted.TheVariants as admitted
use Rattle.tcl_board.specs.declared.event.Status.{Status}
use Rattle.tcl_board.specs.declared.event.Status.TheVariants as status
use Rattle.tcl_board.specs.declared.event.LemmaMark.{LemmaMark}

-- what a list of events fixes: the pieces and where each stands, for each goal whether it is admitted and the number of
-- its recorded break, the lemmas, and how many of the things that were submitted are kept
pub record Position : Type 0 where
  pub pieces : List Piece
  pub statuses : List Status
  pub admitted : List Bool
  pub breaks : List (Option ℕ)
  pub lemmas : List LemmaMark
  pub kept : ℕ

-- at first nothing is claimed or settled
abbrev pub opening_of : List Piece → ℕ → Position
opening_of pieces goals =
    record {
      pieces = pieces;
      statuses = replicate (length pieces) status.Unclaimed;
      admitted = replicate goals false;
      breaks = replicate goals None;
      lemmas = [];
      kept = 0;
    }

-- the least number below n that passes the test
abbrev pub or_this : Option ℕ → Bool → ℕ → Option ℕ
or_this (Some k) b n = Some k
or_this None true n = Some n
or_this None false n = None

unfoldable pub first_below : (ℕ → Bool) → ℕ → Option ℕ
first_below test zero = None
first_below test (suc n) = or_this (first_below test n) (test n) n

abbrev pub is_number : Option ℕ → ℕ → Bool
is_number (Some k) n = k == n
is_number None n = false

-- settled goals
abbrev pub is_on : Option Bool → Bool
is_on (Some b) = b
is_on None = false

abbrev pub is_recorded : Option (Option ℕ) → Bool
is_recorded (Some (Some k)) = true
is_recorded _ = false

abbrev pub is_settled : List Bool → List (Option ℕ) → ℕ → Bool
is_settled admitted breaks g = is_on (slice_get admitted g) || is_recorded (slice_get breaks g)

-- the next piece: the least that was never claimed and whose goal is not settled
abbrev pub claims : List Bool → List (Option ℕ) → Option Status → Option Piece → Bool
claims admitted breaks (Some status.Unclaimed) (Some q) = not (is_settled admitted breaks q.goal)
claims admitted breaks _ _ = false

abbrev pub may_claim : List Piece → List Status → List Bool → List (Option ℕ) → ℕ → Bool
may_claim pieces statuses admitted breaks k = claims admitted breaks (slice_get statuses k) (slice_get pieces k)

abbrev pub next_piece : Position → Option ℕ
next_piece p = first_below (may_claim p.pieces p.statuses p.admitted p.breaks) (length p.pieces)

-- the piece that a worker holds
abbrev pub is_held_by : ℕ → Option Status → Bool
is_held_by w (Some (status.Held v)) = v == w
is_held_by w _ = false

abbrev pub held_by : List Status → ℕ → ℕ → Bool
held_by statuses w k = is_held_by w (slice_get statuses k)

abbrev pub held_of : List Status → ℕ → Option ℕ
held_of statuses w = first_below (held_by statuses w) (length statuses)

-- the goal of a piece is settled
abbrev pub goal_settled : Position → Option Piece → Bool
goal_settled p (Some q) = is_settled p.admitted p.breaks q.goal
goal_settled p None = false

-- a piece of the route of the goal that is not proved
abbrev pub same_route : Route → Route → Bool
same_route route.Cut route.Cut = true
same_route route.Whole route.Whole = true
same_route _ _ = false

abbrev pub is_unproved : Option Status → Bool
is_unproved (Some (status.Proved n)) = false
is_unproved _ = true

abbrev pub lacks_proof : ℕ → Route → Option Piece → Option Status → Bool
lacks_proof g r (Some q) s = q.goal == g && (same_route q.route r && is_unproved s)
lacks_proof g r None s = false

abbrev pub unproved_at : List Piece → List Status → ℕ → Route → ℕ → Bool
unproved_at pieces statuses g r k = lacks_proof g r (slice_get pieces k) (slice_get statuses k)

abbrev pub route_proved : List Piece → List Status → ℕ → Route → Bool
route_proved pieces statuses g r = is_none (first_below (unproved_at pieces statuses g r) (length pieces))

abbrev pub may_admit : Position → ℕ → Bool
may_admit p g =
    nat_lt g (length p.admitted)
    && (not (is_settled p.admitted p.breaks g) && (route_proved p.pieces p.statuses g route.Cut || route_proved p.pieces p.statuses g route.Whole))

-- a lemma that waits to be admitted
abbrev pub is_waiting : Option LemmaMark → Bool
is_waiting (Some m) = not m.admitted
is_waiting None = false

-- what may be submitted for a piece
abbrev pub fits_word : Position → Option Piece → Word → Bool
fits_word p (Some q) (word.Broken g) = nat_le g q.goal
fits_word p _ word.Lemma = nat_lt (length p.lemmas) 512
fits_word p _ _ = true

-- which events may come
unfoldable pub allows : Position → Event → Bool
allows p (event.Claim w q) = nat_lt w 64 && (is_none (held_of p.statuses w) && is_number (next_piece p) q)
allows p (event.Submit w q what) = is_number (held_of p.statuses w) q && fits_word p (slice_get p.pieces q) what
allows p (event.Admit (admitted.Goal g)) = may_admit p g
allows p (event.Admit (admitted.Lemma n)) = is_waiting (slice_get p.lemmas n)
allows p (event.Cancel w q) = is_number (held_of p.statuses w) q && goal_settled p (slice_get p.pieces q)

-- a break of the piece's own goal; a break of a goal that has one already
abbrev pub is_own : Option Piece → ℕ → Bool
is_own (Some q) g = q.goal == g
is_own None g = false

abbrev pub breaks_own : Option Piece → Word → Bool
breaks_own o (word.Broken g) = is_own o g
breaks_own o _ = false

abbrev pub breaks_again : List (Option ℕ) → Word → Bool
breaks_again breaks (word.Broken g) = is_recorded (slice_get breaks g)
breaks_again breaks _ = false

-- a break of the piece's own goal that has one already is dropped, all else that is taken is kept
abbrev pub drops : Position → Option Piece → Word → Bool
drops p o what = breaks_own o what && breaks_again p.breaks what

-- what they change
abbrev pub record_break : List (Option ℕ) → ℕ → ℕ → List (Option ℕ)
record_break breaks g n = if is_recorded (slice_get breaks g) then breaks else slice_set breaks g (Some n)

abbrev pub admit_mark : List LemmaMark → ℕ → Option LemmaMark → List LemmaMark
admit_mark marks n (Some m) = slice_set marks n (record { kept = m.kept; admitted = true })
admit_mark marks n None = marks

abbrev pub broken_by : Bool → ℕ → ℕ → Status
broken_by true g n = status.Broken
broken_by false g n = status.Strayed g n

abbrev pub status_after : List Status → ℕ → Bool → Word → ℕ → List Status
status_after statuses q own word.Proved n = slice_set statuses q (status.Proved n)
status_after statuses q own (word.Broken g) n = slice_set statuses q (broken_by own g n)
status_after statuses q own word.Ended n = slice_set statuses q (status.Ended n)
status_after statuses q own word.Lemma n = statuses

abbrev pub breaks_after : List (Option ℕ) → Word → ℕ → List (Option ℕ)
breaks_after breaks (word.Broken g) n = record_break breaks g n
breaks_after breaks _ n = breaks

abbrev pub lemmas_after : List LemmaMark → Word → ℕ → List LemmaMark
lemmas_after lemmas word.Lemma n = lemmas ++ record { kept = n; admitted = false } ∷ []
lemmas_after lemmas _ n = lemmas

abbrev pub submitted : Position → ℕ → Option Piece → Word → Position
submitted p q o what =
    record p {
      statuses = status_after p.statuses q (breaks_own o what) what p.kept;
      breaks = breaks_after p.breaks what p.kept;
      lemmas = lemmas_after p.lemmas what p.kept;
      kept = if drops p o what then p.kept else p.kept + 1;
    }

abbrev pub moved : Position → Event → Position
moved p (event.Claim w q) = record p { statuses = slice_set p.statuses q (status.Held w) }
moved p (event.Submit w q what) = submitted p q (slice_get p.pieces q) what
moved p (event.Admit (admitted.Goal g)) = record p { admitted = slice_set p.admitted g true }
moved p (event.Admit (admitted.Lemma n)) = record p { lemmas = admit_mark p.lemmas n (slice_get p.lemmas n) }
moved p (event.Cancel w q) = record p { statuses = slice_set p.statuses q status.Cancelled }

-- the position after an event that may come, none after another
abbrev pub moves : Position → Event → Option Position
moves p e = if allows p e then Some (moved p e) else None
