-- A board at its opening, seen from its fields.
use Rattle.std.proofs.Common.{◌≡◌, sym, ◌∙◌, ap, subst, ℕ, ◌+◌, ◌*◌, arith, Bool, false, List, [], length, Option, None}
use Rattle.std.specs.Prelude.{replicate}
use Rattle.tcl_lang.specs.Program.{VersionedProgram}
use Rattle.tcl_lang.specs.Goal.{goal_count}
use Rattle.tcl_goals.specs.declared.piece.Piece.{Piece}
use Rattle.tcl_board.specs.declared.event.Event.{Event}
use Rattle.tcl_board.specs.declared.event.LemmaMark.{LemmaMark}
use Rattle.tcl_board.specs.declared.event.Status.{Status}
use Rattle.tcl_board.specs.declared.event.Status.TheVariants as status
use Rattle.tcl_board.specs.declared.evidence.Seen.{Seen}
use Rattle.tcl_board.specs.Shows.{Causes}
use Rattle.tcl_board.specs.State.{opening}
use Rattle.tcl_board.specs.Sight.{state_of}
use Rattle.tcl_board.specs.Rooms.{event_room, kept_room}
use Rattle.tcl_board.specs.Kept.{IsBoard, ArePieces}
use Rattle.tcl_board.proofs.Keeping.{opening_board}

-- the state of fields that are as at the opening is the opening
opening_state : (p : VersionedProgram) (plan pieces : List Piece) (budget : ℕ) (events : List Event) (statuses : List Status) (admitted : List Bool) (breaks : List (Option ℕ)) (lemmas : List LemmaMark) (m : ℕ) (kept : List Seen) → events ≡ [] → pieces ≡ plan → statuses ≡ replicate (length plan) status.Unclaimed → admitted ≡ replicate (goal_count p.lines) false → breaks ≡ replicate (goal_count p.lines) None → lemmas ≡ [] → m ≡ 0 → kept ≡ [] → state_of p plan budget events pieces statuses admitted breaks lemmas m kept ≡ opening p plan budget
opening_state p plan pieces budget events statuses admitted breaks lemmas m kept e q s a b l n k =
    ap (λ x. state_of p plan budget x pieces statuses admitted breaks lemmas m kept) e
    ∙ (ap (λ x. state_of p plan budget [] x statuses admitted breaks lemmas m kept) q
    ∙ (ap (λ x. state_of p plan budget [] plan x admitted breaks lemmas m kept) s
    ∙ (ap (λ x. state_of p plan budget [] plan (replicate (length plan) status.Unclaimed) x breaks lemmas m kept) a
    ∙ (ap (λ x. state_of p plan budget [] plan (replicate (length plan) status.Unclaimed) (replicate (goal_count p.lines) false) x lemmas m kept) b
    ∙ (ap (λ x. state_of p plan budget [] plan (replicate (length plan) status.Unclaimed) (replicate (goal_count p.lines) false) (replicate (goal_count p.lines) None) x m kept) l
    ∙ (ap (λ x. state_of p plan budget [] plan (replicate (length plan) status.Unclaimed) (replicate (goal_count p.lines) false) (replicate (goal_count p.lines) None) [] x kept) n
    ∙ ap (λ x. state_of p plan budget [] plan (replicate (length plan) status.Unclaimed) (replicate (goal_count p.lines) false) (replicate (goal_count p.lines) None) [] 0 x) k))))))

pub opened_board : (causes : Causes) (p : VersionedProgram) (plan pieces : List Piece) (budget : ℕ) (events : List Event) (statuses : List Status) (admitted : List Bool) (breaks : List (Option ℕ)) (lemmas : List LemmaMark) (m : ℕ) (kept : List Seen) → ArePieces p plan → events ≡ [] → pieces ≡ plan → statuses ≡ replicate (length plan) status.Unclaimed → admitted ≡ replicate (goal_count p.lines) false → breaks ≡ replicate (goal_count p.lines) None → lemmas ≡ [] → m ≡ 0 → kept ≡ [] → IsBoard causes (state_of p plan budget events pieces statuses admitted breaks lemmas m kept)
opened_board causes p plan pieces budget events statuses admitted breaks lemmas m kept h e q s a b l n k =
    subst (IsBoard causes) (sym (opening_state p plan pieces budget events statuses admitted breaks lemmas m kept e q s a b l n k)) (opening_board causes p plan budget h)

-- the rooms that are taken
pub event_room_is : (pieces len goals count : ℕ) → len ≡ pieces → count ≡ goals → 2 * len + count + 1024 ≡ event_room pieces goals
event_room_is pieces len goals count e f = omega (arith, e, f)

pub kept_room_is : (pieces len : ℕ) → len ≡ pieces → len + 512 ≡ kept_room pieces
kept_room_is pieces len e = omega (arith, e)
