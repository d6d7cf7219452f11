-- On a finished board each route of a goal that is not settled has a piece with a true cause.
use Rattle.std.proofs.Common.{◌≡◌, ℕ, ◌<◌, Bool, true, false, ◌&&◌, ◌==◌, length, refl, ap, ◌∙◌, subst, Option, Some, None}
use Rattle.std.specs.List.{slice_get}
use Rattle.std.specs.Option.{is_none}
use Rattle.std.proofs.lemmas.Bool.{and_parts, eqb-true, or_right}
use Rattle.tcl_lang.specs.declared.outcome.Truth.TheVariants as truth
use Rattle.tcl_goals.specs.declared.piece.Piece.{Piece}
use Rattle.tcl_goals.specs.declared.piece.Route.{Route}
use Rattle.tcl_goals.specs.declared.piece.Route.TheVariants as route
use Rattle.tcl_goals.specs.declared.cause.Cause.{Cause}
use Rattle.tcl_goals.specs.declared.cause.Cause.TheVariants as cause
use Rattle.tcl_goals.specs.Places.{goal_place}
use Rattle.tcl_board.specs.declared.event.Status.{Status}
use Rattle.tcl_board.specs.declared.event.Status.TheVariants as status
use Rattle.tcl_board.specs.Shows.{Causes}
use Rattle.tcl_board.specs.Moves.{first_below, unproved_at, lacks_proof, same_route, is_unproved, is_settled, is_on, is_recorded}
use Rattle.tcl_board.specs.State.{BoardState}
use Rattle.tcl_board.specs.Own.{lemmas_of}
use Rattle.tcl_board.specs.Truths.{StatusTrue}
use Rattle.tcl_board.specs.Kept.{IsBoard}
use Rattle.tcl_board.specs.Finished.{IsFinished, has_ended}
use Rattle.tcl_board.proofs.Firsts.{first_is}

-- a piece of the route of the goal, and a cause that is true of it
pub record RouteCause (causes : Causes) (s : BoardState) (g : ℕ) (r : Route) : Type 0 where
  pub number : ℕ
  pub piece : Piece
  pub at : slice_get s.position.pieces number ≡ Some piece
  pub goal : piece.goal ≡ g
  pub way : piece.route ≡ r
  pub cause : Cause
  pub true_of : causes s.program s.budget piece cause

some_first : (o : Option ℕ) → is_none o ≡ false → (k : ℕ) × (o ≡ Some k)
some_first None e = absurd (cc)
some_first (Some k) e = (k, refl)

route_is : (a b : Route) → same_route a b ≡ true → a ≡ b
route_is route.Cut route.Cut e = refl
route_is route.Cut route.Whole e = absurd (cc)
route_is route.Whole route.Cut e = absurd (cc)
route_is route.Whole route.Whole e = refl

-- a piece without a proof
record Lacks (g : ℕ) (r : Route) (o : Option Piece) (x : Option Status) : Type 0 where
  piece : Piece
  at : o ≡ Some piece
  goal : piece.goal ≡ g
  way : piece.route ≡ r
  unproved : is_unproved x ≡ true

lacks_is : (g : ℕ) (r : Route) (o : Option Piece) (x : Option Status) → lacks_proof g r o x ≡ true → Lacks g r o x
lacks_is g r None x e = absurd (cc)
lacks_is g r (Some q) x e =
    let one = and_parts (q.goal == g) (same_route q.route r && is_unproved x) e in
    let two = and_parts (same_route q.route r) (is_unproved x) one.1 in
    record { piece = q; at = refl; goal = eqb-true q.goal g one.0; way = route_is q.route r two.0; unproved = two.1 }

true_false : (b : Bool) → b ≡ true → b ≡ false → ⊥
true_false b e f = cc

cause_at : (causes : Causes) (s : BoardState) (g k : ℕ) (r : Route) (q : Piece) → slice_get s.position.pieces k ≡ Some q → q.goal ≡ g → q.route ≡ r → is_settled s.position.admitted s.position.breaks g ≡ false → (o : Option Status) → is_unproved o ≡ true → has_ended o ≡ true → ((x : Status) → o ≡ Some x → StatusTrue causes s.program s.budget (lemmas_of s) s.kept s.position.admitted s.position.breaks q x) → RouteCause causes s g r
cause_at causes s g k r q at goal way free None u h t = absurd (cc)
cause_at causes s g k r q at goal way free (Some status.Unclaimed) u h t = absurd (cc)
cause_at causes s g k r q at goal way free (Some (status.Held w)) u h t = absurd (cc)
cause_at causes s g k r q at goal way free (Some (status.Proved n)) u h t = absurd (cc)
cause_at causes s g k r q at goal way free (Some status.Cancelled) u h t = absurd (cc)
cause_at causes s g k r q at goal way free (Some (status.Ended n)) u h t =
    let found = t (status.Ended n) refl in
    record { number = k; piece = q; at = at; goal = goal; way = way; cause = found.0; true_of = found.2.true_of }
cause_at causes s g k r q at goal way free (Some (status.Strayed i n)) u h t =
    let found = t (status.Strayed i n) refl in
    record { number = k; piece = q; at = at; goal = goal; way = way; cause = cause.Stray (goal_place s.program.lines i) truth.No found.1; true_of = found.4.stray found.6 }
cause_at causes s g k r q at goal way free (Some status.Broken) u h t =
    let here : is_recorded (slice_get s.position.breaks g) ≡ true = subst (λ j. is_recorded (slice_get s.position.breaks j) ≡ true) goal (t status.Broken refl) in
    absurd (true_false (is_settled s.position.admitted s.position.breaks g) (or_right (is_on (slice_get s.position.admitted g)) (is_recorded (slice_get s.position.breaks g)) here) free)

pub route_cause : (causes : Causes) (s : BoardState) (g : ℕ) (r : Route) → IsBoard causes s → IsFinished s.position → g < length s.position.admitted → is_settled s.position.admitted s.position.breaks g ≡ false → RouteCause causes s g r
route_cause causes s g r b f exists free =
    let none = f.routes g r exists free in
    let found = some_first (first_below (unproved_at s.position.pieces s.position.statuses g r) (length s.position.pieces)) none in
    let k = found.0 in
    let first = first_is (unproved_at s.position.pieces s.position.statuses g r) (length s.position.pieces) k found.1 in
    let l = lacks_is g r (slice_get s.position.pieces k) (slice_get s.position.statuses k) first.passes in
    let open_goal : is_settled s.position.admitted s.position.breaks l.piece.goal ≡ false = ap (is_settled s.position.admitted s.position.breaks) l.goal ∙ free in
    cause_at causes s g k r l.piece l.at l.goal l.way free (slice_get s.position.statuses k) l.unproved (f.ended k l.piece l.at open_goal)
    (λ x e. b.truths k l.piece x l.at e)
