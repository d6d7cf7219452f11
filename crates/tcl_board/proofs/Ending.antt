-- On a finished board each goal is settled, or a whole piece of it has a true cause.
use Rattle.std.proofs.Common.{◌≡◌, refl, sym, ap, ◌∙◌, subst, arith, ℕ, ◌<◌, Bool, true, false, ◌&&◌, ◌==◌, length, Option, Some, None}
use Rattle.std.specs.List.{slice_get}
use Rattle.std.specs.Option.{is_none}
use Rattle.std.proofs.lemmas.Bool.{and_parts, and_from, eqb-true, or_right}
use Rattle.std.proofs.lemmas.Bool.Decides.{nat_tests}
use Rattle.tcl_lang.specs.declared.outcome.Truth.TheVariants as truth
use Rattle.tcl_goals.specs.declared.piece.Piece.{Piece}
use Rattle.tcl_goals.specs.declared.piece.Route.{Route}
use Rattle.tcl_goals.specs.declared.piece.Route.TheVariants as route
use Rattle.tcl_goals.specs.declared.cause.Cause.TheVariants as cause
use Rattle.tcl_goals.specs.Places.{goal_place}
use Rattle.tcl_board.specs.declared.event.Status.{Status}
use Rattle.tcl_board.specs.declared.event.Status.TheVariants as status
use Rattle.tcl_board.specs.Shows.{Causes, NoModel}
use Rattle.tcl_board.specs.Told.{Answer, Proved, Refuted, Unproved, Strayed, Open, is_of_goal, has_cause, ends_with_cause, answer_of, AnswerHolds}
use Rattle.tcl_board.proofs.Knowing.{answer_holds}
use Rattle.tcl_board.specs.Moves.{first_below, unproved_at, lacks_proof, same_route, is_unproved, is_settled, is_on, is_recorded}
use Rattle.tcl_board.specs.State.{BoardState}
use Rattle.tcl_board.specs.Own.{lemmas_of}
use Rattle.tcl_board.specs.Truths.{StatusTrue}
use Rattle.tcl_board.specs.Kept.{IsBoard}
use Rattle.tcl_board.specs.Finished.{IsFinished, has_ended, HasCause, FinishedHasCauses, IsFinal, FinishedAnswers}
use Rattle.tcl_board.proofs.Firsts.{first_is}

some_first : (o : Option ℕ) → is_none o ≡ false → (k : ℕ) × (o ≡ Some k)
some_first None e = absurd (cc)
some_first (Some k) e = (k, refl)

whole_is : (r : Route) → same_route r route.Whole ≡ true → r ≡ route.Whole
whole_is route.Cut e = absurd (cc)
whole_is route.Whole e = refl

-- a whole piece without a proof
record Lacks (g : ℕ) (o : Option Piece) (x : Option Status) : Type 0 where
  piece : Piece
  at : o ≡ Some piece
  goal : piece.goal ≡ g
  whole : piece.route ≡ route.Whole
  unproved : is_unproved x ≡ true

lacks_is : (g : ℕ) (o : Option Piece) (x : Option Status) → lacks_proof g route.Whole o x ≡ true → Lacks g o x
lacks_is g None x e = absurd (cc)
lacks_is g (Some q) x e =
    let one = and_parts (q.goal == g) (same_route q.route route.Whole && is_unproved x) e in
    let two = and_parts (same_route q.route route.Whole) (is_unproved x) one.1 in
    record { piece = q; at = refl; goal = eqb-true q.goal g one.0; whole = whole_is q.route two.0; unproved = two.1 }

true_false : (b : Bool) → b ≡ true → b ≡ false → ⊥
true_false b e f = cc

cause_at : (causes : Causes) (s : BoardState) (g k : ℕ) (q : Piece) → slice_get s.position.pieces k ≡ Some q → q.goal ≡ g → (has_cause (slice_get s.position.statuses k) ≡ true → ends_with_cause s.position.pieces s.position.statuses g k ≡ true) → q.route ≡ route.Whole → is_settled s.position.admitted s.position.breaks g ≡ false → (o : Option Status) → slice_get s.position.statuses k ≡ o → is_unproved o ≡ true → has_ended o ≡ true → ((x : Status) → o ≡ Some x → StatusTrue causes s.program s.budget (lemmas_of s) s.kept s.position.admitted s.position.breaks q x) → HasCause causes s g
cause_at causes s g k q at goal ends whole free None is u h t = absurd (cc)
cause_at causes s g k q at goal ends whole free (Some status.Unclaimed) is u h t = absurd (cc)
cause_at causes s g k q at goal ends whole free (Some (status.Held w)) is u h t = absurd (cc)
cause_at causes s g k q at goal ends whole free (Some (status.Proved n)) is u h t = absurd (cc)
cause_at causes s g k q at goal ends whole free (Some status.Cancelled) is u h t = absurd (cc)
cause_at causes s g k q at goal ends whole free (Some (status.Ended n)) is u h t =
    let found = t (status.Ended n) refl in
    record { number = k; piece = q; at = at; goal = goal; whole = whole; ends = ends (ap has_cause is); cause = found.0; true_of = found.2.true_of }
cause_at causes s g k q at goal ends whole free (Some (status.Strayed i n)) is u h t =
    let found = t (status.Strayed i n) refl in
    record { number = k; piece = q; at = at; goal = goal; whole = whole; ends = ends (ap has_cause is); cause = cause.Stray (goal_place s.program.lines i) truth.No found.1; true_of = found.4.stray found.6 }
cause_at causes s g k q at goal ends whole free (Some status.Broken) is u h t =
    let here : is_recorded (slice_get s.position.breaks g) ≡ true = subst (λ j. is_recorded (slice_get s.position.breaks j) ≡ true) goal (t status.Broken refl) in
    absurd (true_false (is_settled s.position.admitted s.position.breaks g) (or_right (is_on (slice_get s.position.admitted g)) (is_recorded (slice_get s.position.breaks g)) here) free)

ends_here : (s : BoardState) (g k : ℕ) (q : Piece) → slice_get s.position.pieces k ≡ Some q → q.goal ≡ g → has_cause (slice_get s.position.statuses k) ≡ true → ends_with_cause s.position.pieces s.position.statuses g k ≡ true
ends_here s g k q at goal e = and_from (is_of_goal (slice_get s.position.pieces k) g) (has_cause (slice_get s.position.statuses k)) (ap (λ o. is_of_goal o g) at ∙ same_goal q.goal g goal) e
  where
    same_goal : (a b : ℕ) → a ≡ b → (a == b) ≡ true
    same_goal a b e = grind (arith, nat_tests)

pub finished_has_causes : (causes : Causes) (s : BoardState) → IsBoard causes s → IsFinished s.position → FinishedHasCauses causes s
finished_has_causes causes s b f g exists free =
    let none = f.routes g route.Whole exists free in
    let found = some_first (first_below (unproved_at s.position.pieces s.position.statuses g route.Whole) (length s.position.pieces)) none in
    let k = found.0 in
    let first = first_is (unproved_at s.position.pieces s.position.statuses g route.Whole) (length s.position.pieces) k found.1 in
    let l = lacks_is g (slice_get s.position.pieces k) (slice_get s.position.statuses k) first.passes in
    let open_goal : is_settled s.position.admitted s.position.breaks l.piece.goal ≡ false = ap (is_settled s.position.admitted s.position.breaks) l.goal ∙ free in
    cause_at causes s g k l.piece l.at l.goal (λ e. ends_here s g k l.piece l.at l.goal e) l.whole free (slice_get s.position.statuses k) refl l.unproved (f.ended k l.piece l.at open_goal)
    (λ x e. b.truths k l.piece x l.at e)

-- what is told of a goal of a finished board
is_final : (causes : Causes) → NoModel causes → (s : BoardState) (g : ℕ) → IsBoard causes s → IsFinished s.position → g < length s.position.admitted → (a : Answer) → AnswerHolds causes s g a → IsFinal a
is_final causes law s g b f exists Proved t = tt
is_final causes law s g b f exists (Refuted input) t = tt
is_final causes law s g b f exists (Strayed h input) t = tt
is_final causes law s g b f exists Open t =
    let found = finished_has_causes causes s b f g exists t.0 in
    true_false (ends_with_cause s.position.pieces s.position.statuses g found.number) found.ends (t.1 found.number)
is_final causes law s g b f exists (Unproved c) t = λ e. law s.program s.budget t.piece (b.plan.each t.number t.piece t.at).goal (whole t.piece.route refl) (subst (causes s.program s.budget t.piece) e t.true_of)
  where
    whole : (r : Route) → t.piece.route ≡ r → t.piece.route ≡ route.Whole
    whole route.Whole e = e
    whole route.Cut e =
        let found = finished_has_causes causes s b f g exists t.unsettled in
        let before = b.plan.order found.number t.number found.piece t.piece found.at t.at (found.goal ∙ sym t.goal) found.whole e in
        absurd (true_false (ends_with_cause s.position.pieces s.position.statuses g found.number) found.ends (t.last found.number before))

pub finished_answers : (causes : Causes) (s : BoardState) → NoModel causes → IsBoard causes s → IsFinished s.position → FinishedAnswers s
finished_answers causes s law b f g exists = is_final causes law s g b f exists (answer_of s g) (answer_holds causes s g b)
