-- What a finished board tells of each goal is true of the program.
use Rattle.std.proofs.Common.{◌≡◌, ◌↔◌, inl, inr, ℕ, ℤ, ◌<◌, ◌≤◌, Bool, true, false, List, [], length, refl, sym, ◌∙◌, ap, subst, arith, Some}
use Rattle.std.specs.List.{slice_get}
use Rattle.std.proofs.lemmas.Bool.{lt-ltb}
use Rattle.tcl_lang.specs.declared.pred.Line.{Line}
use Rattle.tcl_lang.specs.Program.{NamedProgram, VersionedProgram}
use Rattle.tcl_lang.specs.Goal.{goal_count}
use Rattle.tcl_lang.specs.Form.{IsWellFormed}
use Rattle.tcl_lang.specs.Versions.{form_of}
use Rattle.tcl_lang.specs.Correct.{IsCounterexample}
use Rattle.tcl_goals.specs.declared.fact.Claim.TheVariants as claim
use Rattle.tcl_goals.specs.declared.piece.Piece.{Piece}
use Rattle.tcl_goals.specs.declared.piece.Route.{Route}
use Rattle.tcl_goals.specs.declared.piece.Route.TheVariants as route
use Rattle.tcl_goals.specs.declared.cause.Cause.{Cause}
use Rattle.tcl_goals.specs.declared.cause.Cause.TheVariants as cause
use Rattle.tcl_goals.specs.Places.{has_goal}
use Rattle.tcl_goals.specs.Slices.{whole_fact, route_fact}
use Rattle.tcl_goals.specs.Plans.{plan_of, piece_fact}
use Rattle.tcl_goals.proofs.FactsGood.{sound_goal_unbroken}
use Rattle.tcl_board.specs.State.{BoardState, opening}
use Rattle.tcl_board.specs.Steps.{IsRun}
use Rattle.tcl_board.specs.Kept.{IsBoard}
use Rattle.tcl_board.specs.Moves.{is_settled}
use Rattle.tcl_board.specs.Finished.{IsFinished, IsFinal}
use Rattle.tcl_board.specs.Told.{Answer, Proved, Refuted, Unproved, Strayed, Open, answer_of, AnswerHolds}
use Rattle.tcl_board.proofs.Knowing.{answer_holds}
use Rattle.tcl_board.proofs.Ending.{finished_answers}
use Rattle.tcl_kernel.specs.Causes.{is_walked_by, IsTrueCause}
use Rattle.tcl_kernel.specs.CauseNames.{no_model}
use Rattle.tcl_settled.specs.Settled.{IsSettledBy}
use Rattle.tcl_settled.specs.Rings.{IsOfRing, AreOfRings}
use Rattle.tcl_settled.proofs.Unsettled.{causes_unsettled}
use Rattle.tcl_report.specs.ReportSays.{is_proved, is_unproved}
use Rattle.tcl_top.specs.Answers.{search_budget, Tells, IsTrueAnswer}
use Rattle.tcl_top.specs.WorkedBoard.{IsWorkedBoard}
use Rattle.tcl_top.proofs.RouteFacts.{piece_is, settled_sound}
use Rattle.tcl_top.proofs.PlanPieces.{plan_bare, run_keeps}
use Rattle.tcl_top.proofs.RouteCauses.{route_cause}

-- what is known of the board
pub record Known (s : BoardState) (g : ℕ) : Type 0 where
  pub board : IsBoard IsTrueCause s
  pub finished : IsFinished s.position
  pub formed : IsWellFormed s.program
  pub bare : (k : ℕ) (q : Piece) → slice_get s.position.pieces k ≡ Some q → q.cube ≡ []
  pub some : 0 < s.budget
  pub there : has_goal s.program.lines g ≡ true
  pub exists : g < length s.position.admitted
  pub ring : IsOfRing s.program (claim.Goal g)

true_false : (b : Bool) → b ≡ true → b ≡ false → ⊥
true_false b e f = cc

cut_whole : route.Cut ≡ route.Whole → ⊥
cut_whole e = cc

-- a true cause of a whole piece: its assignments are not walked
cause_unwalked : (p : VersionedProgram) (budget : ℕ) (q : Piece) (c : Cause) → q.route ≡ route.Whole → IsTrueCause p budget q c → is_walked_by p budget (piece_fact p q) ≡ false
cause_unwalked p budget q cause.Model whole c = absurd (cut_whole (sym c.route_is ∙ whole))
cause_unwalked p budget q (cause.Steps n) whole c = c.left.unwalked
cause_unwalked p budget q (cause.Width at) whole c = c.left.unwalked
cause_unwalked p budget q (cause.Size size n) whole c = elim c [
  | inl many ↦ many.left.unwalked
  | inr large ↦ large.left.unwalked
]
cause_unwalked p budget q (cause.Rest _ _) whole c = absurd c
cause_unwalked p budget q (cause.Stray place truth input) whole c = c.left.unwalked
cause_unwalked p budget q cause.Later whole c = c.reduced.left.unwalked

-- a goal that is not settled on the board
open_unsettled : (s : BoardState) (g : ℕ) (r : Route) → Known s g → is_settled s.position.admitted s.position.breaks g ≡ false → IsSettledBy s.program (route_fact s.program g r) → ⊥
open_unsettled s g r k free settled =
    let found = route_cause IsTrueCause s g r k.board k.finished k.exists free in
    let none = k.bare found.number found.piece found.at in
    let fact = piece_is s.program found.piece g r found.goal found.way none in
    causes_unsettled s.program s.budget found.piece found.cause k.formed k.some
    (ap (has_goal s.program.lines) found.goal ∙ k.there) none
    (subst (λ i. IsOfRing s.program (claim.Goal i)) (sym found.goal) k.ring) found.true_of
    (subst (IsSettledBy s.program) (sym fact) settled)

open_unwalked : (s : BoardState) (g : ℕ) → Known s g → is_settled s.position.admitted s.position.breaks g ≡ false → is_walked_by s.program s.budget (whole_fact s.program g) ≡ true → ⊥
open_unwalked s g k free walked =
    let found = route_cause IsTrueCause s g route.Whole k.board k.finished k.exists free in
    let none = k.bare found.number found.piece found.at in
    let fact = piece_is s.program found.piece g route.Whole found.goal found.way none in
    true_false (is_walked_by s.program s.budget (whole_fact s.program g)) walked
    (ap (is_walked_by s.program s.budget) (sym fact) ∙ cause_unwalked s.program s.budget found.piece found.cause found.way found.true_of)

-- the parts of a true answer
settled_told : (s : BoardState) (g : ℕ) (r : Route) (a : Answer) → Known s g → AnswerHolds IsTrueCause s g a → IsFinal a → IsSettledBy s.program (route_fact s.program g r) → is_proved a ≡ true
settled_told s g r Proved k h f settled = refl
settled_told s g r (Refuted input) k h f settled =
    absurd (sound_goal_unbroken s.program g input (settled_sound s.program g r k.formed k.there k.ring settled) h)
settled_told s g r (Unproved c) k h f settled = absurd (open_unsettled s g r k h.unsettled settled)
settled_told s g r (Strayed place input) k h f settled = absurd (open_unsettled s g r k h.unsettled settled)
settled_told s g r Open k h f settled = absurd f

walked_told : (s : BoardState) (g : ℕ) (a : Answer) → Known s g → AnswerHolds IsTrueCause s g a → is_walked_by s.program s.budget (whole_fact s.program g) ≡ true → is_unproved a ≡ false
walked_told s g Proved k h walked = refl
walked_told s g (Refuted input) k h walked = refl
walked_told s g (Unproved c) k h walked = absurd (open_unwalked s g k h.unsettled walked)
walked_told s g (Strayed place input) k h walked = absurd (open_unwalked s g k h.unsettled walked)
walked_told s g Open k h walked = refl

told : (names : ℕ) (lines : List Line) (s : BoardState) (g : ℕ) (a : Answer) → ((input : List ℤ) → IsCounterexample (length s.program.variables) s.program.lines input g ↔ IsCounterexample names lines input g) → AnswerHolds IsTrueCause s g a → Tells names lines g a
told names lines s g Proved same h = λ input refutes. sound_goal_unbroken s.program g input h ((same input).1 refutes)
told names lines s g (Refuted input) same h = (same input).0 h
told names lines s g (Unproved c) same h = tt
told names lines s g (Strayed place input) same h = tt
told names lines s g Open same h = tt

true_answer : (names : ℕ) (lines : List Line) (s : BoardState) (g : ℕ) → ((input : List ℤ) → IsCounterexample (length s.program.variables) s.program.lines input g ↔ IsCounterexample names lines input g) → Known s g → IsTrueAnswer names lines s g (answer_of s g)
true_answer names lines s g same k =
    let holds = answer_holds IsTrueCause s g k.board in
    let final = finished_answers IsTrueCause s no_model k.board k.finished g k.exists in
    record {
      tells = told names lines s g (answer_of s g) same holds;
      settled = λ r e. settled_told s g r (answer_of s g) k holds final e;
      walked = λ e. walked_told s g (answer_of s g) k holds e;
    }

-- of each goal
worked_bare : (p : NamedProgram) (s : BoardState) → IsBoard IsTrueCause s → IsWorkedBoard p s → (k : ℕ) (q : Piece) → slice_get s.position.pieces k ≡ Some q → q.cube ≡ []
worked_bare p s b w k q at =
    let kept = run_keeps IsTrueCause (opening s.program s.plan s.budget) s.events s b.run in
    plan_bare (form_of p) k q (ap (λ qs. slice_get qs k) (sym w.closed.same_plan) ∙ ap (λ qs. slice_get qs k) (sym kept) ∙ at)

pub board_answers : (p : NamedProgram) (s : BoardState) (goals : ℕ) → IsBoard IsTrueCause s → IsWorkedBoard p s → IsWellFormed s.program → AreOfRings s.program goals → goal_count s.program.lines ≤ goals → (g : ℕ) → g < goal_count s.program.lines → IsTrueAnswer (length p.names) p.lines s g (answer_of s g)
board_answers p s goals b w formed rings few g exists =
    true_answer (length p.names) p.lines s g (λ input. w.refuted input g) (record {
      board = b;
      finished = w.closed.finished;
      formed = formed;
      bare = worked_bare p s b w;
      some = subst (λ n. 0 < n) (sym w.closed.same_budget) (omega arith);
      there = lt-ltb g (goal_count s.program.lines) exists;
      exists = omega (arith, exists, b.admitted);
      ring = rings g (omega (arith, exists, few));
    })

pub board_run : (p : NamedProgram) (s : BoardState) → IsBoard IsTrueCause s → IsWorkedBoard p s → IsRun IsTrueCause (opening (form_of p) (plan_of (form_of p) 0) search_budget) s.events s
board_run p s b w =
    subst (λ n. IsRun IsTrueCause (opening (form_of p) (plan_of (form_of p) 0) n) s.events s) w.closed.same_budget
    (subst (λ qs. IsRun IsTrueCause (opening (form_of p) qs s.budget) s.events s) w.closed.same_plan
    (subst (λ f. IsRun IsTrueCause (opening f s.plan s.budget) s.events s) w.closed.program b.run))
