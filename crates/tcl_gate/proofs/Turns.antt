-- Turns of the work on a piece, and admissions.
use Rattle.std.proofs.Common.{◌≡◌, refl, sym, ap, ◌∙◌, subst, inl, inr, ℕ, zero, suc, ◌-◌, ◌<◌, ◌≤◌, arith, Bool, true, false, ◌||◌, List, [], ◌∷◌, ◌++◌, length, Option, Some, None}
use Rattle.std.specs.List.{slice_get, slice_set}
use Rattle.std.proofs.lemmas.List.{length-set}
use Rattle.tcl_lang.specs.Program.{VersionedProgram}
use Rattle.tcl_lang.specs.Goal.{goal_count}
use Rattle.tcl_port.specs.Polling.{Rose}
use Rattle.tcl_goals.specs.declared.lemma.Numbered.{Numbered}
use Rattle.tcl_goals.specs.LemmaList.{LemmaList}
use Rattle.tcl_goals.specs.declared.piece.Piece.{Piece}
use Rattle.tcl_board.specs.declared.event.Event.TheVariants as event
use Rattle.tcl_board.specs.declared.event.Admitted.{Admitted}
use Rattle.tcl_board.specs.declared.event.Admitted.TheVariants as admitted
use Rattle.tcl_board.specs.declared.evidence.Seen.{Seen}
use Rattle.tcl_board.specs.Shows.{Causes}
use Rattle.tcl_board.specs.Moves.{Position, allows, held_of, is_on, is_recorded}
use Rattle.tcl_board.specs.State.{BoardState, stepped, given}
use Rattle.tcl_board.specs.Answers.{admitted_if}
use Rattle.tcl_board.specs.Judging.{judge, after_judged, after_held, after_submit}
use Rattle.tcl_board.specs.Own.{AreGiven}
use Rattle.tcl_board.specs.Told.{goal_in, lemmas_for}
use Rattle.tcl_board.specs.Rooms.{event_room}
use Rattle.tcl_board.specs.Kept.{IsBoard}
use Rattle.tcl_gate.specs.Extends.{Extends}
use Rattle.tcl_gate.specs.Fits.{FitsPiece}
use Rattle.tcl_gate.specs.Taken.{FitsPieceAt, FitsHeld}
use Rattle.tcl_gate.specs.Alone.{HeldAlone, GoesOn, HeldOn, IsTurn, Admits, is_lemma}
use Rattle.tcl_gate.proofs.Runs.{extends_same, extends_step, extends_trans, extends_length, given_steps}
use Rattle.tcl_gate.proofs.Fitting.{Fitting, fitting_judged, is_lemma_word}
use Rattle.tcl_gate.proofs.Holding.{submitted_held}

length_more : {X : Type 0} (xs : List X) (x : X) → length xs < length (xs ++ x ∷ [])
length_more [] x = omega arith
length_more (a ∷ xs) x = omega (arith, length_more xs x)

-- a submission
turn_given : (causes : Causes) (old new : BoardState) (k : ℕ) (q : Piece) (gift : Seen) → IsBoard causes old → IsBoard causes new → HeldAlone old.position k → Fitting causes old q gift → slice_get old.position.pieces k ≡ Some q → new ≡ after_submit old 0 gift → IsTurn causes old new k (is_lemma gift)
turn_given causes old new k q gift before after h f at e =
    let is : new ≡ given old 0 k f.what gift =
    e ∙ (ap (λ o. after_held old 0 o gift) h.held ∙ ap (after_judged old 0 k gift) (ap (λ o. judge old o gift) at ∙ f.is)) in
    let step = given_steps causes old new 0 k f.what gift before after is in
    record {
      goes_on = record {
        extends = extends_step causes old (event.Submit 0 k f.what) new step;
        more = subst (λ x. length old.events < length x.events) (sym is) (length_more old.events (event.Submit 0 k f.what));
      };
      pieces = ap (λ x. x.position.pieces) is;
      held =
          subst (λ b. HeldOn new.position k b) f.lemma
          (subst (λ x. HeldOn x.position k (is_lemma_word f.what)) (sym is) (submitted_held old.position k (slice_get old.position.pieces k) f.what h));
    }

pub submit_turn : (causes : Causes) (old new : BoardState) (k : ℕ) (gift : Seen) → IsBoard causes old → IsBoard causes new → HeldAlone old.position k → FitsHeld causes old k gift → new ≡ after_submit old 0 gift → IsTurn causes old new k (is_lemma gift)
submit_turn causes old new k gift before after h fits e = by_piece (slice_get old.position.pieces k) refl
  where
    by_piece : (o : Option Piece) → slice_get old.position.pieces k ≡ o → IsTurn causes old new k (is_lemma gift)
    by_piece None at = absurd (subst (λ o. FitsPieceAt causes old k o gift) at fits)
    by_piece (Some q) at = turn_given causes old new k q gift before after h (fitting_judged causes old k q gift at fits) at e

-- an admission
on_stays : (xs : List Bool) (g h : ℕ) → is_on (slice_get xs h) ≡ true → is_on (slice_get (slice_set xs g true) h) ≡ true
on_stays [] g h e = e
on_stays (a ∷ xs) zero zero e = refl
on_stays (a ∷ xs) zero (suc h) e = e
on_stays (a ∷ xs) (suc g) zero e = e
on_stays (a ∷ xs) (suc g) (suc h) e = on_stays xs g h e

settled_stays : (a b c : Bool) → (a ≡ true → c ≡ true) → (a || b) ≡ true → (c || b) ≡ true
settled_stays true b c f e = rw (f refl) refl
settled_stays false b true f e = refl
settled_stays false b false f e = e

admits_same : (causes : Causes) (s : BoardState) → Admits causes s s
admits_same causes s =
    record { extends = extends_same causes s s refl; pieces = refl; statuses = refl; breaks = refl; goals = refl; settled = λ g e. e }

admits_step : (causes : Causes) (s : BoardState) (what : Admitted) → allows s.position (event.Admit what) ≡ true → Admits causes s (stepped s (event.Admit what))
admits_step causes s (admitted.Goal g) e =
    record {
      extends = extends_step causes s (event.Admit (admitted.Goal g)) (stepped s (event.Admit (admitted.Goal g))) (record { allowed = e; earned = refl });
      pieces = refl;
      statuses = refl;
      breaks = refl;
      goals = length-set s.position.admitted g true;
      settled = λ h f.
          settled_stays (is_on (slice_get s.position.admitted h)) (is_recorded (slice_get s.position.breaks h)) (is_on (slice_get (slice_set s.position.admitted g true) h))
          (on_stays s.position.admitted g h) f;
    }
admits_step causes s (admitted.Lemma n) e =
    record {
      extends = extends_step causes s (event.Admit (admitted.Lemma n)) (stepped s (event.Admit (admitted.Lemma n))) (record { allowed = e; earned = refl });
      pieces = refl;
      statuses = refl;
      breaks = refl;
      goals = refl;
      settled = λ g f. f;
    }

pub admits_if : (causes : Causes) (b : Bool) (old new : BoardState) (what : Admitted) → b ≡ allows old.position (event.Admit what) → new ≡ admitted_if b old what → Admits causes old new
admits_if causes true old new what e same = subst (Admits causes old) (sym same) (admits_step causes old what (sym e))
admits_if causes false old new what e same = subst (Admits causes old) (sym same) (admits_same causes old)

pub admits_trans : (causes : Causes) (a b c : BoardState) → Admits causes a b → Admits causes b c → Admits causes a c
admits_trans causes a b c x y =
    record {
      extends = extends_trans causes a b c x.extends y.extends;
      pieces = y.pieces ∙ x.pieces;
      statuses = y.statuses ∙ x.statuses;
      breaks = y.breaks ∙ x.breaks;
      goals = y.goals ∙ x.goals;
      settled = λ g e. y.settled g (x.settled g e);
    }

pub admits_none : (causes : Causes) (s : BoardState) → Admits causes s s
admits_none causes s = admits_same causes s

-- a turn with an admission behind it
held_moves : (p n : Position) (k : ℕ) (on : Bool) → n.statuses ≡ p.statuses → HeldOn p k on → HeldOn n k on
held_moves p n k true e h =
    record {
      held = ap (λ s. held_of s 0) e ∙ h.held;
      alone = λ j w f. h.alone j w (sym (ap (λ s. slice_get s j) e) ∙ f);
    }
held_moves p n k false e h = λ j w f. h j w (sym (ap (λ s. slice_get s j) e) ∙ f)

pub turn_admits : (causes : Causes) (a b c : BoardState) (k : ℕ) (on : Bool) → IsTurn causes a b k on → Admits causes b c → IsTurn causes a c k on
turn_admits causes a b c k on t x =
    record {
      goes_on = record {
        extends = extends_trans causes a b c t.goes_on.extends x.extends;
        more = omega (arith, t.goes_on.more, extends_length causes b c x.extends);
      };
      pieces = x.pieces ∙ t.pieces;
      held = held_moves b.position c.position k on x.statuses t.held;
    }

-- the events that may still come
abbrev pub room_left : BoardState → ℕ
room_left s = event_room (length s.plan) (goal_count s.program.lines) - length s.events

within_room : (causes : Causes) (s : BoardState) → IsBoard causes s → length s.events ≤ event_room (length s.plan) (goal_count s.program.lines)
within_room causes s b = omega (arith, b.events)

pub room_falls : (causes : Causes) (a b : BoardState) → GoesOn causes a b → IsBoard causes b → room_left b < room_left a
room_falls causes a b on board =
    let room : event_room (length a.plan) (goal_count a.program.lines) ≡ event_room (length b.plan) (goal_count b.program.lines) =
    sym (ap (λ plan. event_room (length plan) (goal_count b.program.lines)) on.extends.same_plan
    ∙ ap (λ p. event_room (length a.plan) (goal_count p.lines)) on.extends.program) in
    falls (event_room (length a.plan) (goal_count a.program.lines)) (event_room (length b.plan) (goal_count b.program.lines)) (length a.events) (length b.events) room on.more (within_room causes b board)
  where
    falls : (m n a b : ℕ) → m ≡ n → a < b → b ≤ n → n - b < m - a
    falls m n a b e f g = omega (arith, e, f, g)

pub goes_extends : (causes : Causes) (a b c : BoardState) → GoesOn causes a b → Extends causes b c → GoesOn causes a c
goes_extends causes a b c x y = record { extends = extends_trans causes a b c x.extends y; more = omega (arith, x.more, extends_length causes b c y) }

-- what came of a job for the piece that is held
pub fits_held : (causes : Causes) (s : BoardState) (p : VersionedProgram) (n k : ℕ) (q : Piece) (lemmas : LemmaList) (gift : Seen) → s.program ≡ p → s.budget ≡ n → slice_get s.position.pieces k ≡ Some q → lemmas ≡ lemmas_for s k → FitsPiece causes p n q lemmas gift → FitsHeld causes s k gift
fits_held causes s p n k q lemmas gift e f at same fits =
    subst (λ o. FitsPieceAt causes s k o gift) (sym at)
    (subst (λ l. FitsPiece causes s.program s.budget q l gift) same (subst (λ b. FitsPiece causes s.program b q lemmas gift) (sym f) (subst (λ x. FitsPiece causes x n q lemmas gift) (sym e) fits)))

pub given_held : (s : BoardState) (p : VersionedProgram) (k : ℕ) (q : Piece) (items : List Numbered) → s.program ≡ p → slice_get s.position.pieces k ≡ Some q → AreGiven s.program (goal_in (slice_get s.position.pieces k)) items → AreGiven p q.goal items
given_held s p k q items e at given = subst (λ x. AreGiven x q.goal items) e (subst (λ o. AreGiven s.program (goal_in o) items) at given)

pub never_rose : Rose 0 0 → ⊥
never_rose h = elim h [ inl less ↦ omega (arith, less) | inr far ↦ omega (arith, far) ]
