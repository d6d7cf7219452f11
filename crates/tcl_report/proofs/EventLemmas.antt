-- What a board has admitted and recorded of a goal is what its events say: each event is one step of the run.
use Rattle.std.proofs.Common.{◌≡◌, refl, sym, ap, ◌∙◌, subst, inl, inr, ℕ, zero, suc, ◌<◌, ◌≤◌, nat_lt, nat_le, ◌==◌, arith, Bool, true, false, not, ◌&&◌, ◌||◌, List, [], ◌∷◌, length, get_or, Option, Some, None}
use Rattle.std.specs.Prelude.{replicate}
use Rattle.std.specs.List.{slice_get, slice_set}
use Rattle.std.proofs.Math.Bool.{or_assoc}
use Rattle.std.proofs.lemmas.Bool.{and_parts, or_right, cases_Bool, cases_eq}
use Rattle.std.proofs.lemmas.Bool.Decides.{nat_tests}
use Rattle.std.proofs.lemmas.List.{length-replicate}
use Rattle.std.proofs.lemmas.Option.{slice_get_within, slice_get-get_or}
use Rattle.tcl_list.proofs.Booleans.{if_yes, if_no}
use Rattle.tcl_lang.specs.Goal.{goal_count}
use Rattle.tcl_goals.specs.declared.piece.Piece.{Piece}
use Rattle.tcl_goals.specs.declared.piece.Route.TheVariants as route
use Rattle.tcl_board.specs.declared.event.Admitted.TheVariants as admitted
use Rattle.tcl_board.specs.declared.event.Event.{Event}
use Rattle.tcl_board.specs.declared.event.Event.TheVariants as event
use Rattle.tcl_board.specs.declared.event.Status.TheVariants as status
use Rattle.tcl_board.specs.declared.event.Word.TheVariants as word
use Rattle.tcl_board.specs.Shows.{Causes}
use Rattle.tcl_board.specs.Moves.{Position, is_number, is_on, is_recorded, is_settled, held_of, route_proved, fits_word, allows, record_break, moved}
use Rattle.tcl_board.specs.State.{BoardState, opening}
use Rattle.tcl_board.specs.Steps.{Earns, IsRun}
use Rattle.tcl_board.specs.Kept.{IsBoard}
use Rattle.tcl_board.proofs.OwnLemmas.{get_set_here, get_set_other}
use Rattle.tcl_board.proofs.Moving.{number_is, held_status, below_is, move_is}
use Rattle.tcl_board.proofs.Truthful.{break_recorded}
use Rattle.tcl_report.specs.Events.{is_admission, is_break, admits, breaks}

same_number : (i g : ℕ) → i ≡ g → (i == g) ≡ true
same_number i g e = grind (arith, nat_tests)

other_number : (i g : ℕ) → (i ≡ g → ⊥) → (i == g) ≡ false
other_number i g f = grind (arith, nat_tests)

with_false : (b c : Bool) → c ≡ false → b ≡ (b || c)
with_false true c e = refl
with_false false c e = sym e

-- an item where there is one
pub there : {X : Type 0} (xs : List X) (k : ℕ) → k < length xs → (x : X) × (slice_get xs k ≡ Some x)
there [] k h = absurd (omega arith)
there (x ∷ xs) zero h = (x, refl)
there (x ∷ xs) (suc k) h = there xs k (omega (arith, h))

-- a mark that is set
on_after : (a : List Bool) (i g : ℕ) → i < length a → is_on (slice_get (slice_set a i true) g) ≡ (is_on (slice_get a g) || (i == g))
on_after a i g h = elim (cases_eq i g) [
  | inl same ↦
      let here : slice_get (slice_set a i true) g ≡ Some true =
      subst (λ k. slice_get (slice_set a i true) k ≡ Some true) same (get_set_here a i true (get_or a i false) (slice_get-get_or a i false h)) in
      ap is_on here ∙ sym (or_right (is_on (slice_get a g)) (i == g) (same_number i g same))
  | inr other ↦ ap is_on (get_set_other a i g true other) ∙ with_false (is_on (slice_get a g)) (i == g) (other_number i g other)
]

-- a break that is recorded
untouched : (b : List (Option ℕ)) (i n g : ℕ) → (i ≡ g → ⊥) → slice_get (record_break b i n) g ≡ slice_get b g
untouched b i n g other = elim (cases_Bool (is_recorded (slice_get b i))) [
  | inl here ↦ ap (λ c. slice_get c g) (if_yes (is_recorded (slice_get b i)) b (slice_set b i (Some n)) here)
  | inr free ↦ ap (λ c. slice_get c g) (if_no (is_recorded (slice_get b i)) b (slice_set b i (Some n)) free) ∙ get_set_other b i g (Some n) other
]

recorded_after : (b : List (Option ℕ)) (i n g : ℕ) → i < length b → is_recorded (slice_get (record_break b i n) g) ≡ (is_recorded (slice_get b g) || (i == g))
recorded_after b i n g h = elim (cases_eq i g) [
  | inl same ↦
      let here : is_recorded (slice_get (record_break b i n) g) ≡ true =
      subst (λ k. is_recorded (slice_get (record_break b i n) k) ≡ true) same (break_recorded b i n h) in
      here ∙ sym (or_right (is_recorded (slice_get b g)) (i == g) (same_number i g same))
  | inr other ↦ ap is_recorded (untouched b i n g other) ∙ with_false (is_recorded (slice_get b g)) (i == g) (other_number i g other)
]

-- what stays along a run, for pieces of goals below n
record Frame (plan : List Piece) (n : ℕ) (p : Position) : Type 0 where
  pieces : p.pieces ≡ plan
  statuses : length p.statuses ≡ length plan
  breaks : length p.breaks ≡ n

abbrev AreOf : List Piece → ℕ → Type 0
AreOf plan n = (k : ℕ) (q : Piece) → slice_get plan k ≡ Some q → q.goal < n

stays : (plan : List Piece) (n : ℕ) (p : Position) (e : Event) → allows p e ≡ true → Frame plan n p → Frame plan n (moved p e)
stays plan n p e h f =
    let m = move_is p e h in
    record { pieces = m.pieces ∙ f.pieces; statuses = m.statuses ∙ f.statuses; breaks = m.breaks ∙ f.breaks }

-- the goal of a break is one
not_above : (a b : ℕ) → nat_le a b ≡ true → a ≤ b
not_above a b e = grind (arith, nat_tests)

break_within : (plan : List Piece) (n : ℕ) (p : Position) (w q i : ℕ) → AreOf plan n → Frame plan n p → allows p (event.Submit w q (word.Broken i)) ≡ true → i < length p.breaks
unfolding allows
break_within plan n p w q i each f e =
    let parts = and_parts (is_number (held_of p.statuses w) q) (fits_word p (slice_get p.pieces q) (word.Broken i)) e in
    let within = slice_get_within p.statuses q (status.Held w) (held_status p.statuses w q (number_is (held_of p.statuses w) q parts.0)) in
    let piece = there p.pieces q (omega (arith, within, f.statuses, ap length f.pieces)) in
    let goal = each q piece.0 (subst (λ qs. slice_get qs q ≡ Some piece.0) f.pieces piece.1) in
    let fits : nat_le i piece.0.goal ≡ true = subst (λ o. fits_word p o (word.Broken i) ≡ true) piece.1 parts.1 in
    omega (arith, goal, not_above i piece.0.goal fits, f.breaks)

-- one event
admitted_after : (p : Position) (e : Event) (g : ℕ) → allows p e ≡ true → is_on (slice_get (moved p e).admitted g) ≡ (is_on (slice_get p.admitted g) || is_admission g e)
unfolding allows
admitted_after p (event.Claim w q) g h = with_false (is_on (slice_get p.admitted g)) false refl
admitted_after p (event.Submit w q what) g h = with_false (is_on (slice_get p.admitted g)) false refl
admitted_after p (event.Admit (admitted.Goal i)) g h =
    on_after p.admitted i g
    (below_is i (length p.admitted)
    (and_parts (nat_lt i (length p.admitted)) (not (is_settled p.admitted p.breaks i) && (route_proved p.pieces p.statuses i route.Cut || route_proved p.pieces p.statuses i route.Whole)) h).0)
admitted_after p (event.Admit (admitted.Lemma i)) g h = with_false (is_on (slice_get p.admitted g)) false refl
admitted_after p (event.Cancel w q) g h = with_false (is_on (slice_get p.admitted g)) false refl

broken_after : (plan : List Piece) (n : ℕ) (p : Position) (e : Event) (g : ℕ) → AreOf plan n → Frame plan n p → allows p e ≡ true → is_recorded (slice_get (moved p e).breaks g) ≡ (is_recorded (slice_get p.breaks g) || is_break g e)
broken_after plan n p (event.Claim w q) g each f h = with_false (is_recorded (slice_get p.breaks g)) false refl
broken_after plan n p (event.Submit w q word.Proved) g each f h = with_false (is_recorded (slice_get p.breaks g)) false refl
broken_after plan n p (event.Submit w q (word.Broken i)) g each f h = recorded_after p.breaks i p.kept g (break_within plan n p w q i each f h)
broken_after plan n p (event.Submit w q word.Ended) g each f h = with_false (is_recorded (slice_get p.breaks g)) false refl
broken_after plan n p (event.Submit w q word.Lemma) g each f h = with_false (is_recorded (slice_get p.breaks g)) false refl
broken_after plan n p (event.Admit (admitted.Goal i)) g each f h = with_false (is_recorded (slice_get p.breaks g)) false refl
broken_after plan n p (event.Admit (admitted.Lemma i)) g each f h = with_false (is_recorded (slice_get p.breaks g)) false refl
broken_after plan n p (event.Cancel w q) g each f h = with_false (is_recorded (slice_get p.breaks g)) false refl

-- the position after a step
position_is : (causes : Causes) (old : BoardState) (e : Event) (new : BoardState) → Earns causes old e new → new.position ≡ moved old.position e
position_is causes old (event.Claim w q) new t = ap (λ s. s.position) t
position_is causes old (event.Submit w q what) new t = ap (λ s. s.position) t.2
position_is causes old (event.Admit what) new t = ap (λ s. s.position) t
position_is causes old (event.Cancel w q) new t = ap (λ s. s.position) t

-- a run
run_admits : (causes : Causes) (events : List Event) (old new : BoardState) (g : ℕ) → IsRun causes old events new → is_on (slice_get new.position.admitted g) ≡ (is_on (slice_get old.position.admitted g) || admits g events)
unfolding IsRun
run_admits causes [] old new g run = ap (λ s. is_on (slice_get s.position.admitted g)) run ∙ with_false (is_on (slice_get old.position.admitted g)) false refl
run_admits causes (e ∷ events) old new g run =
    run_admits causes events run.0 new g run.2
    ∙ ap (λ b. b || admits g events) (ap (λ p. is_on (slice_get p.admitted g)) (position_is causes old e run.0 run.1.earned) ∙ admitted_after old.position e g run.1.allowed)
    ∙ or_assoc (is_on (slice_get old.position.admitted g)) (is_admission g e) (admits g events)

run_breaks : (causes : Causes) (plan : List Piece) (n : ℕ) (events : List Event) (old new : BoardState) (g : ℕ) → AreOf plan n → Frame plan n old.position → IsRun causes old events new → is_recorded (slice_get new.position.breaks g) ≡ (is_recorded (slice_get old.position.breaks g) || breaks g events)
unfolding IsRun
run_breaks causes plan n [] old new g each f run = ap (λ s. is_recorded (slice_get s.position.breaks g)) run ∙ with_false (is_recorded (slice_get old.position.breaks g)) false refl
run_breaks causes plan n (e ∷ events) old new g each f run =
    let at = position_is causes old e run.0 run.1.earned in
    run_breaks causes plan n events run.0 new g each (subst (Frame plan n) (sym at) (stays plan n old.position e run.1.allowed f)) run.2
    ∙ ap (λ b. b || breaks g events) (ap (λ p. is_recorded (slice_get p.breaks g)) at ∙ broken_after plan n old.position e g each f run.1.allowed)
    ∙ or_assoc (is_recorded (slice_get old.position.breaks g)) (is_break g e) (breaks g events)

run_pieces : (causes : Causes) (events : List Event) (old new : BoardState) → IsRun causes old events new → new.position.pieces ≡ old.position.pieces
unfolding IsRun
run_pieces causes [] old new run = ap (λ s. s.position.pieces) run
run_pieces causes (e ∷ events) old new run =
    run_pieces causes events run.0 new run.2
    ∙ ap (λ p. p.pieces) (position_is causes old e run.0 run.1.earned)
    ∙ (move_is old.position e run.1.allowed).pieces

-- at first nothing is admitted or recorded
get_replicate : {X : Type 0} (n g : ℕ) (x y : X) → slice_get (replicate n x) g ≡ Some y → x ≡ y
get_replicate zero g x y e = absurd (cc)
get_replicate (suc n) zero x y e = cc
get_replicate (suc n) (suc g) x y e = get_replicate n g x y e

off_at_first : (n g : ℕ) → is_on (slice_get (replicate n false) g) ≡ false
off_at_first n g = by_mark (slice_get (replicate n false) g) refl
  where
    by_mark : (o : Option Bool) → slice_get (replicate n false) g ≡ o → is_on o ≡ false
    by_mark None e = refl
    by_mark (Some b) e = sym (get_replicate n g false b e)

none_at_first : (n g : ℕ) → is_recorded (slice_get (replicate n None) g) ≡ false
none_at_first n g = by_break (slice_get (replicate n None) g) refl
  where
    by_break : (o : Option (Option ℕ)) → slice_get (replicate n None) g ≡ o → is_recorded o ≡ false
    by_break None e = refl
    by_break (Some b) e = ap (λ x. is_recorded (Some x)) (sym (get_replicate n g None b e))

-- a board
pub admits_is : (causes : Causes) (s : BoardState) (g : ℕ) → IsBoard causes s → admits g s.events ≡ is_on (slice_get s.position.admitted g)
admits_is causes s g b =
    sym (run_admits causes s.events (opening s.program s.plan s.budget) s g b.run
    ∙ ap (λ x. x || admits g s.events) (off_at_first (goal_count s.program.lines) g))

pub breaks_is : (causes : Causes) (s : BoardState) (g : ℕ) → IsBoard causes s → breaks g s.events ≡ is_recorded (slice_get s.position.breaks g)
breaks_is causes s g b =
    let first = opening s.program s.plan s.budget in
    let n = goal_count s.program.lines in
    let pieces = run_pieces causes s.events first s b.run in
    let each : AreOf s.plan n = λ k q at. below_is q.goal n (b.plan.each k q (ap (λ qs. slice_get qs k) pieces ∙ at)).goal in
    let frame : Frame s.plan n first.position = record { pieces = refl; statuses = length-replicate (length s.plan) status.Unclaimed; breaks = length-replicate n None } in
    sym (run_breaks causes s.plan n s.events first s g each frame b.run
    ∙ ap (λ x. x || breaks g s.events) (none_at_first n g))
