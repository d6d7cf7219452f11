-- How the run of one worker ends.
use Rattle.std.proofs.Common.{◌≡◌, refl, sym, ap, ◌∙◌, subst, inl, inr, ℕ, zero, suc, ◌+◌, ◌<◌, arith, nat_lt, Bool, true, false, not, ◌&&◌, ◌||◌, List, [], ◌∷◌, length, Option, Some, None}
use Rattle.std.specs.List.{slice_get, slice_set}
use Rattle.std.specs.Option.{is_none}
use Rattle.std.proofs.lemmas.Bool.{and_parts, cases_eq}
use Rattle.std.proofs.lemmas.Bool.Decides.{nat_tests}
use Rattle.std.proofs.lemmas.List.{length-set}
use Rattle.std.proofs.lemmas.Option.{slice_get_within}
use Rattle.tcl_goals.specs.declared.piece.Piece.{Piece}
use Rattle.tcl_goals.specs.declared.piece.Route.{Route}
use Rattle.tcl_goals.specs.declared.piece.Route.TheVariants as route
use Rattle.tcl_board.specs.declared.event.Event.TheVariants as event
use Rattle.tcl_board.specs.declared.event.Admitted.TheVariants as admitted
use Rattle.tcl_board.specs.declared.event.Status.{Status}
use Rattle.tcl_board.specs.declared.event.Status.TheVariants as status
use Rattle.tcl_board.specs.Shows.{Causes}
use Rattle.tcl_board.specs.Moves.{Position, allows, is_settled, is_on, is_recorded, may_admit, may_claim, claims, next_piece, route_proved}
use Rattle.tcl_board.specs.State.{BoardState}
use Rattle.tcl_board.specs.Answers.{admitted_if}
use Rattle.tcl_board.specs.Truths.{StatusTrue}
use Rattle.tcl_board.specs.Own.{lemmas_of}
use Rattle.tcl_board.specs.Kept.{IsBoard}
use Rattle.tcl_board.specs.Finished.{IsFinished, has_ended}
use Rattle.tcl_board.proofs.Firsts.{none_passes}
use Rattle.tcl_board.proofs.OwnLemmas.{get_set_other}
use Rattle.tcl_gate.specs.Extends.{Extends}
use Rattle.tcl_gate.specs.Alone.{NoneHeld, Claimed, Admits, NoneBelow, IsWorked}
use Rattle.tcl_gate.proofs.Runs.{extends_same, extends_trans}

true_false : (b : Bool) → b ≡ true → b ≡ false → ⊥
true_false b e f = cc

not_true : (b : Bool) → not b ≡ false → b ≡ true
not_true true e = refl
not_true false e = absurd (cc)

-- no piece is left
worked_at : (causes : Causes) (s : BoardState) (q : Piece) (x : Status) → NoneHeld s.position → (k : ℕ) → slice_get s.position.statuses k ≡ Some x → claims s.position.admitted s.position.breaks (Some x) (Some q) ≡ false → StatusTrue causes s.program s.budget (lemmas_of s) s.kept s.position.admitted s.position.breaks q x → is_settled s.position.admitted s.position.breaks q.goal ≡ false → has_ended (Some x) ≡ true
worked_at causes s q status.Unclaimed none k e c t free = absurd (true_false (is_settled s.position.admitted s.position.breaks q.goal) (not_true (is_settled s.position.admitted s.position.breaks q.goal) c) free)
worked_at causes s q (status.Held w) none k e c t free = absurd (none k w e)
worked_at causes s q (status.Proved n) none k e c t free = refl
worked_at causes s q (status.Ended n) none k e c t free = refl
worked_at causes s q status.Broken none k e c t free = refl
worked_at causes s q (status.Strayed g n) none k e c t free = refl
worked_at causes s q status.Cancelled none k e c t free = absurd (true_false (is_settled s.position.admitted s.position.breaks q.goal) t free)

none_some : {X : Type 0} (o : Option X) (n k : ℕ) (xs : List X) → slice_get xs k ≡ o → k < length xs → o ≡ None → ⊥
none_some o n zero [] e h f = absurd (omega arith)
none_some o n (suc k) [] e h f = absurd (omega arith)
none_some o n zero (x ∷ xs) e h f = absurd (cc)
none_some o n (suc k) (x ∷ xs) e h f = none_some o n k xs e (omega (arith, h)) f

pub is_worked : (causes : Causes) (s : BoardState) → IsBoard causes s → NoneHeld s.position → next_piece s.position ≡ None → IsWorked s.position
is_worked causes s b none next =
    record {
      held = none;
      ended = λ k q at free. by_status k q at free (slice_get s.position.statuses k) refl;
    }
  where
    by_status : (k : ℕ) (q : Piece) → slice_get s.position.pieces k ≡ Some q → is_settled s.position.admitted s.position.breaks q.goal ≡ false → (o : Option Status) → slice_get s.position.statuses k ≡ o → has_ended o ≡ true
    by_status k q at free None e = absurd (none_some (slice_get s.position.statuses k) 0 k s.position.statuses refl (omega (arith, slice_get_within s.position.pieces k q at, b.statuses)) e)
    by_status k q at free (Some x) e =
        worked_at causes s q x none k e
        (sym (ap (λ o. claims s.position.admitted s.position.breaks o (slice_get s.position.pieces k)) e ∙ ap (claims s.position.admitted s.position.breaks (Some x)) at)
        ∙ none_passes (may_claim s.position.pieces s.position.statuses s.position.admitted s.position.breaks) (length s.position.pieces) k (ap is_none next) (slice_get_within s.position.pieces k q at))
        (b.truths k q x at e) free

-- what is settled stays settled
unsettled_before : (causes : Causes) (old new : BoardState) (g : ℕ) → Admits causes old new → is_settled new.position.admitted new.position.breaks g ≡ false → is_settled old.position.admitted old.position.breaks g ≡ false
unsettled_before causes old new g a e = either (is_settled old.position.admitted old.position.breaks g) refl
  where
    either : (b : Bool) → is_settled old.position.admitted old.position.breaks g ≡ b → b ≡ false
    either false f = refl
    either true f = absurd (true_false (is_settled new.position.admitted new.position.breaks g) (a.settled g f) e)

routes_open : (t u r v : Bool) → t ≡ true → u ≡ false → (t && (not u && (r || v))) ≡ false → (r ≡ false) × (v ≡ false)
routes_open t u true v e f g = absurd (all_true t u e f g)
  where
    all_true : (t u : Bool) → t ≡ true → u ≡ false → (t && (not u && true)) ≡ false → ⊥
    all_true true false e f g = cc
    all_true true true e f g = cc
    all_true false u e f g = cc
routes_open t u false true e f g = absurd (all_true t u e f g)
  where
    all_true : (t u : Bool) → t ≡ true → u ≡ false → (t && (not u && true)) ≡ false → ⊥
    all_true true false e f g = cc
    all_true true true e f g = cc
    all_true false u e f g = cc
routes_open t u false false e f g = (refl, refl)

less_is : (a b : ℕ) → a < b → nat_lt a b ≡ true
less_is a b e = grind (arith, nat_tests)

route_open : (p : Position) (g : ℕ) (r : Route) → may_admit p g ≡ false → g < length p.admitted → is_settled p.admitted p.breaks g ≡ false → route_proved p.pieces p.statuses g r ≡ false
route_open p g route.Cut e h f = (routes_open (nat_lt g (length p.admitted)) (is_settled p.admitted p.breaks g) (route_proved p.pieces p.statuses g route.Cut) (route_proved p.pieces p.statuses g route.Whole) (less_is g (length p.admitted) h) f e).0
route_open p g route.Whole e h f = (routes_open (nat_lt g (length p.admitted)) (is_settled p.admitted p.breaks g) (route_proved p.pieces p.statuses g route.Cut) (route_proved p.pieces p.statuses g route.Whole) (less_is g (length p.admitted) h) f e).1

pub finished_by : (causes : Causes) (old new : BoardState) → IsWorked old.position → Admits causes old new → NoneBelow new.position (length new.position.admitted) → IsFinished new.position
finished_by causes old new w a none =
    record {
      held = λ k v e. w.held k v (sym (ap (λ s. slice_get s k) a.statuses) ∙ e);
      ended = λ k q at free.
          ap (λ s. has_ended (slice_get s k)) a.statuses
          ∙ w.ended k q (sym (ap (λ s. slice_get s k) a.pieces) ∙ at) (unsettled_before causes old new q.goal a free);
      routes = λ g r h free. route_open new.position g r (none g h) h free;
    }

-- a goal that was admitted, or may not be, may not be admitted again; and no other goal may be that could not be before
on_here : (xs : List Bool) (g : ℕ) → g < length xs → is_on (slice_get (slice_set xs g true) g) ≡ true
on_here [] g h = absurd (omega arith)
on_here (a ∷ xs) zero h = refl
on_here (a ∷ xs) (suc g) h = on_here xs g (omega (arith, h))

below_is : (a b : ℕ) → nat_lt a b ≡ true → a < b
below_is a b e = grind (arith, nat_tests)

never_again : (t c d r : Bool) → c ≡ true → (t && (not (c || d) && r)) ≡ false
never_again true c d r e = rw e refl
never_again false c d r e = refl

admitted_here : (p : Position) (g : ℕ) → may_admit p g ≡ true → may_admit (record p { admitted = slice_set p.admitted g true }) g ≡ false
admitted_here p g e =
    let parts = and_parts (nat_lt g (length p.admitted)) (not (is_settled p.admitted p.breaks g) && (route_proved p.pieces p.statuses g route.Cut || route_proved p.pieces p.statuses g route.Whole)) e in
    never_again (nat_lt g (length (slice_set p.admitted g true))) (is_on (slice_get (slice_set p.admitted g true) g)) (is_recorded (slice_get p.breaks g))
    (route_proved p.pieces p.statuses g route.Cut || route_proved p.pieces p.statuses g route.Whole) (on_here p.admitted g (below_is g (length p.admitted) parts.0))

admitted_other : (p : Position) (g h : ℕ) → (g ≡ h → ⊥) → may_admit (record p { admitted = slice_set p.admitted g true }) h ≡ may_admit p h
admitted_other p g h other =
    ap (λ n. nat_lt h n && (not (is_on (slice_get (slice_set p.admitted g true) h) || is_recorded (slice_get p.breaks h)) && (route_proved p.pieces p.statuses h route.Cut || route_proved p.pieces p.statuses h route.Whole))) (length-set p.admitted g true)
    ∙ ap (λ o. nat_lt h (length p.admitted) && (not (is_on o || is_recorded (slice_get p.breaks h)) && (route_proved p.pieces p.statuses h route.Cut || route_proved p.pieces p.statuses h route.Whole))) (get_set_other p.admitted g h true other)

-- after the call for a goal, no goal up to it may be admitted
stays_none : (p : Position) (g : ℕ) → may_admit p g ≡ true → NoneBelow p g → NoneBelow (record p { admitted = slice_set p.admitted g true }) (g + 1)
stays_none p g e none h less = elim (cases_eq g h) [
  | inl same ↦ subst (λ x. may_admit (record p { admitted = slice_set p.admitted g true }) x ≡ false) same (admitted_here p g e)
  | inr other ↦ admitted_other p g h other ∙ none h (omega (arith, less, other))
]

one_more : (p : Position) (g : ℕ) → may_admit p g ≡ false → NoneBelow p g → NoneBelow p (g + 1)
one_more p g e none h less = elim (cases_eq g h) [
  | inl same ↦ subst (λ x. may_admit p x ≡ false) same e
  | inr other ↦ none h (omega (arith, less, other))
]

pub none_below : (b : Bool) (old new : BoardState) (g : ℕ) → b ≡ allows old.position (event.Admit (admitted.Goal g)) → new ≡ admitted_if b old (admitted.Goal g) → NoneBelow old.position g → NoneBelow new.position (g + 1)
unfolding allows
none_below true old new g e same none = subst (λ x. NoneBelow x.position (g + 1)) (sym same) (stays_none old.position g (sym e) none)
none_below false old new g e same none = subst (λ x. NoneBelow x.position (g + 1)) (sym same) (one_more old.position g (sym e) none)

-- the run of one worker has ended
pub run_ended : (causes : Causes) (a b m n : BoardState) → Extends causes a b → NoneHeld b.position → Claimed causes b m None → IsBoard causes m → Admits causes m n → NoneBelow n.position (length n.position.admitted) → IsFinished n.position × Extends causes a n
run_ended causes a b m n run free claimed board admits none =
    let next : next_piece m.position ≡ None = ap (λ s. next_piece s.position) claimed.0 ∙ claimed.1 in
    let held : NoneHeld m.position = subst (λ s. NoneHeld s.position) (sym claimed.0) free in (
      finished_by causes m n (is_worked causes m board held next) admits none,
      extends_trans causes a b n run (extends_trans causes b m n (extends_same causes b m claimed.0) admits.extends),
    )
