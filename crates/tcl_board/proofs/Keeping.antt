-- Each step keeps what every board keeps.
use Rattle.std.proofs.Common.{◌≡◌, refl, sym, ap, ◌∙◌, subst, inl, inr, ℕ, zero, suc, ◌+◌, ◌<◌, arith, nat_lt, ◌==◌, Bool, true, false, not, ◌&&◌, ◌||◌, List, [], ◌∷◌, ◌++◌, length, Option, Some, None}
use Rattle.std.specs.List.{slice_get, slice_set}
use Rattle.std.specs.Prelude.{replicate}
use Rattle.std.specs.Option.{is_none}
use Rattle.std.proofs.lemmas.Bool.{and_from, and_parts, or_cases, cases_Bool}
use Rattle.std.proofs.lemmas.Bool.Decides.{nat_tests}
use Rattle.std.proofs.lemmas.List.{length-append, length-replicate}
use Rattle.tcl_lang.specs.Program.{VersionedProgram}
use Rattle.tcl_lang.specs.Goal.{goal_count}
use Rattle.tcl_goals.specs.declared.piece.Piece.{Piece}
use Rattle.tcl_board.specs.declared.event.Event.{Event}
use Rattle.tcl_board.specs.declared.event.Event.TheVariants as event
use Rattle.tcl_board.specs.declared.event.Status.{Status}
use Rattle.tcl_board.specs.declared.event.Status.TheVariants as status
use Rattle.tcl_board.specs.declared.event.LemmaMark.{LemmaMark}
use Rattle.tcl_board.specs.declared.event.Admitted.{Admitted}
use Rattle.tcl_board.specs.declared.event.Admitted.TheVariants as admitted
use Rattle.tcl_board.specs.Answers.{waiting_kept}
use Rattle.tcl_board.specs.declared.evidence.Seen.{Seen}
use Rattle.tcl_board.specs.FactLaws.{FactLaws}
use Rattle.tcl_board.specs.Shows.{Causes}
use Rattle.tcl_board.specs.Moves.{Position, allows, moved, is_number, held_of, next_piece, goal_settled, may_admit, is_waiting, admit_mark, route_proved, is_settled, is_on}
use Rattle.tcl_board.specs.State.{BoardState, opening, stepped}
use Rattle.tcl_board.specs.Steps.{IsStep, IsRun}
use Rattle.tcl_board.specs.Own.{lemmas_of, lemmas_from}
use Rattle.tcl_board.specs.Rooms.{total, piece_events, piece_kept, goal_events, events_left, kept_left, event_room}
use Rattle.tcl_board.specs.Kept.{ArePieces, IsBoard}
use Rattle.tcl_board.specs.Truths.{StatusTrue, Truths, LemmasTrue, AllCiteOwn, BreaksTrue, GoalsTrue, Apart}
use Rattle.tcl_goals.specs.LemmaList.{Extends}
use Rattle.tcl_goals.specs.Laws.{SoundGoalsUnbroken}
use Rattle.tcl_goals.specs.Places.{has_goal}
use Rattle.tcl_goals.specs.declared.piece.Route.TheVariants as route
use Rattle.tcl_board.proofs.Sound.{route_is_sound}
use Rattle.tcl_board.proofs.OwnLemmas.{none_some, admit_more, more_extends}
use Rattle.tcl_board.proofs.Truthful.{truths_stay, truths_set, admit_settled, lemmas_admit, lemmas_sound, all_cite_stay, goals_more, recorded_is}
use Rattle.tcl_board.proofs.Totals.{total_replicate}
use Rattle.std.proofs.lemmas.Option.{slice_get_within}
use Rattle.tcl_board.proofs.Moving.{move_is, held_status, next_status}

length_more : {X : Type 0} (xs : List X) (x : X) → length (xs ++ x ∷ []) ≡ length xs + 1
length_more xs x = length-append xs (x ∷ [])

run_push : (causes : Causes) (old : BoardState) (events : List Event) (mid : BoardState) (e : Event) (new : BoardState) → IsRun causes old events mid → IsStep causes mid e new → IsRun causes old (events ++ e ∷ []) new
unfolding IsRun
run_push causes old [] mid e new r s = (new, subst (λ x. IsStep causes x e new) r s, refl)
run_push causes old (f ∷ events) mid e new r s = (r.0, r.1, run_push causes r.0 events mid e new r.2 s)

-- what is true of what a board keeps
pub record AreTrue (causes : Causes) (s : BoardState) : Type 0 where
  pub truths : Truths causes s.program s.budget (lemmas_of s) s.kept s.position.admitted s.position.breaks s.position.pieces s.position.statuses
  pub lemmas_true : LemmasTrue s.program s.kept s.position.lemmas
  pub cite_own : AllCiteOwn (lemmas_of s) s.kept
  pub breaks_true : BreaksTrue s.program s.kept s.position.breaks
  pub goals_true : GoalsTrue s.program s.position.admitted

-- the state after an event, with these things kept
abbrev pub changed : BoardState → Event → List Seen → BoardState
changed s e kept = record s { events = s.events ++ e ∷ []; position = moved s.position e; kept = kept }

pub keeps : (causes : Causes) (s : BoardState) (e : Event) (kept : List Seen) → IsBoard causes s → IsStep causes s e (changed s e kept) → length kept ≡ (moved s.position e).kept → AreTrue causes (changed s e kept) → IsBoard causes (changed s e kept)
keeps causes s e kept b step same t =
    let m = move_is s.position e step.allowed in
    record {
      run = run_push causes (opening s.program s.plan s.budget) s.events s e (changed s e kept) b.run step;
      plan = subst (ArePieces s.program) (sym m.pieces) b.plan;
      pieces = ap length m.pieces ∙ b.pieces;
      statuses = m.statuses ∙ b.statuses ∙ sym (ap length m.pieces);
      admitted = m.admitted ∙ b.admitted;
      breaks = m.breaks ∙ b.breaks;
      lemmas = m.lemmas b.lemmas;
      kept = same;
      events = omega (arith, length_more s.events e, m.events, b.events);
      room = omega (arith, m.kept, b.room);
      holders = m.holders b.holders;
      truths = t.truths;
      lemmas_true = t.lemmas_true;
      cite_own = t.cite_own;
      breaks_true = t.breaks_true;
      goals_true = t.goals_true;
    }

get_replicate : {X : Type 0} (n k : ℕ) (y x : X) → slice_get (replicate n y) k ≡ Some x → y ≡ x
get_replicate zero k y x e = absurd (cc)
get_replicate (suc n) zero y x e = some_is y x e
  where
    some_is : {X : Type 0} (x y : X) → Some x ≡ Some y → x ≡ y
    some_is x y e = cc
get_replicate (suc n) (suc k) y x e = get_replicate n k y x e

none_here : (n : ℕ) → None ≡ Some n → ⊥
none_here n e = absurd (cc)

none_on : (n g : ℕ) → is_on (slice_get (replicate n false) g) ≡ true → ⊥
none_on zero g e = absurd (cc)
none_on (suc n) zero e = absurd (cc)
none_on (suc n) (suc g) e = none_on n g e

-- the opening
pub opening_board : (causes : Causes) (p : VersionedProgram) (plan : List Piece) (budget : ℕ) → ArePieces p plan → IsBoard causes (opening p plan budget)
unfolding IsRun events_left kept_left total lemmas_from
opening_board causes p plan budget h =
    record {
      run = refl;
      plan = h;
      pieces = refl;
      statuses = length-replicate (length plan) status.Unclaimed;
      admitted = length-replicate (goal_count p.lines) false;
      breaks = length-replicate (goal_count p.lines) None;
      lemmas = omega arith;
      kept = refl;
      events = omega (arith, total_replicate piece_events (length plan) status.Unclaimed, total_replicate goal_events (goal_count p.lines) false);
      room = omega (arith, total_replicate piece_kept (length plan) status.Unclaimed);
      holders = record {
        workers = λ k w e. absurd (not_held w (get_replicate (length plan) k status.Unclaimed (status.Held w) e));
        one = λ j k w e f. absurd (not_held w (get_replicate (length plan) k status.Unclaimed (status.Held w) f));
      };
      truths = λ k q x e f. subst (λ y. StatusTrue causes p budget [] [] (replicate (goal_count p.lines) false) (replicate (goal_count p.lines) None) q y) (get_replicate (length plan) k status.Unclaimed x f) tt;
      lemmas_true = λ n mark e. absurd (none_some mark e);
      cite_own = λ n gift e. absurd (none_some gift e);
      breaks_true = λ g n e. absurd (none_here n (get_replicate (goal_count p.lines) g None (Some n) e));
      goals_true = λ g e. absurd (none_on (goal_count p.lines) g e);
    }
  where
    not_held : (w : ℕ) → status.Unclaimed ≡ status.Held w → ⊥
    not_held w e = absurd (cc)

same_number : (q : ℕ) → (q == q) ≡ true
same_number q = grind (arith, nat_tests)

pub number_from : (o : Option ℕ) (q : ℕ) → o ≡ Some q → is_number o q ≡ true
number_from o q e = ap (λ t. is_number t q) e ∙ same_number q

none_from : (o : Option ℕ) → o ≡ None → is_none o ≡ true
none_from o e = ap is_none e

less_is : (a b : ℕ) → a < b → nat_lt a b ≡ true
less_is a b e = grind (arith, nat_tests)

pub claim_allowed : (p : Position) (w q : ℕ) → w < 64 → held_of p.statuses w ≡ None → next_piece p ≡ Some q → allows p (event.Claim w q) ≡ true
unfolding allows
claim_allowed p w q h free next =
    and_from (nat_lt w 64) (is_none (held_of p.statuses w) && is_number (next_piece p) q) (less_is w 64 h)
    (and_from (is_none (held_of p.statuses w)) (is_number (next_piece p) q) (none_from (held_of p.statuses w) free) (number_from (next_piece p) q next))

pub cancel_allowed : (p : Position) (w q : ℕ) → held_of p.statuses w ≡ Some q → goal_settled p (slice_get p.pieces q) ≡ true → allows p (event.Cancel w q) ≡ true
unfolding allows
cancel_allowed p w q held settled =
    and_from (is_number (held_of p.statuses w) q) (goal_settled p (slice_get p.pieces q)) (number_from (held_of p.statuses w) q held) settled

-- a piece gets a status that is true of it, and all else stays
status_keeps : (causes : Causes) (s : BoardState) (q : ℕ) (y : Status) → IsBoard causes s → ((piece : Piece) → slice_get s.position.pieces q ≡ Some piece → StatusTrue causes s.program s.budget (lemmas_of s) s.kept s.position.admitted s.position.breaks piece y) → AreTrue causes (record s { position = record s.position { statuses = slice_set s.position.statuses q y } })
status_keeps causes s q y b new =
    record {
      truths = truths_set causes s.program s.budget (lemmas_of s) s.kept s.position.admitted s.position.breaks s.position.pieces s.position.statuses q y b.truths new;
      lemmas_true = b.lemmas_true;
      cite_own = b.cite_own;
      breaks_true = b.breaks_true;
      goals_true = b.goals_true;
    }

pub claim_keeps : (causes : Causes) (s : BoardState) (w q : ℕ) → IsBoard causes s → w < 64 → held_of s.position.statuses w ≡ None → next_piece s.position ≡ Some q → IsBoard causes (stepped s (event.Claim w q))
claim_keeps causes s w q b h free next =
    let t = status_keeps causes s q (status.Held w) b (λ piece e. tt) in
    keeps causes s (event.Claim w q) s.kept b (record { allowed = claim_allowed s.position w q h free next; earned = refl }) b.kept
    (record { truths = t.truths; lemmas_true = t.lemmas_true; cite_own = t.cite_own; breaks_true = t.breaks_true; goals_true = t.goals_true })

pub cancel_keeps : (causes : Causes) (s : BoardState) (w q : ℕ) → IsBoard causes s → held_of s.position.statuses w ≡ Some q → goal_settled s.position (slice_get s.position.pieces q) ≡ true → IsBoard causes (stepped s (event.Cancel w q))
cancel_keeps causes s w q b held settled =
    let t = status_keeps causes s q status.Cancelled b (λ piece e. sym (ap (goal_settled s.position) e) ∙ settled) in
    keeps causes s (event.Cancel w q) s.kept b (record { allowed = cancel_allowed s.position w q held settled; earned = refl }) b.kept
    (record { truths = t.truths; lemmas_true = t.lemmas_true; cite_own = t.cite_own; breaks_true = t.breaks_true; goals_true = t.goals_true })

-- what a claim or a poll may do
pub record MayEnd (s : BoardState) (q : ℕ) : Type 0 where
  pub piece : q < length s.position.statuses
  pub room : length s.events < event_room (length s.plan) (goal_count s.program.lines)

some_left : (s : BoardState) (causes : Causes) (e : Event) → IsBoard causes s → allows s.position e ≡ true → length s.events < event_room (length s.plan) (goal_count s.program.lines)
some_left s causes e b h = omega (arith, b.events, (move_is s.position e h).events)

pub claim_may : (causes : Causes) (s : BoardState) (w q : ℕ) → IsBoard causes s → w < 64 → held_of s.position.statuses w ≡ None → next_piece s.position ≡ Some q → MayEnd s q
claim_may causes s w q b h free next =
    record {
      piece = slice_get_within s.position.statuses q status.Unclaimed (next_status s.position q next);
      room = some_left s causes (event.Claim w q) b (claim_allowed s.position w q h free next);
    }

pub cancel_may : (causes : Causes) (s : BoardState) (w q : ℕ) → IsBoard causes s → held_of s.position.statuses w ≡ Some q → goal_settled s.position (slice_get s.position.pieces q) ≡ true → MayEnd s q
cancel_may causes s w q b held settled =
    record {
      piece = slice_get_within s.position.statuses q (status.Held w) (held_status s.position.statuses w q held);
      room = some_left s causes (event.Cancel w q) b (cancel_allowed s.position w q held settled);
    }

pub not_false : (b : Bool) → not b ≡ false → b ≡ true
not_false true e = refl
not_false false e = absurd (cc)

pub record Admits (causes : Causes) (s : BoardState) (what : Admitted) : Type 0 where
  pub room : length s.events < event_room (length s.plan) (goal_count s.program.lines)
  pub keeps : IsBoard causes (stepped s (event.Admit what))

-- the lemmas after an admission are those that were, or more
admits_more : (s : BoardState) (what : Admitted) → Extends (lemmas_of s) (lemmas_of (stepped s (event.Admit what)))
admits_more s (admitted.Goal g) = λ n m e. e
admits_more s (admitted.Lemma n) = more_extends s.kept s.kept s.position.lemmas (admit_mark s.position.lemmas n (slice_get s.position.lemmas n)) (admit_more s.kept s.position.lemmas n (slice_get s.position.lemmas n) refl)

admits_settled : (s : BoardState) (what : Admitted) (h : ℕ) → is_settled s.position.admitted s.position.breaks h ≡ true → is_settled (moved s.position (event.Admit what)).admitted s.position.breaks h ≡ true
admits_settled s (admitted.Goal g) h e = admit_settled s.position.admitted s.position.breaks g h e
admits_settled s (admitted.Lemma n) h e = e

admits_lemmas : FactLaws → (s : BoardState) (what : Admitted) → LemmasTrue s.program s.kept s.position.lemmas → LemmasTrue s.program s.kept (moved s.position (event.Admit what)).lemmas
admits_lemmas law s (admitted.Goal g) t = t
admits_lemmas law s (admitted.Lemma n) t = lemmas_admit law s.program s.kept s.position.lemmas n (slice_get s.position.lemmas n) refl t

admits_goals : FactLaws → (causes : Causes) (s : BoardState) (what : Admitted) → IsBoard causes s → allows s.position (event.Admit what) ≡ true → GoalsTrue s.program (moved s.position (event.Admit what)).admitted
unfolding allows
admits_goals law causes s (admitted.Lemma n) b h = b.goals_true
admits_goals law causes s (admitted.Goal g) b h =
    let p = s.position in
    let cut = route_proved p.pieces p.statuses g route.Cut in
    let whole = route_proved p.pieces p.statuses g route.Whole in
    let parts = and_parts (nat_lt g (length p.admitted)) (not (is_settled p.admitted p.breaks g) && (cut || whole)) h in
    let routes = (and_parts (not (is_settled p.admitted p.breaks g)) (cut || whole) parts.1).1 in
    let exists : has_goal s.program.lines g ≡ true = subst (λ n. nat_lt g n ≡ true) b.admitted parts.0 in
    let sound = lemmas_sound s.program s.kept p.lemmas b.lemmas_true in
    goals_more s.program p.admitted g b.goals_true (elim (or_cases cut whole routes) [
      | inl one ↦ route_is_sound law.facts causes s.program s.budget (lemmas_of s) s.kept p.admitted p.breaks p.pieces p.statuses g route.Cut sound b.truths (b.plan.covers g route.Cut exists) one
      | inr one ↦ route_is_sound law.facts causes s.program s.budget (lemmas_of s) s.kept p.admitted p.breaks p.pieces p.statuses g route.Whole sound b.truths (b.plan.covers g route.Whole exists) one
    ])

admits_true : FactLaws → (causes : Causes) (s : BoardState) (what : Admitted) → IsBoard causes s → allows s.position (event.Admit what) ≡ true → AreTrue causes (stepped s (event.Admit what))
admits_true law causes s what b h =
    record {
      truths = admits_truths what;
      lemmas_true = admits_lemmas law s what b.lemmas_true;
      cite_own = all_cite_stay (lemmas_of s) (lemmas_of (stepped s (event.Admit what))) s.kept (admits_more s what) b.cite_own;
      breaks_true = admits_breaks what;
      goals_true = admits_goals law causes s what b h;
    }
  where
    more_of : (what : Admitted) → Truths causes s.program s.budget (lemmas_of (stepped s (event.Admit what))) s.kept (moved s.position (event.Admit what)).admitted s.position.breaks s.position.pieces s.position.statuses
    more_of what =
        truths_stay law causes s.program s.budget (lemmas_of s) (lemmas_of (stepped s (event.Admit what))) s.kept s.kept s.position.admitted (moved s.position (event.Admit what)).admitted s.position.breaks s.position.breaks s.position.pieces s.position.statuses
        (record { lemmas = admits_more s what; kept = λ n x e. e; recorded = λ g e. e; settled = λ g e. admits_settled s what g e }) b.truths

    admits_truths : (what : Admitted) → Truths causes s.program s.budget (lemmas_of (stepped s (event.Admit what))) s.kept (moved s.position (event.Admit what)).admitted (moved s.position (event.Admit what)).breaks (moved s.position (event.Admit what)).pieces (moved s.position (event.Admit what)).statuses
    admits_truths (admitted.Goal g) = more_of (admitted.Goal g)
    admits_truths (admitted.Lemma n) = more_of (admitted.Lemma n)

    admits_breaks : (what : Admitted) → BreaksTrue s.program s.kept (moved s.position (event.Admit what)).breaks
    admits_breaks (admitted.Goal g) = b.breaks_true
    admits_breaks (admitted.Lemma n) = b.breaks_true

admits_same : (p : Position) (what : Admitted) → (moved p (event.Admit what)).kept ≡ p.kept
admits_same p (admitted.Goal g) = refl
admits_same p (admitted.Lemma n) = refl

admits_at : FactLaws → (causes : Causes) (s : BoardState) (what : Admitted) → IsBoard causes s → allows s.position (event.Admit what) ≡ true → Admits causes s what
admits_at law causes s what b h =
    record {
      room = some_left s causes (event.Admit what) b h;
      keeps = keeps causes s (event.Admit what) s.kept b (record { allowed = h; earned = refl }) (b.kept ∙ sym (admits_same s.position what)) (admits_true law causes s what b h);
    }

pub goal_admits : FactLaws → (causes : Causes) (s t : BoardState) (g : ℕ) (r : Bool) → s ≡ t → IsBoard causes s → r ≡ may_admit t.position g → r ≡ true → Admits causes s (admitted.Goal g)
unfolding allows
goal_admits law causes s t g r same b e f = admits_at law causes s (admitted.Goal g) b (ap (λ x. may_admit x.position g) same ∙ (sym e ∙ f))

waiting_is : (o : Option LemmaMark) (k : ℕ) → waiting_kept o ≡ Some k → (is_waiting o ≡ true) × (o ≡ Some (record { kept = k; admitted = false }))
waiting_is None k e = absurd (cc)
waiting_is (Some m) k e = elim (cases_Bool m.admitted) [
  | inl done ↦ absurd (clash k (sym (rw done refl) ∙ e))
  | inr waits ↦ (rw waits refl, ap Some (ap (λ b. record { kept = m.kept; admitted = b }) waits ∙ ap (λ n. record { kept = n; admitted = false }) (kept_is m.kept k (sym (rw waits refl) ∙ e))))
]
  where
    clash : (k : ℕ) → None ≡ Some k → ⊥
    clash k e = absurd (cc)

    kept_is : (a b : ℕ) → Some a ≡ Some b → a ≡ b
    kept_is a b e = cc

-- the state after a lemma is admitted
abbrev pub marked_by : BoardState → ℕ → Option LemmaMark → BoardState
marked_by s n o =
    record s {
      events = s.events ++ event.Admit (admitted.Lemma n) ∷ [];
      position = record s.position { lemmas = admit_mark s.position.lemmas n o };
    }

abbrev pub marked : BoardState → ℕ → ℕ → BoardState
marked s n k = marked_by s n (Some (record { kept = k; admitted = false }))

pub record AdmitsLemma (causes : Causes) (s : BoardState) (n k : ℕ) : Type 0 where
  pub within : n < length s.position.lemmas
  pub mark : slice_get s.position.lemmas n ≡ Some (record { kept = k; admitted = false })
  pub admits : Admits causes s (admitted.Lemma n)
  pub keeps : IsBoard causes (marked s n k)

pub lemma_admits : FactLaws → (causes : Causes) (s t : BoardState) (n k : ℕ) (r : Option ℕ) → s ≡ t → IsBoard causes s → r ≡ waiting_kept (slice_get t.position.lemmas n) → r ≡ Some k → AdmitsLemma causes s n k
unfolding allows
lemma_admits law causes s t n k r same b e f =
    let w = waiting_is (slice_get s.position.lemmas n) k (ap (λ x. waiting_kept (slice_get x.position.lemmas n)) same ∙ (sym e ∙ f)) in
    record {
      within = slice_get_within s.position.lemmas n (record { kept = k; admitted = false }) w.1;
      mark = w.1;
      admits = admits_at law causes s (admitted.Lemma n) b w.0;
      keeps = subst (λ o. IsBoard causes (marked_by s n o)) w.1 (admits_at law causes s (admitted.Lemma n) b w.0).keeps;
    }

-- no goal is both admitted and broken
pub board_apart : SoundGoalsUnbroken → (causes : Causes) (s : BoardState) → IsBoard causes s → Apart s.position.admitted s.position.breaks
board_apart law causes s b g on broken =
    let found = recorded_is (slice_get s.position.breaks g) broken in
    let t = b.breaks_true g found.0 found.1 in
    law s.program g t.input (b.goals_true g on) t.breaks
