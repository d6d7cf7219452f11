-- What a move changes.
use Rattle.std.proofs.Common.{◌≡◌, refl, sym, ap, ◌∙◌, subst, inl, inr, ℕ, zero, suc, ◌+◌, ◌<◌, ◌≤◌, arith, nat_lt, Bool, true, false, not, ◌&&◌, ◌||◌, if◌then◌else◌, List, [], ◌∷◌, ◌++◌, length, Option, Some, None}
use Rattle.std.specs.List.{slice_get, slice_set}
use Rattle.std.specs.Option.{is_none}
use Rattle.std.proofs.lemmas.Bool.{and_parts, or_parts, cases_Bool, eqb-true}
use Rattle.std.proofs.lemmas.Bool.Decides.{nat_tests}
use Rattle.std.proofs.lemmas.List.{length-set, length-append}
use Rattle.std.proofs.lemmas.Option.{slice_get_within}
use Rattle.tcl_goals.specs.declared.piece.Piece.{Piece}
use Rattle.tcl_goals.specs.declared.piece.Route.TheVariants as route
use Rattle.tcl_board.specs.declared.event.Event.{Event}
use Rattle.tcl_board.specs.declared.event.Event.TheVariants as event
use Rattle.tcl_board.specs.declared.event.Word.{Word}
use Rattle.tcl_board.specs.declared.event.Word.TheVariants as word
use Rattle.tcl_board.specs.declared.event.Admitted.TheVariants as admitted
use Rattle.tcl_board.specs.declared.event.Status.{Status}
use Rattle.tcl_board.specs.declared.event.Status.TheVariants as status
use Rattle.tcl_board.specs.declared.event.LemmaMark.{LemmaMark}
use Rattle.tcl_board.specs.Moves.{Position, allows, moved, submitted, is_number, held_of, held_by, is_held_by, next_piece, claims, may_claim, fits_word, goal_settled, is_waiting, is_settled, is_on, is_recorded, record_break, admit_mark, route_proved, breaks_own, drops, broken_by}
use Rattle.tcl_board.specs.Rooms.{piece_events, piece_kept, goal_events, lemma_events, events_left, kept_left}
use Rattle.tcl_board.specs.Kept.{AreHolders}
use Rattle.tcl_board.proofs.Firsts.{first_is, none_passes}
use Rattle.tcl_board.proofs.Holding.{MayHold, holders_set}
use Rattle.tcl_board.proofs.Totals.{total_set, total_more}

pub number_is : (o : Option ℕ) (q : ℕ) → is_number o q ≡ true → o ≡ Some q
number_is (Some k) q e = ap Some (eqb-true k q e)
number_is None q e = absurd (cc)

pub held_is : (w : ℕ) (o : Option Status) → is_held_by w o ≡ true → o ≡ Some (status.Held w)
held_is w (Some (status.Held v)) e = ap (λ u. Some (status.Held u)) (eqb-true v w e)
held_is w (Some status.Unclaimed) e = absurd (cc)
held_is w (Some (status.Proved n)) e = absurd (cc)
held_is w (Some (status.Ended n)) e = absurd (cc)
held_is w (Some status.Broken) e = absurd (cc)
held_is w (Some (status.Strayed g n)) e = absurd (cc)
held_is w (Some status.Cancelled) e = absurd (cc)
held_is w None e = absurd (cc)

unclaimed_is : (admitted : List Bool) (breaks : List (Option ℕ)) (o : Option Status) (q : Option Piece) → claims admitted breaks o q ≡ true → o ≡ Some status.Unclaimed
unclaimed_is a b (Some status.Unclaimed) q e = refl
unclaimed_is a b (Some (status.Held v)) q e = absurd (cc)
unclaimed_is a b (Some (status.Proved n)) q e = absurd (cc)
unclaimed_is a b (Some (status.Ended n)) q e = absurd (cc)
unclaimed_is a b (Some status.Broken) q e = absurd (cc)
unclaimed_is a b (Some (status.Strayed g n)) q e = absurd (cc)
unclaimed_is a b (Some status.Cancelled) q e = absurd (cc)
unclaimed_is a b None q e = absurd (cc)

-- the piece that a worker holds
pub held_status : (statuses : List Status) (w q : ℕ) → held_of statuses w ≡ Some q → slice_get statuses q ≡ Some (status.Held w)
held_status statuses w q e = held_is w (slice_get statuses q) (first_is (held_by statuses w) (length statuses) q e).passes

-- the next piece
pub next_status : (p : Position) (q : ℕ) → next_piece p ≡ Some q → slice_get p.statuses q ≡ Some status.Unclaimed
next_status p q e = unclaimed_is p.admitted p.breaks (slice_get p.statuses q) (slice_get p.pieces q) (first_is (may_claim p.pieces p.statuses p.admitted p.breaks) (length p.pieces) q e).passes

pub record IsMoved (p n : Position) : Type 0 where
  pub pieces : n.pieces ≡ p.pieces
  pub statuses : length n.statuses ≡ length p.statuses
  pub admitted : length n.admitted ≡ length p.admitted
  pub breaks : length n.breaks ≡ length p.breaks
  pub lemmas : length p.lemmas ≤ 512 → length n.lemmas ≤ 512
  pub holders : AreHolders p.statuses → AreHolders n.statuses
  pub events : events_left n + 1 ≤ events_left p
  pub kept : n.kept + kept_left n ≤ p.kept + kept_left p

pub below_is : (a b : ℕ) → nat_lt a b ≡ true → a < b
below_is a b e = grind (arith, nat_tests)

-- a piece gets another status
set_moved : (p : Position) (q more m : ℕ) (b : List (Option ℕ)) (x y : Status) → slice_get p.statuses q ≡ Some x → ((w : ℕ) → y ≡ status.Held w → MayHold p.statuses w) → piece_events y + 1 ≤ piece_events x → piece_kept y + more ≤ piece_kept x → m ≡ p.kept + more → length b ≡ length p.breaks → IsMoved p (record p { statuses = slice_set p.statuses q y; breaks = b; kept = m })
unfolding events_left kept_left
set_moved p q more m b x y e held f g h same =
    record {
      pieces = refl;
      statuses = length-set p.statuses q y;
      admitted = refl;
      breaks = same;
      lemmas = λ few. few;
      holders = holders_set p.statuses q y held;
      events = omega (arith, f, total_set piece_events p.statuses q x y e);
      kept = omega (arith, g, h, total_set piece_kept p.statuses q x y e);
    }

breaks_length : (breaks : List (Option ℕ)) (g n : ℕ) → length (record_break breaks g n) ≡ length breaks
breaks_length breaks g n = elim (cases_Bool (is_recorded (slice_get breaks g))) [ inl here ↦ rw here refl | inr free ↦ rw free (length-set breaks g (Some n)) ]

off_is : (xs : List Bool) (g : ℕ) → g < length xs → is_on (slice_get xs g) ≡ false → slice_get xs g ≡ Some false
off_is [] g h e = absurd (omega arith)
off_is (a ∷ xs) zero h e = ap Some e
off_is (a ∷ xs) (suc g) h e = off_is xs g (omega arith) e

not_true : (b : Bool) → not b ≡ true → b ≡ false
not_true true e = sym e
not_true false e = refl

length_more : {X : Type 0} (xs : List X) (x : X) → length (xs ++ x ∷ []) ≡ length xs + 1
length_more xs x = length-append xs (x ∷ [])

lemma_moved : (p : Position) → length p.lemmas < 512 → IsMoved p (submitted p 0 None word.Lemma)
unfolding events_left kept_left
lemma_moved p few =
    let mark : LemmaMark = record { kept = p.kept; admitted = false } in
    let more = length_more p.lemmas mark in
    record {
      pieces = refl;
      statuses = refl;
      admitted = refl;
      breaks = refl;
      lemmas = λ h. omega (arith, more);
      holders = λ h. h;
      events = omega (arith, more, total_more lemma_events p.lemmas mark);
      kept = omega (arith, more);
    }

goal_moved : (p : Position) (g : ℕ) → slice_get p.admitted g ≡ Some false → IsMoved p (record p { admitted = slice_set p.admitted g true })
unfolding events_left kept_left
goal_moved p g e =
    record {
      pieces = refl;
      statuses = refl;
      admitted = length-set p.admitted g true;
      breaks = refl;
      lemmas = λ few. few;
      holders = λ h. h;
      events = omega (arith, total_set goal_events p.admitted g false true e);
      kept = omega arith;
    }

waiting_events : (m : LemmaMark) → not m.admitted ≡ true → lemma_events m ≡ 1
waiting_events m e = rw (not_true m.admitted e) refl

mark_moved : (p : Position) (n : ℕ) (o : Option LemmaMark) → slice_get p.lemmas n ≡ o → is_waiting o ≡ true → IsMoved p (record p { lemmas = admit_mark p.lemmas n o })
unfolding events_left kept_left
mark_moved p n None e h = absurd (cc)
mark_moved p n (Some m) e h =
    let done : LemmaMark = record { kept = m.kept; admitted = true } in
    let same = length-set p.lemmas n done in
    record {
      pieces = refl;
      statuses = refl;
      admitted = refl;
      breaks = refl;
      lemmas = λ few. omega (arith, same);
      holders = λ h. h;
      events = omega (arith, same, waiting_events m h, total_set lemma_events p.lemmas n m done e);
      kept = omega (arith, same);
    }

held_in : (p : Position) (w q : ℕ) → is_number (held_of p.statuses w) q ≡ true → slice_get p.statuses q ≡ Some (status.Held w)
held_in p w q e = held_status p.statuses w q (number_is (held_of p.statuses w) q e)

pub few_lemmas : (p : Position) (o : Option Piece) → fits_word p o word.Lemma ≡ true → length p.lemmas < 512
few_lemmas p (Some q) e = grind (arith, nat_tests)
few_lemmas p None e = grind (arith, nat_tests)

-- the new status is not held
not_held : (p : Position) (y : Status) → ((w : ℕ) → y ≡ status.Held w → ⊥) → (w : ℕ) → y ≡ status.Held w → MayHold p.statuses w
not_held p y f w e = absurd (f w e)

broken_events : (b : Bool) (g n : ℕ) → piece_events (broken_by b g n) ≡ 0
broken_events true g n = refl
broken_events false g n = refl

broken_kept : (b : Bool) (g n : ℕ) → piece_kept (broken_by b g n) ≡ 0
broken_kept true g n = refl
broken_kept false g n = refl

broken_free : (b : Bool) (g n w : ℕ) → broken_by b g n ≡ status.Held w → ⊥
broken_free true g n w e = absurd (cc)
broken_free false g n w e = absurd (cc)

-- what is dropped is not counted
abbrev count_of : Bool → ℕ
count_of true = 0
count_of false = 1

counted : (b : Bool) (n : ℕ) → (if b then n else n + 1) ≡ n + count_of b
counted true n = omega arith
counted false n = refl

few_counted : (b : Bool) → count_of b ≤ 1
few_counted true = omega arith
few_counted false = omega arith

broken_moved : (p : Position) (w q g : ℕ) (o : Option Piece) → slice_get p.statuses q ≡ Some (status.Held w) → IsMoved p (submitted p q o (word.Broken g))
broken_moved p w q g o e =
    let own = breaks_own o (word.Broken g) in
    let dropped = drops p o (word.Broken g) in
    set_moved p q (count_of dropped) (if dropped then p.kept else p.kept + 1) (record_break p.breaks g p.kept) (status.Held w) (broken_by own g p.kept) e
    (not_held p (broken_by own g p.kept) (broken_free own g p.kept)) (omega (arith, broken_events own g p.kept)) (omega (arith, broken_kept own g p.kept, few_counted dropped))
    (counted dropped p.kept) (breaks_length p.breaks g p.kept)

submit_moved : (p : Position) (w q : ℕ) (o : Option Piece) (what : Word) → slice_get p.statuses q ≡ Some (status.Held w) → fits_word p o what ≡ true → IsMoved p (submitted p q o what)
submit_moved p w q o word.Proved e h =
    set_moved p q 1 (p.kept + 1) p.breaks (status.Held w) (status.Proved p.kept) e (not_held p (status.Proved p.kept) (λ v f. absurd (cc))) (omega arith) (omega arith) refl refl
submit_moved p w q o (word.Broken g) e h = broken_moved p w q g o e
submit_moved p w q o word.Ended e h =
    set_moved p q 1 (p.kept + 1) p.breaks (status.Held w) (status.Ended p.kept) e (not_held p (status.Ended p.kept) (λ v f. absurd (cc))) (omega arith) (omega arith) refl refl
submit_moved p w q o word.Lemma e h = lemma_moved p (few_lemmas p o h)

-- a worker that holds no piece
none_is : (o : Option ℕ) → is_none o ≡ true → o ≡ None
none_is None e = refl
none_is (Some k) e = absurd (cc)

same_worker : (w : ℕ) → is_held_by w (Some (status.Held w)) ≡ true
same_worker w = grind (arith, nat_tests)

clash : (b : Bool) → b ≡ true → b ≡ false → ⊥
clash b e f = cc

pub holds_none : (statuses : List Status) (w : ℕ) → held_of statuses w ≡ None → (k : ℕ) → slice_get statuses k ≡ Some (status.Held w) → ⊥
holds_none statuses w e k f =
    clash (held_by statuses w k) (ap (is_held_by w) f ∙ same_worker w)
    (none_passes (held_by statuses w) (length statuses) k (ap is_none e) (slice_get_within statuses k (status.Held w) f))

same_held : (w v : ℕ) → status.Held w ≡ status.Held v → w ≡ v
same_held w v e = cc

may_hold : (p : Position) (w v : ℕ) → w < 64 → held_of p.statuses w ≡ None → status.Held w ≡ status.Held v → MayHold p.statuses v
may_hold p w v h free e = subst (MayHold p.statuses) (same_held w v e) (record { worker = h; free = holds_none p.statuses w free })

pub move_is : (p : Position) (e : Event) → allows p e ≡ true → IsMoved p (moved p e)
unfolding allows
move_is p (event.Claim w q) e =
    let first = and_parts (nat_lt w 64) (is_none (held_of p.statuses w) && is_number (next_piece p) q) e in
    let rest = and_parts (is_none (held_of p.statuses w)) (is_number (next_piece p) q) first.1 in
    let next = number_is (next_piece p) q rest.1 in
    set_moved p q 0 p.kept p.breaks status.Unclaimed (status.Held w) (next_status p q next) (λ v f. may_hold p w v (below_is w 64 first.0) (none_is (held_of p.statuses w) rest.0) f) (omega arith) (omega arith) (omega arith) refl
move_is p (event.Submit w q what) e =
    let parts = and_parts (is_number (held_of p.statuses w) q) (fits_word p (slice_get p.pieces q) what) e in
    submit_moved p w q (slice_get p.pieces q) what (held_in p w q parts.0) parts.1
move_is p (event.Admit (admitted.Goal g)) e =
    let parts = and_parts (nat_lt g (length p.admitted)) (not (is_settled p.admitted p.breaks g) && (route_proved p.pieces p.statuses g route.Cut || route_proved p.pieces p.statuses g route.Whole)) e in
    let free = not_true (is_settled p.admitted p.breaks g) (and_parts (not (is_settled p.admitted p.breaks g)) (route_proved p.pieces p.statuses g route.Cut || route_proved p.pieces p.statuses g route.Whole) parts.1).0 in
    let off = (or_parts (is_on (slice_get p.admitted g)) (is_recorded (slice_get p.breaks g)) free).0 in
    goal_moved p g (off_is p.admitted g (below_is g (length p.admitted) parts.0) off)
move_is p (event.Admit (admitted.Lemma n)) e = mark_moved p n (slice_get p.lemmas n) refl e
move_is p (event.Cancel w q) e =
    let parts = and_parts (is_number (held_of p.statuses w) q) (goal_settled p (slice_get p.pieces q)) e in
    set_moved p q 0 p.kept p.breaks (status.Held w) status.Cancelled (held_in p w q parts.0) (not_held p status.Cancelled (λ v f. absurd (cc))) (omega arith) (omega arith) (omega arith) refl
