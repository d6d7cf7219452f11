-- What a board keeps beside its state stays right.
use Rattle.std.proofs.Common.{◌≡◌, refl, sym, ap, ◌∙◌, subst, ◌⊎◌, inl, inr, ℕ, zero, suc, ◌+◌, ◌<◌, ◌≤◌, arith, nat_lt, Bool, true, false, not, ◌&&◌, ◌==◌, if◌then◌else◌, List, length, Option, Some, None}
use Rattle.std.specs.List.{slice_get, slice_set}
use Rattle.std.specs.Prelude.{replicate}
use Rattle.std.specs.Option.{is_none}
use Rattle.std.proofs.lemmas.Bool.{cases_Bool, cases_eq, eqb-true}
use Rattle.std.proofs.lemmas.Bool.Decides.{nat_tests}
use Rattle.std.proofs.lemmas.List.{length-set, length-replicate}
use Rattle.std.proofs.lemmas.Option.{slice_get_within, slice_get_past}
use Rattle.tcl_lang.specs.Goal.{goal_count}
use Rattle.tcl_goals.specs.declared.piece.Piece.{Piece}
use Rattle.tcl_goals.specs.declared.piece.Route.{Route}
use Rattle.tcl_goals.specs.Places.{has_goal}
use Rattle.tcl_board.specs.declared.event.Event.TheVariants as event
use Rattle.tcl_board.specs.declared.event.Admitted.TheVariants as admitted
use Rattle.tcl_board.specs.declared.event.LemmaMark.{LemmaMark}
use Rattle.tcl_board.specs.declared.event.Status.{Status}
use Rattle.tcl_board.specs.declared.event.Status.TheVariants as status
use Rattle.tcl_board.specs.declared.event.Word.{Word}
use Rattle.tcl_board.specs.declared.event.Word.TheVariants as word
use Rattle.tcl_board.specs.declared.span.Span.{Span}
use Rattle.tcl_board.specs.Shows.{Causes}
use Rattle.tcl_board.specs.Moves.{Position, moved, first_below, or_this, is_settled, claims, may_claim, next_piece, is_held_by, held_by, held_of, unproved_at, lacks_proof, record_break, status_after, breaks_after, broken_by}
use Rattle.tcl_board.specs.State.{BoardState}
use Rattle.tcl_board.specs.Kept.{IsBoard, AreHolders}
use Rattle.tcl_board.specs.Index.{HasSpan, HaveSpans, extended, extend_in, IsIndex, holders_after, flat}
use Rattle.tcl_board.specs.Told.{ends_with_cause, is_of_goal, has_cause, last_below}
use Rattle.tcl_board.proofs.Firsts.{first_is, first_found, first_only, none_found, none_passes, lt_or_same}
use Rattle.tcl_board.proofs.OwnLemmas.{some_is, none_some, get_set_here, get_set_other}
use Rattle.tcl_board.proofs.Holding.{MayHold, holders_set}
use Rattle.tcl_board.proofs.Moving.{held_status, held_is, next_status, holds_none, below_is}
use Rattle.tcl_board.proofs.Truthful.{admit_settled, break_settled}
use Rattle.tcl_board.proofs.Knowing.{last_under}

-- all before the first that passes do not
least : (test : ℕ → Bool) (n j k : ℕ) → first_below test n ≡ Some k → j < k → test j ≡ false
unfolding first_below
least test zero j k e h = absurd (none_some k e)
least test (suc n) j k e h = by_found (first_below test n) refl (λ f. least test n j k f h)
  where
    by_found : (o : Option ℕ) → first_below test n ≡ o → (first_below test n ≡ Some k → test j ≡ false) → test j ≡ false
    by_found None f again =
        let last = (first_is test (suc n) k e).below in
        none_passes test n j (ap is_none f) (omega (arith, h, last))
    by_found (Some i) f again =
        let same : i ≡ k = some_is i k (sym (ap (λ x. or_this x (test n) n) f) ∙ e) in
        again (f ∙ ap Some same)

-- two tests that agree find the same
same_first : (test other : ℕ → Bool) (n : ℕ) → ((k : ℕ) → k < n → test k ≡ other k) → first_below test n ≡ first_below other n
unfolding first_below
same_first test other zero e = refl
same_first test other (suc n) e = rw (same_first test other n (λ k h. e k (omega (arith, h))), e n (omega arith)) refl

-- what may not be claimed stays so
unclaimable : (a c : List Bool) (b d : List (Option ℕ)) (x : Option Status) (o : Option Piece) → ((g : ℕ) → is_settled a b g ≡ true → is_settled c d g ≡ true) → claims a b x o ≡ false → claims c d x o ≡ false
unclaimable a c b d (Some status.Unclaimed) (Some q) more e = still (is_settled a b q.goal) (is_settled c d q.goal) (more q.goal) e
  where
    still : (s t : Bool) → (s ≡ true → t ≡ true) → not s ≡ false → not t ≡ false
    still true t h e = ap not (h refl)
    still false t h e = absurd (cc)
unclaimable a c b d (Some status.Unclaimed) None more e = refl
unclaimable a c b d (Some (status.Held w)) o more e = refl
unclaimable a c b d (Some (status.Proved n)) o more e = refl
unclaimable a c b d (Some (status.Ended n)) o more e = refl
unclaimable a c b d (Some status.Broken) o more e = refl
unclaimable a c b d (Some (status.Strayed g n)) o more e = refl
unclaimable a c b d (Some status.Cancelled) o more e = refl
unclaimable a c b d None o more e = refl

claimed_no_more : (a : List Bool) (b : List (Option ℕ)) (y : Status) (o : Option Piece) → (y ≡ status.Unclaimed → ⊥) → claims a b (Some y) o ≡ false
claimed_no_more a b status.Unclaimed o f = absurd (f refl)
claimed_no_more a b (status.Held w) o f = refl
claimed_no_more a b (status.Proved n) o f = refl
claimed_no_more a b (status.Ended n) o f = refl
claimed_no_more a b status.Broken o f = refl
claimed_no_more a b (status.Strayed g n) o f = refl
claimed_no_more a b status.Cancelled o f = refl

set_claimed : (pieces : List Piece) (statuses : List Status) (a c : List Bool) (b d : List (Option ℕ)) (q k : ℕ) (x y : Status) → slice_get statuses q ≡ Some x → (y ≡ status.Unclaimed → ⊥) → ((g : ℕ) → is_settled a b g ≡ true → is_settled c d g ≡ true) → may_claim pieces statuses a b k ≡ false → may_claim pieces (slice_set statuses q y) c d k ≡ false
set_claimed pieces statuses a c b d q k x y at f more e = elim (cases_eq q k) [
  | inl same ↦
      ap (λ j. claims c d (slice_get (slice_set statuses q y) j) (slice_get pieces k)) (sym same)
      ∙ (ap (λ o. claims c d o (slice_get pieces k)) (get_set_here statuses q y x at) ∙ claimed_no_more c d y (slice_get pieces k) f)
  | inr other ↦ ap (λ o. claims c d o (slice_get pieces k)) (get_set_other statuses q k y other) ∙ unclaimable a c b d (slice_get statuses k) (slice_get pieces k) more e
]

-- who holds what after a piece gets another status
not_by : (w v : ℕ) → (w ≡ v → ⊥) → is_held_by v (Some (status.Held w)) ≡ false
not_by w v f = grind (arith, nat_tests)

same_worker : (w : ℕ) → is_held_by w (Some (status.Held w)) ≡ true
same_worker w = grind (arith, nat_tests)

held_same : (statuses : List Status) (q v : ℕ) (x y : Status) → slice_get statuses q ≡ Some x → is_held_by v (Some x) ≡ false → is_held_by v (Some y) ≡ false → held_of (slice_set statuses q y) v ≡ held_of statuses v
held_same statuses q v x y at e f =
    ap (first_below (held_by (slice_set statuses q y) v)) (length-set statuses q y)
    ∙ same_first (held_by (slice_set statuses q y) v) (held_by statuses v) (length statuses) (λ k h. elim (cases_eq q k) [
      | inl same ↦
          ap (λ j. is_held_by v (slice_get (slice_set statuses q y) j)) (sym same)
          ∙ (ap (is_held_by v) (get_set_here statuses q y x at) ∙ (f ∙ (sym e ∙ (ap (is_held_by v) (sym at) ∙ ap (λ j. is_held_by v (slice_get statuses j)) same))))
      | inr other ↦ ap (is_held_by v) (get_set_other statuses q k y other)
    ])

held_now : (statuses : List Status) (q w : ℕ) (x : Status) → slice_get statuses q ≡ Some x → AreHolders (slice_set statuses q (status.Held w)) → held_of (slice_set statuses q (status.Held w)) w ≡ Some q
held_now statuses q w x at h =
    let new = slice_set statuses q (status.Held w) in
    let here = get_set_here statuses q (status.Held w) x at in
    first_only (held_by new w) (length new) q (slice_get_within new q (status.Held w) here) (ap (is_held_by w) here ∙ same_worker w)
    (λ j e. h.one j q w (held_is w (slice_get new j) e) here)

held_none : (statuses : List Status) (q w : ℕ) (x y : Status) → slice_get statuses q ≡ Some (status.Held w) → is_held_by w (Some y) ≡ false → AreHolders statuses → held_of (slice_set statuses q y) w ≡ None
held_none statuses q w x y at e h =
    none_found (held_by (slice_set statuses q y) w) (length (slice_set statuses q y)) (λ k less. elim (cases_eq q k) [
      | inl same ↦
          ap (λ j. is_held_by w (slice_get (slice_set statuses q y) j)) (sym same)
          ∙ (ap (is_held_by w) (get_set_here statuses q y (status.Held w) at) ∙ e)
      | inr other ↦ elim (cases_Bool (held_by (slice_set statuses q y) w k)) [
        | inr fails ↦ fails
        | inl passes ↦ absurd (other (h.one q k w at (sym (get_set_other statuses q k y other) ∙ held_is w (slice_get (slice_set statuses q y) k) passes)))
      ]
    ])

-- a claim
pub index_claim : (causes : Causes) (s : BoardState) (w q : ℕ) (spans : List Span) (next : ℕ) (holders : List (Option ℕ)) → IsBoard causes s → w < 64 → held_of s.position.statuses w ≡ None → next_piece s.position ≡ Some q → IsIndex s.position spans next holders → IsIndex (moved s.position (event.Claim w q)) spans (q + 1) (slice_set holders w (Some q))
index_claim causes s w q spans next holders b h free found i =
    let p = s.position in
    let at = next_status p q found in
    let within : q < length p.pieces = (first_is (may_claim p.pieces p.statuses p.admitted p.breaks) (length p.pieces) q found).below in
    let new = holders_set p.statuses q (status.Held w) (λ v e. subst (MayHold p.statuses) (same_held w v e) (record { worker = h; free = holds_none p.statuses w free })) b.holders in
    record {
      goals = i.goals;
      each = i.each;
      claimed = λ k less. elim (lt_or_same k q (omega (arith, less))) [
        | inl before ↦
            set_claimed p.pieces p.statuses p.admitted p.admitted p.breaks p.breaks q k status.Unclaimed (status.Held w) at (not_unclaimed w) (λ g e. e)
            (least (may_claim p.pieces p.statuses p.admitted p.breaks) (length p.pieces) k q found before)
        | inr same ↦
            subst (λ j. may_claim p.pieces (slice_set p.statuses q (status.Held w)) p.admitted p.breaks j ≡ false) (sym same)
            (ap (λ o. claims p.admitted p.breaks o (slice_get p.pieces q)) (get_set_here p.statuses q (status.Held w) status.Unclaimed at))
      ];
      few = omega (arith, within);
      workers = length-set holders w (Some q) ∙ i.workers;
      held = λ v less. elim (cases_eq w v) [
        | inl same ↦
            subst (λ u. slice_get (slice_set holders w (Some q)) u ≡ Some (held_of (slice_set p.statuses q (status.Held w)) u)) same
            (get_set_here holders w (Some q) (held_of p.statuses w) (i.held w h) ∙ ap Some (sym (held_now p.statuses q w status.Unclaimed at new)))
        | inr other ↦ get_set_other holders w v (Some q) other ∙ (i.held v less ∙ ap Some (sym (held_same p.statuses q v status.Unclaimed (status.Held w) at refl (not_by w v other))))
      ];
    }
  where
    not_unclaimed : (w : ℕ) → status.Held w ≡ status.Unclaimed → ⊥
    not_unclaimed w e = absurd (cc)

    same_held : (w v : ℕ) → status.Held w ≡ status.Held v → w ≡ v
    same_held w v e = cc

-- no piece is left to claim
pub index_past : (p : Position) (spans : List Span) (next : ℕ) (holders : List (Option ℕ)) → next_piece p ≡ None → IsIndex p spans next holders → IsIndex p spans (length p.pieces) holders
index_past p spans next holders none i =
    record {
      goals = i.goals;
      each = i.each;
      claimed = λ k less. none_passes (may_claim p.pieces p.statuses p.admitted p.breaks) (length p.pieces) k (ap is_none none) less;
      few = omega arith;
      workers = i.workers;
      held = i.held;
    }

-- a piece ends
pub record IsEnd (y : Status) : Type 0 where
  pub claimed : y ≡ status.Unclaimed → ⊥
  pub free : (w : ℕ) → is_held_by w (Some y) ≡ false

index_end : (p : Position) (w q m : ℕ) (y : Status) (d : List (Option ℕ)) (spans : List Span) (next : ℕ) (holders : List (Option ℕ)) → AreHolders p.statuses → held_of p.statuses w ≡ Some q → IsEnd y → ((g : ℕ) → is_settled p.admitted p.breaks g ≡ true → is_settled p.admitted d g ≡ true) → IsIndex p spans next holders → IsIndex (record p { statuses = slice_set p.statuses q y; breaks = d; kept = m }) spans next (slice_set holders w None)
index_end p w q m y d spans next holders h holds end more i =
    let at = held_status p.statuses w q holds in
    let few = h.workers q w at in
    record {
      goals = i.goals;
      each = i.each;
      claimed = λ k less. set_claimed p.pieces p.statuses p.admitted p.admitted p.breaks d q k (status.Held w) y at end.claimed more (i.claimed k less);
      few = i.few;
      workers = length-set holders w None ∙ i.workers;
      held = λ v less. elim (cases_eq w v) [
        | inl same ↦
            subst (λ u. slice_get (slice_set holders w None) u ≡ Some (held_of (slice_set p.statuses q y) u)) same
            (get_set_here holders w None (held_of p.statuses w) (i.held w few) ∙ ap Some (sym (held_none p.statuses q w (status.Held w) y at (end.free w) h)))
        | inr other ↦ get_set_other holders w v None other ∙ (i.held v less ∙ ap Some (sym (held_same p.statuses q v (status.Held w) y at (not_by w v other) (end.free v))))
      ];
    }

pub index_cancel : (causes : Causes) (s : BoardState) (w q : ℕ) (spans : List Span) (next : ℕ) (holders : List (Option ℕ)) → IsBoard causes s → held_of s.position.statuses w ≡ Some q → IsIndex s.position spans next holders → IsIndex (moved s.position (event.Cancel w q)) spans next (slice_set holders w None)
index_cancel causes s w q spans next holders b holds i =
    let j = index_end s.position w q s.position.kept status.Cancelled s.position.breaks spans next holders b.holders holds (record { claimed = λ e. absurd (cc); free = λ v. refl }) (λ g e. e) i in
    record { goals = j.goals; each = j.each; claimed = j.claimed; few = j.few; workers = j.workers; held = j.held }

broken_end : (b : Bool) (g n : ℕ) → IsEnd (broken_by b g n)
broken_end true g n = record { claimed = λ e. absurd (cc); free = λ v. refl }
broken_end false g n = record { claimed = λ e. absurd (cc); free = λ v. refl }

-- the position as the code makes it
abbrev pub taken_as : Position → ℕ → Bool → Word → ℕ → List LemmaMark → Position
taken_as p q own what m lemmas =
    record p {
      statuses = status_after p.statuses q own what p.kept;
      breaks = breaks_after p.breaks what p.kept;
      lemmas = lemmas;
      kept = m;
    }

pub index_taken : (causes : Causes) (s : BoardState) (w q m : ℕ) (own : Bool) (what : Word) (lemmas : List LemmaMark) (spans : List Span) (next : ℕ) (holders : List (Option ℕ)) → IsBoard causes s → held_of s.position.statuses w ≡ Some q → IsIndex s.position spans next holders → IsIndex (taken_as s.position q own what m lemmas) spans next (holders_after holders w what)
index_taken causes s w q m own word.Lemma lemmas spans next holders b holds i =
    record { goals = i.goals; each = i.each; claimed = i.claimed; few = i.few; workers = i.workers; held = i.held }
index_taken causes s w q m own word.Proved lemmas spans next holders b holds i =
    let j = index_end s.position w q m (status.Proved s.position.kept) s.position.breaks spans next holders b.holders holds (record { claimed = λ e. absurd (cc); free = λ v. refl }) (λ g e. e) i in
    record { goals = j.goals; each = j.each; claimed = j.claimed; few = j.few; workers = j.workers; held = j.held }
index_taken causes s w q m own word.Ended lemmas spans next holders b holds i =
    let j = index_end s.position w q m (status.Ended s.position.kept) s.position.breaks spans next holders b.holders holds (record { claimed = λ e. absurd (cc); free = λ v. refl }) (λ g e. e) i in
    record { goals = j.goals; each = j.each; claimed = j.claimed; few = j.few; workers = j.workers; held = j.held }
index_taken causes s w q m own (word.Broken g) lemmas spans next holders b holds i =
    let p = s.position in
    let j = index_end p w q m (broken_by own g p.kept) (record_break p.breaks g p.kept) spans next holders b.holders holds (broken_end own g p.kept) (λ h e. break_settled p.admitted p.breaks g p.kept h e) i in
    record { goals = j.goals; each = j.each; claimed = j.claimed; few = j.few; workers = j.workers; held = j.held }

-- a goal is admitted
pub index_admit : (p : Position) (g : ℕ) (spans : List Span) (next : ℕ) (holders : List (Option ℕ)) → IsIndex p spans next holders → IsIndex (moved p (event.Admit (admitted.Goal g))) spans next holders
index_admit p g spans next holders i =
    record {
      goals = i.goals ∙ sym (length-set p.admitted g true);
      each = i.each;
      claimed = λ k less. unclaimable p.admitted (slice_set p.admitted g true) p.breaks p.breaks (slice_get p.statuses k) (slice_get p.pieces k) (λ h e. admit_settled p.admitted p.breaks g h e) (i.claimed k less);
      few = i.few;
      workers = i.workers;
      held = i.held;
    }

-- the piece of a worker is in the table
pub held_listed : (causes : Causes) (s : BoardState) (w : ℕ) (spans : List Span) (next : ℕ) (holders : List (Option ℕ)) → IsBoard causes s → IsIndex s.position spans next holders → flat (slice_get holders w) ≡ held_of s.position.statuses w
held_listed causes s w spans next holders b i = elim (cases_Bool (nat_lt w 64)) [
  | inl few ↦ ap flat (i.held w (below_here w few))
  | inr many ↦ ap flat (slice_get_past holders w (omega (arith, i.workers, not_below w many))) ∙ sym (no_holder (held_of s.position.statuses w) refl (not_below w many))
]
  where
    below_here : (w : ℕ) → nat_lt w 64 ≡ true → w < 64
    below_here w e = grind (arith, nat_tests)

    not_below : (w : ℕ) → nat_lt w 64 ≡ false → 64 ≤ w
    not_below w e = grind (arith, nat_tests)

    no_holder : (o : Option ℕ) → held_of s.position.statuses w ≡ o → 64 ≤ w → held_of s.position.statuses w ≡ None
    no_holder None e h = e
    no_holder (Some q) e h = absurd (omega (arith, h, b.holders.workers q w (held_status s.position.statuses w q e)))

-- a scan of the span of a goal is one of all pieces
lacks_of : (pieces : List Piece) (statuses : List Status) (g : ℕ) (r : Route) (k : ℕ) (o : Option Piece) → ((q : Piece) → o ≡ Some q → q.goal ≡ g → ⊥) → lacks_proof g r o (slice_get statuses k) ≡ false
lacks_of pieces statuses g r k None f = refl
lacks_of pieces statuses g r k (Some q) f = elim (cases_Bool (q.goal == g)) [
  | inl same ↦ absurd (f q refl (eqb-true q.goal g same))
  | inr other ↦ rw other refl
]

ends_of : (g : ℕ) (x : Option Status) (o : Option Piece) → ((q : Piece) → o ≡ Some q → q.goal ≡ g → ⊥) → (is_of_goal o g && has_cause x) ≡ false
ends_of g x None f = refl
ends_of g x (Some q) f = elim (cases_Bool (q.goal == g)) [
  | inl same ↦ absurd (f q refl (eqb-true q.goal g same))
  | inr other ↦ rw other refl
]

outside : (pieces : List Piece) (g k : ℕ) (span : Span) → HasSpan pieces (length pieces) g span → (k < span.first) ⊎ (span.end ≤ k) → (q : Piece) → slice_get pieces k ≡ Some q → q.goal ≡ g → ⊥
outside pieces g k span h (inl before) q at goal = absurd (omega (arith, before, h.first k q (slice_get_within pieces k q at) at goal))
outside pieces g k span h (inr past) q at goal = absurd (omega (arith, past, h.end k q (slice_get_within pieces k q at) at goal))

pub outside_proved : (pieces : List Piece) (statuses : List Status) (g k : ℕ) (r : Route) (span : Span) → HasSpan pieces (length pieces) g span → (k < span.first) ⊎ (span.end ≤ k) → unproved_at pieces statuses g r k ≡ false
outside_proved pieces statuses g k r span h out = lacks_of pieces statuses g r k (slice_get pieces k) (outside pieces g k span h out)

pub outside_cause : (pieces : List Piece) (statuses : List Status) (g k : ℕ) (span : Span) → HasSpan pieces (length pieces) g span → (k < span.first) ⊎ (span.end ≤ k) → ends_with_cause pieces statuses g k ≡ false
outside_cause pieces statuses g k span h out = ends_of g (slice_get statuses k) (slice_get pieces k) (outside pieces g k span h out)

below_span : (pieces : List Piece) (statuses : List Status) (g : ℕ) (r : Route) (span : Span) (k : ℕ) → HasSpan pieces (length pieces) g span → first_below (unproved_at pieces statuses g r) k ≡ None → span.end ≤ k → (j : ℕ) → unproved_at pieces statuses g r j ≡ false
below_span pieces statuses g r span k h none past j = elim (cases_Bool (nat_lt j k)) [
  | inl less ↦ none_passes (unproved_at pieces statuses g r) k j (ap is_none none) (below_here j k less)
  | inr far ↦ outside_proved pieces statuses g j r span h (inr (omega (arith, past, not_below j k far)))
]
  where
    below_here : (a b : ℕ) → nat_lt a b ≡ true → a < b
    below_here a b e = grind (arith, nat_tests)

    not_below : (a b : ℕ) → nat_lt a b ≡ false → b ≤ a
    not_below a b e = grind (arith, nat_tests)

pub route_none : (pieces : List Piece) (statuses : List Status) (g : ℕ) (r : Route) (span : Span) → HasSpan pieces (length pieces) g span → first_below (unproved_at pieces statuses g r) span.first ≡ None
route_none pieces statuses g r span h = none_found (unproved_at pieces statuses g r) span.first (λ k less. outside_proved pieces statuses g k r span h (inl less))

pub route_found : (pieces : List Piece) (statuses : List Status) (g : ℕ) (r : Route) (span : Span) (k : ℕ) → HasSpan pieces (length pieces) g span → first_below (unproved_at pieces statuses g r) k ≡ None → unproved_at pieces statuses g r k ≡ true → k < span.end → first_below (unproved_at pieces statuses g r) (length pieces) ≡ Some k
route_found pieces statuses g r span k h none passes less = first_found (unproved_at pieces statuses g r) (length pieces) k none passes (omega (arith, less, h.within))

pub route_all : (pieces : List Piece) (statuses : List Status) (g : ℕ) (r : Route) (span : Span) (k : ℕ) → HasSpan pieces (length pieces) g span → first_below (unproved_at pieces statuses g r) k ≡ None → span.end ≤ k → first_below (unproved_at pieces statuses g r) (length pieces) ≡ None
route_all pieces statuses g r span k h none past = none_found (unproved_at pieces statuses g r) (length pieces) (λ j less. below_span pieces statuses g r span k h none past j)

-- the last piece with a cause
none_above : (test : ℕ → Bool) (m n : ℕ) → ((j : ℕ) → m ≤ j → test j ≡ false) → m ≤ n → last_below test n ≡ last_below test m
none_above test m zero f h = ap (last_below test) (zero_is m h)
  where
    zero_is : (m : ℕ) → m ≤ 0 → 0 ≡ m
    zero_is m h = omega (arith, h)
none_above test m (suc n) f h = elim (cases_eq m (suc n)) [
  | inl same ↦ ap (last_below test) (sym same)
  | inr other ↦
      let less : m ≤ n = omega (arith, h, other) in
      last_under test n (f n less) ∙ none_above test m n f less
]

none_under : (test : ℕ → Bool) (n : ℕ) → ((j : ℕ) → j < n → test j ≡ false) → last_below test n ≡ None
unfolding last_below
none_under test zero f = refl
none_under test (suc n) f = last_under test n (f n (omega arith)) ∙ none_under test n (λ j h. f j (omega (arith, h)))

pub cause_start : (pieces : List Piece) (statuses : List Status) (g : ℕ) (span : Span) → HasSpan pieces (length pieces) g span → last_below (ends_with_cause pieces statuses g) (length pieces) ≡ last_below (ends_with_cause pieces statuses g) span.end
cause_start pieces statuses g span h = none_above (ends_with_cause pieces statuses g) span.end (length pieces) (λ j past. outside_cause pieces statuses g j span h (inr past)) h.within

pub cause_none : (pieces : List Piece) (statuses : List Status) (g k : ℕ) (span : Span) → HasSpan pieces (length pieces) g span → k ≤ span.first → last_below (ends_with_cause pieces statuses g) k ≡ None
cause_none pieces statuses g k span h few = none_under (ends_with_cause pieces statuses g) k (λ j less. outside_cause pieces statuses g j span h (inl (omega (arith, less, few))))

-- spans grow with the pieces
pub spans_more : (pieces : List Piece) (k : ℕ) (q : Piece) (spans : List Span) → slice_get pieces k ≡ Some q → HaveSpans pieces k spans → HaveSpans pieces (k + 1) (extend_in spans q.goal k (slice_get spans q.goal))
spans_more pieces k q spans at have = by_span (slice_get spans q.goal) refl
  where
    same_piece : (j : ℕ) (p : Piece) → j ≡ k → slice_get pieces j ≡ Some p → q ≡ p
    same_piece j p same e = some_is q p (sym at ∙ (ap (slice_get pieces) (sym same) ∙ e))

    kept_span : (g : ℕ) (span : Span) → (q.goal ≡ g → ⊥) → HasSpan pieces k g span → HasSpan pieces (k + 1) g span
    kept_span g span other h =
        record {
          first = λ j p less e goal. h.first j p (before j p less e goal) e goal;
          end = λ j p less e goal. h.end j p (before j p less e goal) e goal;
          order = h.order;
          within = omega (arith, h.within);
        }
      where
        before : (j : ℕ) (p : Piece) → j < k + 1 → slice_get pieces j ≡ Some p → p.goal ≡ g → j < k
        before j p less e goal = elim (cases_eq j k) [
          | inl same ↦ absurd (other (ap (λ x. x.goal) (same_piece j p same e) ∙ goal))
          | inr less_it ↦ omega (arith, less, less_it)
        ]

    first_of : (old : Span) (b : Bool) → (old.end == 0) ≡ b → HasSpan pieces k q.goal old → (j : ℕ) (p : Piece) → j < k + 1 → slice_get pieces j ≡ Some p → p.goal ≡ q.goal → (if b then k else old.first) ≤ j
    first_of old b is h j p less e goal = elim (cases_eq j k) [
      | inl same ↦ at_last b is same
      | inr other ↦ at_first b is (omega (arith, less, other))
    ]
      where
        at_last : (b : Bool) → (old.end == 0) ≡ b → j ≡ k → (if b then k else old.first) ≤ j
        at_last true is same = omega (arith, same)
        at_last false is same = omega (arith, same, h.order, h.within)

        at_first : (b : Bool) → (old.end == 0) ≡ b → j < k → (if b then k else old.first) ≤ j
        at_first true is before = absurd (omega (arith, h.end j p before e goal, eqb-true old.end 0 is))
        at_first false is before = h.first j p before e goal

    longer : (old : Span) → HasSpan pieces k q.goal old → HasSpan pieces (k + 1) q.goal (extended old k)
    longer old h =
        record {
          first = first_of old (old.end == 0) refl h;
          end = λ j p less e goal. less;
          order = first_under (old.end == 0);
          within = omega arith;
        }
      where
        first_under : (b : Bool) → (if b then k else old.first) ≤ k + 1
        first_under true = omega arith
        first_under false = omega (arith, h.order, h.within)

    by_span : (o : Option Span) → slice_get spans q.goal ≡ o → HaveSpans pieces (k + 1) (extend_in spans q.goal k o)
    by_span None e g span at_span = elim (cases_eq q.goal g) [
      | inl same ↦ absurd (none_some span (sym e ∙ (ap (slice_get spans) same ∙ at_span)))
      | inr other ↦ kept_span g span other (have g span at_span)
    ]
    by_span (Some old) e g span at_span = elim (cases_eq q.goal g) [
      | inl same ↦
          let found : slice_get (slice_set spans q.goal (extended old k)) q.goal ≡ Some span = ap (slice_get (slice_set spans q.goal (extended old k))) same ∙ at_span in
          let is : extended old k ≡ span = some_is (extended old k) span (sym (get_set_here spans q.goal (extended old k) old e) ∙ found) in
          subst (λ i. HasSpan pieces (k + 1) i span) same (subst (HasSpan pieces (k + 1) q.goal) is (longer old (have q.goal old e)))
      | inr other ↦ kept_span g span other (have g span (sym (get_set_other spans q.goal g (extended old k) other) ∙ at_span))
    ]

pub extend_length : (spans : List Span) (g k : ℕ) (o : Option Span) → length (extend_in spans g k o) ≡ length spans
extend_length spans g k None = refl
extend_length spans g k (Some span) = length-set spans g (extended span k)

get_replicate : {X : Type 0} (n k : ℕ) (y x : X) → slice_get (replicate n y) k ≡ Some x → y ≡ x
get_replicate zero k y x e = absurd (none_some x e)
get_replicate (suc n) zero y x e = some_is y x e
get_replicate (suc n) (suc k) y x e = get_replicate n k y x e

pub spans_none : (pieces : List Piece) (n : ℕ) → HaveSpans pieces 0 (replicate n (record { first = 0; end = 0 }))
spans_none pieces n g span e =
    subst (HasSpan pieces 0 g) (get_replicate n g (record { first = 0; end = 0 }) span e)
    (record { first = λ k q less f goal. absurd (omega (arith, less)); end = λ k q less f goal. absurd (omega (arith, less)); order = omega arith; within = omega arith })

-- at the opening
none_item : (n k w : ℕ) → is_held_by w (slice_get (replicate n status.Unclaimed) k) ≡ false
none_item zero k w = refl
none_item (suc n) zero w = refl
none_item (suc n) (suc k) w = none_item n k w

none_held : (n w : ℕ) → held_of (replicate n status.Unclaimed) w ≡ None
none_held n w = none_found (held_by (replicate n status.Unclaimed) w) (length (replicate n status.Unclaimed)) (λ k less. none_item n k w)

replicate_at : {X : Type 0} (n k : ℕ) (y : X) → k < n → slice_get (replicate n y) k ≡ Some y
replicate_at zero k y h = absurd (omega (arith, h))
replicate_at (suc n) zero y h = refl
replicate_at (suc n) (suc k) y h = replicate_at n k y (omega (arith, h))

pub index_opened : (plan pieces : List Piece) (goals m : ℕ) (statuses : List Status) (admitted : List Bool) (breaks : List (Option ℕ)) (lemmas : List LemmaMark) (spans : List Span) (holders : List (Option ℕ)) → pieces ≡ plan → statuses ≡ replicate (length plan) status.Unclaimed → admitted ≡ replicate goals false → length spans ≡ goals → HaveSpans plan (length plan) spans → holders ≡ replicate 64 None → IsIndex (record { pieces = pieces; statuses = statuses; admitted = admitted; breaks = breaks; lemmas = lemmas; kept = m }) spans 0 holders
index_opened plan pieces goals m statuses admitted breaks lemmas spans holders e f a same have h =
    record {
      goals = same ∙ sym (ap length a ∙ length-replicate goals false);
      each = subst (λ l. HaveSpans l (length l) spans) (sym e) have;
      claimed = λ k less. absurd (omega (arith, less));
      few = omega arith;
      workers = ap length h ∙ length-replicate {A = Option ℕ} 64 None;
      held = λ w less. ap (λ l. slice_get l w) h ∙ (replicate_at 64 w None less ∙ ap Some (sym (ap (λ l. held_of l w) f ∙ none_held (length plan) w)));
    }

pub index_lemma : (p : Position) (marks : List LemmaMark) (spans : List Span) (next : ℕ) (holders : List (Option ℕ)) → IsIndex p spans next holders → IsIndex (record p { lemmas = marks }) spans next holders
index_lemma p marks spans next holders i = record { goals = i.goals; each = i.each; claimed = i.claimed; few = i.few; workers = i.workers; held = i.held }

-- as the calls need it
pub held_listed_in : (causes : Causes) (s t : BoardState) (w : ℕ) (spans : List Span) (next : ℕ) (holders : List (Option ℕ)) → s ≡ t → IsBoard causes s → IsIndex s.position spans next holders → flat (slice_get holders w) ≡ held_of t.position.statuses w
held_listed_in causes s t w spans next holders same b i = held_listed causes s w spans next holders b i ∙ ap (λ x. held_of x.position.statuses w) same

pub holder_in : (causes : Causes) (s : BoardState) (w q : ℕ) (spans : List Span) (next : ℕ) (holders : List (Option ℕ)) → IsBoard causes s → IsIndex s.position spans next holders → held_of s.position.statuses w ≡ Some q → w < length holders
holder_in causes s w q spans next holders b i e = omega (arith, i.workers, b.holders.workers q w (held_status s.position.statuses w q e))

pub holder_here : (causes : Causes) (s t : BoardState) (w q : ℕ) (spans : List Span) (next : ℕ) (holders : List (Option ℕ)) → s ≡ t → IsBoard causes s → IsIndex s.position spans next holders → held_of t.position.statuses w ≡ Some q → w < length holders
holder_here causes s t w q spans next holders same b i e = holder_in causes s w q spans next holders b i (ap (λ x. held_of x.position.statuses w) same ∙ e)

pub index_taken_in : (causes : Causes) (s t : BoardState) (w q m : ℕ) (own : Bool) (what : Word) (lemmas : List LemmaMark) (spans : List Span) (next : ℕ) (holders : List (Option ℕ)) → s ≡ t → IsBoard causes s → held_of t.position.statuses w ≡ Some q → IsIndex s.position spans next holders → IsIndex (taken_as s.position q own what m lemmas) spans next (holders_after holders w what)
index_taken_in causes s t w q m own what lemmas spans next holders same b e i =
    index_taken causes s w q m own what lemmas spans next holders b (ap (λ x. held_of x.position.statuses w) same ∙ e) i

pub goal_listed : (causes : Causes) (s t : BoardState) (g : ℕ) (spans : List Span) (next : ℕ) (holders : List (Option ℕ)) → s ≡ t → IsBoard causes s → IsIndex s.position spans next holders → has_goal t.program.lines g ≡ true → g < length spans
goal_listed causes s t g spans next holders same b i e =
    let exists : has_goal s.program.lines g ≡ true = ap (λ x. has_goal x.program.lines g) same ∙ e in
    omega (arith, i.goals, b.admitted, below_is g (goal_count s.program.lines) exists)
