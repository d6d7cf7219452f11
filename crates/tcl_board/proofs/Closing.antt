-- The test for finished boards is the definition.
use Rattle.std.proofs.Common.{◌≡◌, refl, sym, ap, ◌∙◌, subst, arith, inl, inr, ℕ, ◌<◌, nat_lt, Bool, true, false, not, ◌&&◌, ◌||◌, List, length, Option, Some, None}
use Rattle.std.specs.Prelude.{IsTrue, ◌↔◌}
use Rattle.std.specs.List.{slice_get}
use Rattle.std.specs.Option.{is_none}
use Rattle.std.proofs.lemmas.Bool.{and_parts, and_from, or_parts, cases_Bool, lt-ltb}
use Rattle.std.proofs.lemmas.Option.{slice_get_within}
use Rattle.tcl_goals.specs.declared.piece.Piece.{Piece}
use Rattle.tcl_goals.specs.declared.piece.Route.{Route}
use Rattle.tcl_goals.specs.declared.piece.Route.TheVariants as route
use Rattle.tcl_board.specs.declared.event.Status.{Status}
use Rattle.tcl_board.specs.declared.event.Status.TheVariants as status
use Rattle.tcl_board.specs.Shows.{Causes}
use Rattle.tcl_board.specs.Moves.{Position, is_settled, route_proved, may_admit}
use Rattle.tcl_board.specs.State.{BoardState}
use Rattle.tcl_board.specs.Kept.{IsBoard}
use Rattle.tcl_board.specs.Finished.{IsFinished, has_ended, is_held, lacks_end, is_open, none_open, none_admissible}
use Rattle.tcl_board.proofs.Firsts.{none_passes, none_found}

clash : (b : Bool) → b ≡ true → b ≡ false → ⊥
clash b e f = cc

-- what the test gives
and_false : (a b : Bool) → (a && b) ≡ false → a ≡ true → b ≡ false
and_false true b e f = e
and_false false b e f = absurd (cc)

ended_of : (admitted : List Bool) (breaks : List (Option ℕ)) (q : Piece) (x : Option Status) → lacks_end admitted breaks (Some q) x ≡ false → is_settled admitted breaks q.goal ≡ false → has_ended x ≡ true
ended_of admitted breaks q x e free = elim (cases_Bool (has_ended x)) [
  | inl ended ↦ ended
  | inr open_end ↦ absurd (clash (not (is_settled admitted breaks q.goal) && not (has_ended x)) (and_from (not (is_settled admitted breaks q.goal)) (not (has_ended x)) (ap not free) (ap not open_end)) e)
]

route_of : (p : Position) (g : ℕ) (r : Route) → g < length p.admitted → is_settled p.admitted p.breaks g ≡ false → may_admit p g ≡ false → route_proved p.pieces p.statuses g r ≡ false
route_of p g r h free e =
    let cut = route_proved p.pieces p.statuses g route.Cut in
    let whole = route_proved p.pieces p.statuses g route.Whole in
    let rest = and_false (nat_lt g (length p.admitted)) (not (is_settled p.admitted p.breaks g) && (cut || whole)) e (lt-ltb g (length p.admitted) h) in
    let both = or_parts cut whole (and_false (not (is_settled p.admitted p.breaks g)) (cut || whole) rest (ap not free)) in
    by_route r both.0 both.1
  where
    by_route : (r : Route) → route_proved p.pieces p.statuses g route.Cut ≡ false → route_proved p.pieces p.statuses g route.Whole ≡ false → route_proved p.pieces p.statuses g r ≡ false
    by_route route.Cut a b = a
    by_route route.Whole a b = b

finished_of : (p : Position) → length p.statuses ≡ length p.pieces → (none_open p && none_admissible p) ≡ true → IsFinished p
finished_of p same e =
    let parts = and_parts (none_open p) (none_admissible p) e in
    let closed_at : (k : ℕ) → k < length p.pieces → is_open p.pieces p.statuses p.admitted p.breaks k ≡ false =
    λ k h. none_passes (is_open p.pieces p.statuses p.admitted p.breaks) (length p.pieces) k parts.0 h in
    record {
      held = λ k w f.
          let within : k < length p.pieces = omega (arith, same, slice_get_within p.statuses k (status.Held w) f) in
          clash (is_held (slice_get p.statuses k)) (ap is_held f) (or_parts (is_held (slice_get p.statuses k)) (lacks_end p.admitted p.breaks (slice_get p.pieces k) (slice_get p.statuses k)) (closed_at k within)).0;
      ended = λ k q f free.
          let within = slice_get_within p.pieces k q f in
          ended_of p.admitted p.breaks q (slice_get p.statuses k)
          (sym (ap (λ o. lacks_end p.admitted p.breaks o (slice_get p.statuses k)) f) ∙ (or_parts (is_held (slice_get p.statuses k)) (lacks_end p.admitted p.breaks (slice_get p.pieces k) (slice_get p.statuses k)) (closed_at k within)).1) free;
      routes = λ g r h free. route_of p g r h free (none_passes (may_admit p) (length p.admitted) g parts.1 h);
    }

-- what gives the test
or_false : (a b : Bool) → a ≡ false → b ≡ false → (a || b) ≡ false
or_false a b e f = rw (e, f) refl

not_held : (p : Position) (k : ℕ) → IsFinished p → (x : Option Status) → slice_get p.statuses k ≡ x → is_held x ≡ false
not_held p k f None e = refl
not_held p k f (Some (status.Held w)) e = absurd (f.held k w e)
not_held p k f (Some status.Unclaimed) e = refl
not_held p k f (Some (status.Proved n)) e = refl
not_held p k f (Some (status.Ended n)) e = refl
not_held p k f (Some status.Broken) e = refl
not_held p k f (Some (status.Strayed g n)) e = refl
not_held p k f (Some status.Cancelled) e = refl

has_end : (p : Position) (k : ℕ) → IsFinished p → (o : Option Piece) → slice_get p.pieces k ≡ o → lacks_end p.admitted p.breaks o (slice_get p.statuses k) ≡ false
has_end p k f None e = refl
has_end p k f (Some q) e = elim (cases_Bool (is_settled p.admitted p.breaks q.goal)) [
  | inl settled ↦ rw settled refl
  | inr free ↦ rw (free, f.ended k q e free) refl
]

not_admissible : (p : Position) (g : ℕ) → IsFinished p → g < length p.admitted → may_admit p g ≡ false
not_admissible p g f h = elim (cases_Bool (is_settled p.admitted p.breaks g)) [
  | inl settled ↦ third (nat_lt g (length p.admitted)) (is_settled p.admitted p.breaks g) _ settled
  | inr free ↦ fourth (nat_lt g (length p.admitted)) (not (is_settled p.admitted p.breaks g)) (route_proved p.pieces p.statuses g route.Cut) (route_proved p.pieces p.statuses g route.Whole) (f.routes g route.Cut h free) (f.routes g route.Whole h free)
]
  where
    third : (a b c : Bool) → b ≡ true → (a && (not b && c)) ≡ false
    third true true c e = refl
    third false true c e = refl
    third a false c e = absurd (cc)

    fourth : (a b c d : Bool) → c ≡ false → d ≡ false → (a && (b && (c || d))) ≡ false
    fourth true true c d e f = rw (e, f) refl
    fourth true false c d e f = refl
    fourth false b c d e f = refl

test_of : (p : Position) → IsFinished p → (none_open p && none_admissible p) ≡ true
test_of p f =
    and_from (none_open p) (none_admissible p)
    (ap is_none (none_found (is_open p.pieces p.statuses p.admitted p.breaks) (length p.pieces) (λ k h. or_false (is_held (slice_get p.statuses k)) (lacks_end p.admitted p.breaks (slice_get p.pieces k) (slice_get p.statuses k)) (not_held p k f (slice_get p.statuses k) refl) (has_end p k f (slice_get p.pieces k) refl))))
    (ap is_none (none_found (may_admit p) (length p.admitted) (λ g h. not_admissible p g f h)))

pub finished_tells : (causes : Causes) (s t : BoardState) (r : Bool) → s ≡ t → IsBoard causes s → r ≡ (none_open t.position && none_admissible t.position) → IsTrue r ↔ IsFinished t.position
finished_tells causes s t r same b e =
    let c = subst (IsBoard causes) same b in
    (λ yes_it. finished_of t.position c.statuses (sym e ∙ yes_it), λ f. e ∙ test_of t.position f)
