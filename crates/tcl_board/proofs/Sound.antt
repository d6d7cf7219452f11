-- A goal of which all pieces of one route are proved is sound, so no input refutes it.
use Rattle.std.proofs.Common.{◌≡◌, refl, sym, ap, ◌∙◌, subst, inl, inr, ℕ, arith, Bool, true, false, ◌&&◌, ◌==◌, List, length, Option, Some, None}
use Rattle.std.specs.List.{slice_get}
use Rattle.std.proofs.lemmas.Bool.{and_from, cases_Bool}
use Rattle.std.proofs.lemmas.Bool.Decides.{nat_tests}
use Rattle.std.proofs.lemmas.Option.{slice_get_within}
use Rattle.tcl_lang.specs.Program.{VersionedProgram}
use Rattle.tcl_goals.specs.declared.piece.Piece.{Piece}
use Rattle.tcl_goals.specs.declared.piece.Route.{Route}
use Rattle.tcl_goals.specs.declared.piece.Route.TheVariants as route
use Rattle.tcl_goals.specs.declared.lemma.Numbered.{Numbered}
use Rattle.tcl_goals.specs.declared.fact.Claim.TheVariants as claim
use Rattle.tcl_lang.specs.Form.{end_store}
use Rattle.tcl_goals.specs.Holds.{IsGoalSound, cube_holds, AreSound}
use Rattle.tcl_goals.specs.Laws.{PieceFactsHold}
use Rattle.tcl_board.specs.declared.event.Status.{Status}
use Rattle.tcl_board.specs.declared.event.Status.TheVariants as status
use Rattle.tcl_board.specs.declared.evidence.Seen.{Seen}
use Rattle.tcl_board.specs.Shows.{Causes}
use Rattle.tcl_board.specs.Moves.{unproved_at, lacks_proof, same_route, is_unproved, route_proved}
use Rattle.tcl_board.specs.Covers.{Covers}
use Rattle.tcl_board.specs.Truths.{Truths}
use Rattle.tcl_board.proofs.Firsts.{none_passes}

same_goal : (q : ℕ) → (q == q) ≡ true
same_goal q = grind (arith, nat_tests)

same_routes : (r : Route) → same_route r r ≡ true
same_routes route.Cut = refl
same_routes route.Whole = refl

clash : (b : Bool) → b ≡ true → b ≡ false → ⊥
clash b e f = cc

-- a piece that does not lack a proof has one
proved_is : (o : Option Status) → is_unproved o ≡ false → (n : ℕ) × (o ≡ Some (status.Proved n))
proved_is None e = absurd (cc)
proved_is (Some (status.Proved n)) e = (n, refl)
proved_is (Some status.Unclaimed) e = absurd (cc)
proved_is (Some (status.Held w)) e = absurd (cc)
proved_is (Some (status.Ended n)) e = absurd (cc)
proved_is (Some status.Broken) e = absurd (cc)
proved_is (Some (status.Strayed g n)) e = absurd (cc)
proved_is (Some status.Cancelled) e = absurd (cc)

has_proof : (g : ℕ) (r : Route) (q : Piece) (o : Option Piece) (x : Option Status) → o ≡ Some q → q.goal ≡ g → q.route ≡ r → lacks_proof g r o x ≡ false → is_unproved x ≡ false
has_proof g r q o x at goal same e = elim (cases_Bool (is_unproved x)) [
  | inr proved ↦ proved
  | inl lacks ↦
      let here : lacks_proof q.goal q.route (Some q) x ≡ true = and_from (q.goal == q.goal) (same_route q.route q.route && is_unproved x) (same_goal q.goal) (and_from (same_route q.route q.route) (is_unproved x) (same_routes q.route) lacks) in
      let there : lacks_proof g r o x ≡ true = subst (λ t. lacks_proof g r t x ≡ true) (sym at) (subst (λ t. lacks_proof g t (Some q) x ≡ true) same (subst (λ t. lacks_proof t q.route (Some q) x ≡ true) goal here)) in
      absurd (clash (lacks_proof g r o x) there e)
]

pub route_is_sound : PieceFactsHold → (causes : Causes) (p : VersionedProgram) (budget : ℕ) (ls : List Numbered) (kept : List Seen) (a : List Bool) (b : List (Option ℕ)) (pieces : List Piece) (statuses : List Status) (g : ℕ) (r : Route) → AreSound p ls → Truths causes p budget ls kept a b pieces statuses → Covers pieces g r → route_proved pieces statuses g r ≡ true → IsGoalSound p g
route_is_sound law causes p budget ls kept a b pieces statuses g r sound truths covers proved input meets =
    let c = covers (end_store p input) in
    let k = c.number in
    let below = slice_get_within pieces k c.piece c.at in
    let full = has_proof g r c.piece (slice_get pieces k) (slice_get statuses k) c.at c.goal c.route (none_passes (unproved_at pieces statuses g r) (length pieces) k proved below) in
    let found = proved_is (slice_get statuses k) full in
    let t = truths k c.piece (status.Proved found.0) c.at found.1 in
    let claims = t.3.claim ∙ ap (λ i. claim.Goal i) c.goal in
    law p ls g t.0 input sound claims t.3.order t.3.holds meets (ap (cube_holds (end_store p input)) t.3.cube ∙ c.holds)
