-- The facts of the two routes of a goal: what they claim, and that no input refutes the goal where one of them stands.
use Rattle.std.proofs.Common.{◌≡◌, ℕ, ℤ, true, List, [], refl, sym, ap, subst, ◌∙◌}
use Rattle.tcl_lang.specs.Program.{VersionedProgram}
use Rattle.tcl_lang.specs.Form.{IsWellFormed, end_store}
use Rattle.tcl_goals.specs.declared.fact.Claim.TheVariants as claim
use Rattle.tcl_goals.specs.declared.piece.Piece.{Piece}
use Rattle.tcl_goals.specs.declared.piece.Route.{Route}
use Rattle.tcl_goals.specs.declared.piece.Route.TheVariants as route
use Rattle.tcl_goals.specs.LemmaList.{lemma_of}
use Rattle.tcl_goals.specs.Places.{has_goal}
use Rattle.tcl_goals.specs.Holds.{AreSound, IsGoalSound, cube_holds}
use Rattle.tcl_goals.specs.Slices.{cut_fact, whole_fact, route_fact}
use Rattle.tcl_goals.specs.Plans.{piece_fact}
use Rattle.tcl_goals.proofs.PieceOrder.{route_order}
use Rattle.tcl_goals.proofs.FactsGood.{piece_fact_holds}
use Rattle.tcl_settled.specs.Settled.{IsSettledBy}
use Rattle.tcl_settled.specs.Rings.{IsOfRing}
use Rattle.tcl_settled.proofs.Unsettled.{settled_hold}

claim_is : (p : VersionedProgram) (i : ℕ) (r : Route) → (route_fact p i r).claim ≡ claim.Goal i
unfolding cut_fact whole_fact
claim_is p i route.Cut = refl
claim_is p i route.Whole = refl

cube_is : (p : VersionedProgram) (i : ℕ) (r : Route) (input : List ℤ) → cube_holds (end_store p input) (route_fact p i r).cube ≡ true
unfolding cut_fact whole_fact
cube_is p i route.Cut input = refl
cube_is p i route.Whole input = refl

-- a piece without a cube has the fact of its route
uncubed : (p : VersionedProgram) (i : ℕ) (r : Route) → record (route_fact p i r) { cube = [] } ≡ route_fact p i r
unfolding cut_fact whole_fact
uncubed p i route.Cut = refl
uncubed p i route.Whole = refl

pub piece_is : (p : VersionedProgram) (q : Piece) (i : ℕ) (r : Route) → q.goal ≡ i → q.route ≡ r → q.cube ≡ [] → piece_fact p q ≡ route_fact p i r
unfolding piece_fact
piece_is p q i r goal way none =
    ap (λ c. record (route_fact p q.goal q.route) { cube = c }) none ∙ ap (λ j. record (route_fact p j q.route) { cube = [] }) goal
    ∙ ap (λ s. record (route_fact p i s) { cube = [] }) way ∙ uncubed p i r

none_sound : (p : VersionedProgram) → AreSound p []
unfolding lemma_of
none_sound p n m e = absurd (cc)

-- a goal with a settled route is sound
pub settled_sound : (p : VersionedProgram) (i : ℕ) (r : Route) → IsWellFormed p → has_goal p.lines i ≡ true → IsOfRing p (claim.Goal i) → IsSettledBy p (route_fact p i r) → IsGoalSound p i
settled_sound p i r w there ring s input meets =
    let order = route_order p [] i r there in
    let holds = settled_hold p (route_fact p i r) w order (subst (IsOfRing p) (sym (claim_is p i r)) ring) s in
    piece_fact_holds p [] i (route_fact p i r) input (none_sound p) (claim_is p i r) order holds meets (cube_is p i r input)
