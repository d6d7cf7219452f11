-- No cause is true of a piece whose fact is settled.
use Rattle.std.proofs.Common.{◌≡◌, inl, inr, ◌<◌, ℕ, ℤ, Bool, true, false, ◌&&◌, List, [], ◌∷◌, map, take, length, refl, sym, ◌∙◌, ap, subst, arith, Some}
use Rattle.std.specs.Prelude.{not}
use Rattle.std.specs.List.{list_all}
use Rattle.std.proofs.lemmas.Bool.{and_parts}
use Rattle.tcl_cnf.proofs.Freshness.{met_no_conflict}
use Rattle.tcl_lang.specs.Program.{VersionedProgram}
use Rattle.tcl_lang.specs.Form.{IsWellFormed}
use Rattle.tcl_goals.specs.declared.cause.Cause.TheVariants as cause
use Rattle.tcl_goals.specs.declared.fact.Claim.TheVariants as claim
use Rattle.tcl_goals.specs.declared.fact.Fact.{Fact}
use Rattle.tcl_goals.specs.declared.fact.BitLit.{BitLit}
use Rattle.tcl_goals.specs.declared.piece.Piece.{Piece}
use Rattle.tcl_goals.specs.declared.piece.Route.{Route}
use Rattle.tcl_goals.specs.declared.piece.Route.TheVariants as route
use Rattle.tcl_goals.specs.Places.{has_goal}
use Rattle.tcl_goals.specs.Slices.{cut_fact, whole_fact, route_fact}
use Rattle.tcl_goals.specs.Plans.{bit_at, is_algebraic_goal, piece_fact}
use Rattle.tcl_goals.specs.Free.{free_bits}
use Rattle.tcl_goals.specs.Order.{InOrder}
use Rattle.tcl_goals.specs.Assignments.{hyp_of, cube_of, claim_of, HoldsOfAll}
use Rattle.tcl_goals.proofs.PieceOrder.{piece_in_order}
use Rattle.tcl_goals.proofs.RunsAssign.{assignments_decide}
use Rattle.tcl_blast.specs.Clauses.{clauses_of}
use Rattle.tcl_blast.specs.Models.{Models}
use Rattle.tcl_blast.proofs.Countermodels.{models_meet, refuted_prove}
use Rattle.tcl_plain.specs.declared.outcome.Outcome.{Outcome}
use Rattle.tcl_plain.specs.declared.outcome.Outcome.TheVariants as outcome
use Rattle.tcl_bounds.specs.Bounds.{bounds_of}
use Rattle.tcl_bounds.specs.Follows.{follows_of}
use Rattle.tcl_kernel.specs.BoundsCertificate.{is_algebraic_claim, BoundsCheck, is_bounded}
use Rattle.tcl_kernel.specs.Causes.{is_walked_by, HasDenial}
use Rattle.tcl_kernel.specs.PlainOutcome.{plain_outcome}
use Rattle.tcl_kernel.proofs.Soundness.{bounds_sound}
use Rattle.tcl_settled.specs.Settled.{IsDecidedByUnits, is_zero, is_reduced, IsSettledBy}
use Rattle.tcl_settled.specs.Rings.{IsOfRing}
use Rattle.tcl_settled.specs.Laws.{SettledHold, CausesAreUnsettled}
use Rattle.tcl_settled.proofs.Conflicts.{spent_no_conflict}
use Rattle.tcl_settled.proofs.Reductions.{range_unreduced, outcome_algebraic, outcome_unreduced, reduced_holds}
use Rattle.tcl_settled.proofs.StrayModels.{stray_models}

turned : (b : Bool) → not b ≡ true → b ≡ false
turned true e = absurd (cc)
turned false e = refl

clash : (b : Bool) → b ≡ true → b ≡ false → ⊥
clash b s t = cc

-- a decided fact holds of every assignment
units_hold : (p : VersionedProgram) (fact : Fact) → IsWellFormed p → InOrder p [] fact → IsDecidedByUnits p fact → HoldsOfAll p [] fact
units_hold p fact w order u = refuted_prove p [] fact w order (λ v met. met_no_conflict (clauses_of p [] fact) v met u.conflict)

-- a bounded fact
bounded_check : (p : VersionedProgram) (fact : Fact) → is_bounded p fact ≡ true → BoundsCheck p fact
bounded_check p fact e =
    let parts = and_parts (not (is_algebraic_claim p.lines fact.claim)) (follows_of (bounds_of p fact) p fact.claim) e in
    record { range = turned (is_algebraic_claim p.lines fact.claim) parts.0; follows = parts.1 }

pub settled_hold : SettledHold
settled_hold p fact w order ring s = elim s [
  | inl e ↦ bounds_sound p [] fact w (bounded_check p fact e)
  | inr (inl u) ↦ assignments_decide p [] fact w (units_hold p fact w order u)
  | inr (inr e) ↦ assignments_decide p [] fact w (reduced_holds p fact w ring e)
]

-- an assignment that denies a fact excludes that all assignments meet it
denied_not_held : (p : VersionedProgram) (fact : Fact) → HasDenial p fact → HoldsOfAll p [] fact → ⊥
unfolding HoldsOfAll
denied_not_held p fact d holds =
    let parts = and_parts (list_all (hyp_of p [] d.values) fact.hyps && cube_of p d.values fact.cube) (not (claim_of p d.values fact.claim)) d.denied in
    let met = and_parts (list_all (hyp_of p [] d.values) fact.hyps) (cube_of p d.values fact.cube) parts.0 in
    clash (claim_of p d.values fact.claim) (holds d.values d.assigns met.0 met.1) (turned (claim_of p d.values fact.claim) parts.1)

-- a model excludes that unit propagation alone meets a false clause
modelled_undecided : (p : VersionedProgram) (fact : Fact) (values : List ℤ) → IsWellFormed p → InOrder p [] fact → Models p [] fact values → IsDecidedByUnits p fact → ⊥
modelled_undecided p fact values w order m u =
    let met = models_meet p [] fact values w order m in met_no_conflict (clauses_of p [] fact) met.values met.met u.conflict

-- the ways in which a fact is settled
by_ways : (p : VersionedProgram) (fact : Fact) → is_bounded p fact ≡ false → (IsDecidedByUnits p fact → ⊥) → (is_reduced p fact ≡ true → ⊥) → IsSettledBy p fact → ⊥
by_ways p fact unbounded undecided unreduced s = elim s [
  | inl e ↦ clash (is_bounded p fact) e unbounded
  | inr (inl u) ↦ undecided u
  | inr (inr e) ↦ unreduced e
]

range_by_ways : (p : VersionedProgram) (fact : Fact) → is_bounded p fact ≡ false → is_algebraic_claim p.lines fact.claim ≡ false → (IsDecidedByUnits p fact → ⊥) → IsSettledBy p fact → ⊥
range_by_ways p fact unbounded range undecided =
    by_ways p fact unbounded undecided (λ e. clash (is_reduced p fact) e (range_unreduced p fact range))

outcome_by_ways : (p : VersionedProgram) (fact : Fact) (o : Outcome) → is_bounded p fact ≡ false → plain_outcome p fact ≡ Some o → is_zero o ≡ false → IsSettledBy p fact → ⊥
outcome_by_ways p fact o unbounded ends left =
    by_ways p fact unbounded (λ u. clash (is_algebraic_claim p.lines fact.claim) (outcome_algebraic p fact o ends) u.range)
    (λ e. clash (is_reduced p fact) e (outcome_unreduced p fact o ends left))

-- the claim of a piece's fact
route_claim : (p : VersionedProgram) (i : ℕ) (r : Route) → (route_fact p i r).claim ≡ claim.Goal i
unfolding cut_fact whole_fact
route_claim p i route.Cut = refl
route_claim p i route.Whole = refl

piece_claim : (p : VersionedProgram) (q : Piece) → (piece_fact p q).claim ≡ claim.Goal q.goal
unfolding piece_fact
piece_claim p q = route_claim p q.goal q.route

piece_range : (p : VersionedProgram) (q : Piece) → is_algebraic_goal p.lines q.goal ≡ false → is_algebraic_claim p.lines (piece_fact p q).claim ≡ false
piece_range p q e = ap (is_algebraic_claim p.lines) (piece_claim p q) ∙ e

piece_ring : (p : VersionedProgram) (q : Piece) → IsOfRing p (claim.Goal q.goal) → IsOfRing p (piece_fact p q).claim
piece_ring p q ring = subst (IsOfRing p) (sym (piece_claim p q)) ring

-- the order of a piece's fact: a cube without bits is among the first free bits
piece_order : (p : VersionedProgram) (q : Piece) → IsWellFormed p → has_goal p.lines q.goal ≡ true → q.cube ≡ [] → InOrder p [] (piece_fact p q)
piece_order p q w there none = piece_in_order p [] q w (record { goal = there; cube = first_none p q q.cube none })
  where
    first_none : (p : VersionedProgram) (q : Piece) (cube : List BitLit) → cube ≡ [] → map bit_at cube ≡ take (length cube) (free_bits p [] (route_fact p q.goal q.route))
    first_none p q [] e = refl
    first_none p q (b ∷ cube) e = absurd (cc)

pub causes_unsettled : CausesAreUnsettled
causes_unsettled p budget q cause.Model w some there none ring c s = by (is_walked_by p budget (piece_fact p q)) refl
  where
    order : InOrder p [] (piece_fact p q)
    order = piece_order p q w there none

    by : (b : Bool) → is_walked_by p budget (piece_fact p q) ≡ b → ⊥
    by true e =
        let denial = c.walked e in
        by_ways p (piece_fact p q) c.unbounded (λ u. denied_not_held p (piece_fact p q) denial (units_hold p (piece_fact p q) w order u))
        (λ r. denied_not_held p (piece_fact p q) denial (reduced_holds p (piece_fact p q) w (piece_ring p q ring) r)) s
    by false e =
        let model = c.searched e in
        range_by_ways p (piece_fact p q) c.unbounded (piece_range p q model.range)
        (λ u. modelled_undecided p (piece_fact p q) model.values w order model.models u) s
causes_unsettled p budget q (cause.Steps n) w some there none ring c s =
    range_by_ways p (piece_fact p q) c.left.unbounded (piece_range p q c.range)
    (λ u. spent_no_conflict (clauses_of p [] (piece_fact p q)) c.lines n (subst (λ k. 0 < k) (sym c.number) some) c.derives u.conflict) s
causes_unsettled p budget q (cause.Width at) w some there none ring c s =
    outcome_by_ways p (piece_fact p q) (outcome.Wide at) c.left.unbounded c.ends refl s
causes_unsettled p budget q (cause.Size size n) w some there none ring c s = elim c [
  | inl many ↦
      range_by_ways p (piece_fact p q) many.left.unbounded (piece_range p q many.range) (λ u. omega (arith, many.many.many, u.few)) s
  | inr large ↦ outcome_by_ways p (piece_fact p q) (outcome.Large size n) large.left.unbounded large.ends refl s
]
causes_unsettled p budget q (cause.Rest _ _) w some there none ring c s = absurd c
causes_unsettled p budget q (cause.Stray place truth input) w some there none ring c s =
    range_by_ways p (piece_fact p q) c.left.unbounded (piece_range p q c.range)
    (λ u. modelled_undecided p (piece_fact p q) _ w (piece_order p q w there none) (stray_models p q input _ w c.route_is none c.stray) u) s
causes_unsettled p budget q cause.Later w some there none ring c s =
    outcome_by_ways p (piece_fact p q) (outcome.Rest c.rest) c.reduced.left.unbounded c.reduced.ends refl s
