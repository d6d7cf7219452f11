-- The ends of the work on a fact that neither the intervals nor a walk settle.
use Rattle.std.proofs.Common.{◌≡◌, ◌<◌, inl, inr, ℕ, Bool, true, false, List, [], refl, sym, ◌∙◌, ap, subst, arith, Some}
use Rattle.tcl_port.specs.declared.limit.At.{At}
use Rattle.tcl_port.specs.declared.limit.What.{What}
use Rattle.tcl_port.specs.declared.limit.What.TheVariants as what
use Rattle.tcl_cnf.specs.Literal.{value_at}
use Rattle.tcl_cnf.specs.Clause.{Satisfies}
use Rattle.tcl_cnf.specs.FreshLogs.{DeriveFresh}
use Rattle.tcl_lang.specs.Program.{VersionedProgram}
use Rattle.tcl_goals.specs.declared.cause.Cause.TheVariants as cause
use Rattle.tcl_goals.specs.declared.fact.Claim.{Claim}
use Rattle.tcl_goals.specs.declared.fact.Claim.TheVariants as claim
use Rattle.tcl_goals.specs.declared.fact.Fact.{Fact}
use Rattle.tcl_goals.specs.declared.piece.Piece.{Piece}
use Rattle.tcl_goals.specs.declared.piece.Route.{Route}
use Rattle.tcl_goals.specs.declared.piece.Route.TheVariants as route
use Rattle.tcl_goals.specs.declared.remainder.Summand.{Summand}
use Rattle.tcl_goals.specs.Plans.{is_algebraic_goal, piece_fact}
use Rattle.tcl_goals.specs.Slices.{cut_fact, whole_fact, route_fact}
use Rattle.tcl_blast.specs.Clauses.{clauses_of}
use Rattle.tcl_blast.specs.Ends.{AreTooMany}
use Rattle.tcl_blast.specs.Models as clauses
use Rattle.tcl_plain.specs.declared.outcome.Outcome.{Outcome}
use Rattle.tcl_plain.specs.declared.outcome.Outcome.TheVariants as outcome
use Rattle.tcl_kernel.specs.BoundsCertificate.{is_algebraic_claim, is_bounded}
use Rattle.tcl_kernel.specs.Causes.{is_walked_by, IsOpen}
use Rattle.tcl_kernel.specs.PlainOutcome.{plain_outcome}
use Rattle.tcl_worker.specs.Reduced.{is_zero}
use Rattle.tcl_worker.specs.Searched.{IsDecidedByUnits}
use Rattle.tcl_worker.specs.Settled.{IsSettledBy}
use Rattle.tcl_worker.specs.Worked.{IsModelled, IsUntried, IsEnded}
use Rattle.tcl_worker.proofs.Conflicts.{solution_no_conflict, spent_no_conflict}
use Rattle.tcl_worker.proofs.Reductions.{range_unreduced, outcome_unreduced}
use Rattle.tcl_worker.proofs.Walks.{clash, unsettled}

-- the words of the kernel and of the clauses for an algebraic claim
same_claim : (p : VersionedProgram) (c : Claim) → clauses.is_algebraic_claim p c ≡ is_algebraic_claim p.lines c
same_claim p (claim.Goal i) = refl
same_claim p (claim.Lemma m) = refl

pub range_claim : (p : VersionedProgram) (fact : Fact) → is_algebraic_claim p.lines fact.claim ≡ false → clauses.is_algebraic_claim p fact.claim ≡ false
range_claim p fact e = same_claim p fact.claim ∙ e

pub route_claim : (p : VersionedProgram) (i : ℕ) (r : Route) → is_algebraic_claim p.lines (route_fact p i r).claim ≡ is_algebraic_goal p.lines i
unfolding cut_fact whole_fact
route_claim p i route.Cut = refl
route_claim p i route.Whole = refl

-- the claim of a piece's fact is an algebraic goal where its goal is one
pub piece_claim : (p : VersionedProgram) (q : Piece) → is_algebraic_claim p.lines (piece_fact p q).claim ≡ is_algebraic_goal p.lines q.goal
unfolding piece_fact
piece_claim p q = route_claim p q.goal q.route

range_goal : (p : VersionedProgram) (q : Piece) (fact : Fact) → piece_fact p q ≡ fact → is_algebraic_claim p.lines fact.claim ≡ false → is_algebraic_goal p.lines q.goal ≡ false
range_goal p q fact same e = sym (piece_claim p q) ∙ ap (λ (f : Fact). is_algebraic_claim p.lines f.claim) same ∙ e

-- a piece with this fact is open
pub piece_open : (p : VersionedProgram) (budget : ℕ) (q : Piece) (fact : Fact) → piece_fact p q ≡ fact → is_bounded p fact ≡ false → is_walked_by p budget fact ≡ false → IsUntried p q → IsOpen p budget q
piece_open p budget q fact same unbounded unwalked untried = record {
  unbounded = ap (is_bounded p) same ∙ unbounded;
  unwalked = ap (is_walked_by p budget) same ∙ unwalked;
  untried = untried;
}

-- too many clauses
pub many_ended : (p : VersionedProgram) (budget : ℕ) (fact : Fact) (n : ℕ) → is_bounded p fact ≡ false → is_walked_by p budget fact ≡ false → is_algebraic_claim p.lines fact.claim ≡ false → AreTooMany p [] fact n → IsEnded p budget fact (cause.Size what.Clauses n)
many_ended p budget fact n unbounded unwalked range many = record {
  unwalked = unwalked;
  cause = λ q same untried. inl (record {
    left = piece_open p budget q fact same unbounded unwalked untried;
    range = range_goal p q fact same range;
    clauses = refl;
    many = subst (λ (f : Fact). AreTooMany p [] f n) (sym same) many;
  });
  not_broken = refl;
  unsettled = unsettled p fact unbounded (λ d. omega (arith, many.many, d.few)) (range_unreduced p fact range);
}

-- a spent budget
pub spent_ended : (p : VersionedProgram) (budget : ℕ) (fact : Fact) (lines : List (List ℕ)) → 0 < budget → is_bounded p fact ≡ false → is_walked_by p budget fact ≡ false → is_algebraic_claim p.lines fact.claim ≡ false → DeriveFresh (clauses_of p [] fact) budget lines → IsEnded p budget fact (cause.Steps budget)
spent_ended p budget fact lines positive unbounded unwalked range derives = record {
  unwalked = unwalked;
  cause = λ q same untried. record {
    left = piece_open p budget q fact same unbounded unwalked untried;
    range = range_goal p q fact same range;
    number = refl;
    lines = lines;
    derives = subst (λ (f : Fact). DeriveFresh (clauses_of p [] f) budget lines) (sym same) derives;
  };
  not_broken = refl;
  unsettled = unsettled p fact unbounded (λ d. spent_no_conflict budget (clauses_of p [] fact) lines positive derives d.conflict) (range_unreduced p fact range);
}

-- a model
pub model_left : (p : VersionedProgram) (budget : ℕ) (fact : Fact) (bits : List Bool) → is_bounded p fact ≡ false → is_walked_by p budget fact ≡ false → is_algebraic_claim p.lines fact.claim ≡ false → Satisfies (value_at bits) (clauses_of p [] fact) → IsModelled p budget fact bits
model_left p budget fact bits unbounded unwalked range meets = record {
  range = range;
  unbounded = unbounded;
  unwalked = unwalked;
  meets = meets;
  unsettled = unsettled p fact unbounded (λ d. solution_no_conflict (clauses_of p [] fact) (value_at bits) meets d.conflict) (range_unreduced p fact range);
}

-- an outcome of the reduction of an algebraic claim
not_decided : (p : VersionedProgram) (fact : Fact) → is_algebraic_claim p.lines fact.claim ≡ true → IsDecidedByUnits p fact → ⊥
not_decided p fact algebraic d = clash (is_algebraic_claim p.lines fact.claim) algebraic d.range

outcome_unsettled : (p : VersionedProgram) (fact : Fact) (o : Outcome) → is_bounded p fact ≡ false → is_algebraic_claim p.lines fact.claim ≡ true → plain_outcome p fact ≡ Some o → is_zero o ≡ false → IsSettledBy p fact → ⊥
outcome_unsettled p fact o unbounded algebraic ends left =
    unsettled p fact unbounded (not_decided p fact algebraic) (outcome_unreduced p fact o ends left)

pub rest_ended : (p : VersionedProgram) (budget : ℕ) (fact : Fact) (rest : List Summand) → is_bounded p fact ≡ false → is_walked_by p budget fact ≡ false → is_algebraic_claim p.lines fact.claim ≡ true → plain_outcome p fact ≡ Some (outcome.Rest rest) → IsEnded p budget fact cause.Later
rest_ended p budget fact rest unbounded unwalked algebraic ends = record {
  unwalked = unwalked;
  cause = λ q same untried. record {
    rest = rest;
    reduced = record { left = piece_open p budget q fact same unbounded unwalked untried; ends = ap (plain_outcome p) same ∙ ends };
  };
  not_broken = refl;
  unsettled = outcome_unsettled p fact (outcome.Rest rest) unbounded algebraic ends refl;
}

pub width_ended : (p : VersionedProgram) (budget : ℕ) (fact : Fact) (at : At) → is_bounded p fact ≡ false → is_walked_by p budget fact ≡ false → is_algebraic_claim p.lines fact.claim ≡ true → plain_outcome p fact ≡ Some (outcome.Wide at) → IsEnded p budget fact (cause.Width at)
width_ended p budget fact at unbounded unwalked algebraic ends = record {
  unwalked = unwalked;
  cause = λ q same untried. record { left = piece_open p budget q fact same unbounded unwalked untried; ends = ap (plain_outcome p) same ∙ ends };
  not_broken = refl;
  unsettled = outcome_unsettled p fact (outcome.Wide at) unbounded algebraic ends refl;
}

pub large_ended : (p : VersionedProgram) (budget : ℕ) (fact : Fact) (w : What) (n : ℕ) → is_bounded p fact ≡ false → is_walked_by p budget fact ≡ false → is_algebraic_claim p.lines fact.claim ≡ true → plain_outcome p fact ≡ Some (outcome.Large w n) → IsEnded p budget fact (cause.Size w n)
large_ended p budget fact w n unbounded unwalked algebraic ends = record {
  unwalked = unwalked;
  cause = λ q same untried. inr (record { left = piece_open p budget q fact same unbounded unwalked untried; ends = ap (plain_outcome p) same ∙ ends });
  not_broken = refl;
  unsettled = outcome_unsettled p fact (outcome.Large w n) unbounded algebraic ends refl;
}
