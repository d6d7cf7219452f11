-- What the answers of the searches give: each its cause, or an input that refutes a goal.
use Rattle.std.specs.Prelude.{◌≡◌, ℕ, ℤ, Bool, true, false, List, [], Option, Some, None}
use Rattle.tcl_cnf.specs.Literal.{value_at}
use Rattle.tcl_cnf.specs.Clause.{Satisfies}
use Rattle.tcl_cnf.specs.FreshLogs.{DeriveFresh}
use Rattle.tcl_port.specs.declared.limit.What.TheVariants as what
use Rattle.tcl_lang.specs.declared.outcome.Truth.TheVariants.{No}
use Rattle.tcl_lang.specs.declared.term.AlgPred.{AlgPred}
use Rattle.tcl_lang.specs.Program.{VersionedProgram}
use Rattle.tcl_lang.specs.Run.{Fits, taken_types}
use Rattle.tcl_lang.specs.Form.{IsWellFormed}
use Rattle.tcl_goals.specs.declared.cause.Cause.TheVariants as cause
use Rattle.tcl_goals.specs.declared.fact.Fact.{Fact}
use Rattle.tcl_goals.specs.declared.fact.Claim.TheVariants as claim
use Rattle.tcl_goals.specs.declared.piece.Piece.{Piece}
use Rattle.tcl_goals.specs.declared.piece.Route.TheVariants as route
use Rattle.tcl_goals.specs.Places.{goal_place, has_goal}
use Rattle.tcl_goals.specs.Slices.{whole_fact}
use Rattle.tcl_goals.specs.Plans.{is_algebraic_goal, piece_fact, IsPiece}
use Rattle.tcl_goals.specs.Order.{InOrder}
use Rattle.tcl_enum.specs.declared.ended.Ended.TheVariants as ended
use Rattle.tcl_enum.specs.declared.ended.FreeValue.{FreeValue}
use Rattle.tcl_enum.specs.Enumeration.{ended_of}
use Rattle.tcl_blast.specs.Clauses.{clauses_of}
use Rattle.tcl_blast.specs.Inputs.{input_of}
use Rattle.tcl_blast.specs.Ends.{AreTooMany}
use Rattle.tcl_algebra.specs.Equations.{claim_begins}
use Rattle.tcl_algebra.specs.Ends.{claim_equation}
use Rattle.tcl_plain.specs.declared.outcome.Outcome.{Outcome}
use Rattle.tcl_plain.specs.declared.outcome.Outcome.TheVariants as outcome
use Rattle.tcl_plain.specs.Plain.{plain_end, outcome_of}
use Rattle.tcl_kernel.specs.declared.stray.Stray.{Stray}
use Rattle.tcl_kernel.specs.BoundsCertificate.{is_bounded}
use Rattle.tcl_kernel.specs.Counterexample.{BreakChecks}
use Rattle.tcl_kernel.specs.Strays.{first_stray, IsStray}
use Rattle.tcl_kernel.specs.Causes.{is_walked_by, IsOpen, IsTrueCause}

-- the fact claims a goal from the hypotheses and the instructions of its whole route, under any cube
pub record IsWholeFact (p : VersionedProgram) (fact : Fact) (goal : ℕ) : Type 0 where
  pub claim : fact.claim ≡ claim.Goal goal
  pub hyps : fact.hyps ≡ (whole_fact p goal).hyps
  pub uses : fact.uses ≡ (whole_fact p goal).uses

-- so does the whole fact itself, and the fact of each piece of the whole route
abbrev pub WholeFactsAreWhole : Type 0
WholeFactsAreWhole = (p : VersionedProgram) (goal : ℕ) → IsWholeFact p (whole_fact p goal) goal

abbrev pub WholePiecesAreWhole : Type 0
WholePiecesAreWhole = (p : VersionedProgram) (q : Piece) → q.route ≡ route.Whole → IsWholeFact p (piece_fact p q) q.goal

-- what the input of a model says: it refutes the goal where none of the hypotheses strays, else the stray is one
abbrev pub IsModelEnd : VersionedProgram → ℕ → List ℤ → Option Stray → Type 0
IsModelEnd p goal input None = BreakChecks p goal input
IsModelEnd p goal input (Some stray) = IsStray p goal input stray

-- bits that meet the clauses of such a fact, whose goal is no algebraic one, give such an input
abbrev pub ModelsStray : Type 0
ModelsStray =
    (p : VersionedProgram) (fact : Fact) (goal : ℕ) (bits : List Bool) → IsWellFormed p → InOrder p [] fact →
    IsWholeFact p fact goal → is_algebraic_goal p.lines goal ≡ false → Satisfies (value_at bits) (clauses_of p [] fact) →
    IsModelEnd p goal (input_of p [] fact bits) (first_stray p goal (input_of p [] fact bits))

-- a first stray that is a goal and computed as `No` is refuted by the input
abbrev pub StraysBreak : Type 0
StraysBreak =
    (p : VersionedProgram) (goal earlier : ℕ) (input : List ℤ) (stray : Stray) → IsWellFormed p →
    Fits (taken_types p.lines) input → first_stray p goal input ≡ Some stray → stray.truth ≡ No →
    has_goal p.lines earlier ≡ true → stray.place ≡ goal_place p.lines earlier → BreakChecks p earlier input

-- on a cut piece whose claim does not follow from the intervals: values that meet the clauses, where the assignments are not
-- walked and the goal is no algebraic one, and an assignment at which the walk ends, where they are
abbrev pub ModelsAreCuts : Type 0
ModelsAreCuts =
    (p : VersionedProgram) (budget : ℕ) (q : Piece) (values : ℕ → Bool) → IsWellFormed p → IsPiece p q →
    q.route ≡ route.Cut → is_bounded p (piece_fact p q) ≡ false → is_walked_by p budget (piece_fact p q) ≡ false →
    is_algebraic_goal p.lines q.goal ≡ false → Satisfies values (clauses_of p [] (piece_fact p q)) →
    IsTrueCause p budget q cause.Model

abbrev pub DenialsAreCuts : Type 0
DenialsAreCuts =
    (p : VersionedProgram) (budget : ℕ) (q : Piece) (free : List FreeValue) → IsWellFormed p → IsPiece p q →
    q.route ≡ route.Cut → is_bounded p (piece_fact p q) ≡ false → is_walked_by p budget (piece_fact p q) ≡ true →
    ended_of p [] (piece_fact p q) ≡ ended.Fails free → IsTrueCause p budget q cause.Model

-- on a piece that is left open: a log of as many fresh clauses as the budget, none of them empty, and too many clauses
abbrev pub FreshLogsAreSpent : Type 0
FreshLogsAreSpent =
    (p : VersionedProgram) (budget : ℕ) (q : Piece) (lines : List (List ℕ)) → IsOpen p budget q →
    is_algebraic_goal p.lines q.goal ≡ false → DeriveFresh (clauses_of p [] (piece_fact p q)) budget lines →
    IsTrueCause p budget q (cause.Steps budget)

abbrev pub ManyClausesAreLarge : Type 0
ManyClausesAreLarge =
    (p : VersionedProgram) (budget : ℕ) (q : Piece) (n : ℕ) → IsOpen p budget q → is_algebraic_goal p.lines q.goal ≡ false →
    AreTooMany p [] (piece_fact p q) n → IsTrueCause p budget q (cause.Size what.Clauses n)

-- the cause that belongs to what plain reduction makes of a claim; none where nothing is left
abbrev pub IsOutcomeCause : VersionedProgram → ℕ → Piece → Outcome → Type 0
IsOutcomeCause p budget q (outcome.Zero lines) = Unit {0}
IsOutcomeCause p budget q (outcome.Rest rest) = IsTrueCause p budget q cause.Later
IsOutcomeCause p budget q (outcome.Wide at) = IsTrueCause p budget q (cause.Width at)
IsOutcomeCause p budget q (outcome.Large w n) = IsTrueCause p budget q (cause.Size w n)

-- on a piece that is left open and claims an equation it is true
abbrev pub OutcomesAreCauses : Type 0
OutcomesAreCauses =
    (p : VersionedProgram) (budget : ℕ) (q : Piece) (f : AlgPred) → IsOpen p budget q →
    claim_equation p (piece_fact p q).claim ≡ Some f →
    IsOutcomeCause p budget q (outcome_of (claim_begins f) (plain_end p (piece_fact p q) f))
