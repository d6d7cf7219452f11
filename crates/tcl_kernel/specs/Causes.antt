-- The causes with which a piece may end without a proof, and when they are true. The budget is that of the searches.
use Rattle.std.specs.Prelude.{◌≡◌, ◌⊎◌, ◌^◌, ℕ, ℤ, nat_le, Bool, true, false, ◌&&◌, List, [], length, Some}
use Rattle.tcl_port.specs.declared.limit.What.{What}
use Rattle.tcl_port.specs.declared.limit.What.TheVariants as what
use Rattle.tcl_cnf.specs.FreshLogs.{DeriveFresh}
use Rattle.tcl_lang.specs.declared.outcome.Truth.{Truth}
use Rattle.tcl_lang.specs.Program.{VersionedProgram}
use Rattle.tcl_goals.specs.declared.cause.Cause.{Cause}
use Rattle.tcl_goals.specs.declared.cause.Cause.TheVariants as cause
use Rattle.tcl_goals.specs.declared.fact.Fact.{Fact}
use Rattle.tcl_goals.specs.declared.piece.Piece.{Piece}
use Rattle.tcl_goals.specs.declared.piece.Route.TheVariants as route
use Rattle.tcl_goals.specs.declared.remainder.Summand.{Summand}
use Rattle.tcl_goals.specs.Free.{free_bits}
use Rattle.tcl_goals.specs.Assignments.{Assigns}
use Rattle.tcl_goals.specs.Plans.{is_algebraic_goal, piece_fact}
use Rattle.tcl_enum.specs.NarrowFact.{is_narrow_fact}
use Rattle.tcl_enum.specs.Enumeration.{is_denied}
use Rattle.tcl_blast.specs.Clauses.{clauses_of}
use Rattle.tcl_blast.specs.Models.{Models}
use Rattle.tcl_blast.specs.Ends.{AreTooMany}
use Rattle.tcl_plain.specs.declared.outcome.Outcome.{Outcome}
use Rattle.tcl_plain.specs.declared.outcome.Outcome.TheVariants as outcome
use Rattle.tcl_kernel.specs.BoundsCertificate.{is_bounded}
use Rattle.tcl_kernel.specs.Trials.{trial_count, NoTrialRefutes}
use Rattle.tcl_kernel.specs.PlainOutcome.{plain_outcome}
use Rattle.tcl_kernel.specs.Strays.{IsStray}

-- All assignments of the fact are walked: it has at most 20 free bits, which have no more assignments than the budget, and
-- no equation of it has a size bound from 2 ^ 126 on or a wide modulus.
abbrev pub is_walked_by : VersionedProgram → ℕ → Fact → Bool
is_walked_by p budget fact =
    nat_le (length (free_bits p [] fact)) 20 && nat_le (2 ^ length (free_bits p [] fact)) budget && is_narrow_fact p fact

-- The piece is left open: its claim is algebraic or does not follow from the intervals of its fact, the assignments of this
-- are not walked, and where the piece is the whole one of an algebraic goal no trial input refutes the goal.
pub record IsOpen (p : VersionedProgram) (budget : ℕ) (q : Piece) : Type 0 where
  pub unbounded : is_bounded p (piece_fact p q) ≡ false
  pub unwalked : is_walked_by p budget (piece_fact p q) ≡ false
  pub untried : q.route ≡ route.Whole → is_algebraic_goal p.lines q.goal ≡ true → NoTrialRefutes p q.goal trial_count

-- some assignment of the fact meets its hypotheses and its cube, and denies its claim
pub record HasDenial (p : VersionedProgram) (fact : Fact) : Type 0 where
  pub values : List ℤ
  pub assigns : Assigns p fact values
  pub denied : is_denied p [] fact values ≡ true

-- The goal is no algebraic one. Some assignment of the piece's fact meets the cube and all range and exactness hypotheses, has
-- the bits that the algebraic ones fix, and denies the claim.
pub record HasModel (p : VersionedProgram) (q : Piece) : Type 0 where
  pub range : is_algebraic_goal p.lines q.goal ≡ false
  pub values : List ℤ
  pub models : Models p [] (piece_fact p q) values

-- The piece is a cut one, and its claim is algebraic or does not follow from the intervals. Where the assignments are walked
-- one of them denies the fact; where they are not the clauses have a model.
pub record IsCutModel (p : VersionedProgram) (budget : ℕ) (q : Piece) : Type 0 where
  pub route_is : q.route ≡ route.Cut
  pub unbounded : is_bounded p (piece_fact p q) ≡ false
  pub walked : is_walked_by p budget (piece_fact p q) ≡ true → HasDenial p (piece_fact p q)
  pub searched : is_walked_by p budget (piece_fact p q) ≡ false → HasModel p q

-- the clauses of the piece's fact have a log of exactly as many derived clauses as the budget, none empty and each fresh
pub record IsSpent (p : VersionedProgram) (budget : ℕ) (q : Piece) (n : ℕ) : Type 0 where
  pub left : IsOpen p budget q
  pub range : is_algebraic_goal p.lines q.goal ≡ false
  pub number : n ≡ budget
  pub lines : List (List ℕ)
  pub derives : DeriveFresh (clauses_of p [] (piece_fact p q)) n lines

-- the clauses of the piece's fact are more than 4,194,304, and the number is theirs up to 4,194,305
pub record HasManyClauses (p : VersionedProgram) (budget : ℕ) (q : Piece) (w : What) (n : ℕ) : Type 0 where
  pub left : IsOpen p budget q
  pub range : is_algebraic_goal p.lines q.goal ≡ false
  pub clauses : w ≡ what.Clauses
  pub many : AreTooMany p [] (piece_fact p q) n

-- the claim is an equation, and this is what its plain reduction makes of it
pub record IsReducedTo (p : VersionedProgram) (budget : ℕ) (q : Piece) (o : Outcome) : Type 0 where
  pub left : IsOpen p budget q
  pub ends : plain_outcome p (piece_fact p q) ≡ Some o

-- the plain reduction leaves something
pub record LeavesRest (p : VersionedProgram) (budget : ℕ) (q : Piece) : Type 0 where
  pub rest : List Summand
  pub reduced : IsReducedTo p budget q (outcome.Rest rest)

-- there are too many clauses, or the claim or its plain reduction is too large
abbrev pub IsTooLarge : VersionedProgram → ℕ → Piece → What → ℕ → Type 0
IsTooLarge p budget q w n = HasManyClauses p budget q w n ⊎ IsReducedTo p budget q (outcome.Large w n)

-- the piece is the whole one of a goal that is no algebraic one, and the line of this place is the stray of the input
pub record HasStray (p : VersionedProgram) (budget : ℕ) (q : Piece) (place : ℕ) (truth : Truth) (input : List ℤ) : Type 0 where
  pub left : IsOpen p budget q
  pub route_is : q.route ≡ route.Whole
  pub range : is_algebraic_goal p.lines q.goal ≡ false
  pub stray : IsStray p q.goal input (record { place = place; truth = truth })

-- The cause is true of the piece. `Rest` is true of none: a piece whose plain reduction leaves something ends with `Later`.
abbrev pub IsTrueCause : VersionedProgram → ℕ → Piece → Cause → Type 0
IsTrueCause p budget q cause.Model = IsCutModel p budget q
IsTrueCause p budget q (cause.Steps n) = IsSpent p budget q n
IsTrueCause p budget q (cause.Width at) = IsReducedTo p budget q (outcome.Wide at)
IsTrueCause p budget q (cause.Size w n) = IsTooLarge p budget q w n
IsTrueCause p budget q (cause.Rest _ _) = ⊥
IsTrueCause p budget q (cause.Stray place truth input) = HasStray p budget q place truth input
IsTrueCause p budget q cause.Later = LeavesRest p budget q
