-- What the ends of the work on a fact say. No public clause cites this module.
use Rattle.std.specs.Prelude.{◌≡◌, ℕ, ℤ, Bool, true, false, List, []}
use Rattle.tcl_port.specs.Polling.{counted}
use Rattle.tcl_cnf.specs.Literal.{value_at}
use Rattle.tcl_cnf.specs.Clause.{Satisfies}
use Rattle.tcl_lang.specs.Program.{VersionedProgram}
use Rattle.tcl_lang.specs.Run.{Fits, taken_types}
use Rattle.tcl_goals.specs.declared.fact.Fact.{Fact}
use Rattle.tcl_goals.specs.declared.lemma.Numbered.{Numbered}
use Rattle.tcl_goals.specs.declared.cause.Cause.{Cause}
use Rattle.tcl_goals.specs.declared.piece.Piece.{Piece}
use Rattle.tcl_goals.specs.declared.piece.Route.TheVariants as route
use Rattle.tcl_goals.specs.LemmaList.{LemmaList}
use Rattle.tcl_goals.specs.Plans.{is_algebraic_goal, piece_fact}
use Rattle.tcl_enum.specs.declared.ended.FreeValue.{FreeValue}
use Rattle.tcl_enum.specs.declared.ended.Ended.TheVariants as ended
use Rattle.tcl_enum.specs.Enumeration.{ended_of}
use Rattle.tcl_blast.specs.Clauses.{clauses_of}
use Rattle.tcl_board.specs.Steps.{is_broken_goal}
use Rattle.tcl_kernel.specs.BoundsCertificate.{is_bounded, is_algebraic_claim}
use Rattle.tcl_kernel.specs.Causes.{is_walked_by, IsTrueCause}
use Rattle.tcl_kernel.specs.CauseLaws.{IsModelEnd}
use Rattle.tcl_kernel.specs.Strays.{first_stray}
use Rattle.tcl_kernel.specs.Trials.{trial_count, NoTrialRefutes}
use Rattle.tcl_worker.specs.declared.worked.Worked.{Worked}
use Rattle.tcl_worker.specs.declared.worked.Worked.TheVariants.{Proved, Lemma, Fails, Model, Open, Stopped}
use Rattle.tcl_worker.specs.Settled.{IsSettledBy}
use Rattle.tcl_worker.specs.Inputs.{input_of}
use Rattle.tcl_worker.specs.Proofs.{ProvesFact}
use Rattle.tcl_worker.specs.Outcomes.{steps_in}
use Rattle.tcl_worker.specs.Lemmas.{MakesNone}
use Rattle.tcl_worker.specs.SearchEnds.{ProvesMade}

-- the walk ends at an assignment that denies the fact, of which this is the input
pub record IsFailing (p : VersionedProgram) (budget : ℕ) (fact : Fact) (input : List ℤ) : Type 0 where
  pub unbounded : is_bounded p fact ≡ false
  pub walked : is_walked_by p budget fact ≡ true
  pub free : List FreeValue
  pub fails : ended_of p [] fact ≡ ended.Fails free
  pub input_is : input ≡ input_of free p.lines
  pub unsettled : IsSettledBy p fact → ⊥

-- the fact claims no algebraic goal, neither the intervals nor a walk settle it, and these bits meet its clauses
pub record IsModelled (p : VersionedProgram) (budget : ℕ) (fact : Fact) (bits : List Bool) : Type 0 where
  pub range : is_algebraic_claim p.lines fact.claim ≡ false
  pub unbounded : is_bounded p fact ≡ false
  pub unwalked : is_walked_by p budget fact ≡ false
  pub meets : Satisfies (value_at bits) (clauses_of p [] fact)
  pub unsettled : IsSettledBy p fact → ⊥

-- the input is that of a model of the clauses of a whole piece, which is not settled otherwise
pub record IsModelInput (p : VersionedProgram) (budget : ℕ) (q : Piece) (input : List ℤ) : Type 0 where
  pub route_is : q.route ≡ route.Whole
  pub range : is_algebraic_goal p.lines q.goal ≡ false
  pub unbounded : is_bounded p (piece_fact p q) ≡ false
  pub unwalked : is_walked_by p budget (piece_fact p q) ≡ false
  pub fits : Fits (taken_types p.lines) input
  pub ends : IsModelEnd p q.goal input (first_stray p q.goal input)
  pub unsettled : IsSettledBy p (piece_fact p q) → ⊥

-- no trial input refutes the goal of a piece that is the whole one of an algebraic goal
abbrev pub IsUntried : VersionedProgram → Piece → Type 0
IsUntried p q =
    q.route ≡ route.Whole → is_algebraic_goal p.lines q.goal ≡ true → NoTrialRefutes p q.goal trial_count

-- neither the intervals nor a walk settle the fact, and the cause is true of each piece that has this fact, as long as no
-- trial input refutes its goal; it is no stray of a goal
pub record IsEnded (p : VersionedProgram) (budget : ℕ) (fact : Fact) (c : Cause) : Type 0 where
  pub unwalked : is_walked_by p budget fact ≡ false
  pub cause : (q : Piece) → piece_fact p q ≡ fact → IsUntried p q → IsTrueCause p budget q c
  pub not_broken : is_broken_goal p c ≡ false
  pub unsettled : IsSettledBy p fact → ⊥

-- what an end of the work by these lemmas says of the fact; of a lemma that is made the rules speak
abbrev pub IsWorked : VersionedProgram → ℕ → List Numbered → Fact → Worked → Type 0
IsWorked p budget lemmas fact (Proved proof) = ProvesFact p lemmas fact proof
IsWorked p budget lemmas fact (Lemma proof) = Unit {0}
IsWorked p budget lemmas fact (Fails input) = IsFailing p budget fact input
IsWorked p budget lemmas fact (Model bits) = IsModelled p budget fact bits
IsWorked p budget lemmas fact (Open c) = IsEnded p budget fact c
IsWorked p budget lemmas fact Stopped = Unit {0}

-- an end says by which rules a lemma comes, or why none does
abbrev pub KeepsRules : VersionedProgram → ℕ → LemmaList → Fact → Worked → Type 0
KeepsRules p budget lemmas fact (Lemma proof) = ProvesMade p budget lemmas fact proof
KeepsRules p budget lemmas fact (Proved proof) = MakesNone p budget lemmas fact
KeepsRules p budget lemmas fact (Fails input) = MakesNone p budget lemmas fact
KeepsRules p budget lemmas fact (Model bits) = MakesNone p budget lemmas fact
KeepsRules p budget lemmas fact (Open c) = MakesNone p budget lemmas fact
KeepsRules p budget lemmas fact Stopped = Unit {0}

-- the end is no lemma
abbrev pub is_lemma : Worked → Bool
is_lemma (Lemma proof) = true
is_lemma _ = false

-- the steps that an end tells of
abbrev pub steps_told : Worked → ℕ
steps_told (Open c) = steps_in c
steps_told _ = 0

-- the counts of cancellations before and after: one came exactly where the work was stopped
abbrev pub IsStopped : ℕ → ℕ → Worked → Type 0
IsStopped cancels cancels' (Proved proof) = cancels' ≡ cancels
IsStopped cancels cancels' (Lemma proof) = cancels' ≡ cancels
IsStopped cancels cancels' (Fails input) = cancels' ≡ cancels
IsStopped cancels cancels' (Model bits) = cancels' ≡ cancels
IsStopped cancels cancels' (Open c) = cancels' ≡ cancels
IsStopped cancels cancels' Stopped = cancels' ≡ counted cancels
