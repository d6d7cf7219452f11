-- What comes of a piece.
use Rattle.std.specs.Prelude.{◌≡◌, ℕ, Bool, true, false, ◌&&◌, []}
use Rattle.tcl_lang.specs.Program.{VersionedProgram}
use Rattle.tcl_goals.specs.declared.cause.Cause.{Cause}
use Rattle.tcl_goals.specs.declared.cause.Cause.TheVariants as cause
use Rattle.tcl_goals.specs.declared.piece.Piece.{Piece}
use Rattle.tcl_goals.specs.declared.piece.Route.{Route}
use Rattle.tcl_goals.specs.declared.piece.Route.TheVariants as route
use Rattle.tcl_goals.specs.declared.piece.Shown.TheVariants as shown
use Rattle.tcl_goals.specs.LemmaList.{LemmaList}
use Rattle.tcl_goals.specs.Plans.{is_algebraic_goal, piece_fact}
use Rattle.tcl_board.specs.declared.evidence.Outcome.{Outcome}
use Rattle.tcl_board.specs.declared.evidence.Seen.{Seen}
use Rattle.tcl_board.specs.declared.evidence.Seen.TheVariants as seen
use Rattle.tcl_board.specs.Judging.{OutcomeSpeaks}
use Rattle.tcl_board.specs.Sight.{seen_of}
use Rattle.tcl_gate.specs.Fits.{FitsPiece}
use Rattle.tcl_kernel.specs.Shown.{ProofContent}
use Rattle.tcl_kernel.specs.Causes.{is_walked_by, IsTrueCause}
use Rattle.tcl_kernel.specs.Trials.{trial_count, NoTrialRefutes}
use Rattle.tcl_worker.specs.Citing.{CitesAllOrNone}
use Rattle.tcl_worker.specs.Lemmas.{IsMade, MakesNone}
use Rattle.tcl_worker.specs.Settled.{IsSettledBy}
use Rattle.tcl_worker.specs.Inputs.{IsFirstInput}
use Rattle.tcl_worker.specs.Trials.{IsFirstTrial}

-- a fact is shown, of the piece or of a lemma
abbrev pub shows_fact : Seen → Bool
shows_fact (seen.Shown (shown.Fact fact) cited) = true
shows_fact (seen.Shown (shown.Breaks g input) cited) = false
shows_fact (seen.Lemma sh cited) = true
shows_fact (seen.Ended c) = false

-- the piece ended with a cause
abbrev pub is_ended : Seen → Bool
is_ended (seen.Ended c) = true
is_ended (seen.Shown sh cited) = false
is_ended (seen.Lemma sh cited) = false

-- an input breaks the goal of the piece, and is the first that the walk of its fact finds
abbrev pub HasFirstInput : VersionedProgram → Piece → Seen → Type 0
HasFirstInput p q (seen.Shown (shown.Breaks g input) cited) = (g ≡ q.goal) × IsFirstInput p (piece_fact p q) input
HasFirstInput p q (seen.Shown (shown.Fact fact) cited) = Unit {0}
HasFirstInput p q (seen.Lemma sh cited) = Unit {0}
HasFirstInput p q (seen.Ended c) = Unit {0}

-- an input breaks the goal of the piece, and is the first trial input that does; none does where the piece ended
abbrev pub HasFirstTrial : VersionedProgram → Piece → Seen → Type 0
HasFirstTrial p q (seen.Shown (shown.Breaks g input) cited) = (g ≡ q.goal) × IsFirstTrial p q.goal input
HasFirstTrial p q (seen.Shown (shown.Fact fact) cited) = Unit {0}
HasFirstTrial p q (seen.Lemma sh cited) = Unit {0}
HasFirstTrial p q (seen.Ended c) = NoTrialRefutes p q.goal trial_count

-- A fact is shown where the piece's own is settled so. On a whole piece whose assignments are walked there is no cause, and an
-- input is the first that the walk finds; on that of an algebraic goal of which they are not, the first trial input that
-- refutes the goal, if one does.
pub record IsComplete (p : VersionedProgram) (budget : ℕ) (q : Piece) (gift : Seen) : Type 0 where
  pub settled : IsSettledBy p (piece_fact p q) → shows_fact gift ≡ true
  pub walked : q.route ≡ route.Whole → is_walked_by p budget (piece_fact p q) ≡ true → is_ended gift ≡ false
  pub first : q.route ≡ route.Whole → is_walked_by p budget (piece_fact p q) ≡ true → HasFirstInput p q gift
  pub tried : q.route ≡ route.Whole → is_algebraic_goal p.lines q.goal ≡ true → is_walked_by p budget (piece_fact p q) ≡ false →
      HasFirstTrial p q gift

-- the steps of a spent budget
abbrev pub steps_in : Cause → ℕ
steps_in (cause.Steps n) = n
steps_in _ = 0

abbrev pub steps_of : Seen → ℕ
steps_of (seen.Ended c) = steps_in c
steps_of _ = 0

-- what is seen of an outcome with the kernel's proofs
abbrev pub seen_in : Outcome ProofContent → Seen
seen_in o = seen_of (λ e. e.shown) (λ e. e.cited) o

-- the fact that is shown is that of the piece, or that with all these lemmas
abbrev pub IsPieceFact : VersionedProgram → Piece → LemmaList → Seen → Type 0
IsPieceFact p q lemmas (seen.Shown (shown.Fact fact) cited) = CitesAllOrNone p.lines lemmas.items (piece_fact p q) fact
IsPieceFact p q lemmas (seen.Shown (shown.Breaks g input) cited) = Unit {0}
IsPieceFact p q lemmas (seen.Lemma sh cited) = Unit {0}
IsPieceFact p q lemmas (seen.Ended c) = Unit {0}

-- A lemma comes by the rules, and cites none: where more are wanted and the clauses of the piece's fact are to be searched,
-- the first candidate whose search shows it. Else no lemma was to be made.
abbrev pub ObeysRules : VersionedProgram → ℕ → Piece → LemmaList → Seen → Type 0
ObeysRules p budget q lemmas (seen.Lemma (shown.Fact fact) cited) = IsMade p budget lemmas (piece_fact p q) fact × (cited ≡ [])
ObeysRules p budget q lemmas (seen.Lemma (shown.Breaks g input) cited) = ⊥
ObeysRules p budget q lemmas (seen.Shown sh cited) = MakesNone p budget lemmas (piece_fact p q)
ObeysRules p budget q lemmas (seen.Ended c) = MakesNone p budget lemmas (piece_fact p q)

-- the outcome of a piece by these lemmas
pub record IsOutcome (p : VersionedProgram) (budget : ℕ) (q : Piece) (lemmas : LemmaList) (o : Outcome ProofContent) : Type 0 where
  pub speaks : OutcomeSpeaks p (λ e. e.program) (λ e. e.alone) o
  pub fits : FitsPiece IsTrueCause p budget q lemmas (seen_in o)
  pub complete : IsComplete p budget q (seen_in o)
  pub fact : IsPieceFact p q lemmas (seen_in o)

-- the same whatever the lemmas: an outcome that cites none
abbrev pub IsOwnOutcome : VersionedProgram → ℕ → Piece → Outcome ProofContent → Type 0
IsOwnOutcome p budget q o = (lemmas : LemmaList) → IsOutcome p budget q lemmas o

-- inputs are tried on the piece: it is the whole one of an algebraic goal
abbrev pub is_whole : Route → Bool
is_whole route.Cut = false
is_whole route.Whole = true

abbrev pub is_tried : VersionedProgram → Piece → Bool
is_tried p q = is_whole q.route && is_algebraic_goal p.lines q.goal
