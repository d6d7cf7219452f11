-- What the job of the tests gives for a piece.
use Rattle.std.specs.Prelude.{◌≡◌, ℕ, true, []}
use Rattle.tcl_lang.specs.Program.{VersionedProgram}
use Rattle.tcl_goals.specs.declared.fact.Fact.{Fact}
use Rattle.tcl_goals.specs.declared.fact.Claim.TheVariants as claim
use Rattle.tcl_goals.specs.declared.lemma.Lemma.{Lemma}
use Rattle.tcl_goals.specs.declared.piece.Piece.{Piece}
use Rattle.tcl_goals.specs.LemmaList.{LemmaList}
use Rattle.tcl_board.specs.declared.evidence.Outcome.{Outcome}
use Rattle.tcl_board.specs.Judging.{OutcomeSpeaks}
use Rattle.tcl_board.specs.Sight.{seen_of}
use Rattle.tcl_gate.specs.Fits.{FitsPiece}
use Rattle.tcl_kernel.specs.Shown.{ProofContent}
use Rattle.tests_board.specs.TestCauses.{test_causes}

-- it speaks of the program, and fits the piece by the budget of the tests and these lemmas
pub record IsGift (p : VersionedProgram) (q : Piece) (lemmas : LemmaList) (o : Outcome ProofContent) : Type 0 where
  pub speaks : OutcomeSpeaks p (λ w. w.program) (λ w. true) o
  pub fits : FitsPiece test_causes p 7 q lemmas (seen_of (λ w. w.shown) (λ w. w.cited) o)

-- it does so for each piece of each program
abbrev pub FitsEach : Outcome ProofContent → Type 0
FitsEach o = (p : VersionedProgram) (q : Piece) (lemmas : LemmaList) → IsGift p q lemmas o

-- a fact with the claim and the cube of the piece
pub record IsFactOf (q : Piece) (fact : Fact) : Type 0 where
  pub claim : fact.claim ≡ claim.Goal q.goal
  pub cube : fact.cube ≡ q.cube

-- a fact of a lemma of this level, which rests on nothing
pub record IsLemmaFact (level : ℕ) (fact : Fact) : Type 0 where
  pub lemma : Lemma
  pub claim : fact.claim ≡ claim.Lemma lemma
  pub same_level : lemma.level ≡ level
  pub hyps : fact.hyps ≡ []
  pub cube : fact.cube ≡ []
