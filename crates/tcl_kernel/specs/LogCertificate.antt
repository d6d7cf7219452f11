-- The certificate by a log: chains of resolutions that derive the empty clause from the clauses of the fact.
use Rattle.std.specs.Prelude.{◌≡◌, ◌≤◌, ℕ, nat_le, Bool, true, false, not, ◌&&◌, if◌then◌else◌, List, length, Option, Some, None}
use Rattle.tcl_cnf.specs.declared.answer.LogAnswer.{LogAnswer}
use Rattle.tcl_cnf.specs.declared.answer.LogAnswer.TheVariants.{BadLine, NoEnd, Refutes}
use Rattle.tcl_cnf.specs.Log.{AreChains, log_answer}
use Rattle.tcl_lang.specs.Program.{VersionedProgram}
use Rattle.tcl_goals.specs.declared.fact.Fact.{Fact}
use Rattle.tcl_goals.specs.declared.lemma.Numbered.{Numbered}
use Rattle.tcl_blast.specs.Clauses.{clauses_of, clause_limit}
use Rattle.tcl_kernel.specs.declared.reason.Reason.{Reason}
use Rattle.tcl_kernel.specs.declared.reason.Reason.TheVariants as reason
use Rattle.tcl_kernel.specs.BoundsCertificate.{is_algebraic_claim}

-- the claim is not algebraic, the fact has at most 4,194,304 clauses, each line is a chain, and some line derives the empty
-- clause
pub record LogCheck (p : VersionedProgram) (lemmas : List Numbered) (fact : Fact) (lines : List (List ℕ)) : Type 0 where
  pub range : is_algebraic_claim p.lines fact.claim ≡ false
  pub few : length (clauses_of p lemmas fact) ≤ clause_limit
  pub refutes : AreChains (clauses_of p lemmas fact) lines true

-- the fact has clauses that a log can speak of: the claim is not algebraic, and they are not too many
abbrev pub has_clauses : VersionedProgram → List Numbered → Fact → Bool
has_clauses p lemmas fact =
    not (is_algebraic_claim p.lines fact.claim) && nat_le (length (clauses_of p lemmas fact)) clause_limit

-- the reason that the answer to a log gives
abbrev pub reason_of : LogAnswer → Option Reason
reason_of (BadLine k) = Some (reason.Log k)
reason_of NoEnd = Some reason.LogEnd
reason_of Refutes = None

-- the reason against the certificate
unfoldable pub log_reason : VersionedProgram → List Numbered → Fact → List (List ℕ) → Option Reason
log_reason p lemmas fact lines =
    if has_clauses p lemmas fact then reason_of (log_answer (clauses_of p lemmas fact) lines) else Some reason.LogSize
