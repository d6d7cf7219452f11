-- Facts whose clauses unit propagation alone decides.
use Rattle.std.specs.Prelude.{◌≡◌, ◌≤◌, false, [], length}
use Rattle.tcl_cnf.specs.Propagation.{ConflictsAtOnce}
use Rattle.tcl_lang.specs.Program.{VersionedProgram}
use Rattle.tcl_goals.specs.declared.fact.Fact.{Fact}
use Rattle.tcl_blast.specs.Clauses.{clauses_of, clause_limit}
use Rattle.tcl_kernel.specs.BoundsCertificate.{is_algebraic_claim}

-- the claim is no algebraic goal, the fact has at most 4,194,304 clauses, and unit propagation alone meets a false one
pub record IsDecidedByUnits (p : VersionedProgram) (fact : Fact) : Type 0 where
  pub range : is_algebraic_claim p.lines fact.claim ≡ false
  pub few : length (clauses_of p [] fact) ≤ clause_limit
  pub conflict : ConflictsAtOnce (clauses_of p [] fact)
