-- What the clauses of a fact say of its assignments.
use Rattle.std.specs.Prelude.{◌≡◌, ℕ, ℤ, Bool, true, false, List}
use Rattle.std.specs.List.{list_all}
use Rattle.tcl_cnf.specs.Clause.{Satisfies, HaveNoSolution}
use Rattle.tcl_lang.specs.Program.{VersionedProgram}
use Rattle.tcl_lang.specs.Form.{IsWellFormed}
use Rattle.tcl_goals.specs.declared.fact.Fact.{Fact}
use Rattle.tcl_goals.specs.declared.lemma.Numbered.{Numbered}
use Rattle.tcl_goals.specs.Order.{InOrder}
use Rattle.tcl_goals.specs.Assignments.{Assigns, hyp_of, cube_of, claim_of, HoldsOfAll}
use Rattle.tcl_blast.specs.Clauses.{clauses_of}

-- some values of the variables of the clauses make all of them true
pub record AreMet (clauses : List (List ℕ)) : Type 0 where
  pub values : ℕ → Bool
  pub met : Satisfies values clauses

-- an assignment of a fact in order that meets its hypotheses and its cube and denies its claim meets its clauses
abbrev pub DenialsMeetClauses : Type 0
DenialsMeetClauses =
    (p : VersionedProgram) (lemmas : List Numbered) (fact : Fact) (values : List ℤ) → IsWellFormed p →
    InOrder p lemmas fact → Assigns p fact values → list_all (hyp_of p lemmas values) fact.hyps ≡ true →
    cube_of p values fact.cube ≡ true → claim_of p values fact.claim ≡ false → AreMet (clauses_of p lemmas fact)

-- so the claim of a fact in order whose clauses no values meet holds of every assignment
abbrev pub RefutedClausesProve : Type 0
RefutedClausesProve =
    (p : VersionedProgram) (lemmas : List Numbered) (fact : Fact) → IsWellFormed p → InOrder p lemmas fact →
    HaveNoSolution (clauses_of p lemmas fact) → HoldsOfAll p lemmas fact
