-- How the making of clauses ends.
use Rattle.std.specs.Prelude.{◌≡◌, ◌<◌, ◌≤◌, ◌+◌, ℕ, min, List, length}
use Rattle.tcl_lang.specs.Program.{VersionedProgram}
use Rattle.tcl_goals.specs.declared.fact.Fact.{Fact}
use Rattle.tcl_goals.specs.declared.lemma.Numbered.{Numbered}
use Rattle.tcl_blast.specs.declared.ended.BlastEnd.{BlastEnd}
use Rattle.tcl_blast.specs.declared.ended.BlastEnd.TheVariants as end
use Rattle.tcl_blast.specs.Clauses.{clauses_of, clause_limit}

-- these are the clauses of the fact, and they are not too many
pub record IsMade (p : VersionedProgram) (lemmas : List Numbered) (fact : Fact) (clauses : List (List ℕ)) : Type 0 where
  pub clauses_are : clauses ≡ clauses_of p lemmas fact
  pub few : length clauses ≤ clause_limit

-- there are more than 4,194,304 clauses, and the number is theirs up to 4,194,305
pub record AreTooMany (p : VersionedProgram) (lemmas : List Numbered) (fact : Fact) (n : ℕ) : Type 0 where
  pub many : clause_limit < length (clauses_of p lemmas fact)
  pub number : n ≡ min (length (clauses_of p lemmas fact)) (clause_limit + 1)

-- what an end other than with clauses says
abbrev pub IsBlastEnd : VersionedProgram → List Numbered → Fact → BlastEnd → Type 0
IsBlastEnd p lemmas fact (end.TooMany n) = AreTooMany p lemmas fact n
IsBlastEnd p lemmas fact end.Memory = Unit {0}

-- while they are made: what it says that these clauses, the first ones of a fact, are too many already
abbrev pub IsEnd : List (List ℕ) → BlastEnd → Type 0
IsEnd clauses (end.TooMany n) = (n ≡ clause_limit + 1) × (clause_limit < length clauses)
IsEnd clauses end.Memory = Unit {0}
