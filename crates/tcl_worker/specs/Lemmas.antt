-- The lemma that is made for a fact whose clauses are to be searched: its candidates are searched in order, by at most 256
-- derived clauses each, and the first that is shown is made.
use Rattle.std.specs.Prelude.{◌≡◌, ◌⊎◌, ◌<◌, ◌≤◌, ℕ, min, true, false, List, [], length, slice_get, Some}
use Rattle.tcl_cnf.specs.FreshLogs.{DeriveFresh}
use Rattle.tcl_cnf.specs.Log.{log_answer}
use Rattle.tcl_cnf.specs.declared.answer.LogAnswer.TheVariants as answer
use Rattle.tcl_lang.specs.Program.{VersionedProgram}
use Rattle.tcl_goals.specs.declared.fact.BitLit.{BitLit}
use Rattle.tcl_goals.specs.declared.fact.Fact.{Fact}
use Rattle.tcl_goals.specs.declared.lemma.Numbered.{Numbered}
use Rattle.tcl_goals.specs.LemmaList.{LemmaList}
use Rattle.tcl_blast.specs.Clauses.{clauses_of, clause_limit}
use Rattle.tcl_blast.specs.Laws.{AreMet}
use Rattle.tcl_kernel.specs.BoundsCertificate.{is_bounded, is_algebraic_claim}
use Rattle.tcl_kernel.specs.Causes.{is_walked_by}
use Rattle.tcl_worker.specs.Candidates.{candidate_bits, is_known, candidate_fact}

-- the fact claims no algebraic goal, neither the intervals nor a walk settle it, and it has at most 4,194,304 clauses
pub record IsToBeSearched (p : VersionedProgram) (budget : ℕ) (fact : Fact) : Type 0 where
  pub range : is_algebraic_claim p.lines fact.claim ≡ false
  pub unbounded : is_bounded p fact ≡ false
  pub unwalked : is_walked_by p budget fact ≡ false
  pub few : length (clauses_of p [] fact) ≤ clause_limit

-- as many clauses as the search of a candidate may derive
abbrev pub candidate_budget : ℕ → ℕ
candidate_budget budget = min budget 256

-- a log of at most so many derived clauses ends with the empty clause
pub record IsRefuted (clauses : List (List ℕ)) (budget : ℕ) : Type 0 where
  pub lines : List (List ℕ)
  pub few : length lines ≤ budget
  pub refutes : log_answer clauses lines ≡ answer.Refutes

-- a log has as many fresh clauses as the budget, none of them empty
pub record HasSpentLog (clauses : List (List ℕ)) (budget : ℕ) : Type 0 where
  pub lines : List (List ℕ)
  pub derives : DeriveFresh clauses budget lines

-- a search of these clauses shows nothing: some values meet them, the budget is spent, or they are too many
abbrev pub IsVain : List (List ℕ) → ℕ → Type 0
IsVain clauses budget = AreMet clauses ⊎ HasSpentLog clauses budget ⊎ (clause_limit < length clauses)

-- a candidate is passed over: it is a lemma of the list already, or its search shows nothing
abbrev pub IsPassedOver : VersionedProgram → ℕ → List Numbered → Fact → BitLit → Type 0
IsPassedOver p budget lemmas fact b =
    (is_known lemmas b ≡ true) ⊎ IsVain (clauses_of p [] (candidate_fact fact b)) (candidate_budget budget)

-- the first so many candidates are passed over
pub record ArePassedOver (p : VersionedProgram) (budget : ℕ) (lemmas : List Numbered) (fact : Fact) (n : ℕ) : Type 0 where
  pub each : (k : ℕ) (b : BitLit) → k < n → slice_get (candidate_bits p fact.claim) k ≡ Some b →
      IsPassedOver p budget lemmas fact b

-- The fact that is made is that of a candidate, where more lemmas are wanted and the clauses of the fact are to be searched:
-- the first whose search shows it that is no lemma of the list.
pub record IsMade (p : VersionedProgram) (budget : ℕ) (lemmas : LemmaList) (fact made : Fact) : Type 0 where
  pub wanted : lemmas.more ≡ true
  pub searched : IsToBeSearched p budget fact
  pub number : ℕ
  pub bit : BitLit
  pub candidate : slice_get (candidate_bits p fact.claim) number ≡ Some bit
  pub new : is_known lemmas.items bit ≡ false
  pub made_is : made ≡ candidate_fact fact bit
  pub refuted : IsRefuted (clauses_of p [] made) (candidate_budget budget)
  pub earlier : ArePassedOver p budget lemmas.items fact number

-- none is made: more are not wanted, the clauses are not to be searched, or all candidates are passed over
abbrev pub MakesNone : VersionedProgram → ℕ → LemmaList → Fact → Type 0
MakesNone p budget lemmas fact =
    lemmas.more ≡ true → IsToBeSearched p budget fact →
    ArePassedOver p budget lemmas.items fact (length (candidate_bits p fact.claim))
