-- What the ends of a search over clauses say. No public clause cites this module.
use Rattle.std.specs.Prelude.{◌≡◌, ◌⊎◌, ◌≤◌, ◌+◌, ◌^◌, ℕ, true, false, List, [], length}
use Rattle.tcl_port.specs.Polling.{counted}
use Rattle.tcl_cnf.specs.Literal.{value_at}
use Rattle.tcl_cnf.specs.Clause.{Satisfies}
use Rattle.tcl_cnf.specs.Log.{log_answer}
use Rattle.tcl_cnf.specs.declared.answer.LogAnswer.TheVariants as answer
use Rattle.tcl_lang.specs.Program.{VersionedProgram}
use Rattle.tcl_goals.specs.declared.fact.BitLit.{BitLit}
use Rattle.tcl_goals.specs.declared.fact.Fact.{Fact}
use Rattle.tcl_goals.specs.declared.lemma.Numbered.{Numbered}
use Rattle.tcl_goals.specs.LemmaList.{LemmaList}
use Rattle.tcl_blast.specs.Clauses.{clauses_of}
use Rattle.tcl_kernel.specs.Cited.{proof_of}
use Rattle.tcl_kernel.specs.Shown.{ProofContent}
use Rattle.tcl_worker.specs.declared.search_end.SearchEnd.{SearchEnd}
use Rattle.tcl_worker.specs.declared.search_end.SearchEnd.TheVariants.{Refutes, Model, Spent, Stopped}
use Rattle.tcl_worker.specs.declared.search_end.LemmaEnd.{LemmaEnd}
use Rattle.tcl_worker.specs.declared.search_end.LemmaEnd.TheVariants as lemma_end
use Rattle.tcl_worker.specs.Candidates.{is_known, candidate_fact}
use Rattle.tcl_worker.specs.Lemmas.{HasSpentLog, IsMade, IsPassedOver, IsRefuted, IsVain, MakesNone, candidate_budget}
use Rattle.tcl_worker.specs.Proofs.{ProvesFact}

-- the evidence for an end
abbrev pub IsSearchEnd : List (List ℕ) → ℕ → SearchEnd → Type 0
IsSearchEnd clauses budget (Refutes lines) = log_answer clauses lines ≡ answer.Refutes
IsSearchEnd clauses budget (Model bits) = Satisfies (value_at bits) clauses
IsSearchEnd clauses budget Spent = HasSpentLog clauses budget
IsSearchEnd clauses budget Stopped = Unit {0}

-- the end of a search of a candidate: the kernel's proof of it by a log within the budget, or a search that shows nothing
pub record ProvesCandidate (p : VersionedProgram) (budget : ℕ) (candidate : Fact) (proof : ProofContent) : Type 0 where
  pub refuted : IsRefuted (clauses_of p [] candidate) budget
  pub proof_is : proof ≡ proof_of p [] candidate true

abbrev pub IsCandidateEnd : VersionedProgram → ℕ → Fact → LemmaEnd → Type 0
IsCandidateEnd p budget candidate (lemma_end.Proved proof) = ProvesCandidate p budget candidate proof
IsCandidateEnd p budget candidate lemma_end.Vain = IsVain (clauses_of p [] candidate) budget
IsCandidateEnd p budget candidate lemma_end.Stopped = Unit {0}

-- the end of the trial of a bit: it is proved where it is no lemma of the list, or passed over
pub record ProvesNew (p : VersionedProgram) (budget : ℕ) (lemmas : List Numbered) (fact : Fact) (b : BitLit) (proof : ProofContent) : Type 0 where
  pub new : is_known lemmas b ≡ false
  pub proves : ProvesCandidate p (candidate_budget budget) (candidate_fact fact b) proof

abbrev pub IsTrialEnd : VersionedProgram → ℕ → List Numbered → Fact → BitLit → LemmaEnd → Type 0
IsTrialEnd p budget lemmas fact b (lemma_end.Proved proof) = ProvesNew p budget lemmas fact b proof
IsTrialEnd p budget lemmas fact b lemma_end.Vain = IsPassedOver p budget lemmas fact b
IsTrialEnd p budget lemmas fact b lemma_end.Stopped = Unit {0}

-- the kernel's proof of the lemma that is made
pub record ProvesMade (p : VersionedProgram) (budget : ℕ) (lemmas : LemmaList) (fact : Fact) (proof : ProofContent) : Type 0 where
  pub lemma : Fact
  pub made : IsMade p budget lemmas fact lemma
  pub proof_is : proof ≡ proof_of p [] lemma true

-- the end of the making of a lemma
abbrev pub IsMakingEnd : VersionedProgram → ℕ → LemmaList → Fact → LemmaEnd → Type 0
IsMakingEnd p budget lemmas fact (lemma_end.Proved proof) = ProvesMade p budget lemmas fact proof
IsMakingEnd p budget lemmas fact lemma_end.Vain = MakesNone p budget lemmas fact
IsMakingEnd p budget lemmas fact lemma_end.Stopped = Unit {0}

-- as many derived clauses are handed up, or were derived until the budget was spent
abbrev pub steps_made : ℕ → SearchEnd → ℕ
steps_made budget (Refutes lines) = length lines
steps_made budget Spent = budget
steps_made budget (Model bits) = 0
steps_made budget Stopped = 0

-- the counts of cancellations before and after: one came exactly where the search was stopped
abbrev pub WasStopped : ℕ → ℕ → SearchEnd → Type 0
WasStopped cancels cancels' (Refutes lines) = cancels' ≡ cancels
WasStopped cancels cancels' (Model bits) = cancels' ≡ cancels
WasStopped cancels cancels' Spent = cancels' ≡ cancels
WasStopped cancels cancels' Stopped = cancels' ≡ counted cancels

-- a count of polls did not fall, or stands at its end
abbrev pub NeverFell : ℕ → ℕ → Type 0
NeverFell polls polls' = (polls ≤ polls') ⊎ (2 ^ 64 ≤ polls' + 1)

-- the end of a search of a fact that cites these lemmas: the kernel's proof of it
abbrev pub IsCitingEnd : VersionedProgram → List Numbered → Fact → LemmaEnd → Type 0
IsCitingEnd p lemmas cited (lemma_end.Proved proof) = proof ≡ proof_of p lemmas cited true
IsCitingEnd p lemmas cited lemma_end.Vain = Unit {0}
IsCitingEnd p lemmas cited lemma_end.Stopped = Unit {0}

-- the end of a search by lemmas: a proof of the fact that cites them
abbrev pub IsLemmaEnd : VersionedProgram → List Numbered → Fact → LemmaEnd → Type 0
IsLemmaEnd p lemmas fact (lemma_end.Proved proof) = ProvesFact p lemmas fact proof
IsLemmaEnd p lemmas fact lemma_end.Vain = Unit {0}
IsLemmaEnd p lemmas fact lemma_end.Stopped = Unit {0}

abbrev pub LemmaStopped : ℕ → ℕ → LemmaEnd → Type 0
LemmaStopped cancels cancels' (lemma_end.Proved proof) = cancels' ≡ cancels
LemmaStopped cancels cancels' lemma_end.Vain = cancels' ≡ cancels
LemmaStopped cancels cancels' lemma_end.Stopped = cancels' ≡ counted cancels
