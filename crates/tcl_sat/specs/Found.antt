-- What a search answers, and the evidence for each answer.
use Rattle.std.specs.Prelude.{◌≡◌, ℕ, ◌+◌, ◌-◌, ◌*◌, ◌^◌, ◌<◌, ◌≤◌, Bool, true, List, [], ◌∷◌, ◌++◌, length, drop}
use Rattle.tcl_cnf.specs.Literal.{value_at}
use Rattle.tcl_cnf.specs.Clause.{Satisfies}
use Rattle.tcl_cnf.specs.Variables.{variable_count}
use Rattle.tcl_cnf.specs.Log.{LogState, has_empty}
pub use Rattle.tcl_cnf.specs.FreshLogs.{AreFresh, IsLogOf, IsFreshLog}
use Rattle.tcl_port.specs.Polling.{counted}
use Rattle.tcl_sat.specs.declared.found.Found.{Found}
use Rattle.tcl_sat.specs.declared.found.Found.TheVariants.{Refutes, Model, Spent, Stopped}

-- the last clause of the log is derived and empty, and before it there are fewer than `budget` derived clauses, each fresh
pub record IsRefutation (cnf : List (List ℕ)) (budget : ℕ) (log : LogState) : Type 0 where
  pub log_of : IsLogOf cnf log
  pub before : List (List ℕ)
  pub last : log.clauses ≡ before ++ [] ∷ []
  pub fewer : length before < log.given + budget
  pub fresh : AreFresh before log.given
  pub refuted : has_empty (drop log.given log.clauses) ≡ true

-- the log has exactly `budget` derived clauses, each fresh and none empty
abbrev pub IsSpent : List (List ℕ) → ℕ → LogState → Type 0
IsSpent cnf budget log = IsFreshLog cnf budget log

-- one bit for each variable up to the greatest that a clause names, and these bits make each clause true
pub record IsModel (cnf : List (List ℕ)) (bits : List Bool) : Type 0 where
  pub each : length bits ≡ variable_count cnf
  pub meets : Satisfies (value_at bits) cnf

-- the evidence for an answer
abbrev pub IsFound : List (List ℕ) → ℕ → Found → Type 0
IsFound cnf budget (Refutes log) = IsRefutation cnf budget log
IsFound cnf budget (Model bits) = IsModel cnf bits
IsFound cnf budget (Spent log) = IsSpent cnf budget log
IsFound cnf budget Stopped = Unit {0}

-- the answer is no model and no spent budget
abbrev pub IsDecided : Found → Type 0
IsDecided (Refutes log) = Unit {0}
IsDecided (Model bits) = ⊥
IsDecided (Spent log) = ⊥
IsDecided Stopped = Unit {0}

-- the counts of cancellations before and after: one came exactly where the answer is that the search was stopped
abbrev pub IsStopped : ℕ → ℕ → Found → Type 0
IsStopped cancels cancels' (Refutes log) = cancels' ≡ cancels
IsStopped cancels cancels' (Model bits) = cancels' ≡ cancels
IsStopped cancels cancels' (Spent log) = cancels' ≡ cancels
IsStopped cancels cancels' Stopped = cancels' ≡ counted cancels

-- the log has at most `round` derived clauses for each poll, as long as the count of polls did not reach its end
abbrev pub IsBounded : ℕ → ℕ → ℕ → LogState → Type 0
IsBounded round polls polls' log = polls' < 2 ^ 64 - 1 → length log.clauses ≤ log.given + round * (polls' - polls)

-- a log that is handed up is bounded by the polls
abbrev pub IsPolled : ℕ → ℕ → ℕ → Found → Type 0
IsPolled round polls polls' (Refutes log) = IsBounded round polls polls' log
IsPolled round polls polls' (Model bits) = Unit {0}
IsPolled round polls polls' (Spent log) = IsBounded round polls polls' log
IsPolled round polls polls' Stopped = Unit {0}
