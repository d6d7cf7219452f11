-- What a search keeps between two conflicts. No public clause cites this file.
use Rattle.std.specs.Prelude.{◌≡◌, ℕ, ◌+◌, ◌-◌, ◌*◌, ◌^◌, ◌<◌, ◌≤◌, ◌⊎◌, Bool, false, None, Some, List, [], ◌∷◌, ◌++◌, length, take, slice_get, slice_index_or}
use Rattle.tcl_cnf.specs.Clause.{has}
use Rattle.tcl_cnf.specs.Propagation.{IsClosed}
use Rattle.tcl_cnf.specs.Log.{LogState}
use Rattle.tcl_trail.specs.declared.entry.Entry.{Entry}
use Rattle.tcl_trail.specs.Assignment.{lits_of, value_in}
use Rattle.tcl_trail.specs.Trail.{TrailState, IsFalseAt, variable_count}
use Rattle.tcl_sat.specs.declared.descent.Descent.{Descent}
use Rattle.tcl_sat.specs.declared.descent.Descent.TheVariants.{Conflict, Valued}
use Rattle.tcl_port.specs.Polling.{counted, Rose}
use Rattle.tcl_sat.specs.declared.solver.Turn.{Turn}
use Rattle.tcl_sat.specs.declared.solver.Turn.TheVariants.{Learnt, Emptied, Met}
use Rattle.tcl_sat.specs.declared.solver.End.{End}
use Rattle.tcl_sat.specs.declared.solver.End.TheVariants.{Refuted, Satisfied, Spent, Stopped}
use Rattle.tcl_sat.specs.Found.{AreFresh, IsLogOf, IsRefutation, IsSpent, IsBounded}

-- before each assumed literal no clause was false or unit
pub record WasQuiet (clauses : List (List ℕ)) (entries : List Entry) : Type 0 where
  pub each : (k : ℕ) (e : Entry) → slice_get entries k ≡ Some e → e.reason ≡ None → IsClosed clauses (take k (lits_of entries))

-- log and trail have the same clauses, of which the derived ones are fresh
pub record IsState (log : LogState) (trail : TrailState) : Type 0 where
  pub agree : log.clauses ≡ trail.clauses
  pub fresh : AreFresh log.clauses log.given
  pub quiet : WasQuiet trail.clauses trail.entries

-- log and trail of a search that begins
pub record IsBegun (cnf : List (List ℕ)) (log : LogState) (trail : TrailState) : Type 0 where
  pub logged : log.clauses ≡ cnf
  pub given : log.given ≡ length log.clauses
  pub kept : trail.clauses ≡ cnf
  pub state : IsState log trail

-- the log has this clause more
pub record AddsOne (old new : LogState) (c : List ℕ) : Type 0 where
  pub given : new.given ≡ old.given
  pub behind : new.clauses ≡ old.clauses ++ c ∷ []

-- one clause more was learnt, and the search may go on
pub record GoesOn (old new : LogState) (trail : TrailState) : Type 0 where
  pub clause : List ℕ
  pub adds : AddsOne old new clause
  pub state : IsState new trail

-- each variable that a clause names has a value
pub record AreValued (trail : TrailState) : Type 0 where
  pub each : (v : ℕ) → v < variable_count trail.clauses → (value_in (lits_of trail.entries) (2 * v) ≡ None → ⊥)

-- propagation has ended at a false clause, or with a value for each variable and no false clause
abbrev pub IsEnd : TrailState → Descent → Type 0
IsEnd trail (Conflict number) = IsFalseAt trail.clauses (lits_of trail.entries) number
IsEnd trail Valued = AreValued trail × IsClosed trail.clauses (lits_of trail.entries)

-- what going down to the next conflict did
abbrev pub IsTurn : LogState → LogState → TrailState → Turn → Type 0
IsTurn old new trail Learnt = GoesOn old new trail
IsTurn old new trail Emptied = AddsOne old new []
IsTurn old new trail Met = (new ≡ old) × (old.clauses ≡ trail.clauses) × IsEnd trail Valued

-- the search has met values for all variables, at which no clause of the formula is false
pub record IsFull (cnf : List (List ℕ)) (trail : TrailState) : Type 0 where
  pub formula : take (length cnf) trail.clauses ≡ cnf
  pub valued : AreValued trail
  pub closed : IsClosed trail.clauses (lits_of trail.entries)

-- what the rounds of a search on a formula end with
abbrev pub IsRunEnd : List (List ℕ) → ℕ → LogState → TrailState → End → Type 0
IsRunEnd cnf budget log trail Refuted = IsRefutation cnf budget log
IsRunEnd cnf budget log trail Satisfied = IsFull cnf trail
IsRunEnd cnf budget log trail Spent = IsSpent cnf budget log
IsRunEnd cnf budget log trail Stopped = Unit {0}

-- a cancellation came exactly where the rounds were stopped
abbrev pub IsRunStopped : ℕ → ℕ → End → Type 0
IsRunStopped cancels cancels' Refuted = cancels' ≡ cancels
IsRunStopped cancels cancels' Satisfied = cancels' ≡ cancels
IsRunStopped cancels cancels' Spent = cancels' ≡ cancels
IsRunStopped cancels cancels' Stopped = cancels' ≡ counted cancels

-- a log that is handed up is bounded by the polls
abbrev pub IsRunBounded : ℕ → ℕ → ℕ → LogState → End → Type 0
IsRunBounded round polls polls' log Refuted = IsBounded round polls polls' log
IsRunBounded round polls polls' log Satisfied = Unit {0}
IsRunBounded round polls polls' log Spent = IsBounded round polls polls' log
IsRunBounded round polls polls' log Stopped = Unit {0}

-- where the rounds are: how many clauses were learnt, and how many more may be before the next poll
pub record IsRunning (cnf : List (List ℕ)) (log : LogState) (trail : TrailState) (learnt left round polls polls' cancels cancels' : ℕ) : Type 0 where
  pub state : IsState log trail
  pub log_of : IsLogOf cnf log
  pub count : length log.clauses ≡ log.given + learnt
  pub asked : 0 < learnt + left → Rose polls polls'
  pub risen : (polls' ≡ polls) ⊎ Rose polls polls'
  pub bounded : polls' < 2 ^ 64 - 1 → (polls ≤ polls') × (learnt + left ≤ round * (polls' - polls))
  pub same : cancels' ≡ cancels

-- the bits are the values of the first variables
pub record AreRead (trues : List ℕ) (variables : ℕ) (bits : List Bool) : Type 0 where
  pub each : length bits ≡ variables
  pub read : (v : ℕ) → v < variables → slice_index_or bits v false ≡ has (2 * v) trues
