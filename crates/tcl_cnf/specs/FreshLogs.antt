-- Logs that derive fresh clauses alone.
use Rattle.std.specs.Prelude.{◌≡◌, ℕ, ◌+◌, ◌≤◌, false, Some, List, length, take, drop, slice_get}
use Rattle.tcl_cnf.specs.Propagation.{IsFresh}
use Rattle.tcl_cnf.specs.Log.{LogState, derived, has_empty}

-- each clause from number `given` on is fresh among those before it
pub record AreFresh (clauses : List (List ℕ)) (given : ℕ) : Type 0 where
  pub each : (k : ℕ) (c : List ℕ) → given ≤ k → slice_get clauses k ≡ Some c → IsFresh (take k clauses) c

-- the log derives clauses from this formula
pub record IsLogOf (cnf : List (List ℕ)) (log : LogState) : Type 0 where
  pub given : log.given ≡ length cnf
  pub formula : take log.given log.clauses ≡ cnf

-- the log has exactly n derived clauses, each fresh and none empty
pub record IsFreshLog (cnf : List (List ℕ)) (n : ℕ) (log : LogState) : Type 0 where
  pub log_of : IsLogOf cnf log
  pub whole : length log.clauses ≡ log.given + n
  pub fresh : AreFresh log.clauses log.given
  pub none_empty : has_empty (drop log.given log.clauses) ≡ false

-- the lines derive exactly n clauses from this formula, each fresh and none empty
pub record DeriveFresh (cnf : List (List ℕ)) (n : ℕ) (lines : List (List ℕ)) : Type 0 where
  pub all : List (List ℕ)
  pub chains : derived cnf lines ≡ Some all
  pub whole : length all ≡ length cnf + n
  pub fresh : AreFresh all (length cnf)
  pub none_empty : has_empty (drop (length cnf) all) ≡ false
