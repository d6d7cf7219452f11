-- Logs of chains: what each line derives, and what a checker answers.
use Rattle.std.specs.Prelude.{◌≡◌, ℕ, ◌+◌, ◌≤◌, ◌==◌, Bool, true, false, ◌||◌, Option, Some, None, option_and_then, if◌then◌else◌, List, [], ◌∷◌, ◌++◌, length, take, drop, slice_get}
use Rattle.std.specs.Option.{option_map_or}
use Rattle.std.specs.List.{list_any}
use Rattle.tcl_cnf.specs.Clause.{AreClauses}
use Rattle.tcl_cnf.specs.Resolution.{chain_of}
use Rattle.tcl_cnf.specs.declared.answer.LogAnswer.{LogAnswer}
use Rattle.tcl_cnf.specs.declared.answer.LogAnswer.TheVariants.{BadLine, NoEnd, Refutes}

-- whether the clause is empty
abbrev pub is_empty : List ℕ → Bool
is_empty c = length c == 0

-- whether some clause is empty
abbrev pub has_empty : List (List ℕ) → Bool
has_empty clauses = list_any is_empty clauses

-- the clauses and, behind them, what the lines derive one after another, or none where a line is no chain
unfoldable pub derived : List (List ℕ) → List (List ℕ) → Option (List (List ℕ))
derived clauses [] = Some clauses
derived clauses (line ∷ lines) = option_and_then (λ c. derived (clauses ++ c ∷ []) lines) (chain_of clauses line)

-- the answer to lines from line n on, where `refuted` says whether a line before was empty
unfoldable pub answer_from : ℕ → Bool → List (List ℕ) → List (List ℕ) → LogAnswer
answer_from n refuted clauses [] = if refuted then Refutes else NoEnd
answer_from n refuted clauses (line ∷ lines) = option_map_or (λ c. answer_from (n + 1) (refuted || is_empty c) (clauses ++ c ∷ []) lines) (chain_of clauses line) (BadLine n)

-- the first line that is no chain, or else whether some line derives the empty clause
unfoldable pub log_answer : List (List ℕ) → List (List ℕ) → LogAnswer
log_answer clauses lines = answer_from 0 false clauses lines

-- the lines before this one are chains, and this one is none
pub record IsFirstBadLine (clauses lines : List (List ℕ)) (k : ℕ) : Type 0 where
  pub before : List (List ℕ)
  pub chains : derived clauses (take k lines) ≡ Some before
  pub line : List ℕ
  pub there : slice_get lines k ≡ Some line
  pub bad : chain_of before line ≡ None

-- all lines are chains, and some line derives the empty clause or none does
pub record AreChains (clauses lines : List (List ℕ)) (refuted : Bool) : Type 0 where
  pub all : List (List ℕ)
  pub chains : derived clauses lines ≡ Some all
  pub empty : has_empty (drop (length clauses) all) ≡ refuted

-- what the answer to a log says of its lines
abbrev pub IsAnswer : List (List ℕ) → List (List ℕ) → LogAnswer → Type 0
IsAnswer clauses lines (BadLine k) = IsFirstBadLine clauses lines k
IsAnswer clauses lines NoEnd = AreChains clauses lines false
IsAnswer clauses lines Refutes = AreChains clauses lines true

-- a log: clauses of which the first ones are given, and the chains that derive the others
pub record LogState : Type 0 where
  pub clauses : List (List ℕ)
  pub given : ℕ
  pub lines : List (List ℕ)

-- the lines derive the clauses behind the given ones
pub record IsLog (log : LogState) : Type 0 where
  pub are_clauses : AreClauses log.clauses
  pub derives : derived (take log.given log.clauses) log.lines ≡ Some log.clauses
  pub within : log.given ≤ length log.clauses

-- a clause more, which the line derives, and whether it is empty
pub record AddsClause (old new : List (List ℕ)) (line : List ℕ) (empty : Bool) : Type 0 where
  pub clause : List ℕ
  pub chain : chain_of old line ≡ Some clause
  pub behind : new ≡ old ++ clause ∷ []
  pub is : is_empty clause ≡ empty

-- one line more, and the clause that it derives
pub record AddsLine (old new : LogState) (line : List ℕ) : Type 0 where
  pub clause : List ℕ
  pub chain : chain_of old.clauses line ≡ Some clause
  pub clauses : new.clauses ≡ old.clauses ++ clause ∷ []
  pub given : new.given ≡ old.given
  pub lines : new.lines ≡ old.lines ++ line ∷ []

-- the log with one line more, and the clause that it derives
abbrev pub with_line : LogState → List ℕ → List ℕ → LogState
with_line log line c = record { clauses = log.clauses ++ c ∷ []; given = log.given; lines = log.lines ++ line ∷ [] }
