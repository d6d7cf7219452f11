-- Unit propagation, and the clauses that it cannot replace: 1-empowering clauses (Pipatsrisawat, Darwiche, AIJ 2011),
-- not absorbed ones (Atserias, Fichte, Thurley, JAIR 2011).
use Rattle.std.specs.Prelude.{◌≡◌, ℕ, Bool, true, false, Some, List, slice_get}
use Rattle.std.specs.List.{list_all}
use Rattle.tcl_cnf.specs.Literal.{neg}
use Rattle.tcl_cnf.specs.Clause.{has, without}

-- the literals that unit propagation gives from the literals of the start: those, and each literal of a clause whose
-- other literals have a given negation
pub data IsGiven (clauses : List (List ℕ)) (start : ℕ → Type 0) : ℕ → Type 0 where
  given : {l : ℕ} → start l → IsGiven clauses start l
  unit : {l : ℕ} → (k : ℕ) (c : List ℕ) → slice_get clauses k ≡ Some c → has l c ≡ true
      → ((m : ℕ) → has m c ≡ true → (m ≡ l → ⊥) → IsGiven clauses start (neg m)) → IsGiven clauses start l

-- unit propagation from the start meets a clause with only false literals
pub record MeetsFalse (clauses : List (List ℕ)) (start : ℕ → Type 0) : Type 0 where
  pub number : ℕ
  pub clause : List ℕ
  pub there : slice_get clauses number ≡ Some clause
  pub false_there : (m : ℕ) → has m clause ≡ true → IsGiven clauses start (neg m)

-- unit propagation alone, from nothing, meets a clause with only false literals
abbrev pub ConflictsAtOnce : List (List ℕ) → Type 0
ConflictsAtOnce clauses = MeetsFalse clauses (λ _. ⊥)

-- the negations of the clause's literals but one
abbrev pub NegatedBut : ℕ → List ℕ → ℕ → Type 0
NegatedBut l c n = (m : ℕ) × (has m c ≡ true) × (m ≡ l → ⊥) × (n ≡ neg m)

-- the clause has a literal that unit propagation from the negations of the others does not give, and that propagation
-- meets no false clause
pub record IsFresh (clauses : List (List ℕ)) (c : List ℕ) : Type 0 where
  pub literal : ℕ
  pub in_it : has literal c ≡ true
  pub no_false : MeetsFalse clauses (NegatedBut literal c) → ⊥
  pub not_given : IsGiven clauses (NegatedBut literal c) literal → ⊥

-- whether each literal of the clause is false where these literals are true
abbrev pub is_false : List ℕ → List ℕ → Bool
is_false trues c = list_all (λ l. has (neg l) trues) c

-- the clause is neither false nor unit where these literals are true: where all its literals but one are false, that
-- one is true
abbrev pub IsQuiet : List ℕ → List ℕ → Type 0
IsQuiet trues c = (is_false trues c ≡ false) × ((l : ℕ) → has l c ≡ true → is_false trues (without l c) ≡ true → has l trues ≡ true)

-- no clause is false or unit where these literals are true
abbrev pub IsClosed : List (List ℕ) → List ℕ → Type 0
IsClosed clauses trues = (k : ℕ) (c : List ℕ) → slice_get clauses k ≡ Some c → IsQuiet trues c
