-- The analysis of a conflict: clauses that chains of resolutions derive from the false clause, up to one with a single
-- literal of the last level (the first unique implication point: Marques-Silva, Sakallah, IEEE Trans. Computers 48, 1999).
-- No public clause cites this file.
use Rattle.std.specs.Prelude.{◌≡◌, ℕ, zero, suc, ◌+◌, ◌<◌, true, false, if◌then◌else◌, nat_lt, Some, None, List, [], ◌∷◌, length, take, slice_get}
use Rattle.tcl_cnf.specs.Literal.{neg}
use Rattle.tcl_cnf.specs.Clause.{has, without, IsClause}
use Rattle.tcl_cnf.specs.Resolution.{chain_of}
use Rattle.tcl_cnf.specs.Propagation.{is_false}
use Rattle.tcl_trail.specs.declared.entry.Entry.{Entry}
use Rattle.tcl_trail.specs.Assignment.{lits_of, level_of}
use Rattle.tcl_sat.specs.declared.turned.Turned.{Turned}
use Rattle.tcl_sat.specs.declared.turned.Turned.TheVariants.{Point, Further}

-- the place of the last assumed literal
pub record IsFloor (entries : List Entry) (floor : ℕ) : Type 0 where
  pub below : floor < length entries
  pub assumed : (e : Entry) → slice_get entries floor ≡ Some e → e.reason ≡ None
  pub last : (k : ℕ) (e : Entry) → slice_get entries k ≡ Some e → floor < k → (e.reason ≡ None → ⊥)

-- the literals that are true before this place are those of a level below this one
pub record TellsFront (entries : List Entry) (floor level : ℕ) : Type 0 where
  pub each : (l : ℕ) → has l (take floor (lits_of entries)) ≡ nat_lt (level_of l entries) level

-- no literal is assumed
pub record AreGiven (entries : List Entry) : Type 0 where
  pub each : (k : ℕ) (e : Entry) → slice_get entries k ≡ Some e → (e.reason ≡ None → ⊥)

-- a chain of clause numbers, and the clause that it is to derive
pub record DerivationState : Type 0 where
  pub chain : List ℕ
  pub clause : List ℕ

-- 1 for a literal that is not false where these literals are true, and 0 for one that is
abbrev pub open_one : List ℕ → ℕ → ℕ
open_one trues l = if has (neg l) trues then 0 else 1

-- how many literals of the clause are not false where these literals are true
unfoldable pub open_count : List ℕ → List ℕ → ℕ
open_count trues [] = 0
open_count trues (l ∷ c) = open_one trues l + open_count trues c

-- the chain derives the clause, which is false under the literals before this place
pub record IsDerived (clauses : List (List ℕ)) (entries : List Entry) (d : DerivationState) (place : ℕ) : Type 0 where
  pub made : chain_of clauses d.chain ≡ Some d.clause
  pub is : IsClause d.clause
  pub before : is_false (take place (lits_of entries)) d.clause ≡ true

-- such a clause that is not false below the floor
pub record IsPresent (clauses : List (List ℕ)) (entries : List Entry) (d : DerivationState) (floor place : ℕ) : Type 0 where
  pub derived : IsDerived clauses entries d place
  pub above : is_false (take floor (lits_of entries)) d.clause ≡ false

-- such a clause of which all literals but one are false below the floor
pub record IsPoint (clauses : List (List ℕ)) (entries : List Entry) (d : DerivationState) (floor point : ℕ) : Type 0 where
  pub derived : IsDerived clauses entries d (length entries)
  pub in_it : has point d.clause ≡ true
  pub clear : has (neg point) (take floor (lits_of entries)) ≡ false
  pub others : is_false (take floor (lits_of entries)) (without point d.clause) ≡ true

-- what a look at this place of the trail gives: the point, or a clause that is false before it, with the count of its
-- literals that are not false below the floor
abbrev pub IsTurned : List (List ℕ) → List Entry → DerivationState → ℕ → ℕ → Turned → Type 0
IsTurned clauses entries d floor place (Point point) = IsPoint clauses entries d floor point
IsTurned clauses entries d floor place (Further count) =
    IsPresent clauses entries d floor place × (count ≡ open_count (take floor (lits_of entries)) d.clause)

-- the clause has another literal of exactly this level, or the level is 0
abbrev pub IsJump : List Entry → List ℕ → ℕ → ℕ → Type 0
IsJump entries c u zero = Unit {0}
IsJump entries c u (suc level) = (m : ℕ) × (has m c ≡ true) × (m ≡ u → ⊥) × (level_of (neg m) entries ≡ suc level)
