-- Two watched literals a clause (Moskewicz, Madigan, Zhao, Zhang, Malik, DAC 2001). No public clause cites this file.
use Rattle.std.specs.Prelude.{◌≡◌, ℕ, ◌+◌, ◌*◌, ◌<◌, ◌≤◌, ◌^◌, Bool, true, false, Option, Some, None, List, [], ◌∷◌, ◌++◌, length, take, slice_get, slice_set, slice_index_or, swap_remove, map, ◌⊎◌}
use Rattle.tcl_cnf.specs.Literal.{neg}
use Rattle.tcl_cnf.specs.Clause.{has, without, AreClauses}
use Rattle.tcl_cnf.specs.Propagation.{is_false, IsClosed}
use Rattle.tcl_trail.specs.declared.entry.Entry.{Entry}
use Rattle.tcl_trail.specs.declared.pair.Pair.{Pair}
use Rattle.tcl_trail.specs.declared.pair.Watch.{Watch}
use Rattle.tcl_trail.specs.Assignment.{lits_of}
use Rattle.tcl_trail.specs.Trail.{IsTrail, variable_count}
use Rattle.tcl_trail.specs.Assigned.{AssignedState}

-- the clauses that watch each literal; the watched literals of each clause; the clauses that are not watched; how many
-- entries were seen by all who watch their negations
pub record WatchState : Type 0 where
  pub lists : List (List Watch)
  pub pairs : List Pair
  pub shorts : List ℕ
  pub head : ℕ

abbrev pub watches : List (List Watch) → ℕ → List Watch
watches lists l = slice_index_or lists l []

abbrev pub numbers_of : List Watch → List ℕ
numbers_of ws = map (λ w. w.number) ws

abbrev pub listed : List (List Watch) → ℕ → List ℕ
listed lists l = numbers_of (watches lists l)

-- each is one of the old ones
pub record AreOf (old new : List Watch) : Type 0 where
  pub each : (j : ℕ) (w : Watch) → slice_get new j ≡ Some w → (k : ℕ) × (slice_get old k ≡ Some w)

-- one was taken out at this place, and the last put there
pub record IsTakenAt (old new : List Watch) (i : ℕ) : Type 0 where
  pub numbers : numbers_of new ≡ swap_remove (numbers_of old) i 0
  pub are_of : AreOf old new

-- all lists are as long as they were, and have the same numbers
pub record SameLists (old new : List (List Watch)) : Type 0 where
  pub at_each : (l : ℕ) → watches new l ≡ watches old l

-- all lists have the numbers that they had, and perhaps more
pub record MoreLists (old new : List (List Watch)) (a b : Watch) : Type 0 where
  pub kept : (l k : ℕ) → has k (listed old l) ≡ true → has k (listed new l) ≡ true
  pub long : length new ≡ length old
  pub each : (l j : ℕ) (w : Watch) → slice_get (watches new l) j ≡ Some w → ((k : ℕ) × (slice_get (watches old l) k ≡ Some w)) ⊎ ((w ≡ a) ⊎ (w ≡ b))

-- a watch was taken out of one list
pub record IsTaken (old new : List (List Watch)) (from i : ℕ) : Type 0 where
  pub there : IsTakenAt (watches old from) (watches new from) i
  pub others : (l : ℕ) → (l ≡ from → ⊥) → watches new l ≡ watches old l

-- the number was taken out at this place of one list, and put into another one
pub record IsShifted (old new : List (List Watch)) (from i number to : ℕ) (new_watch : Watch) : Type 0 where
  pub each : (l j : ℕ) (w : Watch) → slice_get (watches new l) j ≡ Some w → ((k : ℕ) × (slice_get (watches old l) k ≡ Some w)) ⊎ (w ≡ new_watch)
  pub kept : (l k : ℕ) → has k (listed old l) ≡ true → (k ≡ number → ⊥) → has k (listed new l) ≡ true
  pub others : (l : ℕ) → (l ≡ from → ⊥) → has number (listed old l) ≡ true → has number (listed new l) ≡ true
  pub got : has number (listed new to) ≡ true
  pub front : (j : ℕ) → j < i → slice_get (listed new from) j ≡ slice_get (listed old from) j
  pub shorter : length (listed new from) + 1 ≡ length (listed old from)

-- the same with the new watched literals of that clause
pub record IsRewatched (old new : WatchState) (from i number to : ℕ) (pair : Pair) : Type 0 where
  pub shifted : IsShifted old.lists new.lists from i number to (record { number = number; blocker = pair.second })
  pub pairs : new.pairs ≡ slice_set old.pairs number pair
  pub shorts : new.shorts ≡ old.shorts
  pub head : new.head ≡ old.head

-- all lists have the numbers that they had; one watch may have become this one
pub record IsReblocked (old new : List (List Watch)) (v : Watch) : Type 0 where
  pub numbers : (l : ℕ) → listed new l ≡ listed old l
  pub each : (l j : ℕ) (w : Watch) → slice_get (watches new l) j ≡ Some w → (slice_get (watches old l) j ≡ Some w) ⊎ (w ≡ v)

-- no entry, or an assumed one, stands behind so many entries
pub record IsCut (es : List Entry) (n : ℕ) : Type 0 where
  pub within : n ≤ length es
  pub next : (e : Entry) → slice_get es n ≡ Some e → e.reason ≡ None

pub record HasTrue (trues c : List ℕ) : Type 0 where
  pub lit : ℕ
  pub in_it : has lit c ≡ true
  pub holds : has lit trues ≡ true

-- where the literal is false by one of the first entries, the clause has a true literal, and keeps it as long as that one
pub record IsSeen (es : List Entry) (head : ℕ) (c : List ℕ) (l : ℕ) : Type 0 where
  pub at_cut : (n : ℕ) → IsCut es n → has (neg l) (take n (lits_of es)) ≡ true → has (neg l) (take head (lits_of es)) ≡ true → HasTrue (take n (lits_of es)) c

pub record BothSeen (es : List Entry) (head : ℕ) (c : List ℕ) (p : Pair) : Type 0 where
  pub first : IsSeen es head c p.first
  pub second : IsSeen es head c p.second

-- two literals of the clause are watched, and it stands in the list of each
pub record IsPaired (lists : List (List Watch)) (k : ℕ) (c : List ℕ) (p : Pair) : Type 0 where
  pub first_in : has p.first c ≡ true
  pub second_in : has p.second c ≡ true
  pub apart : p.first ≡ p.second → ⊥
  pub first_listed : has k (listed lists p.first) ≡ true
  pub second_listed : has k (listed lists p.second) ≡ true

-- each clause is watched, or is among those that are not
pub record AreWatched (clauses : List (List ℕ)) (w : WatchState) : Type 0 where
  pub paired : (k : ℕ) (c : List ℕ) (p : Pair) → slice_get clauses k ≡ Some c → has k w.shorts ≡ false → slice_get w.pairs k ≡ Some p → IsPaired w.lists k c p
  pub single : (k : ℕ) (p : Pair) → has k w.shorts ≡ true → slice_get w.pairs k ≡ Some p → p.first ≡ p.second
  pub below : (k : ℕ) → has k w.shorts ≡ true → k < length clauses
  pub counted : length w.pairs ≡ length clauses

-- what each watched clause has seen
pub record AreSeen (clauses : List (List ℕ)) (w : WatchState) (es : List Entry) (head : ℕ) : Type 0 where
  pub each : (k : ℕ) (c : List ℕ) (p : Pair) → slice_get clauses k ≡ Some c → has k w.shorts ≡ false → slice_get w.pairs k ≡ Some p → BothSeen es head c p

-- each watch is of a clause that has its other literal
pub record AreBlocked (clauses : List (List ℕ)) (lists : List (List Watch)) : Type 0 where
  pub below : (l j : ℕ) (w : Watch) → slice_get (watches lists l) j ≡ Some w → w.number < length clauses
  pub in_it : (l j : ℕ) (w : Watch) (c : List ℕ) → slice_get (watches lists l) j ≡ Some w → slice_get clauses w.number ≡ Some c → has w.blocker c ≡ true

-- what the watches keep beside clauses and entries
pub record IsWatching (clauses : List (List ℕ)) (es : List Entry) (w : WatchState) : Type 0 where
  pub watched : AreWatched clauses w
  pub seen : AreSeen clauses w es w.head
  pub within : w.head ≤ length es
  pub blocked : AreBlocked clauses w.lists

-- what the true literals keep beside clauses
pub record IsHeld (clauses : List (List ℕ)) (a : AssignedState) : Type 0 where
  pub trail : IsTrail clauses a.entries
  pub are_clauses : AreClauses clauses
  pub counted : variable_count clauses ≤ a.variables
  pub narrow : a.variables ≤ 2 ^ 31
  pub few : length clauses < 2 ^ 32

-- no entry behind this one is assumed
pub record IsLastLevel (es : List Entry) (head : ℕ) : Type 0 where
  pub reasons : (k : ℕ) (e : Entry) → head < k → slice_get es k ≡ Some e → e.reason ≡ None → ⊥

-- the entry that is next to be seen makes this literal false
pub record IsNext (es : List Entry) (head l : ℕ) : Type 0 where
  pub there : slice_get (lits_of es) head ≡ Some (neg l)
  pub last : IsLastLevel es head

-- the clauses of the literal's list before this place have seen one entry more
pub record AreVisited (clauses : List (List ℕ)) (w : WatchState) (es : List Entry) (l i : ℕ) : Type 0 where
  pub each : (j k : ℕ) (c : List ℕ) (p : Pair) → j < i → slice_get (listed w.lists l) j ≡ Some k → slice_get clauses k ≡ Some c → has k w.shorts ≡ false → slice_get w.pairs k ≡ Some p → BothSeen es (w.head + 1) c p

-- the literal is one of the clause, another one than this, and not false
pub record IsFree (trues c : List ℕ) (other l : ℕ) : Type 0 where
  pub in_it : has l c ≡ true
  pub apart : l ≡ other → ⊥
  pub clear : has (neg l) trues ≡ false

-- the literals of the clause from one place up to another are false, but for this one
pub record AreFalseBetween (trues c : List ℕ) (other from to : ℕ) : Type 0 where
  pub each : (k l : ℕ) → from ≤ k → k < to → slice_get c k ≡ Some l → (l ≡ other → ⊥) → has (neg l) trues ≡ true

-- two literals of the clause that are not false by so many entries
pub record IsChosen (trues c : List ℕ) (p : Pair) (limit : ℕ) : Type 0 where
  pub first_in : has p.first c ≡ true
  pub second_in : has p.second c ≡ true
  pub apart : p.first ≡ p.second → ⊥
  pub first_clear : has (neg p.first) (take limit trues) ≡ false
  pub second_clear : has (neg p.second) (take limit trues) ≡ false

-- what a trail keeps
pub record IsKept (clauses : List (List ℕ)) (a : AssignedState) (w : WatchState) (variables : ℕ) : Type 0 where
  pub held : IsHeld clauses a
  pub watching : IsWatching clauses a.entries w
  pub counted : variables ≡ variable_count clauses
