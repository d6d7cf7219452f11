-- Laws that tie facts to the correctness of a program.
use Rattle.std.specs.Prelude.{◌≡◌, ◌<◌, ℕ, ℤ, true, List, [], ◌++◌, length, slice_get, Some}
use Rattle.tcl_lang.specs.Program.{VersionedProgram}
use Rattle.tcl_lang.specs.Run.{Fits, taken_types}
use Rattle.tcl_lang.specs.Form.{IsWellFormed, end_store}
use Rattle.tcl_lang.specs.Values.{words_of, trace_of, truth_of}
use Rattle.tcl_lang.specs.Goal.{goal_count}
use Rattle.tcl_lang.specs.Correct.{IsCorrect, IsCounterexample}
use Rattle.tcl_goals.specs.declared.fact.Claim.{Claim}
use Rattle.tcl_goals.specs.declared.fact.Claim.TheVariants as claim
use Rattle.tcl_goals.specs.declared.fact.Fact.{Fact}
use Rattle.tcl_goals.specs.declared.lemma.Lemma.{Lemma}
use Rattle.tcl_goals.specs.declared.lemma.Numbered.{Numbered}
use Rattle.tcl_goals.specs.declared.piece.Piece.{Piece}
use Rattle.tcl_goals.specs.Places.{goal_place}
use Rattle.tcl_goals.specs.LemmaList.{Extends}
use Rattle.tcl_goals.specs.Order.{InOrder}
use Rattle.tcl_goals.specs.Holds.{FactHolds, MeetsBefore, IsSound, AreSound, IsGoalSound, line_holds, cube_holds}
use Rattle.tcl_goals.specs.Assignments.{Assigns, HoldsOfAll}
use Rattle.tcl_goals.specs.Plans.{IsPiece, plan_of, piece_fact}

-- the fact shows the claim: its cube is empty, it is in order, and it holds
pub record Shows (p : VersionedProgram) (lemmas : List Numbered) (c : Claim) (fact : Fact) : Type 0 where
  pub claim : fact.claim ≡ c
  pub cube : fact.cube ≡ []
  pub order : InOrder p lemmas fact
  pub holds : FactHolds p lemmas fact

-- where each goal has such a fact, under sound lemmas, the program is correct
abbrev pub FactsGiveCorrectness : Type 0
FactsGiveCorrectness =
    (p : VersionedProgram) (lemmas : List Numbered) → AreSound p lemmas →
    ((i : ℕ) → i < goal_count p.lines → (fact : Fact) × Shows p lemmas (claim.Goal i) fact) →
    IsCorrect (length p.variables) p.lines

-- a lemma that has such a fact, under sound lemmas, is sound
abbrev pub LemmaFactsAreSound : Type 0
LemmaFactsAreSound =
    (p : VersionedProgram) (lemmas : List Numbered) (m : Lemma) (fact : Fact) → AreSound p lemmas →
    Shows p lemmas (claim.Lemma m) fact → IsSound p m

-- a fact of a goal, under sound lemmas, gives the goal in the runs in which its cube holds
abbrev pub PieceFactsHold : Type 0
PieceFactsHold =
    (p : VersionedProgram) (lemmas : List Numbered) (i : ℕ) (fact : Fact) (input : List ℤ) → AreSound p lemmas →
    fact.claim ≡ claim.Goal i → InOrder p lemmas fact → FactHolds p lemmas fact →
    MeetsBefore p input (goal_place p.lines i) → cube_holds (end_store p input) fact.cube ≡ true →
    line_holds p input (goal_place p.lines i) ≡ true

-- no input refutes a sound goal
abbrev pub SoundGoalsUnbroken : Type 0
SoundGoalsUnbroken =
    (p : VersionedProgram) (i : ℕ) (input : List ℤ) → IsGoalSound p i →
    IsCounterexample (length p.variables) p.lines input i → ⊥

-- a run assigns: its trace is an assignment of every fact, whose words are the store at its end, and in which each line says
-- what it says in the run
pub record IsAssigned (p : VersionedProgram) (fact : Fact) (input : List ℤ) : Type 0 where
  pub assigns : Assigns p fact (trace_of p input)
  pub store : words_of p.variables (trace_of p input) ≡ end_store p input
  pub lines : (k : ℕ) → truth_of p (trace_of p input) k ≡ line_holds p input k

abbrev pub RunsAssign : Type 0
RunsAssign =
    (p : VersionedProgram) (fact : Fact) (input : List ℤ) → IsWellFormed p → Fits (taken_types p.lines) input →
    IsAssigned p fact input

-- so a fact holds where its claim holds in every assignment
abbrev pub AssignmentsDecide : Type 0
AssignmentsDecide =
    (p : VersionedProgram) (lemmas : List Numbered) (fact : Fact) → IsWellFormed p → HoldsOfAll p lemmas fact →
    FactHolds p lemmas fact

-- a longer list of lemmas keeps the order of a fact and its truth
abbrev pub LongerListsKeepOrder : Type 0
LongerListsKeepOrder =
    (p : VersionedProgram) (old new : List Numbered) (fact : Fact) → Extends old new → InOrder p old fact → InOrder p new fact

abbrev pub LongerListsKeepTruth : Type 0
LongerListsKeepTruth =
    (p : VersionedProgram) (old new : List Numbered) (fact : Fact) → Extends old new → InOrder p old fact →
    FactHolds p old fact → FactHolds p new fact

-- a list to which lemmas were appended is longer
abbrev pub AppendedExtends : Type 0
AppendedExtends = (old more : List Numbered) → Extends old (old ++ more)

-- the pieces of a plan are pieces, and the fact of a piece is in order, whatever the lemmas
abbrev pub PlansHavePieces : Type 0
PlansHavePieces =
    (p : VersionedProgram) (split n : ℕ) (q : Piece) → slice_get (plan_of p split) n ≡ Some q → IsPiece p q

abbrev pub PieceFactsAreInOrder : Type 0
PieceFactsAreInOrder =
    (p : VersionedProgram) (lemmas : List Numbered) (q : Piece) → IsWellFormed p → IsPiece p q →
    InOrder p lemmas (piece_fact p q)
