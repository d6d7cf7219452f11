-- What facts and lemmas say of the runs of a versioned program. A variable keeps the word that it gets where it is defined,
-- so bits are read in the store at the end of a run.
use Rattle.std.specs.Prelude.{◌≡◌, ℕ, ◌/◌, ◌%◌, ◌^◌, ◌==◌, ℤ, Bool, true, not, if◌then◌else◌, List, length, Option, Some, None}
use Rattle.std.specs.List.{list_all, list_any}
use Rattle.tcl_lang.specs.declared.ty.Word.{Word}
use Rattle.tcl_lang.specs.Program.{VersionedProgram}
use Rattle.tcl_lang.specs.Store.{word_at, pattern_of}
use Rattle.tcl_lang.specs.Run.{Fits, taken_types}
use Rattle.tcl_lang.specs.Goal.{truth_at, MeetsPrecondition, KeepsAssumptions, MeetsGoals}
use Rattle.tcl_lang.specs.Form.{end_store}
use Rattle.tcl_goals.specs.declared.fact.Hyp.{Hyp}
use Rattle.tcl_goals.specs.declared.fact.Hyp.TheVariants as hyp
use Rattle.tcl_goals.specs.declared.fact.BitLit.{BitLit}
use Rattle.tcl_goals.specs.declared.fact.Claim.{Claim}
use Rattle.tcl_goals.specs.declared.fact.Claim.TheVariants as claim
use Rattle.tcl_goals.specs.declared.fact.Fact.{Fact}
use Rattle.tcl_goals.specs.declared.lemma.Lemma.{Lemma}
use Rattle.tcl_goals.specs.declared.lemma.Numbered.{Numbered}
use Rattle.tcl_goals.specs.Places.{goal_place}
use Rattle.tcl_goals.specs.LemmaList.{lemma_of}

-- what the line of place k states is true in the run from this input, in the store before it
abbrev pub line_holds : VersionedProgram → List ℤ → ℕ → Bool
line_holds p input k = truth_at (length p.variables) p.lines input k

-- the bit of a word, in its two's-complement pattern
abbrev pub bit_of : Word → ℕ → Bool
bit_of w k = pattern_of w.ty.width w.value / 2 ^ k % 2 == 1

-- the bit has its stated value
abbrev pub bit_holds : List Word → BitLit → Bool
bit_holds store b = if b.value then bit_of (word_at store b.var) b.bit else not (bit_of (word_at store b.var) b.bit)

-- one of the bits of a clause, all bits of a cube
abbrev pub clause_holds : List Word → List BitLit → Bool
clause_holds store clause = list_any (bit_holds store) clause

abbrev pub cube_holds : List Word → List BitLit → Bool
cube_holds store cube = list_all (bit_holds store) cube

-- a lemma that is not there says nothing
abbrev pub lemma_holds : List Word → Option Lemma → Bool
lemma_holds store None = true
lemma_holds store (Some m) = clause_holds store m.clause

-- a hypothesis holds in a run
abbrev pub hyp_holds : VersionedProgram → List Numbered → List ℤ → Hyp → Bool
hyp_holds p lemmas input (hyp.Line k) = line_holds p input k
hyp_holds p lemmas input (hyp.Lemma n) = lemma_holds (end_store p input) (lemma_of lemmas n)

-- a claim holds in a run
abbrev pub claim_holds : VersionedProgram → List ℤ → Claim → Bool
claim_holds p input (claim.Goal i) = line_holds p input (goal_place p.lines i)
claim_holds p input (claim.Lemma m) = clause_holds (end_store p input) m.clause

-- the fact holds: in every run in which its hypotheses and its cube hold, its claim holds
unfoldable pub FactHolds : VersionedProgram → List Numbered → Fact → Type 0
FactHolds p lemmas fact =
    (input : List ℤ) → Fits (taken_types p.lines) input →
    list_all (hyp_holds p lemmas input) fact.hyps ≡ true → cube_holds (end_store p input) fact.cube ≡ true →
    claim_holds p input fact.claim ≡ true

-- the run from this input meets all that stands before place k
pub record MeetsBefore (p : VersionedProgram) (input : List ℤ) (k : ℕ) : Type 0 where
  pub fits : Fits (taken_types p.lines) input
  pub precondition : MeetsPrecondition (length p.variables) p.lines input
  pub assumptions : KeepsAssumptions (length p.variables) p.lines input k
  pub goals : MeetsGoals (length p.variables) p.lines input k

-- a lemma is sound: it holds in every run that meets all that stands before the goal of its level
unfoldable pub IsSound : VersionedProgram → Lemma → Type 0
IsSound p m =
    (input : List ℤ) → MeetsBefore p input (goal_place p.lines m.level) →
    clause_holds (end_store p input) m.clause ≡ true

abbrev pub AreSound : VersionedProgram → List Numbered → Type 0
AreSound p lemmas = (n : ℕ) (m : Lemma) → lemma_of lemmas n ≡ Some m → IsSound p m

-- a goal is sound: it holds in every run that meets all that stands before it
abbrev pub IsGoalSound : VersionedProgram → ℕ → Type 0
IsGoalSound p i =
    (input : List ℤ) → MeetsBefore p input (goal_place p.lines i) → line_holds p input (goal_place p.lines i) ≡ true
