-- Laws that tie the definitions to one another.
use Rattle.std.specs.Prelude.{◌≡◌, ◌≢◌, ◌↔◌, ℕ, ◌+◌, ℤ, pos, true, false, List, length, All, slice_get, slice_index_or, Option, Some}
use Rattle.tcl_lang.specs.declared.ty.Ty.{Ty}
use Rattle.tcl_lang.specs.declared.ty.Word.{Word}
use Rattle.tcl_lang.specs.declared.instr.Op.{Op}
use Rattle.tcl_lang.specs.declared.term.Term.{Term}
use Rattle.tcl_lang.specs.declared.term.Part.{Part}
use Rattle.tcl_lang.specs.declared.pred.Line.{Line}
use Rattle.tcl_lang.specs.declared.pred.Line.TheVariants.{Input, Step}
use Rattle.tcl_lang.specs.declared.instr.Instr.{Instr}
use Rattle.tcl_lang.specs.declared.outcome.Truth.TheVariants.{Yes, No, Wide}
use Rattle.tcl_lang.specs.Types.{IsTy, IsWrap, InType, wrap_of}
use Rattle.tcl_lang.specs.Store.{word_at}
use Rattle.tcl_lang.specs.Instruction.{Executes}
use Rattle.tcl_lang.specs.Results.{results_of}
use Rattle.tcl_lang.specs.Term.{power_of}
use Rattle.tcl_lang.specs.Predicate.{Agrees, agrees}
use Rattle.tcl_lang.specs.Run.{Fits, taken_types, taken_before, store_at}
use Rattle.tcl_lang.specs.Typing.{IsWellTyped, type_at, types_at}
use Rattle.tcl_lang.specs.Shape.{HasShape}
use Rattle.tcl_lang.specs.Correct.{IsCorrect, IsCounterexample}
use Rattle.tcl_lang.specs.Checked.{IsCheckedCounterexample}
use Rattle.tcl_lang.specs.Operands.{IsExecutable}
use Rattle.tcl_lang.specs.Execution.{HoldsValues, IsRunnable}
use Rattle.tcl_lang.specs.Names.{defined_names, used_names}
use Rattle.tcl_lang.specs.Line.{line_truth}
use Rattle.tcl_lang.specs.Truth.{line_computed}
use Rattle.tcl_lang.specs.Bound.{type_among}
use Rattle.tcl_lang.specs.Narrow.{is_narrow}
use Rattle.tcl_lang.specs.Defined.{is_among}
use Rattle.tcl_lang.specs.Steps.{FollowsRow}

-- the wrapped value is the one value of the type that is congruent to the integer
abbrev pub OneWrap : Type 0
OneWrap = (T : Ty) (n v : ℤ) → IsTy T → IsWrap T n v ↔ (v ≡ wrap_of T n)

-- the row of an instruction holds of the computed results, and of no others
abbrev pub RowsAgree : Type 0
RowsAgree =
    (op : Op) (T : Ty) (n : ℕ) (operands results : List ℤ) → IsExecutable op T n operands →
    Executes op T n operands results ↔ (results ≡ results_of op T n operands)

-- the test of an algebraic predicate says whether the equation or the congruence holds
abbrev pub TestsAgree : Type 0
TestsAgree =
    (store : List Word) (f g : Term) (m : Option (List Part)) → (agrees store f g m ≡ true) ↔ Agrees store f g m

-- a power 0 is 1, also of 0
abbrev pub PowerZeroIsOne : Type 0
PowerZeroIsOne = (n : ℤ) → power_of n 0 ≡ pos 1

-- a well typed program of the right shape can be run
abbrev pub WellTypedRuns : Type 0
WellTypedRuns =
    (names : List (List ℕ)) (lines : List Line) → HasShape names lines → IsWellTyped (length names) lines →
    IsRunnable (length names) lines

-- in a run from a fitting input a name that has a type before line k holds a value of that type there
abbrev pub RunsAreTyped : Type 0
RunsAreTyped =
    (names : ℕ) (lines : List Line) (input : List ℤ) (k name : ℕ) (T : Ty) → IsRunnable names lines →
    Fits (taken_types lines) input → type_at (types_at names lines k) name ≡ Some T →
    ((word_at (store_at names lines input k) name).ty ≡ T) × InType T (word_at (store_at names lines input k) name).value

-- a checked counterexample is a counterexample
abbrev pub CheckedRefutes : Type 0
CheckedRefutes =
    (names : ℕ) (lines : List Line) (input : List ℤ) (i : ℕ) → IsRunnable names lines →
    IsCheckedCounterexample names lines input i → IsCounterexample names lines input i

-- a program is correct exactly where it has no counterexample
abbrev pub CorrectMeansNoCounterexample : Type 0
CorrectMeansNoCounterexample =
    (names : ℕ) (lines : List Line) →
    IsCorrect names lines ↔ ((input : List ℤ) (i : ℕ) → IsCounterexample names lines input i → ⊥)

-- an input refutes one goal at most
abbrev pub OneGoalRefuted : Type 0
OneGoalRefuted =
    (names : ℕ) (lines : List Line) (input : List ℤ) (i j : ℕ) → IsCounterexample names lines input i →
    IsCounterexample names lines input j → i ≡ j

-- an instruction of a run follows its row, with the value that it takes, and changes no other name
abbrev pub RunsFollowRows : Type 0
RunsFollowRows =
    (names : ℕ) (lines : List Line) (input : List ℤ) (k : ℕ) (i : Instr) → IsRunnable names lines →
    Fits (taken_types lines) input → slice_get lines k ≡ Some (Step i) →
    FollowsRow (store_at names lines input k) (store_at names lines input (k + 1)) i
    (slice_index_or input (taken_before lines k) (pos 0))

-- an `in` line of a run gives its name the value that it takes
abbrev pub RunsTakeInputs : Type 0
RunsTakeInputs =
    (names : ℕ) (lines : List Line) (input : List ℤ) (k : ℕ) (T : Ty) (name : ℕ) → IsRunnable names lines →
    Fits (taken_types lines) input → slice_get lines k ≡ Some (Input T name) →
    word_at (store_at names lines input (k + 1)) name
    ≡ record { ty = T; value = slice_index_or input (taken_before lines k) (pos 0) }

-- a line of a run changes no name but those that it defines
abbrev pub RunsKeepOthers : Type 0
RunsKeepOthers =
    (names : ℕ) (lines : List Line) (input : List ℤ) (k name : ℕ) (l : Line) → slice_get lines k ≡ Some l →
    is_among (defined_names l) name ≡ false →
    word_at (store_at names lines input (k + 1)) name ≡ word_at (store_at names lines input k) name

-- stores that agree on the names that a line reads give it the same truth, and the same computed truth
abbrev pub TruthIsLocal : Type 0
TruthIsLocal =
    (store other : List Word) (l : Line) → All (λ name. word_at other name ≡ word_at store name) (used_names l) →
    line_truth other l ≡ line_truth store l

abbrev pub ComputedIsLocal : Type 0
ComputedIsLocal =
    (store other : List Word) (l : Line) → All (λ name. word_at other name ≡ word_at store name) (used_names l) →
    line_computed other l ≡ line_computed store l

-- what is computed as `Yes` is true, where each word is a value of its type; what is computed as `No` is false
abbrev pub YesIsTrue : Type 0
YesIsTrue = (store : List Word) (l : Line) → HoldsValues store → line_computed store l ≡ Yes → line_truth store l ≡ true

abbrev pub NoIsFalse : Type 0
NoIsFalse = (store : List Word) (l : Line) → line_computed store l ≡ No → line_truth store l ≡ false

-- a line that keeps the static bounds is never `Wide` over words of these types
abbrev pub NarrowIsTold : Type 0
NarrowIsTold =
    (types : List Ty) (store : List Word) (l : Line) → is_narrow types l ≡ true →
    All (λ v. (word_at store v).ty ≡ type_among types v) (used_names l) → line_computed store l ≢ Wide
