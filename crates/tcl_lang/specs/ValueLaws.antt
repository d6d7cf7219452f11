-- Laws that tie the meaning over plain values to stores.
use Rattle.std.specs.Prelude.{◌≡◌, ◌≢◌, ℕ, ℤ, true, false, List, length, slice_get, Some}
use Rattle.tcl_lang.specs.declared.ty.Ty.{Ty}
use Rattle.tcl_lang.specs.declared.instr.Atom.{Atom}
use Rattle.tcl_lang.specs.declared.instr.Instr.{Instr}
use Rattle.tcl_lang.specs.declared.outcome.Truth.TheVariants.{Wide}
use Rattle.tcl_lang.specs.declared.pred.Line.{Line}
use Rattle.tcl_lang.specs.declared.term.Term.{Term}
use Rattle.tcl_lang.specs.declared.pred.Line.TheVariants.{Step}
use Rattle.tcl_lang.specs.Program.{VersionedProgram}
use Rattle.tcl_lang.specs.Types.{InType}
use Rattle.tcl_lang.specs.Line.{choice_type, values_of}
use Rattle.tcl_lang.specs.Bound.{size_in, size_of}
use Rattle.tcl_lang.specs.Narrow.{is_narrow}
use Rattle.tcl_lang.specs.Run.{Fits, taken_types, store_at, execute}
use Rattle.tcl_lang.specs.Goal.{truth_at}
use Rattle.tcl_lang.specs.Checked.{computed_at}
use Rattle.tcl_lang.specs.Execution.{HoldsValues, CanExecute}
use Rattle.tcl_lang.specs.Values.{value_at, types_of, words_of, operand_values, recomputed, values_in, AreValues, step_values, values_before, trace_of, truth_of, computed_of}
use Rattle.tcl_lang.specs.Defined.{is_among}
use Rattle.tcl_lang.specs.Executed.{IsExecuted}
use Rattle.tcl_lang.specs.Form.{IsWellFormed, end_store}

-- the values of a run are those of the words of its stores
abbrev pub ValuesRun : Type 0
ValuesRun =
    (names : ℕ) (lines : List Line) (input : List ℤ) (k : ℕ) →
    values_in (store_at names lines input k) ≡ values_before names lines input k

-- before each line each variable has a value of its type
abbrev pub RunsAreValues : Type 0
RunsAreValues =
    (f : VersionedProgram) (input : List ℤ) (k : ℕ) → IsWellFormed f → Fits (taken_types f.lines) input →
    AreValues f.variables (values_before (length f.variables) f.lines input k)

-- the words of a trace are the store at the end of the run, and the trace has one value for each variable, in its type
abbrev pub TracesAreEnds : Type 0
TracesAreEnds =
    (f : VersionedProgram) (input : List ℤ) → IsWellFormed f → Fits (taken_types f.lines) input →
    words_of f.variables (trace_of f input) ≡ end_store f input

abbrev pub TracesAreValues : Type 0
TracesAreValues =
    (f : VersionedProgram) (input : List ℤ) → IsWellFormed f → Fits (taken_types f.lines) input →
    AreValues f.variables (trace_of f input)

-- so each line is as true of a trace as it is in the run, and as much of it can be computed
abbrev pub TracesKeepTruth : Type 0
TracesKeepTruth =
    (f : VersionedProgram) (input : List ℤ) (k : ℕ) → IsWellFormed f → Fits (taken_types f.lines) input →
    truth_of f (trace_of f input) k ≡ truth_at (length f.variables) f.lines input k

abbrev pub TracesKeepComputed : Type 0
TracesKeepComputed =
    (f : VersionedProgram) (input : List ℤ) (k : ℕ) → IsWellFormed f → Fits (taken_types f.lines) input →
    computed_of f (trace_of f input) k ≡ computed_at (length f.variables) f.lines input k

-- the words of values in their types are values of their types
abbrev pub WordsHoldValues : Type 0
WordsHoldValues =
    (f : VersionedProgram) (values : List ℤ) → AreValues f.variables values → HoldsValues (words_of f.variables values)

-- operands have the values of their words
abbrev pub OperandsAreRead : Type 0
OperandsAreRead =
    (f : VersionedProgram) (values : List ℤ) (atoms : List Atom) → AreValues f.variables values →
    values_of (words_of f.variables values) atoms ≡ operand_values values atoms

-- the size of a term over words of values is its size over the types of the variables
abbrev pub SizesAreStatic : Type 0
SizesAreStatic =
    (f : VersionedProgram) (values : List ℤ) (t : Term) → AreValues f.variables values →
    size_in (words_of f.variables values) t ≡ size_of (types_of f.variables) t

-- so a line that keeps the static bounds is never `Wide` at values in their types
abbrev pub NarrowIsTold : Type 0
NarrowIsTold =
    (f : VersionedProgram) (values : List ℤ) (k : ℕ) (l : Line) → AreValues f.variables values →
    slice_get f.lines k ≡ Some l → is_narrow (types_of f.variables) l ≡ true → computed_of f values k ≢ Wide

-- an instruction of a well formed program can be executed at any values in their types, with a choice in its type
abbrev pub StepsCanExecute : Type 0
StepsCanExecute =
    (f : VersionedProgram) (values : List ℤ) (k : ℕ) (i : Instr) (choice : ℤ) → IsWellFormed f →
    AreValues f.variables values → slice_get f.lines k ≡ Some (Step i) →
    ((T : Ty) → choice_type i.op i.ty ≡ Some T → InType T choice) →
    CanExecute (words_of f.variables values) i choice

-- and then a step on values is the execution on their words, and leaves values in their types
abbrev pub StepsExecute : Type 0
StepsExecute =
    (f : VersionedProgram) (values : List ℤ) (k : ℕ) (i : Instr) (choice : ℤ) → IsWellFormed f →
    AreValues f.variables values → slice_get f.lines k ≡ Some (Step i) →
    ((T : Ty) → choice_type i.op i.ty ≡ Some T → InType T choice) →
    words_of f.variables (step_values values i choice) ≡ execute (words_of f.variables values) i choice

abbrev pub StepsKeepTypes : Type 0
StepsKeepTypes =
    (f : VersionedProgram) (values : List ℤ) (k : ℕ) (i : Instr) (choice : ℤ) → IsWellFormed f →
    AreValues f.variables values → slice_get f.lines k ≡ Some (Step i) →
    ((T : Ty) → choice_type i.op i.ty ≡ Some T → InType T choice) →
    AreValues f.variables (step_values values i choice)

-- a step changes no value but those of its results
abbrev pub StepsKeepOthers : Type 0
StepsKeepOthers =
    (values : List ℤ) (i : Instr) (choice : ℤ) (v : ℕ) → is_among i.outs v ≡ false →
    value_at (step_values values i choice) v ≡ value_at values v

-- after a step the instruction is executed
abbrev pub StepsAreExecuted : Type 0
StepsAreExecuted =
    (f : VersionedProgram) (values : List ℤ) (k : ℕ) (i : Instr) (choice : ℤ) → IsWellFormed f →
    AreValues f.variables values → slice_get f.lines k ≡ Some (Step i) →
    ((T : Ty) → choice_type i.op i.ty ≡ Some T → InType T choice) →
    IsExecuted (words_of f.variables (step_values values i choice)) i

-- computing an instruction anew leaves values in their types, and the instruction executed
abbrev pub RecomputedIsTyped : Type 0
RecomputedIsTyped =
    (f : VersionedProgram) (values : List ℤ) (k : ℕ) (i : Instr) → IsWellFormed f → AreValues f.variables values →
    slice_get f.lines k ≡ Some (Step i) → AreValues f.variables (recomputed values i)

abbrev pub RecomputedIsExecuted : Type 0
RecomputedIsExecuted =
    (f : VersionedProgram) (values : List ℤ) (k : ℕ) (i : Instr) → IsWellFormed f → AreValues f.variables values →
    slice_get f.lines k ≡ Some (Step i) → IsExecuted (words_of f.variables (recomputed values i)) i
