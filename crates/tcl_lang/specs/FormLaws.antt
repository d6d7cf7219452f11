-- Laws of the versioned form: it says what its program says, line by line and run by run.
use Rattle.std.specs.Prelude.{◌≡◌, ◌<◌, nat_lt, true, ◌≤◌, ◌↔◌, ℕ, ℤ, length, slice_get, slice_index, List, Some}
use Rattle.std.specs.List.{list_all}
use Rattle.tcl_lang.specs.declared.ty.Ty.{Ty}
use Rattle.tcl_lang.specs.declared.pred.Line.{Line}
use Rattle.tcl_lang.specs.Program.{NamedProgram, VersionedProgram}
use Rattle.tcl_lang.specs.Store.{word_at}
use Rattle.tcl_lang.specs.Names.{used_names}
use Rattle.tcl_lang.specs.Run.{Fits, taken_types, store_at}
use Rattle.tcl_lang.specs.Goal.{truth_in, truth_at}
use Rattle.tcl_lang.specs.Checked.{computed_in, computed_at}
use Rattle.tcl_lang.specs.Correct.{IsCorrect, IsCounterexample}
use Rattle.tcl_lang.specs.Typing.{type_at, types_at, IsWellTyped}
use Rattle.tcl_lang.specs.Versions.{versions_at, form_of, IsForm}
use Rattle.tcl_lang.specs.Form.{end_store, AreTyped, IsWellFormed}
use Rattle.tcl_lang.specs.Defined.{is_defined_before}
use Rattle.tcl_lang.specs.Limit.{definitions_before}
use Rattle.tcl_lang.specs.Executed.{IsExecutedAt}

-- before each line the word of a name that has a type is the word of its current version in the run of the form
abbrev pub VersionsHoldWords : Type 0
VersionsHoldWords =
    (p : NamedProgram) (input : List ℤ) (k name : ℕ) (T : Ty) → IsWellTyped (length p.names) p.lines →
    k ≤ length p.lines → type_at (types_at (length p.names) p.lines k) name ≡ Some T →
    word_at (store_at (length (form_of p).variables) (form_of p).lines input k) (slice_index (versions_at p k).current name)
    ≡ word_at (store_at (length p.names) p.lines input k) name

-- each line has the same truth in both runs, and the same computed truth
abbrev pub FormsKeepTruth : Type 0
FormsKeepTruth =
    (p : NamedProgram) (input : List ℤ) (k : ℕ) → IsWellTyped (length p.names) p.lines →
    truth_at (length (form_of p).variables) (form_of p).lines input k ≡ truth_at (length p.names) p.lines input k

abbrev pub FormsKeepComputed : Type 0
FormsKeepComputed =
    (p : NamedProgram) (input : List ℤ) (k : ℕ) → IsWellTyped (length p.names) p.lines →
    computed_at (length (form_of p).variables) (form_of p).lines input k ≡ computed_at (length p.names) p.lines input k

-- the form is correct exactly where the program is
abbrev pub FormsAgree : Type 0
FormsAgree =
    (p : NamedProgram) → IsWellTyped (length p.names) p.lines →
    IsCorrect (length (form_of p).variables) (form_of p).lines ↔ IsCorrect (length p.names) p.lines

-- the same inputs refute the same goals of both
abbrev pub FormsAreRefutedAlike : Type 0
FormsAreRefutedAlike =
    (p : NamedProgram) (input : List ℤ) (i : ℕ) → IsWellTyped (length p.names) p.lines →
    IsCounterexample (length (form_of p).variables) (form_of p).lines input i
    ↔ IsCounterexample (length p.names) p.lines input i

-- each form is well formed
abbrev pub FormsAreWellFormed : Type 0
FormsAreWellFormed = (f : VersionedProgram) → IsForm f → IsWellFormed f

-- a variable keeps its word to the end of a run
abbrev pub VariablesKeep : Type 0
VariablesKeep =
    (f : VersionedProgram) (input : List ℤ) (k v : ℕ) → IsWellFormed f → k ≤ length f.lines →
    v < definitions_before f.lines k →
    word_at (end_store f input) v ≡ word_at (store_at (length f.variables) f.lines input k) v

-- so each line has at the end of a run the truth, and the computed truth, that it has in its place
abbrev pub EndsKeepTruth : Type 0
EndsKeepTruth =
    (f : VersionedProgram) (input : List ℤ) (k : ℕ) → IsWellFormed f →
    truth_in (end_store f input) (slice_get f.lines k) ≡ truth_at (length f.variables) f.lines input k

abbrev pub EndsKeepComputed : Type 0
EndsKeepComputed =
    (f : VersionedProgram) (input : List ℤ) (k : ℕ) → IsWellFormed f →
    computed_in (end_store f input) (slice_get f.lines k) ≡ computed_at (length f.variables) f.lines input k

-- each instruction is executed at the end of a run from a fitting input, and each variable holds a value of its type
abbrev pub EndsAreExecuted : Type 0
EndsAreExecuted =
    (f : VersionedProgram) (input : List ℤ) (k : ℕ) → IsWellFormed f → Fits (taken_types f.lines) input →
    IsExecutedAt (end_store f input) (slice_get f.lines k)

abbrev pub EndsAreTyped : Type 0
EndsAreTyped =
    (f : VersionedProgram) (input : List ℤ) → IsWellFormed f → Fits (taken_types f.lines) input →
    AreTyped f.variables (end_store f input)

-- the variables that are defined before a line are those of smaller numbers than the number of definitions before it
abbrev pub DefinedAreFirst : Type 0
DefinedAreFirst =
    (f : VersionedProgram) (k v : ℕ) → IsWellFormed f → k ≤ length f.lines →
    is_defined_before f.lines k v ≡ nat_lt v (definitions_before f.lines k)

-- so each name that a line reads is defined before it
abbrev pub ReadsAreDefined : Type 0
ReadsAreDefined =
    (f : VersionedProgram) (k : ℕ) (l : Line) → IsWellFormed f → slice_get f.lines k ≡ Some l →
    list_all (is_defined_before f.lines k) (used_names l) ≡ true
