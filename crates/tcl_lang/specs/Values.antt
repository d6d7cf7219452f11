-- The meaning of a versioned program over plain values: a list has the value of each variable by its number, and the
-- variables' types make words of them. A line says of values what it says of their words.
use Rattle.std.specs.Prelude.{ℕ, zero, suc, ℤ, pos, Bool, List, [], ◌∷◌, map, replicate, length, slice_get, slice_index_or, slice_set, Option, Some, None}
use Rattle.tcl_lang.specs.declared.ty.Word.{Word}
use Rattle.tcl_lang.specs.declared.ty.Ty.{Ty}
use Rattle.tcl_lang.specs.declared.instr.Atom.{Atom}
use Rattle.tcl_lang.specs.declared.instr.Atom.TheVariants.{Var, Lit}
use Rattle.tcl_lang.specs.declared.instr.Op.{Op}
use Rattle.tcl_lang.specs.declared.instr.Op.TheVariants.{Nondet}
use Rattle.tcl_lang.specs.declared.instr.Instr.{Instr}
use Rattle.tcl_lang.specs.declared.outcome.Truth.{Truth}
use Rattle.tcl_lang.specs.declared.pred.Line.{Line}
use Rattle.tcl_lang.specs.declared.pred.Line.TheVariants.{Input, Step}
use Rattle.tcl_lang.specs.declared.variable.Variable.{Variable}
use Rattle.tcl_lang.specs.Program.{VersionedProgram}
use Rattle.tcl_lang.specs.Results.{results_of}
use Rattle.tcl_lang.specs.Run.{Fits, operands_of, taken_before}
use Rattle.tcl_lang.specs.Goal.{truth_in}
use Rattle.tcl_lang.specs.Checked.{computed_in}

-- the value of a variable; 0 where there is no such variable
abbrev pub value_at : List ℤ → ℕ → ℤ
value_at values v = slice_index_or values v (pos 0)

-- the types of the variables, by number
abbrev pub types_of : List Variable → List Ty
types_of variables = map (λ v. v.ty) variables

-- one value for each variable, in its type
abbrev pub AreValues : List Variable → List ℤ → Type 0
AreValues variables values = Fits (types_of variables) values

-- the store in which each variable has this value, and its type
abbrev pub words_of : List Variable → List ℤ → List Word
words_of (v ∷ variables) (n ∷ values) = record { ty = v.ty; value = n } ∷ words_of variables values
words_of _ _ = []

-- the values of the words of a store
abbrev pub values_in : List Word → List ℤ
values_in store = map (λ w. w.value) store

-- the value of an operand, and those of operands
abbrev pub atom_value : List ℤ → Atom → ℤ
atom_value values (Var v) = value_at values v
atom_value values (Lit T n) = n

abbrev pub operand_values : List ℤ → List Atom → List ℤ
operand_values values atoms = map (atom_value values) atoms

-- the results of an instruction at these values, with the choice that a `nondet` takes
abbrev pub step_results : List ℤ → Instr → ℤ → List ℤ
step_results values i choice = results_of i.op i.ty i.amount (operands_of i.op (operand_values values i.args) choice)

-- the values after these were written to variables, from left to right
abbrev pub write_values : List ℤ → List ℕ → List ℤ → List ℤ
write_values values (v ∷ vs) (n ∷ ns) = write_values (slice_set values v n) vs ns
write_values values _ _ = values

-- the values after an instruction: those of its results are what it computes, the others stay
abbrev pub step_values : List ℤ → Instr → ℤ → List ℤ
step_values values i choice = write_values values i.outs (step_results values i choice)

-- the values after an instruction was computed anew: those of its results are what it computes, the others stay, and a
-- `nondet`, whose result is free, changes nothing
abbrev pub keeps_choice : Op → List ℤ → List ℤ → List ℤ
keeps_choice Nondet old new = old
keeps_choice _ old new = new

abbrev pub recomputed : List ℤ → Instr → List ℤ
recomputed values i = keeps_choice i.op values (step_values values i (pos 0))

-- the same at a line, where only an instruction is computed
abbrev pub recomputed_at : List ℤ → Option Line → List ℤ
recomputed_at values None = values
recomputed_at values (Some (Step i)) = recomputed values i
recomputed_at values (Some _) = values

-- the values after a line that takes this value, if it takes one
abbrev pub values_after : Option Line → ℤ → List ℤ → List ℤ
values_after None taken values = values
values_after (Some (Input T v)) taken values = slice_set values v taken
values_after (Some (Step i)) taken values = step_values values i taken
values_after (Some _) taken values = values

-- the values before line k in the run from the input, over so many variables; at the number of lines, those at the end.
-- A variable has the value 0 until its line
unfoldable pub values_before : ℕ → List Line → List ℤ → ℕ → List ℤ
values_before variables lines input zero = replicate variables (pos 0)
values_before variables lines input (suc k) =
    values_after (slice_get lines k) (slice_index_or input (taken_before lines k) (pos 0)) (values_before variables lines input k)

-- the trace of the run from the input: the value of each variable at its end
unfoldable pub trace_of : VersionedProgram → List ℤ → List ℤ
trace_of f input = values_before (length f.variables) f.lines input (length f.lines)

-- what the line of place k states is true of these values; true where there is no line
unfoldable pub truth_of : VersionedProgram → List ℤ → ℕ → Bool
truth_of f values k = truth_in (words_of f.variables values) (slice_get f.lines k)

-- the computed truth of the line of place k at these values
unfoldable pub computed_of : VersionedProgram → List ℤ → ℕ → Truth
computed_of f values k = computed_in (words_of f.variables values) (slice_get f.lines k)
