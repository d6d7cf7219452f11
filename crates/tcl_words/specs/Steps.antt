-- The instructions of a versioned program as gates: operands are looked up, and the literals of results are set.
use Rattle.std.specs.Prelude.{ℕ, false, List, [], ◌∷◌, map, slice_index_or, slice_set, Option, Some, None}
use Rattle.tcl_gates.specs.declared.gate.Gate.{Gate}
use Rattle.tcl_circuits.specs.Wires.{Wire}
use Rattle.tcl_circuits.specs.Circuits.{wire}
use Rattle.tcl_lang.specs.declared.ty.Ty.{Ty}
use Rattle.tcl_lang.specs.declared.instr.Atom.{Atom}
use Rattle.tcl_lang.specs.declared.instr.Op.{Op}
use Rattle.tcl_lang.specs.declared.instr.Op.TheVariants.{Nondet}
use Rattle.tcl_lang.specs.declared.instr.Instr.{Instr}
use Rattle.tcl_lang.specs.declared.pred.Line.{Line}
use Rattle.tcl_lang.specs.declared.pred.Line.TheVariants.{Step}
use Rattle.tcl_lang.specs.declared.variable.Variable.{Variable}
use Rattle.tcl_lang.specs.Names.{line_atoms}
use Rattle.tcl_words.specs.Instructions.{Outcome, result_lits}
use Rattle.tcl_words.specs.Exactness.{exact_lit}
use Rattle.tcl_lang.specs.Values.{types_of}
use Rattle.tcl_words.specs.Ranges.{atom_lits, atom_ty}

-- the literals of operand k, none where the instruction has fewer operands
abbrev pub operand_lits : List (List ℕ) → List Atom → ℕ → List ℕ
operand_lits words atoms k = slice_index_or (map (atom_lits words) atoms) k []

-- the type of operand k, and of no bits where the instruction has fewer operands
abbrev pub operand_ty : List Variable → List Atom → ℕ → Ty
operand_ty variables atoms k = slice_index_or (map (atom_ty (types_of variables)) atoms) k (record { signed = false; width = 0 })

-- the type of the first operand
abbrev pub first_type : List Variable → List Atom → Ty
first_type variables atoms = operand_ty variables atoms 0

-- the gates and the literals of an instruction's results
abbrev pub instruction_lits : List Gate → List (List ℕ) → List Variable → Instr → Outcome
instruction_lits gates words variables i =
    result_lits gates i.op i.ty (first_type variables i.args) i.amount (operand_lits words i.args 0) (operand_lits words i.args 1) (operand_lits words i.args 2)

-- the gates and the literal of an instruction's exactness condition
abbrev pub condition_wire : List Gate → List (List ℕ) → List Variable → Instr → Wire
condition_wire gates words variables i =
    exact_lit gates i.op i.ty (first_type variables i.args) i.amount (operand_lits words i.args 0) (operand_lits words i.args 1) (operand_lits words i.args 2)

-- the words after those of results were set, from left to right
abbrev pub set_words : List (List ℕ) → List ℕ → List (List ℕ) → List (List ℕ)
set_words words (name ∷ names) (ls ∷ lists) = set_words (slice_set words name ls) names lists
set_words words _ _ = words

-- the words after that of one variable was set, if there is one
abbrev pub set_at : List (List ℕ) → Option ℕ → List ℕ → List (List ℕ)
set_at words None ls = words
set_at words (Some v) ls = slice_set words v ls

-- the choice of a `nondet` has its literals already
abbrev pub words_after : Op → List (List ℕ) → List ℕ → List (List ℕ) → List (List ℕ)
words_after Nondet words outs lists = words
words_after _ words outs lists = set_words words outs lists

-- the gates after a line's instruction, and the words; the same where the line has none
abbrev pub step_gates : List Gate → List (List ℕ) → List Variable → Option Line → List Gate
step_gates gates words variables (Some (Step i)) = (instruction_lits gates words variables i).gates
step_gates gates words variables _ = gates

abbrev pub step_words : List Gate → List (List ℕ) → List Variable → Option Line → List (List ℕ)
step_words gates words variables (Some (Step i)) = words_after i.op words i.outs (instruction_lits gates words variables i).words
step_words gates words variables _ = words

-- the gates after a line's exactness condition, and its literal; true where the line has none
abbrev pub step_condition : List Gate → List (List ℕ) → List Variable → Option Line → Wire
step_condition gates words variables (Some (Step i)) = condition_wire gates words variables i
step_condition gates words variables _ = wire gates 0

-- the operands of a line, none where there is no such line
abbrev pub atoms_of : Option Line → List Atom
atoms_of None = []
atoms_of (Some l) = line_atoms l
