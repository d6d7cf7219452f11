-- The names and the literals of a line, in the order in which they stand in it.
use Rattle.std.specs.Prelude.{ℕ, ◌==◌, Bool, List, [], ◌∷◌, ◌++◌, filter_map, flat_map, Option, Some, None}
use Rattle.std.specs.List.{list_any}
use Rattle.tcl_lang.specs.declared.instr.Atom.{Atom}
use Rattle.tcl_lang.specs.declared.instr.Atom.TheVariants.{Var, Lit}
use Rattle.tcl_lang.specs.declared.term.Term.{Term, Term-F, fold-Term}
use Rattle.tcl_lang.specs.declared.term.Term.TheOpen as term_layer
use Rattle.tcl_lang.specs.declared.range.RngTerm.{RngTerm, RngTerm-F, fold-RngTerm}
use Rattle.tcl_lang.specs.declared.range.RngTerm.TheOpen as range_layer
use Rattle.tcl_lang.specs.declared.range.RngPred.{RngPred, RngPred-F, fold-RngPred}
use Rattle.tcl_lang.specs.declared.range.RngPred.TheOpen as pred_layer
use Rattle.tcl_lang.specs.declared.pred.Pred.{Pred}
use Rattle.tcl_lang.specs.declared.pred.Pred.TheVariants.{Alg, Rng}
use Rattle.tcl_lang.specs.declared.instr.Instr.{Instr}
use Rattle.tcl_lang.specs.declared.pred.Line.{Line}
use Rattle.tcl_lang.specs.declared.pred.Line.TheVariants.{Input, Step}
use Rattle.tcl_lang.specs.Line.{predicate_of, instruction_of}

-- the name of an operand
abbrev pub name_of : Atom → Option ℕ
name_of (Var name) = Some name
name_of (Lit T n) = None

-- the names of an algebraic term
abbrev pub term_names_step : Term-F (List ℕ) → List ℕ
term_names_step (term_layer.Var name) = name ∷ []
term_names_step (term_layer.Num n) = []
term_names_step (term_layer.Neg t) = t
term_names_step (term_layer.Add t u) = t ++ u
term_names_step (term_layer.Sub t u) = t ++ u
term_names_step (term_layer.Mul t u) = t ++ u
term_names_step (term_layer.Pow t k) = t

abbrev pub term_names : Term → List ℕ
term_names t = fold-Term (List ℕ) term_names_step t

-- the operands of a range term
abbrev pub term_atoms_step : RngTerm-F (List Atom) → List Atom
term_atoms_step (range_layer.Leaf atom) = atom ∷ []
term_atoms_step (range_layer.Neg t) = t
term_atoms_step (range_layer.Flip t) = t
term_atoms_step (range_layer.Bin op t u) = t ++ u
term_atoms_step (range_layer.Cast T t) = t

abbrev pub term_atoms : RngTerm → List Atom
term_atoms t = fold-RngTerm (List Atom) term_atoms_step t

-- the operands of a range predicate
abbrev pub range_atoms_step : RngPred-F (List Atom) → List Atom
range_atoms_step pred_layer.True = []
range_atoms_step pred_layer.False = []
range_atoms_step (pred_layer.Cmp op t u) = term_atoms t ++ term_atoms u
range_atoms_step (pred_layer.Not p) = p
range_atoms_step (pred_layer.Both p q) = p ++ q
range_atoms_step (pred_layer.Either p q) = p ++ q

abbrev pub range_atoms : RngPred → List Atom
range_atoms p = fold-RngPred (List Atom) range_atoms_step p

-- the operands of a predicate; algebraic terms have none, since their numbers have no type
abbrev pub predicate_atoms : Pred → List Atom
predicate_atoms (Alg p) = []
predicate_atoms (Rng p) = range_atoms p

-- the names of a predicate
abbrev pub predicate_names : Pred → List ℕ
predicate_names (Alg p) = term_names p.left ++ term_names p.right
predicate_names (Rng p) = filter_map name_of (range_atoms p)

-- the operands of what is stated: those of the predicate, else of the instruction
abbrev pub stated_atoms : Option Pred → Option Instr → List Atom
stated_atoms (Some p) i = predicate_atoms p
stated_atoms None (Some i) = i.args
stated_atoms None None = []

-- the operands of a line
abbrev pub line_atoms : Line → List Atom
line_atoms l = stated_atoms (predicate_of l) (instruction_of l)

-- the names of what is stated
abbrev pub stated_names : Option Pred → Option Instr → List ℕ
stated_names (Some p) i = predicate_names p
stated_names None (Some i) = filter_map name_of i.args
stated_names None None = []

-- the names that a line reads
abbrev pub used_names : Line → List ℕ
used_names l = stated_names (predicate_of l) (instruction_of l)

-- a line reads a name
abbrev pub uses_name : Line → ℕ → Bool
uses_name l name = list_any (λ other. name == other) (used_names l)

-- the names that a line defines
abbrev pub defined_names : Line → List ℕ
defined_names (Input T name) = name ∷ []
defined_names (Step i) = i.outs
defined_names _ = []

-- all names of a line, as they occur from left to right: results stand before operands
abbrev pub occurrences : Line → List ℕ
occurrences l = defined_names l ++ used_names l

-- all names of the lines, as they occur
unfoldable pub all_occurrences : List Line → List ℕ
all_occurrences lines = flat_map occurrences lines
