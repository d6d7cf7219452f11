-- The parts of a canonical text that the printer writes one by one.
use Rattle.std.specs.Prelude.{ℕ, if◌then◌else◌, List, [], ◌∷◌, ◌++◌, flat_map, codes}
use Rattle.std.specs.Fmt.{decimal}
use Rattle.tcl_lang.specs.declared.ty.Ty.{Ty}
use Rattle.tcl_lang.specs.declared.instr.Atom.{Atom}
use Rattle.tcl_lang.specs.declared.term.Part.{Part}
use Rattle.tcl_lang.specs.declared.term.AlgPred.{AlgPred}
use Rattle.tcl_lang.specs.declared.range.RngPred.{RngPred, fold-RngPred}
use Rattle.tcl_lang.specs.declared.pred.Line.{Line}
use Rattle.tcl_text.specs.Canonical.{bracket, name_text, type_text, atom_place, atom_text, term_text, range_pred_text_step, part_text, modulus_text, line_text}

-- the end of a power
abbrev pub exponent_text : ℕ → ℕ → List ℕ
exponent_text k place = codes "**" ++ (decimal k ++ bracket 41 1 place)

-- an operand at a place, and the beginning of a cast
abbrev pub leaf_text : List (List ℕ) → Atom → ℕ → List ℕ
leaf_text names atom place = bracket 40 (atom_place atom) place ++ (atom_text names atom ++ bracket 41 (atom_place atom) place)

abbrev pub cast_text : Ty → List ℕ
cast_text T = codes "cast(" ++ (type_text T ++ codes ", ")

-- a range predicate at a place
abbrev pub range_pred_text : List (List ℕ) → RngPred → ℕ → List ℕ
range_pred_text names p place = fold-RngPred (ℕ → List ℕ) (range_pred_text_step names) p place

-- an equation or a congruence
abbrev pub equation_text : List (List ℕ) → AlgPred → List ℕ
equation_text names p = term_text names p.left 4 ++ (codes " = " ++ (term_text names p.right 4 ++ modulus_text p.modulus))

-- a part of a modulus behind the first one
abbrev pub signed_part_text : Part → List ℕ
signed_part_text p = (if p.minus then codes " - " else codes " + ") ++ part_text p

abbrev pub signed_parts_text : List Part → List ℕ
signed_parts_text parts = flat_map signed_part_text parts

-- results and operands, each behind a space
abbrev pub spaced_name : List (List ℕ) → ℕ → List ℕ
spaced_name names name = codes " " ++ name_text names name

abbrev pub names_text : List (List ℕ) → List ℕ → List ℕ
names_text names outs = flat_map (spaced_name names) outs

abbrev pub spaced_atom : List (List ℕ) → Atom → List ℕ
spaced_atom names atom = codes " " ++ atom_text names atom

abbrev pub atoms_text : List (List ℕ) → List Atom → List ℕ
atoms_text names atoms = flat_map (spaced_atom names) atoms

-- a line with its end
abbrev pub ended_line : List (List ℕ) → Line → List ℕ
ended_line names l = line_text names l ++ 10 ∷ []

abbrev pub lines_text : List (List ℕ) → List Line → List ℕ
lines_text names lines = flat_map (ended_line names) lines
