-- What follows where a line has no reason, and what the names of its operands are.
use Rattle.std.proofs.Common.{◌≡◌, true, false, Bool, not, if◌then◌else◌, List, [], ◌∷◌, filter_map, Option, Some, None, refl, ap}
use Rattle.std.specs.List.{list_any}
use Rattle.std.specs.Prelude.{◌||◌}
use Rattle.tcl_lang.specs.declared.ty.Ty.{Ty}
use Rattle.tcl_lang.specs.declared.instr.Atom.{Atom}
use Rattle.tcl_lang.specs.declared.instr.Atom.TheVariants.{Var, Lit}
use Rattle.tcl_lang.specs.declared.instr.Instr.{Instr}
use Rattle.tcl_lang.specs.declared.pred.Line.TheVariants.{Step}
use Rattle.tcl_lang.specs.declared.reason.Reason.{Reason}
use Rattle.tcl_lang.specs.declared.reason.Reason.TheVariants.{Kind}
use Rattle.tcl_lang.specs.Names.{name_of}
use Rattle.tcl_lang.specs.Typing.{reason_of, allows}
use Rattle.tcl_types.specs.Operands.{is_undefined, is_undefined_atom}

first_test : (b : Bool) (reason : Reason) (others : Option Reason) → (if not b then Some reason else others) ≡ None → b ≡ true
first_test true reason others h = refl
first_test false reason others h = cc

-- an instruction of a line without a reason has an allowed type
pub allowed : (types : List (Option Ty)) (i : Instr) → reason_of types (Step i) ≡ None → allows i.op i.ty ≡ true
unfolding reason_of
allowed types i h = first_test (allows i.op i.ty) Kind _ h

-- an undefined name is one of an undefined operand
pub any_undefined_atom : (types : List (Option Ty)) (atoms : List Atom) → list_any (is_undefined types) (filter_map name_of atoms) ≡ list_any (is_undefined_atom types) atoms
any_undefined_atom types [] = refl
any_undefined_atom types (Var name ∷ atoms) = ap (λ b. is_undefined types name || b) (any_undefined_atom types atoms)
any_undefined_atom types (Lit T n ∷ atoms) = any_undefined_atom types atoms
