-- Range terms and predicates whose words can be computed: their types agree, and each literal is a value of its type. So it
-- is with the lines of a versioned form.
use Rattle.std.specs.Prelude.{Bool, true, ◌&&◌, if◌then◌else◌, List, Option, Some, None, slice_get}
use Rattle.std.specs.Option.{is_some}
use Rattle.tcl_lang.specs.declared.ty.Ty.{Ty}
use Rattle.tcl_lang.specs.declared.ty.Word.{Word}
use Rattle.tcl_lang.specs.declared.instr.Atom.{Atom}
use Rattle.tcl_lang.specs.declared.instr.Atom.TheVariants.{Var, Lit}
use Rattle.tcl_lang.specs.declared.range.RngTerm.{RngTerm, RngTerm-F, fold-RngTerm}
use Rattle.tcl_lang.specs.declared.range.RngTerm.TheOpen as term_layer
use Rattle.tcl_lang.specs.declared.range.RngPred.{RngPred, RngPred-F, fold-RngPred}
use Rattle.tcl_lang.specs.declared.range.RngPred.TheOpen as pred_layer
use Rattle.tcl_lang.specs.Types.{IsTy, InType, is_ty, is_in_type}
use Rattle.tcl_lang.specs.Typing.{common_type}

-- the word is a value of its type
pub record IsSoundWord (w : Word) : Type 0 where
  pub ty : IsTy w.ty
  pub value : InType w.ty w.value

-- the type of an operand, over variables of these types
abbrev pub atom_type : List Ty → Atom → Option Ty
atom_type types (Var v) = slice_get types v
atom_type types (Lit T n) = if is_ty T && is_in_type T n then Some T else None

-- the type of a range term, where its word can be computed
abbrev pub sound_step : List Ty → RngTerm-F (Option Ty) → Option Ty
sound_step types (term_layer.Leaf atom) = atom_type types atom
sound_step types (term_layer.Neg T) = T
sound_step types (term_layer.Flip T) = T
sound_step types (term_layer.Bin op T U) = common_type T U
sound_step types (term_layer.Cast T U) = if is_ty T && is_some U then Some T else None

abbrev pub sound_type : List Ty → RngTerm → Option Ty
sound_type types t = fold-RngTerm (Option Ty) (sound_step types) t

-- the truth of a range predicate can be computed
abbrev pub sound_pred_step : List Ty → RngPred-F Bool → Bool
sound_pred_step types pred_layer.True = true
sound_pred_step types pred_layer.False = true
sound_pred_step types (pred_layer.Cmp op t u) = is_some (sound_type types t) && is_some (sound_type types u)
sound_pred_step types (pred_layer.Not p) = p
sound_pred_step types (pred_layer.Both p q) = p && q
sound_pred_step types (pred_layer.Either p q) = p && q

abbrev pub is_sound_pred : List Ty → RngPred → Bool
is_sound_pred types p = fold-RngPred Bool (sound_pred_step types) p
