-- Typing: the first reason for which a line is ill-typed, under the types of the names that earlier lines define.
use Rattle.std.specs.Prelude.{◌≡◌, ◌<◌, ℕ, zero, suc, nat_le, nat_lt, ◌==◌, Bool, true, false, not, ◌&&◌, ◌||◌, if◌then◌else◌, List, [], ◌∷◌, length, replicate, slice_get, slice_set, Option, Some, None, is_some, is_none}
use Rattle.std.specs.List.{list_any, list_all}
use Rattle.tcl_lang.specs.declared.ty.Ty.{Ty}
use Rattle.tcl_lang.specs.declared.instr.Atom.{Atom}
use Rattle.tcl_lang.specs.declared.instr.Atom.TheVariants.{Var, Lit}
use Rattle.tcl_lang.specs.declared.instr.Op.{Op}
use Rattle.tcl_lang.specs.declared.instr.Op.TheVariants.{Mov, Adds, Adc, Adcs, Subb, Sbb, Sbbs, Mulj, Shl, Split, Join, Cast, Vpc, Cmov, Not, Nondet}
use Rattle.tcl_lang.specs.declared.instr.Instr.{Instr}
use Rattle.tcl_lang.specs.declared.term.Part.{Part}
use Rattle.tcl_lang.specs.declared.range.RngTerm.{RngTerm, RngTerm-F, fold-RngTerm}
use Rattle.tcl_lang.specs.declared.range.RngTerm.TheOpen as range_layer
use Rattle.tcl_lang.specs.declared.range.RngPred.{RngPred, RngPred-F, fold-RngPred}
use Rattle.tcl_lang.specs.declared.range.RngPred.TheOpen as pred_layer
use Rattle.tcl_lang.specs.declared.pred.Pred.{Pred}
use Rattle.tcl_lang.specs.declared.pred.Pred.TheVariants.{Alg, Rng}
use Rattle.tcl_lang.specs.declared.pred.Line.{Line}
use Rattle.tcl_lang.specs.declared.pred.Line.TheVariants.{Input, Step}
use Rattle.tcl_lang.specs.declared.reason.Reason.{Reason}
use Rattle.tcl_lang.specs.declared.reason.Reason.TheVariants.{Kind, Amount, Undefined, Literal, Mismatch, Repeated, Modulus}
use Rattle.tcl_lang.specs.Types.{is_in_type, bit_type, unsigned_of, same_type}
use Rattle.tcl_lang.specs.Results.{result_types}
use Rattle.tcl_lang.specs.Modulus.{is_modulus}
use Rattle.tcl_lang.specs.Line.{predicate_of, instruction_of}
use Rattle.tcl_lang.specs.Names.{line_atoms, used_names}

-- the type of a name, where an earlier line defines it; a name may be defined again, also with another type
abbrev pub joined : Option (Option Ty) → Option Ty
joined None = None
joined (Some T) = T

abbrev pub type_at : List (Option Ty) → ℕ → Option Ty
type_at types name = joined (slice_get types name)

-- the type of an operand
abbrev pub atom_type : List (Option Ty) → Atom → Option Ty
atom_type types (Var name) = type_at types name
atom_type types (Lit T n) = Some T

-- the types after results were defined
abbrev pub define_all : List (Option Ty) → List ℕ → List Ty → List (Option Ty)
define_all types (name ∷ names) (T ∷ Ts) = define_all (slice_set types name (Some T)) names Ts
define_all types _ _ = types

-- the types after a line
abbrev pub types_after : List (Option Ty) → Option Line → List (Option Ty)
types_after types None = types
types_after types (Some (Input T name)) = slice_set types name (Some T)
types_after types (Some (Step i)) = define_all types i.outs (result_types i.op i.ty)
types_after types (Some _) = types

-- kind: carries and borrows want an unsigned type, results of twice the width a width of at most 32
abbrev pub allows : Op → Ty → Bool
allows Adds T = not T.signed
allows Adcs T = not T.signed
allows Subb T = not T.signed
allows Sbbs T = not T.signed
allows Mulj T = nat_le T.width 32
allows Join T = nat_le T.width 32
allows _ T = true

-- amount: 0 to w - 1 for a shift, 1 to w - 1 for a split
abbrev pub allows_amount : Op → Ty → ℕ → Bool
allows_amount Shl T n = nat_lt n T.width
allows_amount Split T n = nat_lt 0 n && nat_lt n T.width
allows_amount _ T n = true

-- undefined: a name that the line uses has no type
abbrev pub has_undefined : List (Option Ty) → Line → Bool
has_undefined types l = list_any (λ name. is_none (type_at types name)) (used_names l)

-- literal: one lies outside its type
abbrev pub is_sound_literal : Atom → Bool
is_sound_literal (Var name) = true
is_sound_literal (Lit T n) = is_in_type T n

abbrev pub has_unsound_literal : Line → Bool
has_unsound_literal l = not (list_all is_sound_literal (line_atoms l))

-- the types of the operands, `None` where any type may stand
abbrev pub operand_types : Op → Ty → List (Option Ty)
operand_types Mov T = Some T ∷ []
operand_types Adc T = Some T ∷ Some T ∷ Some bit_type ∷ []
operand_types Adcs T = Some T ∷ Some T ∷ Some bit_type ∷ []
operand_types Sbb T = Some T ∷ Some T ∷ Some bit_type ∷ []
operand_types Sbbs T = Some T ∷ Some T ∷ Some bit_type ∷ []
operand_types Shl T = Some T ∷ []
operand_types Split T = Some T ∷ []
operand_types Join T = Some T ∷ Some (unsigned_of T) ∷ []
operand_types Cast T = None ∷ []
operand_types Vpc T = None ∷ []
operand_types Cmov T = Some bit_type ∷ Some T ∷ Some T ∷ []
operand_types Not T = Some T ∷ []
operand_types Nondet T = []
operand_types _ T = Some T ∷ Some T ∷ []

-- an operand of type U may stand where T is asked
abbrev pub suits : Option Ty → Option Ty → Bool
suits None U = true
suits (Some T) None = false
suits (Some T) (Some U) = same_type T U

abbrev pub operands_suit : List (Option Ty) → List (Option Ty) → List Atom → Bool
operands_suit types (T ∷ Ts) (atom ∷ atoms) = suits T (atom_type types atom) && operands_suit types Ts atoms
operands_suit types _ _ = true

-- the one type of two sides, where they have one
abbrev pub common_type : Option Ty → Option Ty → Option Ty
common_type (Some T) (Some U) = if same_type T U then Some T else None
common_type _ _ = None

-- the type of a range term, where the sides of each operator in it agree
abbrev pub type_step : List (Option Ty) → RngTerm-F (Option Ty) → Option Ty
type_step types (range_layer.Leaf atom) = atom_type types atom
type_step types (range_layer.Neg T) = T
type_step types (range_layer.Flip T) = T
type_step types (range_layer.Bin op T U) = common_type T U
type_step types (range_layer.Cast T U) = if is_some U then Some T else None

abbrev pub range_type : List (Option Ty) → RngTerm → Option Ty
range_type types t = fold-RngTerm (Option Ty) (type_step types) t

-- the sides of each comparison and operator agree
abbrev pub sides_step : List (Option Ty) → RngPred-F Bool → Bool
sides_step types pred_layer.True = true
sides_step types pred_layer.False = true
sides_step types (pred_layer.Cmp op t u) = is_some (common_type (range_type types t) (range_type types u))
sides_step types (pred_layer.Not p) = p
sides_step types (pred_layer.Both p q) = p && q
sides_step types (pred_layer.Either p q) = p && q

abbrev pub sides_agree : List (Option Ty) → RngPred → Bool
sides_agree types p = fold-RngPred Bool (sides_step types) p

-- mismatch: an operand of another type than is stated, or sides that differ
abbrev pub predicate_agrees : List (Option Ty) → Pred → Bool
predicate_agrees types (Alg p) = true
predicate_agrees types (Rng p) = sides_agree types p

abbrev pub instruction_agrees : List (Option Ty) → Instr → Bool
instruction_agrees types i = operands_suit types (operand_types i.op i.ty) i.args

abbrev pub stated_agrees : List (Option Ty) → Option Pred → Option Instr → Bool
stated_agrees types (Some p) i = predicate_agrees types p
stated_agrees types None (Some i) = instruction_agrees types i
stated_agrees types None None = true

abbrev pub agrees_in_types : List (Option Ty) → Line → Bool
agrees_in_types types l = stated_agrees types (predicate_of l) (instruction_of l)

-- repeated: an `in` name that has a type already, or two results of one name
abbrev pub has_twice : List ℕ → Bool
has_twice [] = false
has_twice (name ∷ names) = list_any (λ other. name == other) names || has_twice names

abbrev pub repeats : List (Option Ty) → Line → Bool
repeats types (Input T name) = is_some (type_at types name)
repeats types (Step i) = has_twice i.outs
repeats types _ = false

-- modulus: there is one and its parts are not of the form
abbrev pub is_sound_modulus : Option (List Part) → Bool
is_sound_modulus None = true
is_sound_modulus (Some parts) = is_modulus parts

abbrev pub has_sound_modulus : Option Pred → Bool
has_sound_modulus None = true
has_sound_modulus (Some (Alg p)) = is_sound_modulus p.modulus
has_sound_modulus (Some (Rng p)) = true

-- kind and amount, of an instruction alone
abbrev pub allows_line : Line → Bool
allows_line (Step i) = allows i.op i.ty
allows_line _ = true

abbrev pub allows_line_amount : Line → Bool
allows_line_amount (Step i) = allows_amount i.op i.ty i.amount
allows_line_amount _ = true

-- the first reason of a line, each looked for over the whole line
unfoldable pub reason_of : List (Option Ty) → Line → Option Reason
reason_of types l =
    if not (allows_line l) then Some Kind
    else (if not (allows_line_amount l) then Some Amount
    else (if has_undefined types l then Some Undefined
    else (if has_unsound_literal l then Some Literal
    else (if not (agrees_in_types types l) then Some Mismatch
    else (if repeats types l then Some Repeated
    else (if not (has_sound_modulus (predicate_of l)) then Some Modulus
    else None))))))

-- the types before line k
unfoldable pub types_at : ℕ → List Line → ℕ → List (Option Ty)
types_at names lines zero = replicate names None
types_at names lines (suc k) = types_after (types_at names lines k) (slice_get lines k)

-- the first reason of line k
abbrev pub reason_in : List (Option Ty) → Option Line → Option Reason
reason_in types None = None
reason_in types (Some l) = reason_of types l

unfoldable pub reason_at : ℕ → List Line → ℕ → Option Reason
reason_at names lines k = reason_in (types_at names lines k) (slice_get lines k)

-- no line has a reason
unfoldable pub IsWellTyped : ℕ → List Line → Type 0
IsWellTyped names lines = (k : ℕ) → k < length lines → reason_at names lines k ≡ None

-- line k is the first that is ill-typed, for this reason
pub record IsFirstIllTyped (names : ℕ) (lines : List Line) (k : ℕ) (reason : Reason) : Type 0 where
  pub within : k < length lines
  pub reason_is : reason_at names lines k ≡ Some reason
  pub earlier : (j : ℕ) → j < k → reason_at names lines j ≡ None
