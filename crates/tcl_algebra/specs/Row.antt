-- The equation that an instruction gives of its last result, as a term of the language: row by row in the order of the
-- instructions.
use Rattle.std.specs.Prelude.{ℕ, ◌-◌, ◌^◌, ◌==◌, pos, negsuc, int_le, Bool, true, false, not, ◌&&◌, ◌||◌, if◌then◌else◌, List, slice_index_or, slice_get, length, Option, Some, None}
use Rattle.tcl_num.specs.Range.{least_value, values_end}
use Rattle.tcl_lang.specs.declared.ty.Ty.{Ty}
use Rattle.tcl_lang.specs.declared.instr.Atom.{Atom}
use Rattle.tcl_lang.specs.declared.instr.Atom.TheVariants as atom
use Rattle.tcl_lang.specs.declared.instr.Op.{Op}
use Rattle.tcl_lang.specs.declared.instr.Op.TheVariants.{Mov, Add, Adds, Adc, Adcs, Sub, Subb, Sbb, Sbbs, Mul, Mull, Mulj, Shl, Split, Join, Cast, Vpc, Cmov, And, Or, Xor, Not, Nondet}
use Rattle.tcl_lang.specs.declared.instr.Instr.{Instr}
use Rattle.tcl_lang.specs.declared.term.Term.{Term}
use Rattle.tcl_lang.specs.declared.term.Term as plain_term
use Rattle.tcl_lang.specs.declared.term.Term.TheViews as term
use Rattle.tcl_lang.specs.declared.variable.Variable.{Variable}
use Rattle.tcl_lang.specs.Types.{bit_type}
use Rattle.tcl_lang.specs.Exactness.{has_condition}

-- operand k of a list, 0 where there is none
abbrev pub atom_at : List Atom → ℕ → Atom
atom_at atoms k = slice_index_or atoms k (atom.Lit bit_type (pos 0))

-- an operand as a term
abbrev pub term_of : Atom → Term
term_of (atom.Var name) = plain_term.Var name
term_of (atom.Lit T n) = plain_term.Num n

-- a term times 2 ^ k
abbrev pub shifted : ℕ → Term → Term
shifted k t = term.Mul (plain_term.Num (pos (2 ^ k))) t

-- on a word of one bit
abbrev pub on_bit : Ty → Term → Option Term
on_bit T t = if T.width == 1 then Some t else None

-- 2 ^ w - 1 - a, with a sign - 1 - a
abbrev pub flipped_term : Ty → Term → Term
flipped_term T a = if T.signed then term.Sub (plain_term.Num (negsuc 0)) a else term.Sub (plain_term.Num (pos (2 ^ T.width - 1))) a

-- what the last result equals, at the operands a, b, c and the first result h
abbrev pub row_term : Op → Ty → ℕ → Term → Term → Term → Term → Option Term
row_term Mov T n a b c h = Some a
row_term Add T n a b c h = Some (term.Add a b)
row_term Adds T n a b c h = Some (term.Sub (term.Add a b) (shifted T.width h))
row_term Adc T n a b c h = Some (term.Add (term.Add a b) c)
row_term Adcs T n a b c h = Some (term.Sub (term.Add (term.Add a b) c) (shifted T.width h))
row_term Sub T n a b c h = Some (term.Sub a b)
row_term Subb T n a b c h = Some (term.Add (term.Sub a b) (shifted T.width h))
row_term Sbb T n a b c h = Some (term.Sub (term.Sub a b) c)
row_term Sbbs T n a b c h = Some (term.Add (term.Sub (term.Sub a b) c) (shifted T.width h))
row_term Mul T n a b c h = Some (term.Mul a b)
row_term Mull T n a b c h = Some (term.Sub (term.Mul a b) (shifted T.width h))
row_term Mulj T n a b c h = Some (term.Mul a b)
row_term Shl T n a b c h = Some (shifted n a)
row_term Split T n a b c h = Some (term.Sub a (shifted n h))
row_term Join T n a b c h = Some (term.Add (shifted T.width a) b)
row_term Cast T n a b c h = Some a
row_term Vpc T n a b c h = Some a
row_term Cmov T n a b c h = Some (term.Sub (term.Add (term.Mul a b) c) (term.Mul a c))
row_term And T n a b c h = on_bit T (term.Mul a b)
row_term Or T n a b c h = on_bit T (term.Sub (term.Add a b) (term.Mul a b))
row_term Xor T n a b c h = on_bit T (term.Sub (term.Add a b) (shifted 1 (term.Mul a b)))
row_term Not T n a b c h = Some (flipped_term T a)
row_term Nondet T n a b c h = None

abbrev pub instruction_term : Instr → Option Term
instruction_term i =
    row_term i.op i.ty i.amount (term_of (atom_at i.args 0)) (term_of (atom_at i.args 1)) (term_of (atom_at i.args 2))
    (plain_term.Var (slice_index_or i.outs 0 0))

-- the last result
abbrev pub last_of : List ℕ → ℕ
last_of outs = slice_index_or outs (length outs - 1) 0

-- every value of U is one of T
abbrev pub holds_all : Ty → Ty → Bool
holds_all T U =
    int_le (least_value T.signed T.width) (least_value U.signed U.width)
    && int_le (values_end U.signed U.width) (values_end T.signed T.width)

-- the type of an operand
abbrev pub type_in : Option Variable → Ty
type_in None = bit_type
type_in (Some v) = v.ty

abbrev pub type_of : List Variable → Atom → Ty
type_of variables (atom.Var name) = type_in (slice_get variables name)
type_of variables (atom.Lit T n) = T

-- the instruction is a cast that may lose bits, so that its equation has a multiple of the line's own unknown
abbrev pub may_lose : Op → Ty → Ty → Bool
may_lose Cast T U = not (holds_all T U)
may_lose _ T U = false

abbrev pub has_quotient : List Variable → Instr → Bool
has_quotient variables i = may_lose i.op i.ty (type_of variables (atom_at i.args 0))

-- the instruction takes a value of its own
abbrev pub is_nondet : Op → Bool
is_nondet Nondet = true
is_nondet _ = false

-- the rows with an exactness condition count only where that is a hypothesis
abbrev pub counts : Op → Bool → Bool
counts op exact = not (has_condition op) || exact
