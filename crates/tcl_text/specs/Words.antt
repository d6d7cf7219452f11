-- The words that are no names: instructions, types and the other reserved words.
use Rattle.std.specs.Prelude.{ℕ, ◌+◌, ◌-◌, ◌*◌, nat_le, ◌==◌, Bool, true, false, ◌&&◌, if◌then◌else◌, List, length, slice_index, codes, bytes_eq, Option, Some, None}
use Rattle.tcl_lang.specs.declared.ty.Ty.{Ty}
use Rattle.tcl_lang.specs.Types.{is_ty}
use Rattle.tcl_lang.specs.declared.instr.Op.{Op}
use Rattle.tcl_lang.specs.declared.instr.Op.TheVariants as op
use Rattle.tcl_text.specs.declared.token.Keyword.{Keyword}
use Rattle.tcl_text.specs.declared.token.Keyword.TheVariants as keyword
use Rattle.tcl_text.specs.declared.token.Token.{Token}
use Rattle.tcl_text.specs.declared.token.Token.TheVariants.{Kind, Instruction, Reserved}

-- the word of an instruction
abbrev pub word_of_op : Op → List ℕ
word_of_op op.Mov = codes "mov"
word_of_op op.Add = codes "add"
word_of_op op.Adds = codes "adds"
word_of_op op.Adc = codes "adc"
word_of_op op.Adcs = codes "adcs"
word_of_op op.Sub = codes "sub"
word_of_op op.Subb = codes "subb"
word_of_op op.Sbb = codes "sbb"
word_of_op op.Sbbs = codes "sbbs"
word_of_op op.Mul = codes "mul"
word_of_op op.Mull = codes "mull"
word_of_op op.Mulj = codes "mulj"
word_of_op op.Shl = codes "shl"
word_of_op op.Split = codes "split"
word_of_op op.Join = codes "join"
word_of_op op.Cast = codes "cast"
word_of_op op.Vpc = codes "vpc"
word_of_op op.Cmov = codes "cmov"
word_of_op op.And = codes "and"
word_of_op op.Or = codes "or"
word_of_op op.Xor = codes "xor"
word_of_op op.Not = codes "not"
word_of_op op.Nondet = codes "nondet"

-- the other reserved words
abbrev pub word_of_keyword : Keyword → List ℕ
word_of_keyword keyword.In = codes "in"
word_of_keyword keyword.Pre = codes "pre"
word_of_keyword keyword.Assert = codes "assert"
word_of_keyword keyword.Assume = codes "assume"
word_of_keyword keyword.Cut = codes "cut"
word_of_keyword keyword.Post = codes "post"
word_of_keyword keyword.End = codes "end"
word_of_keyword keyword.Rng = codes "rng"
word_of_keyword keyword.Alg = codes "alg"
word_of_keyword keyword.Mod = codes "mod"
word_of_keyword keyword.True = codes "true"
word_of_keyword keyword.False = codes "false"
word_of_keyword keyword.Ecut = codes "ecut"
word_of_keyword keyword.Rcut = codes "rcut"
word_of_keyword keyword.Proc = codes "proc"
word_of_keyword keyword.Call = codes "call"

-- a word that is this one, or else what the rest of a table says
abbrev pub op_or : Op → List ℕ → Option Op → Option Op
op_or o word others = if bytes_eq word (word_of_op o) then Some o else others

abbrev pub keyword_or : Keyword → List ℕ → Option Keyword → Option Keyword
keyword_or k word others = if bytes_eq word (word_of_keyword k) then Some k else others

-- the instruction with this word
abbrev pub op_of_word : List ℕ → Option Op
op_of_word w =
    op_or op.Mov w (op_or op.Add w (op_or op.Adds w (op_or op.Adc w (op_or op.Adcs w (op_or op.Sub w (op_or op.Subb w
    (op_or op.Sbb w (op_or op.Sbbs w (op_or op.Mul w (op_or op.Mull w (op_or op.Mulj w (op_or op.Shl w (op_or op.Split w
    (op_or op.Join w (op_or op.Cast w (op_or op.Vpc w (op_or op.Cmov w (op_or op.And w (op_or op.Or w (op_or op.Xor w
    (op_or op.Not w (op_or op.Nondet w None))))))))))))))))))))))

-- the reserved word
abbrev pub keyword_of_word : List ℕ → Option Keyword
keyword_of_word w =
    keyword_or keyword.In w (keyword_or keyword.Pre w (keyword_or keyword.Assert w (keyword_or keyword.Assume w
    (keyword_or keyword.Cut w (keyword_or keyword.Post w (keyword_or keyword.End w (keyword_or keyword.Rng w
    (keyword_or keyword.Alg w (keyword_or keyword.Mod w (keyword_or keyword.True w (keyword_or keyword.False w
    (keyword_or keyword.Ecut w (keyword_or keyword.Rcut w (keyword_or keyword.Proc w (keyword_or keyword.Call w None)))))))))))))))

-- `u` and `s` before a width
abbrev pub sign_of_byte : ℕ → Option Bool
sign_of_byte b = if b == 117 then Some false else (if b == 115 then Some true else None)

-- a type where it is one
abbrev pub checked_type : Option Bool → ℕ → Option Ty
checked_type None width = None
checked_type (Some signed) width =
    if is_ty (record { signed = signed; width = width }) then Some (record { signed = signed; width = width }) else None

-- a digit that is not 0 begins the width
abbrev pub short_type : ℕ → ℕ → Option Ty
short_type b d = if nat_le 49 d && nat_le d 57 then checked_type (sign_of_byte b) (d - 48) else None

abbrev pub long_type : ℕ → ℕ → ℕ → Option Ty
long_type b d e =
    if nat_le 49 d && nat_le d 57 && nat_le 48 e && nat_le e 57 then checked_type (sign_of_byte b) (10 * (d - 48) + (e - 48))
    else None

-- the type with this word: u1 to u64 and s2 to s64
abbrev pub type_of_word : List ℕ → Option Ty
type_of_word w =
    if length w == 2 then short_type (slice_index w 0) (slice_index w 1)
    else (if length w == 3 then long_type (slice_index w 0) (slice_index w 1) (slice_index w 2) else None)

-- what a word means that is no name
abbrev pub meaning_from : Option Op → Option Keyword → Option Ty → Option Token
meaning_from (Some o) k t = Some (Instruction o)
meaning_from None (Some k) t = Some (Reserved k)
meaning_from None None (Some T) = Some (Kind T)
meaning_from None None None = None

unfoldable pub meaning_of : List ℕ → Option Token
meaning_of w = meaning_from (op_of_word w) (keyword_of_word w) (type_of_word w)
