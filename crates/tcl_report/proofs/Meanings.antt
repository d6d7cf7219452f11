-- What the words of a canonical text mean: types, instructions and the words of lines.
use Rattle.std.proofs.Common.{◌≡◌, ℕ, ◌<◌, refl, sym, ap, ◌∙◌, arith}
use Rattle.std.specs.Prelude.{◌==◌, nat_le, Bool, true, false, not, ◌||◌, if◌then◌else◌, Option, Some}
use Rattle.std.specs.Fmt.{digits}
use Rattle.std.proofs.lemmas.Bool.{leb-true, eqb-true, and_parts, agree_below, agree_below_at}
use Rattle.tcl_lang.specs.declared.ty.Ty.{Ty}
use Rattle.tcl_lang.specs.declared.instr.Op.{Op}
use Rattle.tcl_lang.specs.declared.instr.Op.TheVariants as op
use Rattle.tcl_lang.specs.Types.{is_ty, same_sign, same_type}
use Rattle.tcl_text.specs.declared.token.Keyword.TheVariants as keyword
use Rattle.tcl_text.specs.declared.token.Keyword.{Keyword}
use Rattle.tcl_text.specs.declared.token.Token.{Token}
use Rattle.tcl_text.specs.declared.token.Token.TheVariants.{Kind, Instruction, Reserved}
use Rattle.tcl_text.specs.Words.{word_of_op, word_of_keyword, meaning_of}
use Rattle.tcl_text.specs.Canonical.{type_text}

-- the words of types
abbrev same_kind : Option Token → Ty → Bool
same_kind (Some (Kind U)) T = same_type U T
same_kind _ T = false

signs_same : (s t : Bool) → same_sign s t ≡ true → s ≡ t
signs_same true true e = refl
signs_same false false e = refl
signs_same _ _ e = absurd cc

abbrev ty_of : Bool → ℕ → Ty
ty_of signed width = record { signed = signed; width = width }

types_same : (U T : Ty) → same_type U T ≡ true → U ≡ T
types_same U T e =
    let parts = and_parts (same_sign U.signed T.signed) (U.width == T.width) e in
    ap (λ s. ty_of s U.width) (signs_same U.signed T.signed parts.0) ∙ ap (ty_of T.signed) (eqb-true U.width T.width parts.1)

same_kind_is : (o : Option Token) (T : Ty) → same_kind o T ≡ true → o ≡ Some (Kind T)
same_kind_is (Some (Kind U)) T e = ap (λ V. Some (Kind V)) (types_same U T e)
same_kind_is _ T e = absurd cc

-- each type is meant by its word
is_kind : Bool → ℕ → Bool
is_kind signed w = not (is_ty (ty_of signed w)) || same_kind (meaning_of (type_text (ty_of signed w))) (ty_of signed w)

all_kinds : (signed : Bool) → agree_below (is_kind signed) (λ _. true) 65 ≡ true
unfolding is_kind meaning_of digits
all_kinds true = refl
all_kinds false = refl

kind_of : (signed : Bool) (w : ℕ) → w < 65 → is_ty (ty_of signed w) ≡ true → same_kind (meaning_of (type_text (ty_of signed w))) (ty_of signed w) ≡ true
unfolding is_kind
kind_of signed w low h =
    sym (ap (λ b. not b || same_kind (meaning_of (type_text (ty_of signed w))) (ty_of signed w)) h)
    ∙ agree_below_at (is_kind signed) (λ _. true) 65 w (all_kinds signed) low

pub kind_meaning : (T : Ty) → is_ty T ≡ true → meaning_of (type_text T) ≡ Some (Kind T)
kind_meaning T e =
    let low = leb-true T.width 64 (and_parts (nat_le (if T.signed then 2 else 1) T.width) (nat_le T.width 64) e).1 in
    same_kind_is (meaning_of (type_text T)) T (kind_of T.signed T.width (omega (arith, low)) e)

-- the words of instructions and of lines
pub op_meaning : (o : Op) → meaning_of (word_of_op o) ≡ Some (Instruction o)
unfolding meaning_of
op_meaning op.Mov = refl
op_meaning _ = refl

pub keyword_meaning : (k : Keyword) → meaning_of (word_of_keyword k) ≡ Some (Reserved k)
unfolding meaning_of
keyword_meaning keyword.In = refl
keyword_meaning _ = refl
