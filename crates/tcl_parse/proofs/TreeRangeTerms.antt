-- Range terms: each step of their reader, found and not found.
use Rattle.std.proofs.Common.{◌≡◌, ◌<◌, List, [], ◌∷◌, refl, sym, subst, arith}
use Rattle.std.specs.Prelude.{Some, None}
use Rattle.tcl_lang.specs.declared.ty.Ty.{Ty}
use Rattle.tcl_lang.specs.declared.instr.Atom.{Atom}
use Rattle.tcl_lang.specs.declared.instr.Op.TheVariants.{Cast}
use Rattle.tcl_lang.specs.declared.range.RngTerm.{RngTerm, Leaf}
use Rattle.tcl_lang.specs.declared.range.RngTerm.TheViews as range_term
use Rattle.tcl_text.specs.declared.symbol.Symbol.TheVariants.{Minus, Star, Plus, Ampersand, Bar, Caret, Tilde, Open, Comma}
use Rattle.tcl_text.specs.declared.token.Token.{Token}
use Rattle.tcl_text.specs.declared.token.Token.TheVariants.{Kind, Instruction, Sign}
use Rattle.tcl_text.specs.Trees.{wrd, next_height}
use Rattle.tcl_text.specs.Grammar as grammar
use Rattle.tcl_text.specs.Grammar.{Prim, Operand, NoLiteral}
use Rattle.tcl_parse.specs.Readers.{Ends, NoEnd, NoOperand, NoSign}
use Rattle.tcl_parse.specs.Chains.{SignAt, NoSignAt, minus_word, flip, Opens, NotOpened, word_bracket, cast, Closed}

-- nothing goes on with a primary
always : (us : List Token) → 0 < next_height wrd us
always [] = omega arith
always (Sign Star ∷ us) = omega arith
always (Sign Plus ∷ us) = omega arith
always (Sign Minus ∷ us) = omega arith
always (Sign Ampersand ∷ us) = omega arith
always (Sign Caret ∷ us) = omega arith
always (Sign Bar ∷ us) = omega arith
always (token ∷ us) = omega arith

-- signs
pub minus_first : {ts us : List Token} → (ts ≡ Sign Minus ∷ us) × NoLiteral us → SignAt wrd ts Minus us
minus_first {us = us} e = subst (λ l. SignAt wrd l Minus us) (sym e.0) (minus_word e.1)

pub flip_first : {ts us : List Token} → ts ≡ Sign Tilde ∷ us → SignAt wrd ts Tilde us
flip_first {us = us} e = subst (λ l. SignAt wrd l Tilde us) (sym e) flip

pub no_sign : {ts : List Token} →
    ((us : List Token) → ts ≡ Sign Minus ∷ us → NoLiteral us → ⊥) → NoSign Tilde ts → NoSignAt wrd ts
no_sign a b _ us (minus_word n) = a us refl n
no_sign a b _ us flip = b us refl

-- brackets and casts
pub bracket_first : {ts us : List Token} → ts ≡ Sign Open ∷ us → Opens wrd ts None us
bracket_first {us = us} e = subst (λ l. Opens wrd l None us) (sym e) word_bracket

pub cast_first : {T : Ty} {ts us : List Token} →
    ts ≡ Instruction Cast ∷ Sign Open ∷ Kind T ∷ Sign Comma ∷ us → Opens wrd ts (Some T) us
cast_first {T = T} {us = us} e = subst (λ l. Opens wrd l (Some T) us) (sym e) cast

pub no_bracket : {ts : List Token} → NoSign Open ts →
    ((T : Ty) (us : List Token) → ts ≡ Instruction Cast ∷ Sign Open ∷ Kind T ∷ Sign Comma ∷ us → ⊥) → NotOpened wrd ts
no_bracket a b _ us word_bracket = a us refl
no_bracket a b _ us (cast {T = T}) = b T us refl

uncast : {ts us vs : List Token} {t : RngTerm} → Opens wrd ts None us → Closed wrd us t vs → Prim wrd ts t vs
uncast word_bracket c = grammar.word_bracket c

pub read_opened : {ts us vs : List Token} {t : RngTerm} → Opens wrd ts None us → Closed wrd us t vs → Ends wrd 0 (Prim wrd) ts t vs
read_opened {vs = vs} o c = record { reads = uncast o c; stops = always vs }

casted : {T : Ty} {ts us vs : List Token} {t : RngTerm} →
    Opens wrd ts (Some T) us → Closed wrd us t vs → Prim wrd ts (range_term.Cast T t) vs
casted cast c = grammar.cast c

pub read_casted : {T : Ty} {ts us vs : List Token} {t b : RngTerm} →
    Opens wrd ts (Some T) us → Closed wrd us t vs → b ≡ t → Ends wrd 0 (Prim wrd) ts (range_term.Cast T b) vs
read_casted {T = T} {ts = ts} {vs = vs} o c e =
    subst (λ b. Ends wrd 0 (Prim wrd) ts (range_term.Cast T b) vs) (sym e) (record { reads = casted o c; stops = always vs })

-- operands
pub read_leaf : {ts us : List Token} {a : Atom} → Operand ts a us → Ends wrd 0 (Prim wrd) ts (Leaf a) us
read_leaf {us = us} o = record { reads = grammar.operand o; stops = always us }

no_other : {ts us : List Token} {t : RngTerm} → NotOpened wrd ts → NoOperand ts → Prim wrd ts t us → ⊥
no_other absent none (grammar.operand o) = none _ _ o
no_other absent none (grammar.word_bracket c) = absent _ _ word_bracket
no_other absent none (grammar.cast c) = absent _ _ cast

pub no_leaf : {ts : List Token} → NotOpened wrd ts → NoOperand ts → NoEnd wrd 0 (Prim wrd) ts
no_leaf absent none t us r = no_other absent none r.reads
