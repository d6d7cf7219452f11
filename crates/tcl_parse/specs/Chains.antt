-- Trees by the parts of their text, alike for each kind: chains of operators, signs, and what stands in brackets.
use Rattle.std.specs.Prelude.{ℕ, Option, Some, None, List, ◌∷◌}
use Rattle.tcl_lang.specs.declared.ty.Ty.{Ty}
use Rattle.tcl_lang.specs.declared.instr.Op.TheVariants.{Cast}
use Rattle.tcl_lang.specs.declared.term.Term.TheViews as term
use Rattle.tcl_lang.specs.declared.range.RngTerm.TheViews as range_term
use Rattle.tcl_lang.specs.declared.range.RngPred.TheViews as range_pred
use Rattle.tcl_text.specs.declared.symbol.Symbol.{Symbol}
use Rattle.tcl_text.specs.declared.symbol.Symbol.TheVariants.{Minus, Tilde, Bang, Open, Close, OpenSquare, CloseSquare, Comma}
use Rattle.tcl_text.specs.declared.token.Token.{Token}
use Rattle.tcl_text.specs.declared.token.Token.TheVariants.{Kind, Instruction, Sign}
use Rattle.tcl_text.specs.Trees.{Sort, alg, wrd, prd, Tree}
use Rattle.tcl_text.specs.Grammar.{Chain, Powered, Prim, NoLiteral}

-- the greatest height of an operator, up to which a tree in brackets is read
abbrev pub loosest : Sort → ℕ
loosest alg = 2
loosest wrd = 5
loosest prd = 2

-- the bracket that closes a tree
abbrev pub closing : Sort → Symbol
closing alg = Close
closing wrd = Close
closing prd = CloseSquare

-- a factor behind its sign
abbrev pub Base : (s : Sort) → List Token → Tree s → List Token → Type 0
Base alg = Powered
Base wrd = Prim wrd
Base prd = Prim prd

-- the tokens begin with a sign; the `-` before a literal belongs to the literal
pub data SignAt : Sort → List Token → Symbol → List Token → Type 0 where
  minus : {us : List Token} → SignAt alg (Sign Minus ∷ us) Minus us
  minus_word : {us : List Token} → NoLiteral us → SignAt wrd (Sign Minus ∷ us) Minus us
  flip : {us : List Token} → SignAt wrd (Sign Tilde ∷ us) Tilde us
  bang : {us : List Token} → SignAt prd (Sign Bang ∷ us) Bang us

-- the tokens begin with no sign
abbrev pub NoSignAt : Sort → List Token → Type 0
NoSignAt s ts = (symbol : Symbol) (us : List Token) → SignAt s ts symbol us → ⊥

-- the tree of a sign and the tree behind it
abbrev pub signed : (s : Sort) → Symbol → Tree s → Tree s
signed alg symbol t = term.Neg t
signed wrd Minus t = range_term.Neg t
signed wrd _ t = range_term.Flip t
signed prd symbol p = range_pred.Not p

-- the tokens begin with a bracket, or with a cast's and the type that it casts to
pub data Opens : Sort → List Token → Option Ty → List Token → Type 0 where
  bracket : {us : List Token} → Opens alg (Sign Open ∷ us) None us
  word_bracket : {us : List Token} → Opens wrd (Sign Open ∷ us) None us
  cast : {T : Ty} {us : List Token} → Opens wrd (Instruction Cast ∷ Sign Open ∷ Kind T ∷ Sign Comma ∷ us) (Some T) us
  square : {us : List Token} → Opens prd (Sign OpenSquare ∷ us) None us

-- the tokens begin with no bracket
abbrev pub NotOpened : Sort → List Token → Type 0
NotOpened s ts = (cast : Option Ty) (us : List Token) → Opens s ts cast us → ⊥

-- the tokens begin with a tree and the bracket that closes it
abbrev pub Closed : (s : Sort) → List Token → Tree s → List Token → Type 0
Closed s ts t us = Chain s (loosest s) ts t (Sign (closing s) ∷ us)
