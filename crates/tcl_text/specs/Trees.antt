-- The three kinds of trees of the grammar, and the binary operators of each with how loosely they bind. Operators of one
-- height group to the left.
use Rattle.std.specs.Prelude.{ℕ, List, [], ◌∷◌, Option, Some, None}
use Rattle.tcl_lang.specs.declared.term.Term.{Term}
use Rattle.tcl_lang.specs.declared.term.Term.TheViews as term
use Rattle.tcl_lang.specs.declared.range.RngTerm.{RngTerm}
use Rattle.tcl_lang.specs.declared.range.RngTerm.TheViews as range_term
use Rattle.tcl_lang.specs.declared.range.RngPred.{RngPred}
use Rattle.tcl_lang.specs.declared.range.RngPred.TheViews as range_pred
use Rattle.tcl_lang.specs.declared.range.RngOp.{RngOp}
use Rattle.tcl_lang.specs.declared.range.RngOp.TheVariants as range_op
use Rattle.tcl_lang.specs.declared.range.CmpOp.{CmpOp}
use Rattle.tcl_lang.specs.declared.range.CmpOp.TheVariants as comparison
use Rattle.tcl_text.specs.declared.operator.TermOp.{TermOp}
use Rattle.tcl_text.specs.declared.operator.TermOp.TheVariants as term_op
use Rattle.tcl_text.specs.declared.operator.PredOp.{PredOp}
use Rattle.tcl_text.specs.declared.operator.PredOp.TheVariants as pred_op
use Rattle.tcl_text.specs.declared.symbol.Symbol.{Symbol}
use Rattle.tcl_text.specs.declared.symbol.Symbol.TheVariants.{StarStar, AndAnd, BarBar, NotEqual, LessEqual, GreaterEqual, Plus, Minus, Star, Ampersand, Bar, Caret, Equal, Less, Greater}
use Rattle.tcl_text.specs.declared.token.Token.{Token}
use Rattle.tcl_text.specs.declared.token.Token.TheVariants.{Sign}

-- algebraic terms, range terms (words), range predicates
pub data Sort : Type 0 where
  alg : Sort
  wrd : Sort
  prd : Sort

abbrev pub Tree : Sort → Type 0
Tree alg = Term
Tree wrd = RngTerm
Tree prd = RngPred

-- the binary operators
abbrev pub Joint : Sort → Type 0
Joint alg = TermOp
Joint wrd = RngOp
Joint prd = PredOp

-- one more than the greatest height of an operator
abbrev pub top : Sort → ℕ
top alg = 3
top wrd = 6
top prd = 3

-- how loosely a symbol binds: 0 goes on with what is no chain of operators of this kind, from 1 on operators stand
abbrev pub symbol_height : Sort → Symbol → ℕ
symbol_height alg StarStar = 0
symbol_height alg Star = 1
symbol_height alg Plus = 2
symbol_height alg Minus = 2
symbol_height alg _ = 3
symbol_height wrd Star = 1
symbol_height wrd Plus = 2
symbol_height wrd Minus = 2
symbol_height wrd Ampersand = 3
symbol_height wrd Caret = 4
symbol_height wrd Bar = 5
symbol_height wrd _ = 6
symbol_height prd Star = 0
symbol_height prd Plus = 0
symbol_height prd Minus = 0
symbol_height prd Ampersand = 0
symbol_height prd Caret = 0
symbol_height prd Bar = 0
symbol_height prd AndAnd = 1
symbol_height prd BarBar = 2
symbol_height prd _ = 3

abbrev pub height : Sort → Token → ℕ
height s (Sign symbol) = symbol_height s symbol
height s _ = top s

-- the height of the next token; the end of a line stops everything
abbrev pub next_height : Sort → List Token → ℕ
next_height s [] = top s
next_height s (token ∷ tokens) = height s token

-- the operator of a symbol
abbrev pub term_op_of : Symbol → Option TermOp
term_op_of Plus = Some term_op.Plus
term_op_of Minus = Some term_op.Minus
term_op_of Star = Some term_op.Times
term_op_of _ = None

abbrev pub range_op_of : Symbol → Option RngOp
range_op_of Plus = Some range_op.Add
range_op_of Minus = Some range_op.Sub
range_op_of Star = Some range_op.Mul
range_op_of Ampersand = Some range_op.And
range_op_of Bar = Some range_op.Or
range_op_of Caret = Some range_op.Xor
range_op_of _ = None

abbrev pub pred_op_of : Symbol → Option PredOp
pred_op_of AndAnd = Some pred_op.And
pred_op_of BarBar = Some pred_op.Or
pred_op_of _ = None

abbrev pub symbol_joint : (s : Sort) → Symbol → Option (Joint s)
symbol_joint alg symbol = term_op_of symbol
symbol_joint wrd symbol = range_op_of symbol
symbol_joint prd symbol = pred_op_of symbol

abbrev pub no_joint : (s : Sort) → Option (Joint s)
no_joint alg = None
no_joint wrd = None
no_joint prd = None

abbrev pub joint_of : (s : Sort) → Token → Option (Joint s)
joint_of s (Sign symbol) = symbol_joint s symbol
joint_of s _ = no_joint s

-- the tree of an operator and its two sides
abbrev pub joined_term : TermOp → Term → Term → Term
joined_term term_op.Plus t u = term.Add t u
joined_term term_op.Minus t u = term.Sub t u
joined_term term_op.Times t u = term.Mul t u

abbrev pub joined_pred : PredOp → RngPred → RngPred → RngPred
joined_pred pred_op.And p q = range_pred.Both p q
joined_pred pred_op.Or p q = range_pred.Either p q

abbrev pub joined : (s : Sort) → Joint s → Tree s → Tree s → Tree s
joined alg o t u = joined_term o t u
joined wrd o t u = range_term.Bin o t u
joined prd o t u = joined_pred o t u

-- the comparison of a token
abbrev pub symbol_comparison : Symbol → Option CmpOp
symbol_comparison Equal = Some comparison.Eq
symbol_comparison NotEqual = Some comparison.Ne
symbol_comparison Less = Some comparison.Lt
symbol_comparison LessEqual = Some comparison.Le
symbol_comparison Greater = Some comparison.Gt
symbol_comparison GreaterEqual = Some comparison.Ge
symbol_comparison _ = None

abbrev pub comparison_of : Token → Option CmpOp
comparison_of (Sign symbol) = symbol_comparison symbol
comparison_of _ = None
