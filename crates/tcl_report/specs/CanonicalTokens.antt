-- The tokens of the canonical text. A tree is written with the loosest place at which it stands without brackets, and it
-- gives its parts their places; the place of an operator is that of the chains of its height.
use Rattle.std.specs.Prelude.{ℕ, suc, ◌-◌, nat_le, ℤ, pos, int_lt, neg_ℤ, Bool, true, false, if◌then◌else◌, List, [], ◌∷◌, ◌++◌, map, flat_map, Option, Some, None}
use Rattle.tcl_lang.specs.declared.instr.Atom.{Atom}
use Rattle.tcl_lang.specs.declared.instr.Atom.TheVariants.{Var, Lit}
use Rattle.tcl_lang.specs.declared.instr.Instr.{Instr}
use Rattle.tcl_lang.specs.declared.instr.Op.TheVariants.{Cast}
use Rattle.tcl_lang.specs.declared.term.Term.{Term-F, fold-Term}
use Rattle.tcl_lang.specs.declared.term.Term.TheOpen as term_layer
use Rattle.tcl_lang.specs.declared.term.Part.{Part}
use Rattle.tcl_lang.specs.declared.range.RngOp.TheVariants as range_op
use Rattle.tcl_lang.specs.declared.range.CmpOp.{CmpOp}
use Rattle.tcl_lang.specs.declared.range.CmpOp.TheVariants as comparison
use Rattle.tcl_lang.specs.declared.range.RngTerm.{RngTerm, RngTerm-F, fold-RngTerm}
use Rattle.tcl_lang.specs.declared.range.RngTerm.TheOpen as range_layer
use Rattle.tcl_lang.specs.declared.range.RngPred.{RngPred-F, fold-RngPred}
use Rattle.tcl_lang.specs.declared.range.RngPred.TheOpen as pred_layer
use Rattle.tcl_lang.specs.declared.pred.Pred.{Pred}
use Rattle.tcl_lang.specs.declared.pred.Pred.TheVariants.{Alg, Rng}
use Rattle.tcl_lang.specs.declared.pred.Line.{Line}
use Rattle.tcl_lang.specs.declared.pred.Line.TheVariants as line
use Rattle.tcl_lang.specs.Shape.{has_amount}
use Rattle.tcl_text.specs.declared.operator.TermOp.TheVariants as term_op
use Rattle.tcl_text.specs.declared.operator.PredOp.TheVariants as pred_op
use Rattle.tcl_text.specs.declared.symbol.Symbol.{Symbol}
use Rattle.tcl_text.specs.declared.symbol.Symbol.TheVariants.{StarStar, AndAnd, BarBar, NotEqual, LessEqual, GreaterEqual, Plus, Minus, Star, Ampersand, Bar, Caret, Tilde, Equal, Less, Greater, Bang, Open, Close, OpenSquare, CloseSquare, Comma, At}
use Rattle.tcl_text.specs.declared.token.Keyword.TheVariants as keyword
use Rattle.tcl_text.specs.declared.token.Token.{Token}
use Rattle.tcl_text.specs.declared.token.Token.TheVariants.{Name, Number, Kind, Instruction, Reserved, Sign}
use Rattle.tcl_text.specs.Trees.{Sort, alg, wrd, prd, Tree, Joint, symbol_height}
use Rattle.tcl_text.specs.Canonical.{atom_place}

-- how a tree is written: the loosest place at which it stands without brackets, and its tokens without them
pub record Written : Type 0 where
  pub own : ℕ
  pub body : List Token

-- the brackets of each kind of trees
abbrev pub opening : Sort → Symbol
opening alg = Open
opening wrd = Open
opening prd = OpenSquare

abbrev pub closing : Sort → Symbol
closing alg = Close
closing wrd = Close
closing prd = CloseSquare

-- a tree at a place: in brackets where it is looser
abbrev pub bracketed : Sort → List Token → List Token
bracketed s tokens = Sign (opening s) ∷ (tokens ++ Sign (closing s) ∷ [])

abbrev pub placed : Sort → Written → ℕ → List Token
placed s w place = if nat_le w.own place then w.body else bracketed s w.body

-- the place of a chain of operators up to this height. Below it, a term stands behind a sign (1) or as the base of a power
-- (0), a range term behind `~` (1) or behind `-` (0), and a predicate behind `!` (0)
abbrev pub chain_place : Sort → ℕ → ℕ
chain_place alg n = suc (suc n)
chain_place wrd n = suc (suc n)
chain_place prd n = suc n

-- the symbols of operators and comparisons
abbrev pub joint_symbol : (s : Sort) → Joint s → Symbol
joint_symbol alg term_op.Plus = Plus
joint_symbol alg term_op.Minus = Minus
joint_symbol alg term_op.Times = Star
joint_symbol wrd range_op.Add = Plus
joint_symbol wrd range_op.Sub = Minus
joint_symbol wrd range_op.Mul = Star
joint_symbol wrd range_op.And = Ampersand
joint_symbol wrd range_op.Or = Bar
joint_symbol wrd range_op.Xor = Caret
joint_symbol prd pred_op.And = AndAnd
joint_symbol prd pred_op.Or = BarBar

abbrev pub comparison_symbol : CmpOp → Symbol
comparison_symbol comparison.Eq = Equal
comparison_symbol comparison.Ne = NotEqual
comparison_symbol comparison.Lt = Less
comparison_symbol comparison.Le = LessEqual
comparison_symbol comparison.Gt = Greater
comparison_symbol comparison.Ge = GreaterEqual

-- an operator: its place is that of its height, where its left side stands too; its right side stands one height below
abbrev pub joint_height : (s : Sort) → Joint s → ℕ
joint_height s o = symbol_height s (joint_symbol s o)

abbrev pub joint_written : (s : Sort) → Joint s → Written → Written → Written
joint_written s o t u =
    record {
      own = chain_place s (joint_height s o);
      body = placed s t (chain_place s (joint_height s o)) ++ (Sign (joint_symbol s o) ∷ placed s u (chain_place s (joint_height s o - 1)));
    }

-- a sign before a tree at a place
abbrev pub signed_written : Sort → Symbol → ℕ → Written → Written
signed_written s symbol place t = record { own = chain_place s 0; body = Sign symbol ∷ placed s t place }

-- what never stands in brackets
abbrev pub plain_written : List Token → Written
plain_written tokens = record { own = 0; body = tokens }

-- operands: a negative literal begins with its sign
abbrev pub literal_tokens : Bool → ℤ → List Token → List Token
literal_tokens minus n others = if minus then Sign Minus ∷ (Number (neg_ℤ n) ∷ others) else Number n ∷ others

abbrev pub atom_tokens : Atom → List Token
atom_tokens (Var name) = Name name ∷ []
atom_tokens (Lit T n) = literal_tokens (int_lt n (pos 0)) n (Sign At ∷ (Kind T ∷ []))

-- trees
abbrev pub power_written : Written → ℕ → Written
power_written t k = record { own = 1; body = placed alg t 0 ++ (Sign StarStar ∷ (Number (pos k) ∷ [])) }

abbrev pub term_written_step : Term-F Written → Written
term_written_step (term_layer.Var name) = plain_written (Name name ∷ [])
term_written_step (term_layer.Num n) = plain_written (Number n ∷ [])
term_written_step (term_layer.Neg t) = signed_written alg Minus 1 t
term_written_step (term_layer.Add t u) = joint_written alg term_op.Plus t u
term_written_step (term_layer.Sub t u) = joint_written alg term_op.Minus t u
term_written_step (term_layer.Mul t u) = joint_written alg term_op.Times t u
term_written_step (term_layer.Pow t k) = power_written t k

abbrev pub leaf_written : Atom → Written
leaf_written atom = record { own = atom_place atom; body = atom_tokens atom }

abbrev pub range_written_step : RngTerm-F Written → Written
range_written_step (range_layer.Leaf atom) = leaf_written atom
range_written_step (range_layer.Neg t) = signed_written wrd Minus 0 t
range_written_step (range_layer.Flip t) = signed_written wrd Tilde 1 t
range_written_step (range_layer.Bin op t u) = joint_written wrd op t u
range_written_step (range_layer.Cast T t) =
    plain_written (Instruction Cast ∷ (Sign Open ∷ (Kind T ∷ (Sign Comma ∷ (placed wrd t 7 ++ (Sign Close ∷ []))))))

abbrev pub range_written : RngTerm → Written
range_written t = fold-RngTerm Written range_written_step t

abbrev pub compare_written : CmpOp → RngTerm → RngTerm → Written
compare_written op t u =
    plain_written (placed wrd (range_written t) 7 ++ (Sign (comparison_symbol op) ∷ placed wrd (range_written u) 7))

abbrev pub pred_written_step : RngPred-F Written → Written
pred_written_step pred_layer.True = plain_written (Reserved keyword.True ∷ [])
pred_written_step pred_layer.False = plain_written (Reserved keyword.False ∷ [])
pred_written_step (pred_layer.Cmp op t u) = compare_written op t u
pred_written_step (pred_layer.Not p) = signed_written prd Bang 0 p
pred_written_step (pred_layer.Both p q) = joint_written prd pred_op.And p q
pred_written_step (pred_layer.Either p q) = joint_written prd pred_op.Or p q

abbrev pub tree_written : (s : Sort) → Tree s → Written
tree_written alg t = fold-Term Written term_written_step t
tree_written wrd t = fold-RngTerm Written range_written_step t
tree_written prd p = fold-RngPred Written pred_written_step p

-- the tokens of a tree at a place
abbrev pub tree_tokens : (s : Sort) → Tree s → ℕ → List Token
tree_tokens s t place = placed s (tree_written s t) place

-- moduli
abbrev pub power_tokens : Option ℕ → List Token
power_tokens None = []
power_tokens (Some k) = Sign StarStar ∷ (Number (pos k) ∷ [])

abbrev pub part_tokens : Part → List Token
part_tokens p = Number p.base ∷ power_tokens p.power

abbrev pub signed_part_tokens : Part → List Token
signed_part_tokens p = Sign (if p.minus then Minus else Plus) ∷ part_tokens p

abbrev pub modulus_tokens : Option (List Part) → List Token
modulus_tokens None = []
modulus_tokens (Some []) = []
modulus_tokens (Some (p ∷ parts)) = Reserved keyword.Mod ∷ (part_tokens p ++ flat_map signed_part_tokens parts)

abbrev pub predicate_tokens : Pred → List Token
predicate_tokens (Rng p) = Reserved keyword.Rng ∷ tree_tokens prd p 3
predicate_tokens (Alg p) =
    Reserved keyword.Alg ∷ (tree_tokens alg p.left 4 ++ (Sign Equal ∷ (tree_tokens alg p.right 4 ++ modulus_tokens p.modulus)))

-- lines
abbrev pub amount_tokens : Bool → ℕ → List Token
amount_tokens false n = []
amount_tokens true n = Number (pos n) ∷ []

abbrev pub instruction_tokens : Instr → List Token
instruction_tokens i =
    Instruction i.op ∷ (Kind i.ty ∷ (map Name i.outs ++ (flat_map atom_tokens i.args ++ amount_tokens (has_amount i.op) i.amount)))

abbrev pub line_tokens : Line → List Token
line_tokens (line.Input T name) = Reserved keyword.In ∷ (Kind T ∷ (Name name ∷ []))
line_tokens (line.Pre p) = Reserved keyword.Pre ∷ predicate_tokens p
line_tokens (line.Step i) = instruction_tokens i
line_tokens (line.Assert p) = Reserved keyword.Assert ∷ predicate_tokens p
line_tokens (line.Assume p) = Reserved keyword.Assume ∷ predicate_tokens p
line_tokens (line.Cut p) = Reserved keyword.Cut ∷ predicate_tokens p
line_tokens (line.Post p) = Reserved keyword.Post ∷ predicate_tokens p
