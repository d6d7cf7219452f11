-- The canonical text of a program. Each tree knows the loosest place at which it stands without brackets, and each place
-- gives its parts theirs; brackets stand where a tree is looser than its place. Texts are nested to the right.
use Rattle.std.specs.Prelude.{ℕ, nat_le, pos, int_lt, Bool, true, false, if◌then◌else◌, List, [], ◌∷◌, ◌++◌, flat_map, slice_index_or, codes, Option, Some, None}
use Rattle.std.specs.Fmt.{decimal, signed_decimal}
use Rattle.tcl_lang.specs.declared.ty.Ty.{Ty}
use Rattle.tcl_lang.specs.declared.instr.Atom.{Atom}
use Rattle.tcl_lang.specs.declared.instr.Atom.TheVariants.{Var, Lit}
use Rattle.tcl_lang.specs.declared.instr.Instr.{Instr}
use Rattle.tcl_lang.specs.declared.term.Term.{Term, Term-F, fold-Term}
use Rattle.tcl_lang.specs.declared.term.Term.TheOpen as term_layer
use Rattle.tcl_lang.specs.declared.term.Part.{Part}
use Rattle.tcl_lang.specs.declared.range.RngOp.{RngOp}
use Rattle.tcl_lang.specs.declared.range.RngOp.TheVariants.{Add, Sub, Mul, And, Or, Xor}
use Rattle.tcl_lang.specs.declared.range.CmpOp.{CmpOp}
use Rattle.tcl_lang.specs.declared.range.CmpOp.TheVariants.{Eq, Ne, Lt, Le, Gt, Ge}
use Rattle.tcl_lang.specs.declared.range.RngTerm.{RngTerm, RngTerm-F, fold-RngTerm}
use Rattle.tcl_lang.specs.declared.range.RngTerm.TheOpen as range_layer
use Rattle.tcl_lang.specs.declared.range.RngPred.{RngPred, RngPred-F, fold-RngPred}
use Rattle.tcl_lang.specs.declared.range.RngPred.TheOpen as pred_layer
use Rattle.tcl_lang.specs.declared.pred.Pred.{Pred}
use Rattle.tcl_lang.specs.declared.pred.Pred.TheVariants.{Alg, Rng}
use Rattle.tcl_lang.specs.declared.pred.Line.{Line}
use Rattle.tcl_lang.specs.declared.pred.Line.TheVariants.{Input, Pre, Step, Assert, Assume, Cut, Post}
use Rattle.tcl_lang.specs.Shape.{has_amount}
use Rattle.tcl_lang.specs.Program.{NamedProgram}
use Rattle.tcl_text.specs.Words.{word_of_op}

-- brackets where the tree is looser than its place: codes 40 and 41 are round, 91 and 93 square
abbrev pub bracket : ℕ → ℕ → ℕ → List ℕ
bracket code own place = if nat_le own place then [] else code ∷ []

-- the bytes of a name
abbrev pub name_text : List (List ℕ) → ℕ → List ℕ
name_text names name = slice_index_or names name []

abbrev pub type_text : Ty → List ℕ
type_text T = (if T.signed then 115 else 117) ∷ decimal T.width

-- algebraic terms. Places: 0 the base of a power, 1 behind a sign, 2 a factor, 3 a product, 4 a sum
abbrev pub term_text_step : List (List ℕ) → Term-F (ℕ → List ℕ) → ℕ → List ℕ
term_text_step names (term_layer.Var name) place = name_text names name
term_text_step names (term_layer.Num n) place = signed_decimal n
term_text_step names (term_layer.Neg t) place = bracket 40 2 place ++ (codes "-" ++ (t 1 ++ bracket 41 2 place))
term_text_step names (term_layer.Add t u) place = bracket 40 4 place ++ (t 4 ++ (codes " + " ++ (u 3 ++ bracket 41 4 place)))
term_text_step names (term_layer.Sub t u) place = bracket 40 4 place ++ (t 4 ++ (codes " - " ++ (u 3 ++ bracket 41 4 place)))
term_text_step names (term_layer.Mul t u) place = bracket 40 3 place ++ (t 3 ++ (codes " * " ++ (u 2 ++ bracket 41 3 place)))
term_text_step names (term_layer.Pow t k) place = bracket 40 1 place ++ (t 0 ++ (codes "**" ++ (decimal k ++ bracket 41 1 place)))

abbrev pub term_text : List (List ℕ) → Term → ℕ → List ℕ
term_text names t = fold-Term (ℕ → List ℕ) (term_text_step names) t

-- a literal from 0 may not stand behind a sign, to which it would belong
abbrev pub atom_place : Atom → ℕ
atom_place (Var name) = 0
atom_place (Lit T n) = if int_lt n (pos 0) then 0 else 1

abbrev pub atom_text : List (List ℕ) → Atom → List ℕ
atom_text names (Var name) = name_text names name
atom_text names (Lit T n) = signed_decimal n ++ (codes "@" ++ type_text T)

-- range terms. Places: 0 behind `-`, 1 behind `~`, 2 a factor, from 3 on the operators by how loosely they bind
abbrev pub operator_place : RngOp → ℕ
operator_place Mul = 3
operator_place Add = 4
operator_place Sub = 4
operator_place And = 5
operator_place Xor = 6
operator_place Or = 7

-- the place of the right side of an operator
abbrev pub right_place : RngOp → ℕ
right_place Mul = 2
right_place Add = 3
right_place Sub = 3
right_place And = 4
right_place Xor = 5
right_place Or = 6

abbrev pub operator_text : RngOp → List ℕ
operator_text Add = codes " + "
operator_text Sub = codes " - "
operator_text Mul = codes " * "
operator_text And = codes " & "
operator_text Or = codes " | "
operator_text Xor = codes " ^ "

abbrev pub range_term_text_step : List (List ℕ) → RngTerm-F (ℕ → List ℕ) → ℕ → List ℕ
range_term_text_step names (range_layer.Leaf atom) place =
    bracket 40 (atom_place atom) place ++ (atom_text names atom ++ bracket 41 (atom_place atom) place)
range_term_text_step names (range_layer.Neg t) place = bracket 40 2 place ++ (codes "-" ++ (t 0 ++ bracket 41 2 place))
range_term_text_step names (range_layer.Flip t) place = bracket 40 2 place ++ (codes "~" ++ (t 1 ++ bracket 41 2 place))
range_term_text_step names (range_layer.Bin op t u) place =
    bracket 40 (operator_place op) place
    ++ (t (operator_place op) ++ (operator_text op ++ (u (right_place op) ++ bracket 41 (operator_place op) place)))
range_term_text_step names (range_layer.Cast T t) place =
    codes "cast(" ++ (type_text T ++ (codes ", " ++ (t 7 ++ codes ")")))

abbrev pub range_term_text : List (List ℕ) → RngTerm → ℕ → List ℕ
range_term_text names t = fold-RngTerm (ℕ → List ℕ) (range_term_text_step names) t

abbrev pub comparison_text : CmpOp → List ℕ
comparison_text Eq = codes " = "
comparison_text Ne = codes " != "
comparison_text Lt = codes " < "
comparison_text Le = codes " <= "
comparison_text Gt = codes " > "
comparison_text Ge = codes " >= "

-- range predicates. Places: 0 behind `!`, 1 with a sign, 2 `&&`, 3 the double bar
abbrev pub range_pred_text_step : List (List ℕ) → RngPred-F (ℕ → List ℕ) → ℕ → List ℕ
range_pred_text_step names pred_layer.True place = codes "true"
range_pred_text_step names pred_layer.False place = codes "false"
range_pred_text_step names (pred_layer.Cmp op t u) place =
    range_term_text names t 7 ++ (comparison_text op ++ range_term_text names u 7)
range_pred_text_step names (pred_layer.Not p) place = bracket 91 1 place ++ (codes "!" ++ (p 0 ++ bracket 93 1 place))
range_pred_text_step names (pred_layer.Both p q) place =
    bracket 91 2 place ++ (p 2 ++ (codes " && " ++ (q 1 ++ bracket 93 2 place)))
range_pred_text_step names (pred_layer.Either p q) place =
    bracket 91 3 place ++ (p 3 ++ (codes " || " ++ (q 2 ++ bracket 93 3 place)))

abbrev pub range_pred_text : List (List ℕ) → RngPred → List ℕ
range_pred_text names p = fold-RngPred (ℕ → List ℕ) (range_pred_text_step names) p 3

-- a modulus: its first part has no sign, and each other part has its sign as an operator
abbrev pub power_text : Option ℕ → List ℕ
power_text None = []
power_text (Some k) = codes "**" ++ decimal k

abbrev pub part_text : Part → List ℕ
part_text p = signed_decimal p.base ++ power_text p.power

abbrev pub more_parts_text : List Part → List ℕ
more_parts_text parts = flat_map (λ p. (if p.minus then codes " - " else codes " + ") ++ part_text p) parts

abbrev pub modulus_text : Option (List Part) → List ℕ
modulus_text None = []
modulus_text (Some []) = []
modulus_text (Some (p ∷ parts)) = codes " mod " ++ (part_text p ++ more_parts_text parts)

abbrev pub predicate_text : List (List ℕ) → Pred → List ℕ
predicate_text names (Rng p) = codes "rng " ++ range_pred_text names p
predicate_text names (Alg p) =
    codes "alg " ++ (term_text names p.left 4 ++ (codes " = " ++ (term_text names p.right 4 ++ modulus_text p.modulus)))

-- an instruction: its word, type, results, operands and amount
abbrev pub amount_text : Bool → ℕ → List ℕ
amount_text false n = []
amount_text true n = codes " " ++ decimal n

abbrev pub instruction_text : List (List ℕ) → Instr → List ℕ
instruction_text names i =
    word_of_op i.op
    ++ (codes " "
    ++ (type_text i.ty
    ++ (flat_map (λ name. codes " " ++ name_text names name) i.outs
    ++ (flat_map (λ atom. codes " " ++ atom_text names atom) i.args ++ amount_text (has_amount i.op) i.amount))))

abbrev pub line_text : List (List ℕ) → Line → List ℕ
line_text names (Input T name) = codes "in " ++ (type_text T ++ (codes " " ++ name_text names name))
line_text names (Pre p) = codes "pre " ++ predicate_text names p
line_text names (Step i) = instruction_text names i
line_text names (Assert p) = codes "assert " ++ predicate_text names p
line_text names (Assume p) = codes "assume " ++ predicate_text names p
line_text names (Cut p) = codes "cut " ++ predicate_text names p
line_text names (Post p) = codes "post " ++ predicate_text names p

-- the lines and `end`, each ended by a line feed
abbrev pub canonical_text : NamedProgram → List ℕ
canonical_text p = flat_map (λ l. line_text p.names l ++ 10 ∷ []) p.lines ++ (codes "end" ++ 10 ∷ [])
