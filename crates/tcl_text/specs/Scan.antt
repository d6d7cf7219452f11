-- The limits of one line: open brackets and operator tokens over its tokens alone, exponents over what it reads as.
use Rattle.std.specs.Prelude.{ℕ, ◌+◌, ◌-◌, nat_lt, nat_le, Bool, true, false, ◌&&◌, ◌||◌, List, [], ◌∷◌, count_by, Option, Some, None}
use Rattle.std.specs.List.{list_all}
use Rattle.tcl_lang.specs.declared.term.Term.{Term, Term-F, fold-Term}
use Rattle.tcl_lang.specs.declared.term.Term.TheOpen as layer
use Rattle.tcl_lang.specs.declared.term.Part.{Part}
use Rattle.tcl_lang.specs.declared.pred.Pred.{Pred}
use Rattle.tcl_lang.specs.declared.pred.Pred.TheVariants.{Alg, Rng}
use Rattle.tcl_lang.specs.Line.{predicate_of}
use Rattle.tcl_lang.specs.Shape.{is_exponent}
use Rattle.tcl_text.specs.declared.symbol.Symbol.{Symbol}
use Rattle.tcl_text.specs.declared.symbol.Symbol.TheVariants.{StarStar, AndAnd, BarBar, Plus, Minus, Star, Ampersand, Bar, Caret, Tilde, Bang, Open, Close, OpenSquare, CloseSquare}
use Rattle.tcl_text.specs.declared.token.Token.{Token}
use Rattle.tcl_text.specs.declared.token.Token.TheVariants.{Sign}
use Rattle.tcl_text.specs.declared.token.Statement.{Statement}
use Rattle.tcl_text.specs.declared.token.Statement.TheVariants.{Program, End}

-- how many brackets are open after a symbol; a closing bracket of either kind closes one where there is one
abbrev pub depth_after_symbol : ℕ → Symbol → ℕ
depth_after_symbol depth Open = depth + 1
depth_after_symbol depth OpenSquare = depth + 1
depth_after_symbol depth Close = depth - 1
depth_after_symbol depth CloseSquare = depth - 1
depth_after_symbol depth _ = depth

abbrev pub depth_after : ℕ → Token → ℕ
depth_after depth (Sign symbol) = depth_after_symbol depth symbol
depth_after depth _ = depth

-- more than 64 brackets are open at once, where some are open before
unfoldable pub nests_too_deep : ℕ → List Token → Bool
nests_too_deep depth [] = false
nests_too_deep depth (token ∷ tokens) =
    nat_lt 64 (depth_after depth token) || nests_too_deep (depth_after depth token) tokens

-- the operator tokens
abbrev pub is_operator_symbol : Symbol → Bool
is_operator_symbol StarStar = true
is_operator_symbol AndAnd = true
is_operator_symbol BarBar = true
is_operator_symbol Plus = true
is_operator_symbol Minus = true
is_operator_symbol Star = true
is_operator_symbol Ampersand = true
is_operator_symbol Bar = true
is_operator_symbol Caret = true
is_operator_symbol Tilde = true
is_operator_symbol Bang = true
is_operator_symbol _ = false

abbrev pub is_operator : Token → Bool
is_operator (Sign symbol) = is_operator_symbol symbol
is_operator _ = false

-- no line has more than 4,096 of them
abbrev pub has_too_many_operators : List Token → Bool
has_too_many_operators tokens = nat_lt 4096 (count_by is_operator tokens)

-- no exponent of a term is above 1,024
abbrev pub is_low_step : Term-F Bool → Bool
is_low_step (layer.Var name) = true
is_low_step (layer.Num n) = true
is_low_step (layer.Neg t) = t
is_low_step (layer.Add t u) = t && u
is_low_step (layer.Sub t u) = t && u
is_low_step (layer.Mul t u) = t && u
is_low_step (layer.Pow t k) = t && nat_le k 1024

abbrev pub is_low : Term → Bool
is_low t = fold-Term Bool is_low_step t

-- nor one of a modulus
abbrev pub is_low_modulus : Option (List Part) → Bool
is_low_modulus None = true
is_low_modulus (Some parts) = list_all (λ p. is_exponent p.power) parts

-- nor one of a predicate
abbrev pub is_low_predicate : Pred → Bool
is_low_predicate (Rng p) = true
is_low_predicate (Alg p) = is_low p.left && is_low p.right && is_low_modulus p.modulus

-- nor one of a line
abbrev pub is_low_stated : Option Pred → Bool
is_low_stated None = true
is_low_stated (Some p) = is_low_predicate p

abbrev pub is_low_statement : Statement → Bool
is_low_statement End = true
is_low_statement (Program l) = is_low_stated (predicate_of l)
