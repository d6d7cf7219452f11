-- The brackets among the tokens of a text.
use Rattle.std.specs.Prelude.{Bool, true, false}
use Rattle.tcl_text.specs.declared.symbol.Symbol.{Symbol}
use Rattle.tcl_text.specs.declared.symbol.Symbol.TheVariants.{Open, Close, OpenSquare, CloseSquare}
use Rattle.tcl_text.specs.declared.token.Token.{Token}
use Rattle.tcl_text.specs.declared.token.Token.TheVariants.{Sign}

-- round and square brackets
abbrev pub is_bracket_symbol : Symbol → Bool
is_bracket_symbol Open = true
is_bracket_symbol Close = true
is_bracket_symbol OpenSquare = true
is_bracket_symbol CloseSquare = true
is_bracket_symbol _ = false

abbrev pub is_bracket : Token → Bool
is_bracket (Sign s) = is_bracket_symbol s
is_bracket _ = false
