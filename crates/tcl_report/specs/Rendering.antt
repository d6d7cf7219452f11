-- The text of a list of tokens: the tokens one behind the other, and a space between two neighbours or nothing, by a rule
-- that looks at what stands before and at the next token alone.
use Rattle.std.specs.Prelude.{ℕ, Bool, true, false, if◌then◌else◌, List, [], ◌∷◌, ◌++◌, codes}
use Rattle.std.specs.Fmt.{signed_decimal}
use Rattle.tcl_text.specs.declared.symbol.Symbol.{Symbol}
use Rattle.tcl_text.specs.declared.symbol.Symbol.TheVariants.{StarStar, AndAnd, BarBar, NotEqual, LessEqual, GreaterEqual, Plus, Minus, Star, Ampersand, Bar, Caret, Tilde, Equal, Less, Greater, Bang, Open, Close, OpenSquare, CloseSquare, Comma, At}
use Rattle.tcl_text.specs.declared.token.Keyword.TheVariants.{True, False}
use Rattle.tcl_text.specs.declared.token.Token.{Token}
use Rattle.tcl_text.specs.declared.token.Token.TheVariants.{Name, Number, Kind, Instruction, Reserved, Sign}
use Rattle.tcl_text.specs.Canonical.{name_text, type_text}
use Rattle.tcl_text.specs.Words.{word_of_op, word_of_keyword}

-- the bytes of a token
abbrev pub symbol_text : Symbol → List ℕ
symbol_text StarStar = codes "**"
symbol_text AndAnd = codes "&&"
symbol_text BarBar = codes "||"
symbol_text NotEqual = codes "!="
symbol_text LessEqual = codes "<="
symbol_text GreaterEqual = codes ">="
symbol_text Plus = codes "+"
symbol_text Minus = codes "-"
symbol_text Star = codes "*"
symbol_text Ampersand = codes "&"
symbol_text Bar = codes "|"
symbol_text Caret = codes "^"
symbol_text Tilde = codes "~"
symbol_text Equal = codes "="
symbol_text Less = codes "<"
symbol_text Greater = codes ">"
symbol_text Bang = codes "!"
symbol_text Open = codes "("
symbol_text Close = codes ")"
symbol_text OpenSquare = codes "["
symbol_text CloseSquare = codes "]"
symbol_text Comma = codes ","
symbol_text At = codes "@"

abbrev pub token_text : List (List ℕ) → Token → List ℕ
token_text names (Name x) = name_text names x
token_text names (Number n) = signed_decimal n
token_text names (Kind T) = type_text T
token_text names (Instruction o) = word_of_op o
token_text names (Reserved k) = word_of_keyword k
token_text names (Sign s) = symbol_text s

-- what stands before a token
pub data Before : Type 0 where
  -- the line begins, or a bracket, a sign, `**` or `@` holds the next token fast
  tight : Before
  -- a word of the line, an operator or a comma
  loose : Before
  -- the end of an operand, behind which operators stand
  ended : Before

abbrev pub is_tight : Before → Bool
is_tight tight = true
is_tight loose = false
is_tight ended = false

-- no space stands before these symbols: `)`, `]`, `,` and `@` anywhere, `(` and `**` behind an operand, and what is held fast
-- but `=`, which would go on with a `!`
abbrev pub behind_operand : Before → Bool
behind_operand tight = true
behind_operand loose = false
behind_operand ended = true

abbrev pub is_joined : Symbol → Before → Bool
is_joined Close before = true
is_joined CloseSquare before = true
is_joined Comma before = true
is_joined At before = true
is_joined Open before = behind_operand before
is_joined StarStar before = behind_operand before
is_joined Equal before = false
is_joined _ before = is_tight before

abbrev pub is_held : Before → Token → Bool
is_held before (Sign s) = is_joined s before
is_held before _ = is_tight before

-- the space between two neighbours
abbrev pub space_unless : Bool → List ℕ
space_unless held = if held then [] else codes " "

abbrev pub gap : Before → Token → List ℕ
gap before token = space_unless (is_held before token)

-- a `-` behind an operand is an operator, and else a sign
abbrev pub behind_minus : Before → Before
behind_minus tight = tight
behind_minus loose = tight
behind_minus ended = loose

abbrev pub behind_symbol : Symbol → Before → Before
behind_symbol Minus before = behind_minus before
behind_symbol Open before = tight
behind_symbol OpenSquare before = tight
behind_symbol StarStar before = tight
behind_symbol At before = tight
behind_symbol Tilde before = tight
behind_symbol Bang before = tight
behind_symbol Close before = ended
behind_symbol CloseSquare before = ended
behind_symbol _ before = loose

-- behind a token: in an instruction operands stand one behind the other, with no operators between them
abbrev pub behind : Bool → Before → Token → Before
behind listed before (Sign s) = behind_symbol s before
behind listed before (Reserved True) = ended
behind listed before (Reserved False) = ended
behind listed before (Reserved k) = loose
behind listed before _ = if listed then loose else ended

-- the tokens, where this stands before them
abbrev pub rendered : List (List ℕ) → Bool → Before → List Token → List ℕ
rendered names listed before [] = []
rendered names listed before (token ∷ tokens) =
    gap before token ++ (token_text names token ++ rendered names listed (behind listed before token) tokens)

-- a line of tokens
abbrev pub is_listed : List Token → Bool
is_listed (Instruction o ∷ tokens) = true
is_listed _ = false

abbrev pub rendering : List (List ℕ) → List Token → List ℕ
rendering names tokens = rendered names (is_listed tokens) tight tokens
