-- The tokens of a line by their bytes, cut by longest match. Spaces and tabs part them, and `#` begins a comment.
use Rattle.std.specs.Prelude.{ℕ, zero, suc, ◌+◌, ◌-◌, ◌*◌, ◌^◌, nat_le, nat_lt, ◌==◌, pos, Bool, ◌&&◌, ◌||◌, if◌then◌else◌, List, [], ◌∷◌, take, fold, Option, Some, None}
use Rattle.std.specs.List.{prefix_len}
use Rattle.tcl_text.specs.declared.symbol.Symbol.{Symbol}
use Rattle.tcl_text.specs.declared.symbol.Symbol.TheVariants as symbol
use Rattle.tcl_text.specs.declared.token.Raw.{Raw}
use Rattle.tcl_text.specs.declared.token.Raw.TheVariants.{Word, Number, Sign}
use Rattle.tcl_text.specs.declared.token.Cut.{Cut}

-- a space or a tab
abbrev pub is_blank : ℕ → Bool
is_blank b = b == 32 || b == 9

abbrev pub is_digit : ℕ → Bool
is_digit b = nat_le 48 b && nat_le b 57

abbrev pub is_letter : ℕ → Bool
is_letter b = (nat_le 65 b && nat_le b 90) || (nat_le 97 b && nat_le b 122)

-- a byte that begins a word: a letter or `_`
abbrev pub is_word_start : ℕ → Bool
is_word_start b = is_letter b || b == 95

-- a byte that goes on with a word
abbrev pub is_word_byte : ℕ → Bool
is_word_byte b = is_letter b || b == 95 || is_digit b

-- the number with these decimal digits
abbrev pub value_of : List ℕ → ℕ
value_of digits = fold (λ n d. 10 * n + (d - 48)) 0 digits

-- a word is the whole run of word bytes, and at most 64 of them are allowed
unfoldable pub word_cut : ℕ → List ℕ → Option Cut
word_cut b others =
    let n = prefix_len is_word_byte others in
    if nat_le n 63 then Some (record { token = Word (b ∷ take n others); more = n }) else None

-- a number is the whole run of digits, and its value is allowed up to 2 ^ 127 - 1
unfoldable pub number_cut : ℕ → List ℕ → Option Cut
number_cut b others =
    let n = prefix_len is_digit others in
    let value = value_of (b ∷ take n others) in
    if nat_lt value (2 ^ 127) then Some (record { token = Number (pos value); more = n }) else None

-- the symbols of two bytes
abbrev pub long_symbol : ℕ → ℕ → Option Symbol
long_symbol b c =
    if b == 42 && c == 42 then Some symbol.StarStar
    else (if b == 38 && c == 38 then Some symbol.AndAnd
    else (if b == 124 && c == 124 then Some symbol.BarBar
    else (if b == 33 && c == 61 then Some symbol.NotEqual
    else (if b == 60 && c == 61 then Some symbol.LessEqual
    else (if b == 62 && c == 61 then Some symbol.GreaterEqual else None)))))

-- the symbols of one byte
abbrev pub short_symbol : ℕ → Option Symbol
short_symbol b =
    if b == 43 then Some symbol.Plus
    else (if b == 45 then Some symbol.Minus
    else (if b == 42 then Some symbol.Star
    else (if b == 38 then Some symbol.Ampersand
    else (if b == 124 then Some symbol.Bar
    else (if b == 94 then Some symbol.Caret
    else (if b == 126 then Some symbol.Tilde
    else (if b == 61 then Some symbol.Equal
    else (if b == 60 then Some symbol.Less
    else (if b == 62 then Some symbol.Greater
    else (if b == 33 then Some symbol.Bang
    else (if b == 40 then Some symbol.Open
    else (if b == 41 then Some symbol.Close
    else (if b == 91 then Some symbol.OpenSquare
    else (if b == 93 then Some symbol.CloseSquare
    else (if b == 44 then Some symbol.Comma
    else (if b == 64 then Some symbol.At else None))))))))))))))))

-- the symbol that stands first, where the next byte is c; 0 where there is none
abbrev pub symbol_here : Option Symbol → Option Symbol → Option Cut
symbol_here (Some s) short = Some (record { token = Sign s; more = 1 })
symbol_here None (Some s) = Some (record { token = Sign s; more = 0 })
symbol_here None None = None

-- the first byte, 0 where there is none
abbrev pub next_byte : List ℕ → ℕ
next_byte [] = 0
next_byte (b ∷ bytes) = b

unfoldable pub symbol_cut : ℕ → List ℕ → Option Cut
symbol_cut b others = symbol_here (long_symbol b (next_byte others)) (short_symbol b)

-- the token that begins with the byte b, if it is allowed
unfoldable pub cut_of : ℕ → List ℕ → Option Cut
cut_of b others =
    if is_word_start b then word_cut b others
    else (if is_digit b then number_cut b others else symbol_cut b others)

-- how many bytes behind the first one belong to the token
abbrev pub more_of : Option Cut → ℕ
more_of None = 0
more_of (Some c) = c.more

-- a token before others
abbrev pub attach : Option Cut → Option (List Raw) → Option (List Raw)
attach (Some c) (Some others) = Some (c.token ∷ others)
attach (Some c) None = None
attach None others = None

-- the tokens behind the next k bytes, which belong to a token that stands before
unfoldable pub raws_from : ℕ → List ℕ → Option (List Raw)
raws_from k [] = Some []
raws_from (suc k) (b ∷ bytes) = raws_from k bytes
raws_from zero (b ∷ bytes) =
    if is_blank b then raws_from 0 bytes
    else (if b == 35 then Some []
    else attach (cut_of b bytes) (raws_from (more_of (cut_of b bytes)) bytes))

-- the tokens of a line; none where a byte or a token is not allowed
abbrev pub raws_of : List ℕ → Option (List Raw)
raws_of line = raws_from 0 line
