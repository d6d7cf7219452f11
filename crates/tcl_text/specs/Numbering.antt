-- Names are numbered by first occurrence, and a name as a token is its number.
use Rattle.std.specs.Prelude.{ℕ, if◌then◌else◌, List, [], ◌∷◌, ◌++◌, bytes_eq, Option, Some, None}
use Rattle.std.specs.List.{list_any, position_or_len}
use Rattle.tcl_text.specs.declared.token.Raw.{Raw}
use Rattle.tcl_text.specs.declared.token.Raw.TheVariants as raw
use Rattle.tcl_text.specs.declared.token.Token.{Token}
use Rattle.tcl_text.specs.declared.token.Token.TheVariants.{Name, Number, Sign}
use Rattle.tcl_text.specs.Words.{meaning_of}

-- the number of a name: its place among the names so far, or the next number
abbrev pub number_of : List (List ℕ) → List ℕ → ℕ
number_of names word = position_or_len (bytes_eq word) names

-- the names with one more, if it is new
abbrev pub with_name : List (List ℕ) → List ℕ → List (List ℕ)
with_name names word = if list_any (bytes_eq word) names then names else names ++ word ∷ []

-- the token and the names after a word, by what it means if it is no name
abbrev pub word_token : List (List ℕ) → List ℕ → Option Token → Token
word_token names word (Some token) = token
word_token names word None = Name (number_of names word)

abbrev pub word_names : List (List ℕ) → List ℕ → Option Token → List (List ℕ)
word_names names word (Some token) = names
word_names names word None = with_name names word

abbrev pub token_of : List (List ℕ) → Raw → Token
token_of names (raw.Word word) = word_token names word (meaning_of word)
token_of names (raw.Number n) = Number n
token_of names (raw.Sign s) = Sign s

abbrev pub names_after_token : List (List ℕ) → Raw → List (List ℕ)
names_after_token names (raw.Word word) = word_names names word (meaning_of word)
names_after_token names (raw.Number n) = names
names_after_token names (raw.Sign s) = names

-- the tokens of a line, where these names stand before it
unfoldable pub tokens_of : List (List ℕ) → List Raw → List Token
tokens_of names [] = []
tokens_of names (r ∷ raws) = token_of names r ∷ tokens_of (names_after_token names r) raws

-- the names after a line
unfoldable pub names_after : List (List ℕ) → List Raw → List (List ℕ)
names_after names [] = names
names_after names (r ∷ raws) = names_after (names_after_token names r) raws
