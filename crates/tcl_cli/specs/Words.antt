-- The words of a call, by the options that they name.
use Rattle.std.specs.Prelude.{◌&&◌, ℕ, Bool, true, not, List, [], ◌∷◌, ◌++◌, Option, Some, None, if◌then◌else◌, fold, length, nat_le, codes}
use Rattle.std.specs.List.{list_all, list_any}
use Rattle.std.specs.Str.{bytes_eq}
use Rattle.std.specs.Str.Parse.{digits_value}
use Rattle.clap.specs.Lexer.{is_digit, long_of}
use Rattle.tcl_cli.specs.declared.table.Kind.{Kind}
use Rattle.tcl_cli.specs.declared.table.Kind.TheVariants.{Number, Flag}
use Rattle.tcl_cli.specs.Table.{Entry, Word, entry_named}

-- each option that was given, with the text of its value, in the order of the words; the text of a flag is `true`
abbrev pub Given : Type 0
Given = List (Entry × Word)

-- between two words: nothing is open, an option waits for its value, or the words are refused
pub data Reading : Type 0 where
  ready : Given → Reading
  waits : Entry → Given → Reading
  refused : Reading

-- an option of this name was given
abbrev pub has_name : Word → Given → Bool
has_name name given = list_any (λ p. bytes_eq p.0.name name) given

-- an option was named, with the text after its `=` if there is one
abbrev pub named : Kind → Entry → Option Word → Given → Reading
named (Number least most initial) e None given = waits e given
named (Number least most initial) e (Some v) given = ready (given ++ (e, v) ∷ [])
named Flag e None given = ready (given ++ (e, codes "true") ∷ [])
named Flag e (Some v) given = refused

-- only the options of the table may be named
abbrev pub entry_read : Option Entry → Option Word → Given → Reading
entry_read None v given = refused
entry_read (Some e) v given = named e.kind e v given

-- only a word that begins with two hyphens and more names an option
abbrev pub option_read : List Entry → Given → Option (Word × Option Word) → Reading
option_read table given None = refused
option_read table given (Some p) = entry_read (entry_named table p.0) p.1 given

-- a word `--name` or `--name=value`, or the value of the option before it
abbrev pub read_word : List Entry → Reading → Word → Reading
read_word table (ready given) word = option_read table given (long_of word)
read_word table (waits e given) word = ready (given ++ (e, word) ∷ [])
read_word table refused word = refused

-- at the end no option waits
abbrev pub end_of : Reading → Option Given
end_of (ready given) = Some given
end_of _ = None

-- the options that the words give after what was read
abbrev pub given_from : List Entry → Reading → List Word → Option Given
given_from table state words = end_of (fold (read_word table) state words)

-- the options that the words give
abbrev pub given_of : List Entry → List Word → Option Given
given_of table words = given_from table (ready []) words

-- no option is given twice
abbrev pub is_distinct : Given → Bool
is_distinct [] = true
is_distinct (p ∷ rest) = not (has_name p.0.name rest) && is_distinct rest

-- 1 to 7 decimal digits
abbrev pub is_value : Word → Bool
is_value v = nat_le 1 (length v) && (nat_le (length v) 7 && list_all is_digit v)

-- a number's text has the form of a value
abbrev pub suits : Kind → Word → Bool
suits (Number least most initial) v = is_value v
suits Flag v = true

-- all texts have the form
abbrev pub are_values : Given → Bool
are_values given = list_all (λ p. suits p.0.kind p.1) given

-- the word `--`
abbrev pub is_dashes : Word → Bool
is_dashes word = bytes_eq word (45 ∷ 45 ∷ [])

-- the number with these digits
abbrev pub number_of : Word → ℕ
number_of v = digits_value 10 v

-- the number of a value within its range
abbrev pub number_in : ℕ → ℕ → Word → Option ℕ
number_in least most v = if is_value v && (nat_le least (number_of v) && nat_le (number_of v) most) then Some (number_of v) else None
