-- What `clap` found for a name, by what was given and by the defaults of the flags.
use Rattle.std.proofs.Common.{◌≡◌, ◌∙◌, ◌||◌, Bool, true, false, refl, sym, ap, List, [], ◌∷◌, map, Option, Some, None, codes, true≢false}
use Rattle.std.specs.Prelude.{if◌then◌else◌, cond, fold, find, is_some, option_and_then, option_map, slice_get}
use Rattle.std.specs.List.{list_any}
use Rattle.std.specs.Option.{option_or}
use Rattle.std.specs.Str.{bytes_eq}
use Rattle.std.proofs.lemmas.List.Folds.{find-append}
use Rattle.clap.specs.Facts as facts
use Rattle.clap.specs.Matches.{first_value, matched_of}
use Rattle.clap.specs.Walk.{Row, first_of, has_row, more_values, reading_by, row_of, rows_of, with_default}
use Rattle.clap.specs.declared.parser.matches.Found.{Found}
use Rattle.clap.specs.declared.parser.matches.MatchedArg.{MatchedArg}
use Rattle.clap.specs.declared.parser.matches.ValueSource.TheVariants.{DefaultValue}
use Rattle.clap.proofs.WalkLemmas.{find-map, find_row, first_value-rows}
use Rattle.tcl_cli.specs.declared.table.Kind.{Kind}
use Rattle.tcl_cli.specs.declared.table.Kind.TheVariants.{Number, Flag}
use Rattle.tcl_cli.specs.Table.{Entry, Word, entries}
use Rattle.tcl_cli.specs.Words.{Given, has_name}
use Rattle.tcl_cli.specs.Rules.{action_for, is_from_words, is_in_words, row_for, rule_for}
use Rattle.tcl_cli.specs.Options.{value_for}
use Rattle.tcl_cli.proofs.Names.{flag_rule, flag_rule_is, number_rule, row_added, same_bytes}
use Rattle.tcl_cli.proofs.Walks.{kept}

-- the row of a name
abbrev pub row_at : Word → List Row → Option Row
row_at name rows = find (λ r. bytes_eq r.id name) rows

-- the row of a flag that was not given
abbrev pub default_row : Entry → Row
default_row e = record { id = e.name; values = codes "false" ∷ []; count = None; source = Some DefaultValue; reading = reading_by (flag_rule e.name) }

abbrev pub default_by : Kind → Entry → Word → Option Row
default_by (Number least most initial) e name = None
default_by Flag e name = if bytes_eq e.name name then Some (default_row e) else None

abbrev pub default_in : List Entry → Word → Option Row
default_in [] name = None
default_in (e ∷ es) name = option_or (default_by e.kind e name) (default_in es name)

or_none : {X : Type 0} (o : Option X) → o ≡ option_or o None
or_none None = refl
or_none (Some x) = refl

or_assoc : {X : Type 0} (a b c : Option X) → option_or (option_or a b) c ≡ option_or a (option_or b c)
or_assoc None b c = refl
or_assoc (Some x) b c = refl

seen_step : (r : Row) (rs : List Row) (name : Word) (o : Option Row) (b : Bool) → bytes_eq r.id name ≡ b → has_row name (r ∷ rs) ≡ true
    → (has_row name rs ≡ true → row_at name rs ≡ option_or (row_at name rs) o) → row_at name (r ∷ rs) ≡ option_or (row_at name (r ∷ rs)) o
seen_step r rs name o true is has more = rw is refl
seen_step r rs name o false is has more = rw is (more (rw is at has))

seen : (rows : List Row) (name : Word) (o : Option Row) → has_row name rows ≡ true → row_at name rows ≡ option_or (row_at name rows) o
seen [] name o has = absurd (true≢false (sym has))
seen (r ∷ rs) name o has = seen_step r rs name o (bytes_eq r.id name) refl has (seen rs name o)

default_seen : (e : Entry) (name : Word) (rows : List Row) (b : Bool) → bytes_eq e.name name ≡ b → has_row e.name rows ≡ true
    → row_at name rows ≡ option_or (row_at name rows) (if b then Some (default_row e) else None)
default_seen e name rows true is has = seen rows name (Some (default_row e)) (ap (λ n. has_row n rows) (sym (same_bytes e.name name is)) ∙ has)
default_seen e name rows false is has = or_none (row_at name rows)

flag_default : (e : Entry) (name : Word) (rows : List Row) (b : Bool) → has_row e.name rows ≡ b
    → row_at name (with_default rows (flag_rule e.name)) ≡ option_or (row_at name rows) (if bytes_eq e.name name then Some (default_row e) else None)
flag_default e name rows true has = rw has (default_seen e name rows (bytes_eq e.name name) refl has)
flag_default e name rows false has = rw has
    (ap (row_at name) (row_added e.name (more_values DefaultValue (codes "false" ∷ [])) (default_row e ∷ []) rows has)
    ∙ find-append (λ r. bytes_eq r.id name) rows (default_row e ∷ []))

find_default : (e : Entry) (name : Word) (rows : List Row) (k : Kind) → e.kind ≡ k
    → row_at name (with_default rows (rule_for e)) ≡ option_or (row_at name rows) (default_by k e name)
find_default e name rows (Number least most initial) kind =
    ap (λ r. row_at name (with_default rows r)) (number_rule e (ap action_for kind)) ∙ ap (row_at name) (kept rows e.name) ∙ or_none (row_at name rows)
find_default e name rows Flag kind =
    ap (λ r. row_at name (with_default rows r)) (flag_rule_is e (ap action_for kind)) ∙ flag_default e name rows (has_row e.name rows) refl

find_defaults : (es : List Entry) (name : Word) (rows : List Row) → row_at name (fold with_default rows (map rule_for es)) ≡ option_or (row_at name rows) (default_in es name)
find_defaults [] name rows = or_none (row_at name rows)
find_defaults (e ∷ es) name rows =
    find_defaults es name (with_default rows (rule_for e))
    ∙ ap (λ o. option_or o (default_in es name)) (find_default e name rows e.kind refl)
    ∙ or_assoc (row_at name rows) (default_by e.kind e name) (default_in es name)

-- all rows that `clap` has
abbrev pub all_rows : Given → List Row
all_rows given = fold with_default (map row_for given) (map rule_for entries)

row_found : (given : Given) (name : Word) (o : Option Row) → default_in entries name ≡ o
    → row_at name (all_rows given) ≡ option_or (option_map row_for (find (λ p. bytes_eq p.0.name name) given)) o
row_found given name o is =
    find_defaults entries name (map row_for given)
    ∙ ap (λ x. option_or x (default_in entries name)) (sym (find-map (λ (r : Row). bytes_eq r.id name) row_for given))
    ∙ ap (option_or (option_map row_for (find (λ p. bytes_eq p.0.name name) given))) is

-- a number has the text that was given
text_is : (o : Option (Entry × Word)) → option_and_then (λ (r : Row). slice_get r.values 0) (option_or (option_map row_for o) None) ≡ option_map (λ p. p.1) o
text_is None = refl
text_is (Some p) = refl

pub number_found : (f : Found) (name : Word) (given : Given) → rows_of f ≡ all_rows given → default_in entries name ≡ None → first_value f name ≡ value_for given name
number_found f name given rows is =
    first_value-rows f name ∙ ap (first_of name) rows
    ∙ ap (option_and_then (λ (r : Row). slice_get r.values 0)) (row_found given name None is)
    ∙ text_is (find (λ p. bytes_eq p.0.name name) given)

-- a flag comes from the words where it was given
source_rows : (f : Found) (name : Word) → option_and_then (λ (a : MatchedArg). a.source) (matched_of f name) ≡ option_and_then (λ (r : Row). r.source) (row_at name (rows_of f))
source_rows f name = go (find (λ (x : facts.Entry). bytes_eq x.0.now name) f.entries.items) ∙ ap (option_and_then (λ (r : Row). r.source)) (sym (find_row f.entries.items name))
  where
    go : (o : Option facts.Entry) → option_and_then (λ (a : MatchedArg). a.source) (option_map (λ e. e.1) o) ≡ option_and_then (λ (r : Row). r.source) (option_map row_of o)
    go None = refl
    go (Some e) = refl

source_is : (o : Option (Entry × Word)) (e : Entry) → is_from_words (option_and_then (λ (r : Row). r.source) (option_or (option_map row_for o) (Some (default_row e)))) ≡ is_some o
source_is None e = refl
source_is (Some p) e = refl

any_found : {X : Type 0} (p : X → Bool) (xs : List X) → is_some (find p xs) ≡ list_any p xs
any_found p [] = refl
any_found p (x ∷ xs) = go (p x) (any_found p xs)
  where
    go : (b : Bool) → is_some (find p xs) ≡ list_any p xs → is_some (cond b (Some x) (find p xs)) ≡ (b || list_any p xs)
    go true e = refl
    go false e = e

pub flag_found : (f : Found) (name : Word) (given : Given) (e : Entry) → rows_of f ≡ all_rows given → default_in entries name ≡ Some (default_row e)
    → is_in_words f name ≡ has_name name given
flag_found f name given e rows is =
    ap is_from_words (source_rows f name ∙ ap (λ rs. option_and_then (λ (r : Row). r.source) (row_at name rs)) rows
    ∙ ap (option_and_then (λ (r : Row). r.source)) (row_found given name (Some (default_row e)) is))
    ∙ source_is (find (λ p. bytes_eq p.0.name name) given) e
    ∙ any_found (λ p. bytes_eq p.0.name name) given
