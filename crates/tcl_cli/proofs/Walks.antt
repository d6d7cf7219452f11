-- Words in the form have no fault in `clap`, and its matches are what they give.
use Rattle.std.proofs.Common.{◌≡◌, ◌∙◌, Bool, true, false, refl, sym, ap, subst, List, [], ◌∷◌, ◌++◌, map, Option, Some, None, codes, true≢false}
use Rattle.std.specs.Prelude.{if◌then◌else◌, fold, is_some, unwrap_or}
use Rattle.std.proofs.lemmas.List.{map-append}
use Rattle.clap.specs.Lexer.{long_of}
use Rattle.clap.specs.Walk.{Held, Row, Walk, has_row, nothing_held, settled, used, walk, walk_from, walked, with_default}
use Rattle.clap.specs.Simple.{built}
use Rattle.clap.specs.Faults.{default_fault, defaults_fault, level_fault, settle_fault, turn_fault, walk_fault}
use Rattle.clap.proofs.FaultLemmas.{leaf_fault}
use Rattle.clap.specs.declared.builder.action.ArgAction.TheVariants.{Set, SetTrue}
use Rattle.tcl_cli.specs.declared.table.Kind.{Kind}
use Rattle.tcl_cli.specs.declared.table.Kind.TheVariants.{Number, Flag}
use Rattle.tcl_cli.specs.Table.{Entry, Word, entries, entry_named}
use Rattle.tcl_cli.specs.Words.{Given, Reading, end_of, entry_read, given_from, are_values, has_name, is_distinct, is_value, named, option_read, read_word, ready, refused, waits}
use Rattle.tcl_cli.specs.Rules.{AreGiven, AreTaken, action_for, row_for, rule_for, tool_app}
use Rattle.tcl_cli.proofs.Names.{bytes_same, flag_long, flag_once, flag_rule, flag_rule_is, last_fresh, last_value, less_distinct, less_values, long_no_dashes, number_rule, or_yes, own_long, own_name, row_known, used_once, value_id, value_long, value_no_dashes, value_not_long, value_not_short, value_rule}
use Rattle.tcl_cli.proofs.Steps.{attached_fault, attached_walk, flag_fault, flag_walk, opened, opened_fault, opened_walk, pending_fault, pending_rows, rules_of_tool, shape, value_fault, value_walk}

-- the walk of `clap` stands where the form does
record Ready (given : Given) (w : Walk) : Type 0 where
  held : Held
  is : w ≡ walk_from held
  fault : settle_fault rules_of_tool false held ≡ []
  rows : (settled rules_of_tool held).rows ≡ map row_for given

record Waits (e : Entry) (given : Given) (w : Walk) : Type 0 where
  held : Held
  is : w ≡ opened held e.name
  rows : held.rows ≡ map row_for given
  known : entry_named entries e.name ≡ Some e
  number : action_for e.kind ≡ Set

abbrev Follows : Reading → Walk → Type 0
Follows (ready given) w = Ready given w
Follows (waits e given) w = Waits e given w
Follows refused w = ⊥

-- what was given so far is distinct, with texts in the form
abbrev pub AreFit : Given → Type 0
AreFit given = (is_distinct given ≡ true) × (are_values given ≡ true)

abbrev pub Fits : Reading → Type 0
Fits (ready given) = AreFit given
Fits (waits e given) = AreFit given
Fits refused = ⊥

record Turns (next : Reading) (w : Walk) (word : Word) : Type 0 where
  fault : turn_fault shape [] w word ≡ []
  after : Follows next (walked rules_of_tool [] w word)

-- an option that is not yet there adds its row
pub more_rows : (e : Entry) (v : Word) (given : Given) (rows : List Row) → action_for e.kind ≡ Set → rows ≡ map row_for given → has_name e.name given ≡ false
    → used (value_rule e.name) (v ∷ []) rows ≡ map row_for (given ++ (e, v) ∷ [])
more_rows e v given rows number are fresh =
    used_once e v rows number (ap (has_row e.name) are ∙ row_known e.name given ∙ fresh)
    ∙ ap (λ rs. rs ++ row_for (e, v) ∷ []) are ∙ sym (map-append row_for given ((e, v) ∷ []))

pub more_flags : (e : Entry) (given : Given) (rows : List Row) → action_for e.kind ≡ SetTrue → rows ≡ map row_for given → has_name e.name given ≡ false
    → used (flag_rule e.name) [] rows ≡ map row_for (given ++ (e, codes "true") ∷ [])
more_flags e given rows flag are fresh =
    flag_once e rows flag (ap (has_row e.name) are ∙ row_known e.name given ∙ fresh)
    ∙ ap (λ rs. rs ++ row_for (e, codes "true") ∷ []) are ∙ sym (map-append row_for given ((e, codes "true") ∷ []))

-- the next word is the value
valued : (e : Entry) (v : Word) (given : Given) (h : Held) → h.rows ≡ map row_for given → entry_named entries e.name ≡ Some e → action_for e.kind ≡ Set
    → has_name e.name given ≡ false → is_value v ≡ true → Turns (ready (given ++ (e, v) ∷ [])) (opened h e.name) v
valued e v given h rows known number fresh good =
    let found = value_id e known number in
    let other = value_no_dashes v good in
    let long = value_not_long v good in
    let short = value_not_short v good in
    record {
      fault = value_fault h e.name v other long short;
      after = record {
        held = record h { pending = Some (e.name, v ∷ []) };
        is = value_walk h e.name v other long short found (bytes_same e.name);
        fault = pending_fault h e.name v found (ap (has_row e.name) rows ∙ row_known e.name given ∙ fresh);
        rows = pending_rows h e.name v found ∙ more_rows e v given h.rows number rows fresh;
      };
    }

-- the word names a known option, and may hold its value
option_named : (e : Entry) (k : Kind) (word : Word) (v : Option Word) (given : Given) (h : Held) → e.kind ≡ k → entry_named entries e.name ≡ Some e
    → long_of word ≡ Some (e.name, v) → settle_fault rules_of_tool false h ≡ [] → (settled rules_of_tool h).rows ≡ map row_for given
    → Fits (named k e v given) → Turns (named k e v given) (walk_from h) word
option_named e (Number least most initial) word None given h kind known long clean rows good =
    let number = ap action_for kind in
    let found = value_long e known number in
    let other = long_no_dashes word (e.name, None) long in
    record {
      fault = opened_fault h e.name word other long found clean;
      after = record { held = settled rules_of_tool h; is = opened_walk h e.name word other long found; rows = rows; known = known; number = number };
    }
option_named e (Number least most initial) word (Some v) given h kind known long clean rows good =
    let number = ap action_for kind in
    let found = value_long e known number in
    let other = long_no_dashes word (e.name, Some v) long in
    let fresh = last_fresh e v given good.0 in
    record {
      fault = attached_fault h e.name v word other long found clean (ap (has_row e.name) rows ∙ row_known e.name given ∙ fresh);
      after = record {
        held = record h { rows = used (value_rule e.name) (v ∷ []) (settled rules_of_tool h).rows; pending = None };
        is = attached_walk h e.name v word other long found;
        fault = refl;
        rows = more_rows e v given (settled rules_of_tool h).rows number rows fresh;
      };
    }
option_named e Flag word None given h kind known long clean rows good =
    let flag = ap action_for kind in
    let found = flag_long e known flag in
    let other = long_no_dashes word (e.name, None) long in
    let fresh = last_fresh e (codes "true") given good.0 in
    record {
      fault = flag_fault h e.name word other long found clean (ap (has_row e.name) rows ∙ row_known e.name given ∙ fresh);
      after = record {
        held = record h { rows = used (flag_rule e.name) [] (settled rules_of_tool h).rows; pending = None };
        is = flag_walk h e.name word other long found;
        fault = refl;
        rows = more_flags e given (settled rules_of_tool h).rows flag rows fresh;
      };
    }
option_named e Flag word (Some v) given h kind known long clean rows good = absurd good

entry_turn : (o : Option Entry) (word name : Word) (v : Option Word) (given : Given) (h : Held) → entry_named entries name ≡ o → long_of word ≡ Some (name, v)
    → settle_fault rules_of_tool false h ≡ [] → (settled rules_of_tool h).rows ≡ map row_for given → Fits (entry_read o v given) → Turns (entry_read o v given) (walk_from h) word
entry_turn None word name v given h is long clean rows good = absurd good
entry_turn (Some e) word name v given h is long clean rows good =
    option_named e e.kind word v given h refl (own_name entries name e is) (own_long word name v e long is) clean rows good

option_turn : (word : Word) (l : Option (Word × Option Word)) (given : Given) (h : Held) → long_of word ≡ l → settle_fault rules_of_tool false h ≡ []
    → (settled rules_of_tool h).rows ≡ map row_for given → Fits (option_read entries given l) → Turns (option_read entries given l) (walk_from h) word
option_turn word None given h long clean rows good = absurd good
option_turn word (Some (name, v)) given h long clean rows good = entry_turn (entry_named entries name) word name v given h refl long clean rows good

turn : (st : Reading) (w : Walk) (word : Word) → Follows st w → Fits (read_word entries st word) → Turns (read_word entries st word) w word
turn (ready given) w word f good =
    subst (λ x. Turns (read_word entries (ready given) word) x word) (sym f.is) (option_turn word (long_of word) given f.held refl f.fault f.rows good)
turn (waits e given) w word f good =
    subst (λ x. Turns (read_word entries (waits e given) word) x word) (sym f.is)
    (valued e word given f.held f.rows f.known f.number (last_fresh e word given good.0) (last_value e word given f.number good.1))
turn refused w word f good = absurd f

-- what fits at the end did so before
fit_before : (given : Given) (p : Entry × Word) → AreFit (given ++ p ∷ []) → AreFit given
fit_before given p fit = (less_distinct given p fit.0, less_values given p fit.1)

fits_named : (k : Kind) (e : Entry) (v : Option Word) (given : Given) → Fits (named k e v given) → AreFit given
fits_named (Number least most initial) e None given fit = fit
fits_named (Number least most initial) e (Some v) given fit = fit_before given (e, v) fit
fits_named Flag e None given fit = fit_before given (e, codes "true") fit
fits_named Flag e (Some v) given fit = absurd fit

fits_entry : (o : Option Entry) (v : Option Word) (given : Given) → Fits (entry_read o v given) → AreFit given
fits_entry None v given fit = absurd fit
fits_entry (Some e) v given fit = fits_named e.kind e v given fit

fits_before : (st : Reading) (word : Word) → Fits (read_word entries st word) → Fits st
fits_before (ready given) word fit = by_long (long_of word) fit
  where
    by_long : (l : Option (Word × Option Word)) → Fits (option_read entries given l) → AreFit given
    by_long None fit = absurd fit
    by_long (Some (name, v)) fit = fits_entry (entry_named entries name) v given fit
fits_before (waits e given) word fit = fit_before given (e, word) fit
fits_before refused word fit = fit

pub fits_first : (words : List Word) (st : Reading) (given : Given) → given_from entries st words ≡ Some given → AreFit given → Fits st
fits_first [] (ready g) given e fit = subst AreFit (sym (ap (λ o. unwrap_or o g) e)) fit
fits_first [] (waits x g) given e fit = absurd (true≢false (sym (ap is_some e)))
fits_first [] refused given e fit = absurd (true≢false (sym (ap is_some e)))
fits_first (word ∷ rest) st given e fit = fits_before st word (fits_first rest (read_word entries st word) given e fit)

record Ends (given : Given) (w : Walk) (words : List Word) : Type 0 where
  fault : walk_fault shape [] w words ≡ []
  last : Ready given (fold (walked rules_of_tool []) w words)

ends_here : (st : Reading) (w : Walk) (given : Given) → Follows st w → end_of st ≡ Some given → Ends given w []
unfolding walk_fault
ends_here (ready g) w given f e = record { fault = refl; last = subst (λ x. Ready x w) (ap (λ o. unwrap_or o g) e) f }
ends_here (waits x g) w given f e = absurd (true≢false (sym (ap is_some e)))
ends_here refused w given f e = absurd f

ends_later : (w : Walk) (word : Word) (rest : List Word) (given : Given) → turn_fault shape [] w word ≡ [] → Ends given (walked rules_of_tool [] w word) rest → Ends given w (word ∷ rest)
unfolding walk_fault
ends_later w word rest given fault more = record { fault = rw fault more.fault; last = more.last }

ends : (words : List Word) (st : Reading) (w : Walk) (given : Given) → Follows st w → given_from entries st words ≡ Some given → AreFit given → Ends given w words
ends [] st w given f e fit = ends_here st w given f e
ends (word ∷ rest) st w given f e fit =
    let one = turn st w word f (fits_first rest (read_word entries st word) given e fit) in
    ends_later w word rest given one.fault (ends rest (read_word entries st word) (walked rules_of_tool [] w word) given one.after e fit)

-- a number has no default
pub kept : (rows : List Row) (name : Word) → with_default rows (value_rule name) ≡ rows
kept rows name = by_case (has_row name rows)
  where
    by_case : (b : Bool) → (if b then rows else rows) ≡ rows
    by_case true = refl
    by_case false = refl

value_default : (name : Word) (rows : List Row) → default_fault rows (value_rule name) ≡ []
value_default name rows = rw (or_yes (has_row name rows)) refl

-- the default of a flag passes
flag_default : (name : Word) (rows : List Row) (b : Bool) → has_row name rows ≡ b → default_fault rows (flag_rule name) ≡ []
flag_default name rows true is = rw is refl
flag_default name rows false is = rw is refl

default_passes : (e : Entry) (rows : List Row) (k : Kind) → e.kind ≡ k → default_fault rows (rule_for e) ≡ []
default_passes e rows (Number least most initial) kind = ap (default_fault rows) (number_rule e (ap action_for kind)) ∙ value_default e.name rows
default_passes e rows Flag kind = ap (default_fault rows) (flag_rule_is e (ap action_for kind)) ∙ flag_default e.name rows (has_row e.name rows) refl

pub no_default_fault : (es : List Entry) (rows : List Row) → defaults_fault rows (map rule_for es) ≡ []
unfolding defaults_fault
no_default_fault [] rows = refl
no_default_fault (e ∷ es) rows = rw (default_passes e rows e.kind refl) (no_default_fault es (with_default rows (rule_for e)))

level_passes : (words : List Word) (given : Given) → Ends given (walk_from nothing_held) words → level_fault shape [] nothing_held words false [] ≡ []
level_passes words given end =
    let settle : settle_fault rules_of_tool false (walk rules_of_tool [] nothing_held words).held ≡ [] =
    ap (λ (w : Walk). settle_fault rules_of_tool false w.held) end.last.is ∙ end.last.fault in
    rw (end.fault, settle, no_default_fault entries (settled rules_of_tool (walk rules_of_tool [] nothing_held words).held).rows) refl

pub words_taken : (words : List Word) (given : Given) → AreGiven words given → are_values given ≡ true → AreTaken words given
words_taken words given e values =
    let start : Ready [] (walk_from nothing_held) = record { held = nothing_held; is = refl; fault = refl; rows = refl } in
    let end = ends words (ready []) (walk_from nothing_held) given start e.form (e.distinct, values) in
    record {
      faultless = leaf_fault (built tool_app) nothing_held words refl ∙ level_passes words given end;
      rows = ap (λ rs. fold with_default rs (map rule_for entries)) (ap (λ (w : Walk). (settled rules_of_tool w.held).rows) end.last.is ∙ end.last.rows);
    }
