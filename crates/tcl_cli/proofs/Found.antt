-- What `clap` takes is in the form.
use Rattle.std.proofs.Common.{◌≡◌, ◌∙◌, ℕ, true, false, refl, sym, ap, subst, List, [], ◌∷◌, ◌++◌, map, Option, Some, None, codes}
use Rattle.std.specs.Prelude.{fold, slice_get}
use Rattle.std.specs.List.{list_any}
use Rattle.std.specs.Str.{chars}
use Rattle.clap.specs.Lexer.{long_of, short_of}
use Rattle.clap.specs.Walk.{Held, Row, Walk, has_row, nothing_held, settled, used, walk, walk_from, walked, with_default}
use Rattle.clap.specs.Simple.{built}
use Rattle.clap.specs.Faults.{fault_of, settle_fault, turn_fault, use_fault, walk_fault}
use Rattle.clap.specs.declared.error.kind.ErrorKind.TheVariants.{InvalidValue, TooManyValues, UnknownArgument}
use Rattle.clap.proofs.FaultLemmas.{leaf_fault}
use Rattle.clap.specs.declared.builder.action.ArgAction.TheVariants.{Set}
use Rattle.tcl_cli.specs.declared.table.Kind.{Kind}
use Rattle.tcl_cli.specs.declared.table.Kind.TheVariants.{Number, Flag}
use Rattle.tcl_cli.specs.Table.{Entry, Word, entries, entry_named}
use Rattle.tcl_cli.specs.Words.{Given, Reading, end_of, entry_read, has_name, is_dashes, is_distinct, named, option_read, read_word, ready, refused, waits}
use Rattle.tcl_cli.specs.Rules.{AreGiven, AreTaken, action_for, row_for, rule_for, tool_app}
use Rattle.tcl_cli.proofs.Names.{bytes_same, either_no, flag_long, flag_rule, more_distinct, own_long, own_name, row_known, unknown_long, value_id, value_long, value_rule}
use Rattle.tcl_cli.proofs.Steps.{attached_walk, flag_walk, opened, opened_walk, pending_rows, rules_of_tool, shape, value_walk}
use Rattle.tcl_cli.proofs.Walks.{more_flags, more_rows}
use Rattle.tcl_cli.proofs.Refusals.{attached_is, end_fails, fails, first_none, flag_fresh, flag_is, opened_is, pending_fresh, short_cons, stray_fails, then_none, unknown_fails, use_fresh, valued_flag_fails, waits_flag_fails, waits_known_fails, waits_short_fails, waits_short_walk, waits_unknown_fails, waits_valued_flag_fails}

record Clean (given : Given) (h : Held) : Type 0 where
  rows : (settled rules_of_tool h).rows ≡ map row_for given
  distinct : is_distinct given ≡ true

-- a second use of an option fails only at the next word
record ReadyTo (given : Given) (w : Walk) : Type 0 where
  held : Held
  is : w ≡ walk_from held
  skip : held.skip ≡ 0
  clean : settle_fault rules_of_tool false held ≡ [] → Clean given held

record WaitsFor (e : Entry) (given : Given) (w : Walk) : Type 0 where
  held : Held
  is : w ≡ opened held e.name
  skip : held.skip ≡ 0
  rows : held.rows ≡ map row_for given
  known : entry_named entries e.name ≡ Some e
  number : action_for e.kind ≡ Set
  distinct : is_distinct given ≡ true

abbrev Leads : Reading → Walk → Type 0
Leads (ready given) w = ReadyTo given w
Leads (waits e given) w = WaitsFor e given w
Leads refused w = ⊥

not_new : (name : Word) (given : Given) (rows : List Row) → rows ≡ map row_for given → has_row name rows ≡ false → has_name name given ≡ false
not_new name given rows are fresh = sym (row_known name given) ∙ ap (has_row name) (sym are) ∙ fresh

-- the value was pushed
pushed_clean : (e : Entry) (v : Word) (given : Given) (h : Held) → h.rows ≡ map row_for given → entry_named entries e.name ≡ Some e → action_for e.kind ≡ Set → is_distinct given ≡ true
    → settle_fault rules_of_tool false (record h { pending = Some (e.name, v ∷ []) }) ≡ [] → Clean (given ++ (e, v) ∷ []) (record h { pending = Some (e.name, v ∷ []) })
pushed_clean e v given h rows known number distinct none =
    let found = value_id e known number in
    let fresh = not_new e.name given h.rows rows (pending_fresh h e.name v found (has_row e.name h.rows) refl none) in
    record { rows = pending_rows h e.name v found ∙ more_rows e v given h.rows number rows fresh; distinct = more_distinct e v given distinct fresh }

-- the word names a known option
known_led : (e : Entry) (k : Kind) (word : Word) (v : Option Word) (given : Given) (h : Held) → e.kind ≡ k → entry_named entries e.name ≡ Some e
    → long_of word ≡ Some (e.name, v) → is_dashes word ≡ false → h.skip ≡ 0 → (settle_fault rules_of_tool false h ≡ [] → Clean given h)
    → turn_fault shape [] (walk_from h) word ≡ [] → Leads (named k e v given) (walked rules_of_tool [] (walk_from h) word)
known_led e (Number least most initial) word None given h kind known long other skip clean none =
    let number = ap action_for kind in
    let found = value_long e known number in
    let settle = first_none (settle_fault rules_of_tool false h) [] (sym (opened_is h e.name word other long found) ∙ none) in
    let was = clean settle in
    record { held = settled rules_of_tool h; is = opened_walk h e.name word other long found; skip = skip; rows = was.rows; known = known; number = number; distinct = was.distinct }
known_led e (Number least most initial) word (Some v) given h kind known long other skip clean none =
    let number = ap action_for kind in
    let found = value_long e known number in
    let react = first_none _ [] (sym (attached_is h e.name v word other long found) ∙ none) in
    let was = clean (first_none (settle_fault rules_of_tool false h) (use_fault false (value_rule e.name) (v ∷ []) (settled rules_of_tool h).rows) react) in
    let used_well = then_none (settle_fault rules_of_tool false h) (use_fault false (value_rule e.name) (v ∷ []) (settled rules_of_tool h).rows) react in
    let fresh = not_new e.name given (settled rules_of_tool h).rows was.rows (use_fresh h e.name v (has_row e.name (settled rules_of_tool h).rows) refl used_well) in
    record {
      held = record h { rows = used (value_rule e.name) (v ∷ []) (settled rules_of_tool h).rows; pending = None };
      is = attached_walk h e.name v word other long found;
      skip = skip;
      clean = λ _. record { rows = more_rows e v given (settled rules_of_tool h).rows number was.rows fresh; distinct = more_distinct e v given was.distinct fresh };
    }
known_led e Flag word None given h kind known long other skip clean none =
    let flag = ap action_for kind in
    let found = flag_long e known flag in
    let react = first_none _ [] (sym (flag_is h e.name word other long found) ∙ none) in
    let was = clean (first_none (settle_fault rules_of_tool false h) (use_fault false (flag_rule e.name) [] (settled rules_of_tool h).rows) react) in
    let used_well = then_none (settle_fault rules_of_tool false h) (use_fault false (flag_rule e.name) [] (settled rules_of_tool h).rows) react in
    let fresh = not_new e.name given (settled rules_of_tool h).rows was.rows (flag_fresh h e.name (has_row e.name (settled rules_of_tool h).rows) refl used_well) in
    record {
      held = record h { rows = used (flag_rule e.name) [] (settled rules_of_tool h).rows; pending = None };
      is = flag_walk h e.name word other long found;
      skip = skip;
      clean = λ _. record { rows = more_flags e given (settled rules_of_tool h).rows flag was.rows fresh; distinct = more_distinct e (codes "true") given was.distinct fresh };
    }
known_led e Flag word (Some v) given h kind known long other skip clean none =
    fails _ TooManyValues (valued_flag_fails h e.name v word other long (flag_long e known (ap action_for kind))) none

entry_led : (o : Option Entry) (word name : Word) (v : Option Word) (given : Given) (h : Held) → entry_named entries name ≡ o → long_of word ≡ Some (name, v)
    → is_dashes word ≡ false → h.skip ≡ 0 → (settle_fault rules_of_tool false h ≡ [] → Clean given h)
    → turn_fault shape [] (walk_from h) word ≡ [] → Leads (entry_read o v given) (walked rules_of_tool [] (walk_from h) word)
entry_led None word name v given h is long other skip clean none =
    fails _ UnknownArgument (unknown_fails h name word v other long (unknown_long entries name is)) none
entry_led (Some e) word name v given h is long other skip clean none =
    known_led e e.kind word v given h refl (own_name entries name e is) (own_long word name v e long is) other skip clean none

ready_led : (word : Word) (l : Option (Word × Option Word)) (given : Given) (h : Held) → long_of word ≡ l → is_dashes word ≡ false → h.skip ≡ 0
    → (settle_fault rules_of_tool false h ≡ [] → Clean given h) → turn_fault shape [] (walk_from h) word ≡ []
    → Leads (option_read entries given l) (walked rules_of_tool [] (walk_from h) word)
ready_led word None given h long other skip clean none = fails _ UnknownArgument (stray_fails h word (short_of word) other long refl skip) none
ready_led word (Some (name, v)) given h long other skip clean none = entry_led (entry_named entries name) word name v given h refl long other skip clean none

-- no option is the value of another
waits_named : (e f : Entry) (k : Kind) (word : Word) (v : Option Word) (h : Held) → f.kind ≡ k → entry_named entries f.name ≡ Some f → long_of word ≡ Some (f.name, v)
    → is_dashes word ≡ false → entry_named entries e.name ≡ Some e → action_for e.kind ≡ Set → turn_fault shape [] (opened h e.name) word ≡ [] → ⊥
waits_named e f (Number least most initial) word v h kind known long other own number none =
    fails _ InvalidValue (waits_known_fails h e.name f.name word v other long (value_long f known (ap action_for kind)) (value_id e own number)) none
waits_named e f Flag word None h kind known long other own number none =
    fails _ InvalidValue (waits_flag_fails h e.name f.name word other long (flag_long f known (ap action_for kind)) (value_id e own number)) none
waits_named e f Flag word (Some v) h kind known long other own number none =
    fails _ TooManyValues (waits_valued_flag_fails h e.name f.name v word other long (flag_long f known (ap action_for kind))) none

waits_long : (o : Option Entry) (e : Entry) (word next : Word) (v : Option Word) (h : Held) → entry_named entries next ≡ o → long_of word ≡ Some (next, v)
    → is_dashes word ≡ false → entry_named entries e.name ≡ Some e → action_for e.kind ≡ Set → turn_fault shape [] (opened h e.name) word ≡ [] → ⊥
waits_long None e word next v h is long other known number none =
    fails _ UnknownArgument (waits_unknown_fails h e.name next word v other long (unknown_long entries next is)) none
waits_long (Some f) e word next v h is long other known number none =
    waits_named e f f.kind word v h refl (own_name entries next f is) (own_long word next v f long is) other known number none

waits_short : (e : Entry) (word : Word) (x : ℕ) (xs : Word) (given : Given) (h : Held) → long_of word ≡ None → short_of word ≡ Some (x ∷ xs) → is_dashes word ≡ false → h.skip ≡ 0
    → h.rows ≡ map row_for given → entry_named entries e.name ≡ Some e → action_for e.kind ≡ Set → is_distinct given ≡ true → turn_fault shape [] (opened h e.name) word ≡ []
    → (o : Option ℕ) → slice_get (chars (x ∷ xs)) 0 ≡ o → ReadyTo (given ++ (e, word) ∷ []) (walked rules_of_tool [] (opened h e.name) word)
waits_short e word x xs given h long short other skip rows known number distinct none (Some y) at =
    absurd (fails _ UnknownArgument (waits_short_fails h e.name word x xs other long short skip y at) none)
waits_short e word x xs given h long short other skip rows known number distinct none None at = record {
  held = record h { pending = Some (e.name, word ∷ []); skip = 0 };
  is = waits_short_walk h e.name word x xs other long short at (value_id e known number) (bytes_same e.name);
  skip = refl;
  clean = pushed_clean e word given (record h { skip = 0 }) rows known number distinct;
}

waits_plain : (e : Entry) (word : Word) (s : Option Word) (given : Given) (h : Held) → long_of word ≡ None → short_of word ≡ s → is_dashes word ≡ false → h.skip ≡ 0
    → h.rows ≡ map row_for given → entry_named entries e.name ≡ Some e → action_for e.kind ≡ Set → is_distinct given ≡ true → turn_fault shape [] (opened h e.name) word ≡ []
    → ReadyTo (given ++ (e, word) ∷ []) (walked rules_of_tool [] (opened h e.name) word)
waits_plain e word None given h long short other skip rows known number distinct none = record {
  held = record h { pending = Some (e.name, word ∷ []) };
  is = value_walk h e.name word other long short (value_id e known number) (bytes_same e.name);
  skip = skip;
  clean = pushed_clean e word given h rows known number distinct;
}
waits_plain e word (Some []) given h long short other skip rows known number distinct none = absurd (short_cons word short)
waits_plain e word (Some (x ∷ xs)) given h long short other skip rows known number distinct none =
    waits_short e word x xs given h long short other skip rows known number distinct none (slice_get (chars (x ∷ xs)) 0) refl

waits_led : (e : Entry) (word : Word) (l : Option (Word × Option Word)) (given : Given) (h : Held) → long_of word ≡ l → is_dashes word ≡ false → h.skip ≡ 0
    → h.rows ≡ map row_for given → entry_named entries e.name ≡ Some e → action_for e.kind ≡ Set → is_distinct given ≡ true → turn_fault shape [] (opened h e.name) word ≡ []
    → ReadyTo (given ++ (e, word) ∷ []) (walked rules_of_tool [] (opened h e.name) word)
waits_led e word None given h long other skip rows known number distinct none = waits_plain e word (short_of word) given h long refl other skip rows known number distinct none
waits_led e word (Some (next, v)) given h long other skip rows known number distinct none =
    absurd (waits_long (entry_named entries next) e word next v h refl long other known number none)

led : (st : Reading) (w : Walk) (word : Word) → Leads st w → is_dashes word ≡ false → turn_fault shape [] w word ≡ [] → Leads (read_word entries st word) (walked rules_of_tool [] w word)
led (ready given) w word f other none =
    subst (λ x. Leads (read_word entries (ready given) word) (walked rules_of_tool [] x word)) (sym f.is)
    (ready_led word (long_of word) given f.held refl other f.skip f.clean (subst (λ x. turn_fault shape [] x word ≡ []) f.is none))
led (waits e given) w word f other none =
    subst (λ x. Leads (read_word entries (waits e given) word) (walked rules_of_tool [] x word)) (sym f.is)
    (waits_led e word (long_of word) given f.held refl other f.skip f.rows f.known f.number f.distinct (subst (λ x. turn_fault shape [] x word ≡ []) f.is none))
led refused w word f other none = f

turn_none : (w : Walk) (word : Word) (rest : List Word) → walk_fault shape [] w (word ∷ rest) ≡ [] → turn_fault shape [] w word ≡ []
unfolding walk_fault
turn_none w word rest e = first_none (turn_fault shape [] w word) (walk_fault shape [] (walked rules_of_tool [] w word) rest) e

rest_none : (w : Walk) (word : Word) (rest : List Word) → walk_fault shape [] w (word ∷ rest) ≡ [] → walk_fault shape [] (walked rules_of_tool [] w word) rest ≡ []
unfolding walk_fault
rest_none w word rest e = then_none (turn_fault shape [] w word) (walk_fault shape [] (walked rules_of_tool [] w word) rest) e

leads : (words : List Word) (st : Reading) (w : Walk) → Leads st w → list_any is_dashes words ≡ false → walk_fault shape [] w words ≡ []
    → Leads (fold (read_word entries) st words) (fold (walked rules_of_tool []) w words)
leads [] st w f other none = f
leads (word ∷ rest) st w f other none =
    let parts = either_no (is_dashes word) (list_any is_dashes rest) other in
    leads rest (read_word entries st word) (walked rules_of_tool [] w word) (led st w word f parts.0 (turn_none w word rest none)) parts.1 (rest_none w word rest none)

-- where the words end
record Told (words : List Word) (given : Given) : Type 0 where
  form : fold (read_word entries) (ready []) words ≡ ready given
  rows : (settled rules_of_tool (walk rules_of_tool [] nothing_held words).held).rows ≡ map row_for given
  distinct : is_distinct given ≡ true

told : (words : List Word) (st : Reading) → fold (read_word entries) (ready []) words ≡ st → Leads st (walk rules_of_tool [] nothing_held words)
    → settle_fault rules_of_tool false (walk rules_of_tool [] nothing_held words).held ≡ [] → (given : Given) × Told words given
told words (ready given) e f none =
    let was = f.clean (sym (ap (λ (w : Walk). settle_fault rules_of_tool false w.held) f.is) ∙ none) in
    (given, record { form = e; rows = ap (λ (w : Walk). (settled rules_of_tool w.held).rows) f.is ∙ was.rows; distinct = was.distinct })
told words (waits x given) e f none =
    absurd (fails _ InvalidValue (end_fails f.held x.name (value_id x f.known f.number)) (sym (ap (λ (w : Walk). settle_fault rules_of_tool false w.held) f.is) ∙ none))
told words refused e f none = absurd f

pub words_given : (words : List Word) → list_any is_dashes words ≡ false → fault_of tool_app words ≡ [] → (given : Given) × AreGiven words given × AreTaken words given
words_given words other none =
    let level = sym (leaf_fault (built tool_app) nothing_held words refl) ∙ none in
    let walk_none = first_none (walk_fault shape [] (walk_from nothing_held) words) _ level in
    let after = then_none (walk_fault shape [] (walk_from nothing_held) words) _ level in
    let settle = first_none (settle_fault rules_of_tool false (walk rules_of_tool [] nothing_held words).held) _ after in
    let start : ReadyTo [] (walk_from nothing_held) = record { held = nothing_held; is = refl; skip = refl; clean = λ _. record { rows = refl; distinct = refl } } in
    let end = told words _ refl (leads words (ready []) (walk_from nothing_held) start other walk_none) settle in (
      end.0,
      record { form = ap end_of end.1.form; distinct = end.1.distinct },
      record {
        faultless = none;
        rows = ap (λ rs. fold with_default rs (map rule_for entries)) end.1.rows;
      },
    )
