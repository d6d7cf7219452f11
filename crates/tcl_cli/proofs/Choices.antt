-- The options by what `clap` found.
use Rattle.std.proofs.Common.{◌≡◌, ◌∙◌, ◌&&◌, ℕ, Bool, true, false, not, refl, sym, ap, subst, List, [], ◌∷◌, ◌++◌, codes, Option, Some, None, true≢false}
use Rattle.std.specs.Prelude.{⊤, if◌then◌else◌, is_some, nat_le, option_and_then, unwrap_or}
use Rattle.std.specs.List.{list_any}
use Rattle.std.specs.Str.{bytes_eq}
use Rattle.clap.specs.Lexer.{long_of}
use Rattle.clap.specs.Walk.{rows_of}
use Rattle.clap.specs.Faults.{fault_of}
use Rattle.clap.specs.Matches.{first_value}
use Rattle.clap.specs.Simple.{matches_of}
use Rattle.clap.specs.declared.builder.action.ArgAction.TheVariants.{Set}
use Rattle.clap.specs.declared.parser.matches.Found.{Found}
use Rattle.clap.proofs.WalkLemmas.{both}
use Rattle.tcl_cli.specs.declared.options.Tool.{Tool}
use Rattle.tcl_cli.specs.declared.options.Options.{Options}
use Rattle.tcl_cli.specs.declared.table.Kind.{Kind}
use Rattle.tcl_cli.specs.declared.table.Kind.TheVariants.{Number, Flag}
use Rattle.tcl_cli.specs.Table.{Entry, Word, budget_entry, entries, entry_named, is_for, jobs_entry, proofs_entry, split_entry, trace_entry}
use Rattle.tcl_cli.specs.Words.{Given, Reading, are_values, entry_read, given_from, given_of, has_name, is_dashes, is_distinct, is_value, named, number_in, number_of, option_read, read_word, ready, refused, suits, waits}
use Rattle.tcl_cli.specs.Rules.{action_for, is_in_words, tool_app}
use Rattle.tcl_cli.specs.Options.{flag_at, number_at, number_by, options_by, options_from, options_of, options_with, value_for}
use Rattle.tcl_cli.proofs.Names.{among, bytes_same, is_no, last_value, own_name, same_bytes, value_no_dashes}
use Rattle.tcl_cli.proofs.Walks.{AreFit, Fits, fits_first, words_taken}
use Rattle.tcl_cli.proofs.Found.{words_given}
use Rattle.tcl_cli.proofs.Defaults.{all_rows, flag_found, number_found}

-- ---- each option that is given is one of the table

abbrev AreKnown : Given → Type 0
AreKnown [] = ⊤
AreKnown (p ∷ rest) = (entry_named entries p.0.name ≡ Some p.0) × AreKnown rest

record Opened (e : Entry) (given : Given) : Type 0 where
  before : AreKnown given
  known : entry_named entries e.name ≡ Some e
  number : action_for e.kind ≡ Set

abbrev Known : Reading → Type 0
Known (ready given) = AreKnown given
Known (waits e given) = Opened e given
Known refused = ⊤

more_known : (given : Given) (p : Entry × Word) → AreKnown given → entry_named entries p.0.name ≡ Some p.0 → AreKnown (given ++ p ∷ [])
more_known [] p all known = (known, tt)
more_known (q ∷ rest) p all known = (all.0, more_known rest p all.1 known)

known_named : (k : Kind) (e : Entry) (v : Option Word) (given : Given) → e.kind ≡ k → entry_named entries e.name ≡ Some e → AreKnown given → Known (named k e v given)
known_named (Number least most initial) e None given kind known all = record { before = all; known = known; number = ap action_for kind }
known_named (Number least most initial) e (Some v) given kind known all = more_known given (e, v) all known
known_named Flag e None given kind known all = more_known given (e, codes "true") all known
known_named Flag e (Some v) given kind known all = tt

known_entry : (o : Option Entry) (name : Word) (v : Option Word) (given : Given) → entry_named entries name ≡ o → AreKnown given → Known (entry_read o v given)
known_entry None name v given is all = tt
known_entry (Some e) name v given is all = known_named e.kind e v given refl (own_name entries name e is) all

known_read : (l : Option (Word × Option Word)) (given : Given) → AreKnown given → Known (option_read entries given l)
known_read None given all = tt
known_read (Some (name, v)) given all = known_entry (entry_named entries name) name v given refl all

known_step : (st : Reading) (word : Word) → Known st → Known (read_word entries st word)
known_step (ready given) word all = known_read (long_of word) given all
known_step (waits e given) word waiting = more_known given (e, word) waiting.before waiting.known
known_step refused word all = tt

all_known : (words : List Word) (st : Reading) (given : Given) → Known st → given_from entries st words ≡ Some given → AreKnown given
all_known [] (ready g) given all e = subst AreKnown (ap (λ o. unwrap_or o g) e) all
all_known [] (waits x g) given all e = absurd (true≢false (sym (ap is_some e)))
all_known [] refused given all e = absurd (true≢false (sym (ap is_some e)))
all_known (word ∷ rest) st given all e = all_known rest (read_word entries st word) given (known_step st word all) e

-- ---- where there are options, each text has its form

found_step : (name : Word) (q : Entry × Word) (rest : Given) (v : Word) (b : Bool) → bytes_eq q.0.name name ≡ b → value_for (q ∷ rest) name ≡ Some v
    → (value_for rest name ≡ Some v → has_name name rest ≡ true) → has_name name (q ∷ rest) ≡ true
found_step name q rest v true e h more = rw e refl
found_step name q rest v false e h more = rw e (more (rw e at h))

found_has : (name : Word) (given : Given) (v : Word) → value_for given name ≡ Some v → has_name name given ≡ true
found_has name [] v h = absurd (true≢false (sym (ap is_some h)))
found_has name (q ∷ rest) v h = found_step name q rest v (bytes_eq q.0.name name) refl h (found_has name rest v)

later : (p : Entry × Word) (name : Word) (rest : Given) (v : Word) (b : Bool) → bytes_eq p.0.name name ≡ b → has_name p.0.name rest ≡ false → value_for rest name ≡ Some v
    → value_for (p ∷ rest) name ≡ Some v
later p name rest v true e fresh h =
    absurd (true≢false (sym (found_has name rest v h) ∙ ap (λ x. has_name x rest) (sym (same_bytes p.0.name name e)) ∙ fresh))
later p name rest v false e fresh h = rw e h

abbrev IsGoodFor : Given → Entry → Type 0
IsGoodFor given e = (v : Word) → value_for given e.name ≡ Some v → suits e.kind v ≡ true

AreGood : Given → Type 0
AreGood given = (e : Entry) → entry_named entries e.name ≡ Some e → IsGoodFor given e

all_values : (given : Given) → is_distinct given ≡ true → AreKnown given → AreGood given → are_values given ≡ true
unfolding AreGood
all_values [] distinct known good = refl
all_values (p ∷ rest) distinct known good =
    let apart = both (not (has_name p.0.name rest)) (is_distinct rest) distinct in
    let own : value_for (p ∷ rest) p.0.name ≡ Some p.1 = rw (bytes_same p.0.name) refl in
    rw (good p.0 known.0 p.1 own)
    (all_values rest apart.1 known.1 (λ e k v is. good e k v (later p e.name rest v (bytes_eq p.0.name e.name) refl (is_no _ apart.0) is)))

value_of_number : (least most : ℕ) (v : Word) (n : ℕ) (b : Bool) → (is_value v && (nat_le least (number_of v) && nat_le (number_of v) most)) ≡ b
    → (if b then Some (number_of v) else None) ≡ Some n → is_value v ≡ true
value_of_number least most v n false e some = absurd (true≢false (sym (ap is_some some)))
value_of_number least most v n true e some = (both (is_value v) _ e).0

taken_number : (taken : Bool) (least most : ℕ) (v : Word) (n : ℕ) → (if taken then number_in least most v else None) ≡ Some n → is_value v ≡ true
taken_number false least most v n some = absurd (true≢false (sym (ap is_some some)))
taken_number true least most v n some = value_of_number least most v n (is_value v && (nat_le least (number_of v) && nat_le (number_of v) most)) refl some

good_number : (taken : Bool) (least most initial : ℕ) (w : Option Word) (n : ℕ) (v : Word) → number_by taken (Number least most initial) w ≡ Some n → w ≡ Some v → is_value v ≡ true
good_number taken least most initial w n v some is = taken_number taken least most v n (sym (ap (number_by taken (Number least most initial)) is) ∙ some)

good_options : (tool : Tool) (given : Given) (o : Options) (x y z : Option ℕ) (p t : Option Bool) → number_at tool jobs_entry (value_for given (codes "jobs")) ≡ x
    → number_at tool budget_entry (value_for given (codes "budget")) ≡ y → number_at tool split_entry (value_for given (codes "split")) ≡ z
    → options_with x y z p t ≡ Some o → AreGood given
unfolding AreGood
good_options tool given o (Some x) (Some y) (Some z) p t ex ey ez some = λ e known.
    among (IsGoodFor given)
    (λ v is. good_number (is_for jobs_entry.users tool) 1 64 4 (value_for given (codes "jobs")) x v ex is)
    (λ v is. good_number (is_for budget_entry.users tool) 1 1048576 131072 (value_for given (codes "budget")) y v ey is)
    (λ v is. good_number (is_for split_entry.users tool) 0 6 0 (value_for given (codes "split")) z v ez is)
    (λ v is. refl) (λ v is. refl) e.name e known
good_options tool given o None y z p t ex ey ez some = absurd (true≢false (sym (ap is_some some)))
good_options tool given o (Some x) None z p t ex ey ez some = absurd (true≢false (sym (ap is_some some)))
good_options tool given o (Some x) (Some y) None p t ex ey ez some = absurd (true≢false (sym (ap is_some some)))

fit_of : (tool : Tool) (given : Given) (o : Options) → AreKnown given → (b : Bool) → is_distinct given ≡ b
    → (if b then options_from tool (value_for given) (λ name. has_name name given) else None) ≡ Some o → AreFit given
fit_of tool given o known false e some = absurd (true≢false (sym (ap is_some some)))
fit_of tool given o known true e some = (
  e,
  all_values given e known (good_options tool given o (number_at tool jobs_entry (value_for given (codes "jobs"))) (number_at tool budget_entry (value_for given (codes "budget")))
      (number_at tool split_entry (value_for given (codes "split"))) (flag_at tool proofs_entry (has_name (codes "proofs") given)) (flag_at tool trace_entry (has_name (codes "trace") given))
      refl refl refl some),
)

-- ---- words with options have no fault, and no `--`

record Chosen (words : List Word) : Type 0 where
  given : Given
  form : given_of entries words ≡ Some given
  fit : AreFit given

chosen : (tool : Tool) (words : List Word) (o : Options) → options_of tool words ≡ Some o → Chosen words
unfolding options_of
chosen tool words o e = by_given (given_of entries words) refl e
  where
    by_given : (g : Option Given) → given_of entries words ≡ g → option_and_then (options_by tool) g ≡ Some o → Chosen words
    by_given None is e = absurd (true≢false (sym (ap is_some e)))
    by_given (Some given) is e = record { given = given; form = is; fit = fit_of tool given o (all_known words (ready []) given tt is) (is_distinct given) refl e }

none_unless : (tool : Tool) (words : List Word) → ((o : Options) → options_of tool words ≡ Some o → ⊥) → options_of tool words ≡ None
none_unless tool words never = by_option (options_of tool words) refl
  where
    by_option : (o : Option Options) → options_of tool words ≡ o → o ≡ None
    by_option None e = refl
    by_option (Some o) e = absurd (never o e)

pub fault_none : (tool : Tool) (words : List Word) → (fault_of tool_app words ≡ [] → ⊥) → options_of tool words ≡ None
fault_none tool words faulty = none_unless tool words (λ o e.
    let c = chosen tool words o e in
    faulty (words_taken words c.given (record { form = c.form; distinct = c.fit.0 }) c.fit.1).faultless)

not_dashes : (st : Reading) (word : Word) → Known st → Fits (read_word entries st word) → (b : Bool) → is_dashes word ≡ b → b ≡ false
not_dashes st word known fit false e = refl
not_dashes (waits x given) word waiting fit true e = absurd (true≢false (sym e ∙ value_no_dashes word (last_value x word given waiting.number fit.1)))
not_dashes refused word known fit true e = absurd fit
not_dashes (ready given) word known fit true e = absurd (subst (λ l. Fits (option_read entries given l)) (ap long_of (same_bytes word (45 ∷ 45 ∷ []) e)) fit)

no_dashes : (words : List Word) (st : Reading) (given : Given) → Known st → given_from entries st words ≡ Some given → AreFit given → list_any is_dashes words ≡ false
no_dashes [] st given known e fit = refl
no_dashes (word ∷ rest) st given known e fit =
    let here = not_dashes st word known (fits_first rest (read_word entries st word) given e fit) (is_dashes word) refl in
    rw here (no_dashes rest (read_word entries st word) given (known_step st word known) e fit)

pub dashes_none : (tool : Tool) (words : List Word) → list_any is_dashes words ≡ true → options_of tool words ≡ None
dashes_none tool words dashes = none_unless tool words (λ o e.
    let c = chosen tool words o e in
    true≢false (sym dashes ∙ no_dashes words (ready []) c.given tt c.form c.fit))

-- ---- where `clap` takes the words, the options are those of the values that it found

abbrev options_at : Tool → Option Word → Option Word → Option Word → Bool → Bool → Option Options
options_at tool jobs budget split proofs trace = options_with (number_at tool jobs_entry jobs) (number_at tool budget_entry budget) (number_at tool split_entry split)
    (flag_at tool proofs_entry proofs) (flag_at tool trace_entry trace)

same_options : (tool : Tool) (j k b c s u : Option Word) (p q t r : Bool) → j ≡ k → b ≡ c → s ≡ u → p ≡ q → t ≡ r
    → options_at tool j b s p t ≡ options_at tool k c u q r
same_options tool j k b c s u p q t r ej eb es ep et =
    ap (λ x. options_at tool x b s p t) ej ∙ ap (λ x. options_at tool k x s p t) eb ∙ ap (λ x. options_at tool k c x p t) es
    ∙ ap (λ x. options_at tool k c u x t) ep ∙ ap (λ x. options_at tool k c u q x) et

pub options_are : (tool : Tool) (words : List Word) → list_any is_dashes words ≡ false → fault_of tool_app words ≡ []
    → (f : Found) → rows_of f ≡ matches_of tool_app words → options_from tool (first_value f) (is_in_words f) ≡ options_of tool words
unfolding options_of
options_are tool words other none f rows =
    let found = words_given words other none in
    let given = found.0 in
    let are : rows_of f ≡ all_rows given = rows ∙ found.2.rows in
    let same : options_from tool (first_value f) (is_in_words f) ≡ options_from tool (value_for given) (λ name. has_name name given) =
    same_options tool (first_value f (codes "jobs")) (value_for given (codes "jobs")) (first_value f (codes "budget")) (value_for given (codes "budget"))
    (first_value f (codes "split")) (value_for given (codes "split")) (is_in_words f (codes "proofs")) (has_name (codes "proofs") given)
    (is_in_words f (codes "trace")) (has_name (codes "trace") given)
    (number_found f (codes "jobs") given are refl) (number_found f (codes "budget") given are refl) (number_found f (codes "split") given are refl)
    (flag_found f (codes "proofs") given proofs_entry are refl) (flag_found f (codes "trace") given trace_entry are refl) in
    same
    ∙ sym (ap (option_and_then (options_by tool)) found.1.form
    ∙ ap (λ b. if b then options_from tool (value_for given) (λ name. has_name name given) else None) found.1.distinct)
