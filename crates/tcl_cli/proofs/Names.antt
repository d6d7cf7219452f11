-- The options by name, and the form of values.
use Rattle.std.proofs.Common.{◌≡◌, ◌∙◌, ◌||◌, ◌==◌, ℕ, Bool, true, false, not, refl, sym, ap, subst, arith, List, [], ◌∷◌, ◌++◌, map, Option, Some, None, codes, true≢false}
use Rattle.std.specs.Prelude.{is_some, unwrap_or, if◌then◌else◌}
use Rattle.std.specs.List.{list_all}
use Rattle.std.specs.Str.{bytes_eq}
use Rattle.std.proofs.lemmas.Slice.Eq.{bytes_eq-Decides}
use Rattle.std.proofs.lemmas.List.{append-nil}
use Rattle.std.proofs.lemmas.Bool.Decides.{nat_tests}
use Rattle.clap.specs.Lexer.{is_digit, long_of, short_of}
use Rattle.clap.specs.Walk.{Row, Rule, Text, arg_by_id, arg_by_long, at_row, has_row, more_values, used}
use Rattle.clap.specs.Simple.{filled}
use Rattle.clap.proofs.WalkLemmas.{both, list_any-map}
use Rattle.clap.specs.declared.builder.action.ArgAction.{ArgAction}
use Rattle.clap.specs.declared.builder.action.ArgAction.TheVariants.{Set, SetTrue}
use Rattle.clap.specs.declared.parser.matches.ValueSource.TheVariants.{CommandLine}
use Rattle.tcl_cli.specs.declared.table.Kind.{Kind}
use Rattle.tcl_cli.specs.declared.table.Kind.TheVariants.{Number, Flag}
use Rattle.tcl_cli.specs.Table.{Entry, Word, budget_entry, entries, entry_named, jobs_entry, proofs_entry, split_entry, trace_entry}
use Rattle.tcl_cli.specs.Words.{Given, are_values, has_name, is_distinct, is_value, suits}
use Rattle.tcl_cli.specs.Rules.{action_for, arg_with, row_for, rule_for}

pub same_bytes : (x y : Text) → bytes_eq x y ≡ true → x ≡ y
same_bytes x y e = (bytes_eq-Decides x y).0 e

pub bytes_same : (x : Text) → bytes_eq x x ≡ true
bytes_same x = (bytes_eq-Decides x x).1 refl

pub or_yes : (b : Bool) → (b || true) ≡ true
or_yes true = refl
or_yes false = refl

pub is_no : (b : Bool) → not b ≡ true → b ≡ false
is_no true e = absurd (true≢false (sym e))
is_no false e = refl

pub either_no : (a b : Bool) → (a || b) ≡ false → (a ≡ false) × (b ≡ false)
either_no true b e = absurd (true≢false e)
either_no false b e = (refl, e)

pub not_same : (x y : Text) (b : Bool) → bytes_eq x y ≡ b → bytes_eq y x ≡ false → b ≡ false
not_same x y true e other = absurd (true≢false (sym (bytes_same y) ∙ ap (bytes_eq y) (sym (same_bytes x y e)) ∙ other))
not_same x y false e other = refl

fewer : (x : Text) (rest : Given) (p : Entry × Word) → has_name x (rest ++ p ∷ []) ≡ false → has_name x rest ≡ false
fewer x [] p e = refl
fewer x (q ∷ rest) p e =
    let parts = either_no (bytes_eq q.0.name x) (has_name x (rest ++ p ∷ [])) e in
    rw parts.0 (fewer x rest p parts.1)

one_more : (x : Text) (e : Entry) (v : Text) (rest : Given) → has_name x rest ≡ false → bytes_eq e.name x ≡ false → has_name x (rest ++ (e, v) ∷ []) ≡ false
one_more x e v [] none other = rw other refl
one_more x e v (q ∷ rest) none other =
    let parts = either_no (bytes_eq q.0.name x) (has_name x rest) none in
    rw parts.0 (one_more x e v rest parts.1 other)

-- ---- the rule of a known name

-- the argument of an option with a value, and of a flag
abbrev pub value_rule : Word → Rule
value_rule name = filled (arg_with Set name)

abbrev pub flag_rule : Word → Rule
flag_rule name = filled (arg_with SetTrue name)

pub number_rule : (e : Entry) → action_for e.kind ≡ Set → rule_for e ≡ value_rule e.name
number_rule e is = ap (λ a. filled (arg_with a e.name)) is

pub flag_rule_is : (e : Entry) → action_for e.kind ≡ SetTrue → rule_for e ≡ flag_rule e.name
flag_rule_is e is = ap (λ a. filled (arg_with a e.name)) is

name_step : (x : Entry) (name : Word) (xs : List Entry) (e : Entry) (b : Bool) → bytes_eq x.name name ≡ b → (if b then Some x else entry_named xs name) ≡ Some e
    → (entry_named xs name ≡ Some e → e.name ≡ name) → e.name ≡ name
name_step x name xs e true same is more = ap (λ (y : Entry). y.name) (sym (ap (λ o. unwrap_or o x) is)) ∙ same_bytes x.name name same
name_step x name xs e false same is more = more is

-- the option that was found has the name
pub name_is : (es : List Entry) (name : Word) (e : Entry) → entry_named es name ≡ Some e → e.name ≡ name
name_is [] name e is = absurd (true≢false (sym (ap is_some is)))
name_is (x ∷ xs) name e is = name_step x name xs e (bytes_eq x.name name) refl is (name_is xs name e)

-- and is found by its own
pub own_name : (es : List Entry) (name : Word) (e : Entry) → entry_named es name ≡ Some e → entry_named es e.name ≡ Some e
own_name es name e is = ap (entry_named es) (name_is es name e is) ∙ is

among_step : (P : Entry → Type 0) (x : Entry) (name : Word) (xs : List Entry) (e : Entry) (b : Bool) → (if b then Some x else entry_named xs name) ≡ Some e
    → P x → (entry_named xs name ≡ Some e → P e) → P e
among_step P x name xs e true is own more = subst P (ap (λ o. unwrap_or o x) is) own
among_step P x name xs e false is own more = more is

-- what holds of each option holds of the one that was found
pub among : (P : Entry → Type 0) → P jobs_entry → P budget_entry → P split_entry → P proofs_entry → P trace_entry
    → (name : Word) (e : Entry) → entry_named entries name ≡ Some e → P e
among P jobs budget split proofs trace name e is =
    among_step P jobs_entry name (budget_entry ∷ split_entry ∷ proofs_entry ∷ trace_entry ∷ []) e (bytes_eq (codes "jobs") name) is jobs (λ is1.
    among_step P budget_entry name (split_entry ∷ proofs_entry ∷ trace_entry ∷ []) e (bytes_eq (codes "budget") name) is1 budget (λ is2.
    among_step P split_entry name (proofs_entry ∷ trace_entry ∷ []) e (bytes_eq (codes "split") name) is2 split (λ is3.
    among_step P proofs_entry name (trace_entry ∷ []) e (bytes_eq (codes "proofs") name) is3 proofs (λ is4.
    among_step P trace_entry name [] e (bytes_eq (codes "trace") name) is4 trace (λ is5. absurd (true≢false (sym (ap is_some is5))))))))

long_step : (x e : Entry) (name : Word) (xs : List Entry) (b : Bool) → bytes_eq x.name name ≡ b → (if b then Some x else entry_named xs name) ≡ Some e
    → (entry_named xs name ≡ Some e → arg_by_long (map rule_for xs) name ≡ Some (rule_for e)) → arg_by_long (map rule_for (x ∷ xs)) name ≡ Some (rule_for e)
long_step x e name xs true same is more = rw same (ap (λ o. Some (rule_for (unwrap_or o x))) is)
long_step x e name xs false same is more = rw same (more is)

pub known_long : (es : List Entry) (name : Word) (e : Entry) → entry_named es name ≡ Some e → arg_by_long (map rule_for es) name ≡ Some (rule_for e)
known_long [] name e is = absurd (true≢false (sym (ap is_some is)))
known_long (x ∷ xs) name e is = long_step x e name xs (bytes_eq x.name name) refl is (known_long xs name e)

id_step : (x e : Entry) (name : Word) (xs : List Entry) (b : Bool) → bytes_eq x.name name ≡ b → (if b then Some x else entry_named xs name) ≡ Some e
    → (entry_named xs name ≡ Some e → arg_by_id (map rule_for xs) name ≡ Some (rule_for e)) → arg_by_id (map rule_for (x ∷ xs)) name ≡ Some (rule_for e)
id_step x e name xs true same is more = rw same (ap (λ o. Some (rule_for (unwrap_or o x))) is)
id_step x e name xs false same is more = rw same (more is)

pub known_id : (es : List Entry) (name : Word) (e : Entry) → entry_named es name ≡ Some e → arg_by_id (map rule_for es) name ≡ Some (rule_for e)
known_id [] name e is = absurd (true≢false (sym (ap is_some is)))
known_id (x ∷ xs) name e is = id_step x e name xs (bytes_eq x.name name) refl is (known_id xs name e)

unknown_step : (x : Entry) (name : Word) (xs : List Entry) (b : Bool) → bytes_eq x.name name ≡ b → (if b then Some x else entry_named xs name) ≡ None
    → (entry_named xs name ≡ None → arg_by_long (map rule_for xs) name ≡ None) → arg_by_long (map rule_for (x ∷ xs)) name ≡ None
unknown_step x name xs true same is more = absurd (true≢false (ap is_some is))
unknown_step x name xs false same is more = rw same (more is)

pub unknown_long : (es : List Entry) (name : Word) → entry_named es name ≡ None → arg_by_long (map rule_for es) name ≡ None
unknown_long [] name is = refl
unknown_long (x ∷ xs) name is = unknown_step x name xs (bytes_eq x.name name) refl is (unknown_long xs name)

-- ---- the rows of what was given

pub row_known : (name : Word) (given : Given) → has_row name (map row_for given) ≡ has_name name given
row_known name given = sym (list_any-map (λ (r : Row). bytes_eq r.id name) row_for given)

row_step : (id : Text) (change : Row → List Row) (missing : List Row) (r : Row) (rs : List Row) (b : Bool) → bytes_eq r.id id ≡ b → has_row id (r ∷ rs) ≡ false
    → (has_row id rs ≡ false → at_row id change missing rs ≡ rs ++ missing) → at_row id change missing (r ∷ rs) ≡ (r ∷ rs) ++ missing
row_step id change missing r rs true e fresh more = absurd (true≢false (rw e at fresh))
row_step id change missing r rs false e fresh more = rw e (ap (λ xs. r ∷ xs) (more (rw e at fresh)))

pub row_added : (id : Text) (change : Row → List Row) (missing rows : List Row) → has_row id rows ≡ false → at_row id change missing rows ≡ rows ++ missing
row_added id change missing [] fresh = refl
row_added id change missing (r ∷ rs) fresh = row_step id change missing r rs (bytes_eq r.id id) refl fresh (row_added id change missing rs)

pub used_once : (e : Entry) (v : Word) (rows : List Row) → action_for e.kind ≡ Set → has_row e.name rows ≡ false → used (value_rule e.name) (v ∷ []) rows ≡ rows ++ row_for (e, v) ∷ []
used_once e v rows is fresh = rw (row_added e.name (λ _. []) [] rows fresh, append-nil rows, is) (row_added e.name (more_values CommandLine (v ∷ [])) _ rows fresh)

pub flag_once : (e : Entry) (rows : List Row) → action_for e.kind ≡ SetTrue → has_row e.name rows ≡ false → used (flag_rule e.name) [] rows ≡ rows ++ row_for (e, codes "true") ∷ []
flag_once e rows is fresh = rw (row_added e.name (λ _. []) [] rows fresh, append-nil rows, is) (row_added e.name (more_values CommandLine (codes "true" ∷ [])) _ rows fresh)

-- ---- the form of values

digit_not_dash : (x : ℕ) → is_digit x ≡ true → (x == 45) ≡ false
digit_not_dash x e = grind (arith, nat_tests)

first_digit : (x : ℕ) (xs : Word) → is_value (x ∷ xs) ≡ true → is_digit x ≡ true
first_digit x xs e = (both (is_digit x) (list_all is_digit xs) (both _ _ (both _ _ e).1).1).0

pub value_not_long : (v : Word) → is_value v ≡ true → long_of v ≡ None
value_not_long [] e = refl
value_not_long (x ∷ xs) e = rw (digit_not_dash x (first_digit x xs e)) refl

pub value_not_short : (v : Word) → is_value v ≡ true → short_of v ≡ None
value_not_short [] e = refl
value_not_short (x ∷ xs) e = rw (digit_not_dash x (first_digit x xs e)) refl

pub value_no_dashes : (v : Word) → is_value v ≡ true → bytes_eq v (45 ∷ 45 ∷ []) ≡ false
value_no_dashes v e = dashes v (bytes_eq v (45 ∷ 45 ∷ [])) refl e
  where
    dashes : (v : Word) (b : Bool) → bytes_eq v (45 ∷ 45 ∷ []) ≡ b → is_value v ≡ true → b ≡ false
    dashes v true same e = absurd (true≢false (sym e ∙ ap is_value (same_bytes v (45 ∷ 45 ∷ []) same)))
    dashes v false same e = refl

pub long_no_dashes : (word : Word) (p : Word × Option Word) → long_of word ≡ Some p → bytes_eq word (45 ∷ 45 ∷ []) ≡ false
long_no_dashes word p e = dashes word (bytes_eq word (45 ∷ 45 ∷ [])) refl e
  where
    dashes : (word : Word) (b : Bool) → bytes_eq word (45 ∷ 45 ∷ []) ≡ b → long_of word ≡ Some p → b ≡ false
    dashes word true same e = absurd (true≢false (sym (ap is_some (sym (ap long_of (same_bytes word (45 ∷ 45 ∷ []) same)) ∙ e))))
    dashes word false same e = refl

-- ---- lists with one more option

there : (x : Text) (e : Entry) (v : Word) (rest : Given) → x ≡ e.name → has_name x (rest ++ (e, v) ∷ []) ≡ true
there x e v [] same = rw (same, bytes_same e.name) refl
there x e v (p ∷ rest) same = rw (there x e v rest same) (or_yes (bytes_eq p.0.name x))

last_step : (p : Entry × Word) (e : Entry) (v : Word) (rest : Given) → is_distinct (p ∷ (rest ++ (e, v) ∷ [])) ≡ true
    → (is_distinct (rest ++ (e, v) ∷ []) ≡ true → has_name e.name rest ≡ false) → (b : Bool) → bytes_eq p.0.name e.name ≡ b → has_name e.name (p ∷ rest) ≡ false
last_step p e v rest distinct more true same =
    absurd (true≢false (sym (there p.0.name e v rest (same_bytes p.0.name e.name same)) ∙ is_no _ (both (not (has_name p.0.name (rest ++ (e, v) ∷ []))) (is_distinct (rest ++ (e, v) ∷ [])) distinct).0))
last_step p e v rest distinct more false same =
    rw same (more (both (not (has_name p.0.name (rest ++ (e, v) ∷ []))) (is_distinct (rest ++ (e, v) ∷ [])) distinct).1)

-- the last option is none of those before
pub last_fresh : (e : Entry) (v : Word) (given : Given) → is_distinct (given ++ (e, v) ∷ []) ≡ true → has_name e.name given ≡ false
last_fresh e v [] distinct = refl
last_fresh e v (p ∷ rest) distinct = last_step p e v rest distinct (last_fresh e v rest) (bytes_eq p.0.name e.name) refl

pub less_distinct : (given : Given) (p : Entry × Word) → is_distinct (given ++ p ∷ []) ≡ true → is_distinct given ≡ true
less_distinct [] p distinct = refl
less_distinct (q ∷ rest) p distinct =
    let parts = both (not (has_name q.0.name (rest ++ p ∷ []))) (is_distinct (rest ++ p ∷ [])) distinct in
    let apart : has_name q.0.name rest ≡ false = fewer q.0.name rest p (is_no _ parts.0) in
    rw apart (less_distinct rest p parts.1)

more_step : (q : Entry × Word) (e : Entry) (v : Word) (rest : Given) → is_distinct (q ∷ rest) ≡ true → has_name e.name (q ∷ rest) ≡ false
    → (is_distinct rest ≡ true → has_name e.name rest ≡ false → is_distinct (rest ++ (e, v) ∷ []) ≡ true) → is_distinct (q ∷ (rest ++ (e, v) ∷ [])) ≡ true
more_step q e v rest distinct fresh more =
    let parts = both (not (has_name q.0.name rest)) (is_distinct rest) distinct in
    let apart = either_no (bytes_eq q.0.name e.name) (has_name e.name rest) fresh in
    let other : bytes_eq e.name q.0.name ≡ false = not_same e.name q.0.name (bytes_eq e.name q.0.name) refl apart.0 in
    rw (one_more q.0.name e v rest (is_no _ parts.0) other) (more parts.1 apart.1)

pub more_distinct : (e : Entry) (v : Word) (given : Given) → is_distinct given ≡ true → has_name e.name given ≡ false → is_distinct (given ++ (e, v) ∷ []) ≡ true
more_distinct e v [] distinct fresh = refl
more_distinct e v (q ∷ rest) distinct fresh = more_step q e v rest distinct fresh (more_distinct e v rest)

-- the text of a number is a value
abbrev is_set : ArgAction → Bool
is_set Set = true
is_set _ = false

number_text : (k : Kind) (v : Word) → action_for k ≡ Set → suits k v ≡ true → is_value v ≡ true
number_text (Number least most initial) v is e = e
number_text Flag v is e = absurd (true≢false (sym (ap is_set is)))

last_suits : (e : Entry) (v : Word) (given : Given) → are_values (given ++ (e, v) ∷ []) ≡ true → suits e.kind v ≡ true
last_suits e v [] good = (both (suits e.kind v) true good).0
last_suits e v (p ∷ rest) good = last_suits e v rest (both (suits p.0.kind p.1) (are_values (rest ++ (e, v) ∷ [])) good).1

pub last_value : (e : Entry) (v : Word) (given : Given) → action_for e.kind ≡ Set → are_values (given ++ (e, v) ∷ []) ≡ true → is_value v ≡ true
last_value e v given is good = number_text e.kind v is (last_suits e v given good)

pub less_values : (given : Given) (p : Entry × Word) → are_values (given ++ p ∷ []) ≡ true → are_values given ≡ true
less_values [] p good = refl
less_values (q ∷ rest) p good =
    let parts = both (suits q.0.kind q.1) (are_values (rest ++ p ∷ [])) good in
    rw parts.0 (less_values rest p parts.1)

-- the arguments of the known options
pub value_id : (e : Entry) → entry_named entries e.name ≡ Some e → action_for e.kind ≡ Set → arg_by_id (map rule_for entries) e.name ≡ Some (value_rule e.name)
value_id e known is = known_id entries e.name e known ∙ ap (λ r. Some r) (number_rule e is)

pub value_long : (e : Entry) → entry_named entries e.name ≡ Some e → action_for e.kind ≡ Set → arg_by_long (map rule_for entries) e.name ≡ Some (value_rule e.name)
value_long e known is = known_long entries e.name e known ∙ ap (λ r. Some r) (number_rule e is)

pub flag_long : (e : Entry) → entry_named entries e.name ≡ Some e → action_for e.kind ≡ SetTrue → arg_by_long (map rule_for entries) e.name ≡ Some (flag_rule e.name)
flag_long e known is = known_long entries e.name e known ∙ ap (λ r. Some r) (flag_rule_is e is)

-- a word that names an option names it by the option's own name
pub own_long : (word name : Word) (v : Option Word) (e : Entry) → long_of word ≡ Some (name, v) → entry_named entries name ≡ Some e → long_of word ≡ Some (e.name, v)
own_long word name v e long is = long ∙ ap (λ n. Some (n, v)) (sym (name_is entries name e is))
