-- One word of a call, at `clap` and in the form.
use Rattle.std.proofs.Common.{◌≡◌, true, false, refl, List, [], ◌∷◌, map, Some, None}
use Rattle.std.specs.Str.{bytes_eq}
use Rattle.clap.specs.Lexer.{long_of, short_of}
use Rattle.clap.specs.Walk.{Held, Rule, Text, Walk, arg_by_id, arg_by_long, has_row, option, settled, used, walk_from, walked}
use Rattle.clap.specs.Simple.{Shape, built}
use Rattle.clap.specs.Faults.{settle_fault, turn_fault}
use Rattle.tcl_cli.specs.Table.{entries}
use Rattle.tcl_cli.specs.Rules.{rule_for, tool_app}
use Rattle.tcl_cli.proofs.Names.{flag_rule, value_rule}

abbrev pub shape : Shape
shape = (built tool_app).top

abbrev pub rules_of_tool : List Rule
rules_of_tool = shape.rules

pub rules_are : rules_of_tool ≡ map rule_for entries
rules_are = refl

-- where a word that names an option with a value leads
pub attached_fault : (h : Held) (name v word : Text) → bytes_eq word (45 ∷ 45 ∷ []) ≡ false → long_of word ≡ Some (name, Some v)
    → arg_by_long rules_of_tool name ≡ Some (value_rule name) → settle_fault rules_of_tool false h ≡ []
    → has_row name (settled rules_of_tool h).rows ≡ false → turn_fault shape [] (walk_from h) word ≡ []
attached_fault h name v word other long found clean fresh = rw (other, long, found, clean, fresh) refl

pub attached_walk : (h : Held) (name v word : Text) → bytes_eq word (45 ∷ 45 ∷ []) ≡ false → long_of word ≡ Some (name, Some v)
    → arg_by_long rules_of_tool name ≡ Some (value_rule name)
    → walked rules_of_tool [] (walk_from h) word ≡ walk_from (record h { rows = used (value_rule name) (v ∷ []) (settled rules_of_tool h).rows; pending = None })
unfolding walked
attached_walk h name v word other long found = rw (other, long, found) refl

-- a word that names an option, whose value is the next word
pub opened_fault : (h : Held) (name word : Text) → bytes_eq word (45 ∷ 45 ∷ []) ≡ false → long_of word ≡ Some (name, None)
    → arg_by_long rules_of_tool name ≡ Some (value_rule name) → settle_fault rules_of_tool false h ≡ [] → turn_fault shape [] (walk_from h) word ≡ []
opened_fault h name word other long found clean = rw (other, long, found, clean) refl

abbrev pub opened : Held → Text → Walk
opened h name = record (walk_from (record h { pending = Some (name, []) })) { waiting = option name }

pub opened_walk : (h : Held) (name word : Text) → bytes_eq word (45 ∷ 45 ∷ []) ≡ false → long_of word ≡ Some (name, None)
    → arg_by_long rules_of_tool name ≡ Some (value_rule name) → walked rules_of_tool [] (walk_from h) word ≡ opened (settled rules_of_tool h) name
unfolding walked
opened_walk h name word other long found = rw (other, long, found) refl

-- a word that names a flag
pub flag_fault : (h : Held) (name word : Text) → bytes_eq word (45 ∷ 45 ∷ []) ≡ false → long_of word ≡ Some (name, None)
    → arg_by_long rules_of_tool name ≡ Some (flag_rule name) → settle_fault rules_of_tool false h ≡ []
    → has_row name (settled rules_of_tool h).rows ≡ false → turn_fault shape [] (walk_from h) word ≡ []
flag_fault h name word other long found clean fresh = rw (other, long, found, clean, fresh) refl

pub flag_walk : (h : Held) (name word : Text) → bytes_eq word (45 ∷ 45 ∷ []) ≡ false → long_of word ≡ Some (name, None)
    → arg_by_long rules_of_tool name ≡ Some (flag_rule name)
    → walked rules_of_tool [] (walk_from h) word ≡ walk_from (record h { rows = used (flag_rule name) [] (settled rules_of_tool h).rows; pending = None })
unfolding walked
flag_walk h name word other long found = rw (other, long, found) refl

-- the value in the next word
pub value_fault : (h : Held) (name word : Text) → bytes_eq word (45 ∷ 45 ∷ []) ≡ false → long_of word ≡ None → short_of word ≡ None
    → turn_fault shape [] (opened h name) word ≡ []
value_fault h name word other long short = rw (other, long, short) refl

pub value_walk : (h : Held) (name word : Text) → bytes_eq word (45 ∷ 45 ∷ []) ≡ false → long_of word ≡ None → short_of word ≡ None
    → arg_by_id rules_of_tool name ≡ Some (value_rule name) → bytes_eq name name ≡ true
    → walked rules_of_tool [] (opened h name) word ≡ walk_from (record h { pending = Some (name, word ∷ []) })
unfolding walked
value_walk h name word other long short found same = rw (other, long, short, found, same) refl

-- what is pending passes
pub pending_fault : (h : Held) (name v : Text) → arg_by_id rules_of_tool name ≡ Some (value_rule name) → has_row name h.rows ≡ false
    → settle_fault rules_of_tool false (record h { pending = Some (name, v ∷ []) }) ≡ []
pending_fault h name v found fresh = rw (found, fresh) refl

pub pending_rows : (h : Held) (name v : Text) → arg_by_id rules_of_tool name ≡ Some (value_rule name)
    → (settled rules_of_tool (record h { pending = Some (name, v ∷ []) })).rows ≡ used (value_rule name) (v ∷ []) h.rows
pending_rows h name v found = rw found refl
