-- The options as rules of `clap`.
use Rattle.std.specs.Prelude.{◌≡◌, Bool, true, false, List, [], ◌∷◌, map, fold, Option, Some, None, codes, option_and_then}
use Rattle.clap.specs.Walk.{Row, Rule, reading_by, with_default}
use Rattle.clap.specs.Simple.{App, filled, matches_of, new_rule, new_shape, with_rule}
use Rattle.clap.specs.Faults.{fault_of}
use Rattle.clap.specs.Matches.{matched_of}
use Rattle.clap.specs.declared.builder.action.ArgAction.{ArgAction}
use Rattle.clap.specs.declared.builder.action.ArgAction.TheVariants.{Set, SetTrue}
use Rattle.clap.specs.declared.parser.matches.Found.{Found}
use Rattle.clap.specs.declared.parser.matches.ValueSource.{ValueSource}
use Rattle.clap.specs.declared.parser.matches.ValueSource.TheVariants.{CommandLine}
use Rattle.tcl_cli.specs.declared.table.Kind.{Kind}
use Rattle.tcl_cli.specs.declared.table.Kind.TheVariants.{Number, Flag}
use Rattle.tcl_cli.specs.declared.table.Entry as code
use Rattle.tcl_cli.specs.Table.{Entry, Word, entries, entry_of}
use Rattle.tcl_cli.specs.Words.{Given, given_of, is_distinct}

-- a number is kept, and a flag sets `true`
abbrev pub action_for : Kind → ArgAction
action_for (Number least most initial) = Set
action_for Flag = SetTrue

-- the argument with this name and action
abbrev pub arg_with : ArgAction → Word → Rule
arg_with action name = record (new_rule name) { long = Some name; action = Some action }

-- the option as an argument
abbrev pub arg_for : Entry → Rule
arg_for e = arg_with (action_for e.kind) e.name

-- the argument as `clap` completes it
abbrev pub rule_for : Entry → Rule
rule_for e = filled (arg_for e)

-- the command with all options
abbrev pub tool_app : App
tool_app = record {
  top = record (new_shape (codes "tcl")) {
    rules = map arg_for entries;
    no_binary_name = true;
    disable_help_flag = true;
    disable_version_flag = true;
  };
  subs = [];
}

-- the command with one more option
abbrev pub with_entry : App → code.Entry → App
with_entry app e = with_rule app (arg_for (entry_of e))

-- what `clap` notes of an option that was given
abbrev pub row_for : Entry × Word → Row
row_for p = record {
  id = p.0.name;
  values = p.1 ∷ [];
  count = None;
  source = Some CommandLine;
  reading = reading_by (rule_for p.0);
}

-- the value comes from the words
abbrev pub is_from_words : Option ValueSource → Bool
is_from_words (Some CommandLine) = true
is_from_words _ = false

-- the words give the option
abbrev pub is_in_words : Found → Word → Bool
is_in_words found name = is_from_words (option_and_then (λ a. a.source) (matched_of found name))

-- `clap` takes the words, and finds what they give, and the defaults of the others
pub record AreTaken (words : List Word) (given : Given) : Type 0 where
  pub faultless : fault_of tool_app words ≡ []
  pub rows : matches_of tool_app words ≡ fold with_default (map row_for given) (map rule_for entries)

-- the words are in the form, and give this
pub record AreGiven (words : List Word) (given : Given) : Type 0 where
  pub form : given_of entries words ≡ Some given
  pub distinct : is_distinct given ≡ true
