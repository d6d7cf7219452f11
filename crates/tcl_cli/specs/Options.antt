-- What the words of a call choose.
use Rattle.std.specs.Prelude.{◌&&◌, ℕ, Bool, true, false, List, Option, Some, None, if◌then◌else◌, find, option_and_then, option_map}
use Rattle.std.specs.Str.{bytes_eq}
use Rattle.tcl_cli.specs.declared.options.Tool.{Tool}
use Rattle.tcl_cli.specs.declared.options.Options.{Options}
use Rattle.tcl_cli.specs.declared.table.Kind.{Kind}
use Rattle.tcl_cli.specs.declared.table.Kind.TheVariants.{Number, Flag}
use Rattle.tcl_cli.specs.Table.{Entry, Word, budget_entry, entries, is_for, jobs_entry, proofs_entry, split_entry, trace_entry}
use Rattle.tcl_cli.specs.Words.{Given, given_of, has_name, is_distinct, number_in}

-- the text that was given for this name
abbrev pub value_for : Given → Word → Option Word
value_for given name = option_map (λ p. p.1) (find (λ p. bytes_eq p.0.name name) given)

-- the number that was given, or else the initial one; none for an option that is no number
abbrev pub number_by : Bool → Kind → Option Word → Option ℕ
number_by taken (Number least most initial) None = Some initial
number_by taken (Number least most initial) (Some v) = if taken then number_in least most v else None
number_by taken Flag text = None

-- the same, where the tool takes the option; none where it does not, and the option was given
abbrev pub number_at : Tool → Entry → Option Word → Option ℕ
number_at tool e text = number_by (is_for e.users tool) e.kind text

-- whether the flag was given; none where it was, and the tool does not take it
abbrev pub flag_at : Tool → Entry → Bool → Option Bool
flag_at tool e true = if is_for e.users tool then Some true else None
flag_at tool e false = Some false

-- the options with these values; not both the proof file and the events
abbrev pub chosen_options : ℕ → ℕ → ℕ → Bool → Bool → Option Options
chosen_options jobs budget split proofs trace = if proofs && trace then None
    else Some (record { jobs = jobs; budget = budget; split = split; proofs = proofs; trace = trace })

-- the same, where each value is good
abbrev pub options_with : Option ℕ → Option ℕ → Option ℕ → Option Bool → Option Bool → Option Options
options_with (Some j) (Some b) (Some s) (Some p) (Some t) = chosen_options j b s p t
options_with _ _ _ _ _ = None

-- the options, by the text of each name that was given and by the names that were given
abbrev pub options_from : Tool → (Word → Option Word) → (Word → Bool) → Option Options
options_from tool text is_given = options_with
    (number_at tool jobs_entry (text jobs_entry.name))
    (number_at tool budget_entry (text budget_entry.name))
    (number_at tool split_entry (text split_entry.name))
    (flag_at tool proofs_entry (is_given proofs_entry.name))
    (flag_at tool trace_entry (is_given trace_entry.name))

-- the options that were given, where none is given twice
abbrev pub options_by : Tool → Given → Option Options
options_by tool given = if is_distinct given then options_from tool (value_for given) (λ name. has_name name given) else None

-- what the words choose, or none where they are not in the form
unfoldable pub options_of : Tool → List Word → Option Options
options_of tool words = option_and_then (options_by tool) (given_of entries words)
