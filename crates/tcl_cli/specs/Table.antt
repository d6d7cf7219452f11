-- The options of the programs: a row for each.
use Rattle.std.specs.Prelude.{ℕ, Bool, true, false, List, [], ◌∷◌, Option, codes, find}
use Rattle.std.specs.Str.{bytes_eq}
use Rattle.tcl_cli.specs.declared.options.Tool.{Tool}
use Rattle.tcl_cli.specs.declared.options.Tool.TheVariants.{Solo, Workers, Replay}
use Rattle.tcl_cli.specs.declared.table.Users.{Users}
use Rattle.tcl_cli.specs.declared.table.Users.TheVariants as users
use Rattle.tcl_cli.specs.declared.table.Kind.{Kind}
use Rattle.tcl_cli.specs.declared.table.Kind.TheVariants.{Number, Flag}
use Rattle.tcl_cli.specs.declared.table.Entry as code

-- the bytes of a word
abbrev pub Word : Type 0
Word = List ℕ

-- an option: its name, the programs that take it, and what stands after the name
pub record Entry : Type 0 where
  pub name : Word
  pub users : Users
  pub kind : Kind

-- a row of the program's table
abbrev pub entry_of : code.Entry → Entry
entry_of e = record { name = e.name.now; users = e.users; kind = e.kind }

-- the number of workers
abbrev pub jobs_entry : Entry
jobs_entry = record { name = codes "jobs"; users = users.Workers; kind = Number 1 64 4 }

-- the steps for a piece
abbrev pub budget_entry : Entry
budget_entry = record { name = codes "budget"; users = users.SoloAndWorkers; kind = Number 1 1048576 131072 }

-- the bits that a goal is cut by
abbrev pub split_entry : Entry
split_entry = record { name = codes "split"; users = users.SoloAndWorkers; kind = Number 0 6 0 }

-- the proof file
abbrev pub proofs_entry : Entry
proofs_entry = record { name = codes "proofs"; users = users.Nobody; kind = Flag }

-- the lines of the events
abbrev pub trace_entry : Entry
trace_entry = record { name = codes "trace"; users = users.Nobody; kind = Flag }

-- all options
abbrev pub entries : List Entry
entries = jobs_entry ∷ budget_entry ∷ split_entry ∷ proofs_entry ∷ trace_entry ∷ []

-- the option of this name
abbrev pub entry_named : List Entry → Word → Option Entry
entry_named table name = find (λ e. bytes_eq e.name name) table

-- whether the tool takes the option; replay takes none
abbrev pub is_for : Users → Tool → Bool
is_for users.Workers Solo = false
is_for users.Workers Workers = true
is_for users.Workers Replay = false
is_for users.SoloAndWorkers Solo = true
is_for users.SoloAndWorkers Workers = true
is_for users.SoloAndWorkers Replay = false
is_for users.Nobody tool = false
