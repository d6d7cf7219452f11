-- The table of versions as the definition has it. No public clause cites this module.
use Rattle.tcl_lang.specs.Versions.{Versions}
use Rattle.tcl_ssa.specs.declared.table.Table as declared

-- the versions that the table holds
abbrev pub versions_of : declared.Table → Versions
versions_of t = record { current = t.current; next = t.next; variables = t.variables }
