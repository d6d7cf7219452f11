-- The versions before the line; the lines so far, and then those of the lines that are left.
use Rattle.std.proofs.Common.{◌≡◌, ◌++◌, length, drop}
use Rattle.tcl_lang.specs.Versions.{versions_at, version_lines, no_versions}
use Rattle.tcl_ssa.specs.Table.{versions_of}
use Rattle.tcl_ssa.proofs.form.form_of.Given as goal

abbrev pub invariant-loop-k : goal.invariant-loop-k
invariant-loop-k l = record {
  versions : versions_of l.table ≡ versions_at l.program l.k;
  lines : l.form ++ version_lines l.program.names (versions_of l.table) (drop l.k l.program.lines)
      ≡ version_lines l.program.names (no_versions (length l.program.names)) l.program.lines;
}
