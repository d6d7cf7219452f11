-- The names of the lines so far and of those that are left.
use Rattle.std.proofs.Common.{◌≡◌, ◌++◌, map, drop}
use Rattle.tcl_lang.specs.Names.{used_names}
use Rattle.tcl_slice.proofs.links.all_names.Given as goal

abbrev pub invariant-loop-k : goal.invariant-loop-k
invariant-loop-k l = l.names ++ map used_names (drop l.k l.lines) ≡ map used_names l.lines
