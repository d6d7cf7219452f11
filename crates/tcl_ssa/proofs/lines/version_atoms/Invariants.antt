-- The operands so far, and then those that are left.
use Rattle.std.proofs.Common.{◌≡◌, ◌++◌, drop, map}
use Rattle.tcl_lang.specs.Versions as versions
use Rattle.tcl_ssa.proofs.lines.version_atoms.Given as goal

abbrev pub invariant-loop-atom : goal.invariant-loop-atom
invariant-loop-atom l = l.over ++ map (versions.version_atom l.current) (drop l.atom-index l.args) ≡ map (versions.version_atom l.current) l.args
