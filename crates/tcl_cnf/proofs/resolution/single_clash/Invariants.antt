use Rattle.std.proofs.Common.{◌≡◌, take}
use Rattle.std.specs.Option.{option_to_list}
use Rattle.tcl_cnf.specs.Resolution.{clashes}
use Rattle.tcl_cnf.proofs.resolution.single_clash.Given as goal

abbrev pub invariant-loop-lit : goal.invariant-loop-lit
invariant-loop-lit l = clashes (take l.lit-index l.lits) l.marks ≡ option_to_list l.found
