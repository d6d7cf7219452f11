-- What is left to define leads to the same table.
use Rattle.std.proofs.Common.{◌≡◌, drop}
use Rattle.tcl_lang.specs.Typing.{define_all}
use Rattle.tcl_types.proofs.table.Types.define_all.Given as goal

abbrev pub invariant-loop-k : goal.invariant-loop-k
invariant-loop-k l = define_all l.self (drop l.k l.names) (drop l.k l.tys) ≡ define_all l.fn.self l.names l.tys
