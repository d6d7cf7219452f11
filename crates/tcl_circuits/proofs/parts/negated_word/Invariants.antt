use Rattle.std.proofs.Common.{◌≡◌, ◌++◌, drop, map}
use Rattle.tcl_cnf.specs.Literal.{neg}
use Rattle.tcl_circuits.proofs.parts.negated_word.Given as goal

abbrev pub invariant-loop-k : goal.invariant-loop-k
invariant-loop-k l = l.word ++ map neg (drop l.k l.a) ≡ map neg l.a
