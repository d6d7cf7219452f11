-- A monomial in which the unknown does not occur is itself without it.
use Rattle.std.proofs.Common.{sym, arith}
use Rattle.tcl_reduce.proofs.PartLists.{without_same}
use Rattle.tcl_reduce.proofs.parts.divided.Goals as goal

pub returns-then-exponent-eq0 : goal.returns-then-exponent-eq0
returns-then-exponent-eq0 c =
    sym (without_same 0 c.args.key c.args.mono c.degree-degree.ensures.monomial (omega (arith, c.if-exponent-eq0.true, c.requires)))
