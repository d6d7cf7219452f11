-- Each place is at least the number of its definition, since the places rise.
use Rattle.std.proofs.Common.{arith}
use Rattle.tcl_reduce.proofs.PlainTurns.{later_place}
use Rattle.tcl_reduce.proofs.definition.Defs.at.Goals as goal

pub returns-clause-narrow : goal.returns-clause-narrow
returns-clause-narrow g c =
    omega (arith, later_place (λ x. (x.place, x.variable, x.poly)) 0 c.args.k c.self.inside.definitions c.at-definition.result.now c.self.invariant c.at-definition.ensures)
