-- The first factor of the variable is the only one.
use Rattle.std.proofs.Common.{rules}
use Rattle.tcl_poly.specs.Unknown.{factor_of}
use Rattle.tcl_reduce.proofs.MonomialLists.{exponent_found, exponent_further}
use Rattle.tcl_reduce.proofs.parts.exponent.Goals as goal

pub returns-then-key : goal.returns-then-key
returns-then-key c =
    exponent_found c.args.mono.now c.loop-k.k c.args.key (factor_of c.at-factor.result) c.degree-degree.ensures.monomial c.at-factor.ensures (search rules) c.loop-k.invariant

pub loop-k-preserved : goal.loop-k-preserved
loop-k-preserved c =
    exponent_further c.args.mono.now c.loop-k.k c.args.key (factor_of c.at-factor.result) c.at-factor.ensures (search rules) c.loop-k.invariant
