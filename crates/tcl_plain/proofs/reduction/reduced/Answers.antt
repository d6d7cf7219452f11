-- Plain data has what the reduction ends with.
use Rattle.std.proofs.Common.{[]}
use Rattle.tcl_poly.specs.Polynomial.{terms_of}
use Rattle.tcl_reduce.specs.Answer.{numbered}
use Rattle.tcl_reduce.specs.Remainder.{pairs_of}
use Rattle.tcl_plain.proofs.Holding.{read_kept}
use Rattle.tcl_plain.proofs.Proving.{narrow_over}
use Rattle.tcl_plain.proofs.reduction.reduced.Goals as goal

pub lines_of-requires-clause-over : goal.lines_of-requires-clause-over
lines_of-requires-clause-over g c =
    let modulus = g.R.Ring.modulus_of in let amount = g.R.Ring.amount in
    let ring = c.ring-ring.result.now in let q = c.args.equations.now in
    let pairs = pairs_of (amount ring) (numbered c.in-Zero.cofactors) in
    narrow_over (modulus ring) (amount ring) (numbered c.in-Zero.cofactors)
    (read_kept modulus amount ring q.ring c.defs.result.now q.defs c.claim.result.now q.claim [] pairs c.in-Zero.field-1 c.ring-ring.ensures c.defs.ensures.defs c.claim.ensures.claim
    (g.met.R.Ring.is_modulus q.ring) c.defs.ensures.over c.claim.ensures.over c.claim.ensures.shallow c.requires c.in-Zero.ensures.plain).cofactors

pub lines_of-requires-clause-plain : goal.lines_of-requires-clause-plain
lines_of-requires-clause-plain g c =
    let modulus = g.R.Ring.modulus_of in let amount = g.R.Ring.amount in
    let ring = c.ring-ring.result.now in let q = c.args.equations.now in
    let pairs = pairs_of (amount ring) (numbered c.in-Zero.cofactors) in
    (read_kept modulus amount ring q.ring c.defs.result.now q.defs c.claim.result.now q.claim [] pairs c.in-Zero.field-1 c.ring-ring.ensures c.defs.ensures.defs c.claim.ensures.claim
    (g.met.R.Ring.is_modulus q.ring) c.defs.ensures.over c.claim.ensures.over c.claim.ensures.shallow c.requires c.in-Zero.ensures.plain).cofactors_plain

pub remainder_of-requires-clause-over : goal.remainder_of-requires-clause-over
remainder_of-requires-clause-over g c =
    let modulus = g.R.Ring.modulus_of in let amount = g.R.Ring.amount in
    let ring = c.ring-ring.result.now in let q = c.args.equations.now in
    let pairs = pairs_of (amount ring) (numbered c.in-Rest.field-1) in
    (read_kept modulus amount ring q.ring c.defs.result.now q.defs c.claim.result.now q.claim (terms_of (amount ring) c.in-Rest.rest) pairs c.in-Rest.field-2 c.ring-ring.ensures c.defs.ensures.defs c.claim.ensures.claim
    (g.met.R.Ring.is_modulus q.ring) c.defs.ensures.over c.claim.ensures.over c.claim.ensures.shallow c.requires c.in-Rest.ensures.plain.1).over

pub remainder_of-requires-clause-plain : goal.remainder_of-requires-clause-plain
remainder_of-requires-clause-plain g c =
    let modulus = g.R.Ring.modulus_of in let amount = g.R.Ring.amount in
    let ring = c.ring-ring.result.now in let q = c.args.equations.now in
    let pairs = pairs_of (amount ring) (numbered c.in-Rest.field-1) in
    (read_kept modulus amount ring q.ring c.defs.result.now q.defs c.claim.result.now q.claim (terms_of (amount ring) c.in-Rest.rest) pairs c.in-Rest.field-2 c.ring-ring.ensures c.defs.ensures.defs c.claim.ensures.claim
    (g.met.R.Ring.is_modulus q.ring) c.defs.ensures.over c.claim.ensures.over c.claim.ensures.shallow c.requires c.in-Rest.ensures.plain.1).plain
