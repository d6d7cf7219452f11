-- The reduction by the definitions below k goes on to the end of the whole one.
use Rattle.std.proofs.Common.{◌≡◌, ◌≤◌, ◌^◌, length, reverse}
use Rattle.tcl_poly.specs.Polynomial as p
use Rattle.tcl_reduce.specs.Answer.{definitions_of, numbered}
use Rattle.tcl_reduce.specs.Reduction.{reduced_from, reduced_of}
use Rattle.tcl_reduce.specs.Remainder.{pairs_of}
use Rattle.tcl_reduce.specs.Step.{IsCovered}
use Rattle.tcl_reduce.proofs.reduction.plain.Given as goal

abbrev pub invariant-loop-k : goal.invariant-loop-k
invariant-loop-k g l =
    let m = g.R.Ring.modulus_of l.ring in let value = g.R.Ring.amount l.ring in
    let defs = definitions_of value l.defs in
    (l.k ≤ length l.defs)
    × p.IsOver m value l.rest
    × (p.degree_of l.rest ≤ 1024)
    × IsCovered m (p.norm_of (p.terms_of value l.rest)) l.spent
    × (l.spent ≤ 2 ^ 127)
    × (reduced_from m defs l.k (p.terms_of value l.rest) l.spent (pairs_of value (reverse (numbered l.cofactors.items))) ≡ reduced_of m defs (p.terms_of value l.f))

abbrev pub decreases-loop-k : goal.decreases-loop-k
decreases-loop-k g l = l.k
