-- The sums over the powers so far, the power of the definition and the quotient.
use Rattle.std.proofs.Common.{◌≡◌, suc}
use Rattle.tcl_ring.specs.Reduction.{reduced_by}
use Rattle.tcl_poly.specs.Unknown.{key_of}
use Rattle.tcl_poly.specs.Polynomial as p
use Rattle.tcl_reduce.specs.Parts.{joined_by}
use Rattle.tcl_reduce.specs.Fits.{ArePowers, values_by}
use Rattle.tcl_reduce.specs.Substitution as s
use Rattle.tcl_reduce.proofs.substitution.substitute.Given as goal

abbrev pub invariant-loop-k : goal.invariant-loop-k
invariant-loop-k g l =
    let m = g.R.Ring.modulus_of l.ring in
    let value = g.R.Ring.amount l.ring in
    let d = p.terms_of value l.d in
    let fs = values_by value (joined_by l.fn.first l.parts) in
    ArePowers m (key_of l.unknown) d l.k (p.terms_of value l.powers.power) (p.terms_of value l.powers.quotient)
    × (p.terms_of value l.rest ≡ s.substituted (reduced_by m) d fs (suc l.k))
    × (p.terms_of value l.cofactor ≡ s.cofactor_by (reduced_by m) (key_of l.unknown) d fs (suc l.k))
    × p.IsOver m value l.rest
    × p.IsOver m value l.cofactor
