-- The cofactors so far, followed by those of the lines that are left, are all.
use Rattle.std.proofs.Common.{◌≡◌, ◌++◌, true, drop, map}
use Rattle.tcl_ring.specs.Reduction.{reduced_by}
use Rattle.tcl_remainder.specs.Lines as s
use Rattle.tcl_remainder.proofs.cofactors.cofactors_of.Given as goal

abbrev pub invariant-loop-line : goal.invariant-loop-line
invariant-loop-line g l =
    let modulus = g.R.Ring.modulus_of l.ring in
    let value = g.R.Ring.amount l.ring in
    let left = drop l.line-index l.lines in
    let made = map (λ c. (c.equation, c.poly)) l.cofactors in
    (s.are_narrow (reduced_by modulus) left ≡ true)
    × s.AreOver modulus value made
    × (s.valued value made ++ s.cofactors_of (reduced_by modulus) left ≡ s.cofactors_of (reduced_by modulus) l.fn.lines)
