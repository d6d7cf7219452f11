-- The lines so far, followed by those of the cofactors that are left, are all.
use Rattle.std.proofs.Common.{◌≡◌, ◌++◌, true, drop, map}
use Rattle.tcl_remainder.specs.Lines as s
use Rattle.tcl_remainder.proofs.cofactors.lines_of.Given as goal

abbrev pub invariant-loop-cofactor : goal.invariant-loop-cofactor
invariant-loop-cofactor g l =
    let value = g.R.Ring.amount l.ring in
    let left = map (λ c. (c.equation, c.poly)) (drop l.cofactor-index l.cofactors) in
    s.AreOver (g.R.Ring.modulus_of l.ring) value left
    × (s.all_plain (s.valued value left) ≡ true)
    × (l.lines ++ s.lines_of (s.valued value left) ≡ s.lines_of (s.valued value (map (λ c. (c.equation, c.poly)) l.cofactors)))
