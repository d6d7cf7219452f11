-- The cofactors that are left decide.
use Rattle.std.proofs.Common.{◌≡◌, ◌&&◌, drop, map}
use Rattle.tcl_goals.specs.Numbers.{rise_after}
use Rattle.tcl_remainder.specs.Lines as s
use Rattle.tcl_remainder.proofs.cofactors.are_plain.Given as goal

abbrev pub invariant-loop-cofactor : goal.invariant-loop-cofactor
invariant-loop-cofactor g l =
    let value = g.R.Ring.amount l.ring in
    let left = s.valued value (map (λ c. (c.equation, c.poly)) (drop l.cofactor-index l.cofactors)) in
    (rise_after l.last (map (λ c. c.0) left) && s.all_plain left) ≡ s.are_plain (s.valued value (map (λ c. (c.equation, c.poly)) l.cofactors))
