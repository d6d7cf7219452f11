-- The pieces so far.
use Rattle.std.proofs.Common.{◌≡◌, ◌++◌, length, map}
use Rattle.tcl_goals.specs.Numbers.{numbers_below}
use Rattle.tcl_goals.specs.Plans.{nth_cube, number_from}
use Rattle.tcl_slice.proofs.plans.add_cubes.Given as goal

abbrev pub invariant-loop-n : goal.invariant-loop-n
invariant-loop-n l = l.plan ≡ l.fn.plan ++ number_from (length l.fn.plan) (map (λ m. record { number = 0; goal = l.goal; route = l.route; cube = nth_cube l.bits m }) (numbers_below l.n))
