-- The squares of the variables before this one are added.
use Rattle.std.proofs.Common.{map, filter, take}
use Rattle.std.specs.List.{slice_get}
use Rattle.tcl_algebra.specs.Equations.{square_at, is_bit_variable}
use Rattle.tcl_algebra.specs.Held.{IsAdded}
use Rattle.tcl_algebra.proofs.squares.add_bits.Given as goal

abbrev pub invariant-loop-k : goal.invariant-loop-k
invariant-loop-k g l =
    IsAdded (g.R.Ring.amount l.ring) l.fn.rows.list l.rows.list l.fn.rows.places l.rows.places (map (square_at (g.R.Ring.modulus_of l.ring) l.ssa) (filter (λ v. is_bit_variable (slice_get l.ssa.variables v)) (take l.k l.named)))
