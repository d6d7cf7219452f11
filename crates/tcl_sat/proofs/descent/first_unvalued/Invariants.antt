use Rattle.std.proofs.Common.{◌≡◌, ◌<◌, ◌*◌, ℕ, None}
use Rattle.tcl_trail.specs.Assignment.{lits_of, value_in}
use Rattle.tcl_sat.proofs.descent.first_unvalued.Given as goal

abbrev pub invariant-loop-variable : goal.invariant-loop-variable
invariant-loop-variable l = (v : ℕ) → v < l.variable → (value_in (lits_of l.trail.entries) (2 * v) ≡ None → ⊥)
