-- The instructions before this one have been gone through.
use Rattle.std.proofs.Common.{◌≡◌, take}
use Rattle.std.specs.List.{fold}
use Rattle.tcl_bounds.specs.Bounds.{pass_line}
use Rattle.tcl_bounds.specs.Limits.{met_with}
use Rattle.tcl_bounds.proofs.narrowed.pass_all.Given as goal

abbrev pub invariant-loop-k : goal.invariant-loop-k
invariant-loop-k l = l.bounds ≡ fold (pass_line (met_with l.limits) l.ssa.lines) l.fn.bounds (take l.k l.uses)
