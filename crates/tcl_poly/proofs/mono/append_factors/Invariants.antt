-- The factors that were passed stand at the end.
use Rattle.std.proofs.Common.{◌≡◌, ◌++◌, take}
use Rattle.tcl_poly.proofs.mono.append_factors.Given as goal

abbrev pub invariant-loop-factor : goal.invariant-loop-factor
invariant-loop-factor l = l.product.items ≡ l.fn.product.items ++ take l.factor-index l.factor-items
