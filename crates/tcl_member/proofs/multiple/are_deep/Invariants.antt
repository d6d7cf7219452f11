-- Whether a product of a cofactor from k on is deep.
use Rattle.std.proofs.Common.{◌≡◌, ◌≤◌, length, drop, ℤ}
use Rattle.tcl_pivots.specs.CofactorLists.{equations_of}
use Rattle.tcl_pivots.proofs.CofactorTurns.{valued}
use Rattle.tcl_member.specs.Deep.{are_deep_products}
use Rattle.tcl_member.proofs.multiple.are_deep.Given as goal

abbrev pub invariant-loop-k : goal.invariant-loop-k
invariant-loop-k g l =
    (l.k ≤ length l.cofactors)
    × ((value : g.row.R-Elem.Denot → ℤ) → l.deep ≡ are_deep_products (equations_of value l.equations) l.degree (valued value (drop l.k l.cofactors)))

abbrev pub decreases-loop-k : goal.decreases-loop-k
decreases-loop-k g l = l.k
