use Rattle.std.proofs.Common.{◌≡◌, take}
use Rattle.tcl_list.proofs.listing.same_slices.Given as goal

abbrev pub invariant-loop-k : goal.invariant-loop-k
invariant-loop-k g l = take l.k l.left ≡ take l.k l.right
