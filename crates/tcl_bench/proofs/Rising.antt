-- Lists of definitions with two more at the end.
use Rattle.std.proofs.Common.{ℕ, suc, ◌<◌, List, [], ◌∷◌, ◌++◌}
use Rattle.tcl_reduce.specs.Definitions.{Defined, RiseByPlace}

pub next_rises : {E : Type 0} (least : ℕ) (list : List (Defined E)) (y x : Defined E) → RiseByPlace least (list ++ y ∷ []) → y.0 < x.0 → RiseByPlace least ((list ++ y ∷ []) ++ x ∷ [])
next_rises least [] y x h below = (h.0, (below, tt))
next_rises least (z ∷ list) y x h below = (h.0, next_rises (suc z.0) list y x h.1 below)
