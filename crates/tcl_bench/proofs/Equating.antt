-- Lists of equations with one more at the end.
use Rattle.std.proofs.Common.{ℕ, ◌≤◌, List, [], ◌∷◌, ◌++◌, ℤ, Option}
use Rattle.tcl_poly.specs.Polynomial.{IsOver, degree_of}
use Rattle.tcl_poly.specs.Combination.{Terms, AreOver}
use Rattle.tcl_reduce.specs.Equated.{AreShallow}

pub over_pushed : {E : Type 0} (m : Option ℕ) (value : E → ℤ) (list : List (Terms E)) (e : Terms E) → AreOver m value list → IsOver m value e → AreOver m value (list ++ e ∷ [])
over_pushed m value [] e h o = (o, tt)
over_pushed m value (x ∷ list) e h o = (h.0, over_pushed m value list e h.1 o)

pub shallow_pushed : {E : Type 0} (list : List (Terms E)) (e : Terms E) → AreShallow list → degree_of e ≤ 1024 → AreShallow (list ++ e ∷ [])
shallow_pushed [] e h d = (d, tt)
shallow_pushed (x ∷ list) e h d = (h.0, shallow_pushed list e h.1 d)
