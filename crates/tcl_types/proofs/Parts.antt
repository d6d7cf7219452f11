-- The parts of a modulus, by the first of them.
use Rattle.std.proofs.Common.{◌≡◌, not, List, [], ◌∷◌, Some, slice_get, ap}
use Rattle.std.specs.Prelude.{◌&&◌}
use Rattle.std.specs.List.{list_all}
use Rattle.tcl_lang.specs.declared.term.Part.{Part}
use Rattle.tcl_lang.specs.Shape.{is_part, is_parts}

part_same : (p q : Part) → Some p ≡ Some q → p ≡ q
part_same p q e = cc

pub first_of_parts : (parts : List Part) (first : Part) → slice_get parts 0 ≡ Some first → is_parts (Some parts) ≡ (not first.minus && list_all is_part parts)
first_of_parts [] first e = absurd (cc)
first_of_parts (p ∷ ps) first e = ap (λ (q : Part). not q.minus && list_all is_part (p ∷ ps)) (part_same p first e)
