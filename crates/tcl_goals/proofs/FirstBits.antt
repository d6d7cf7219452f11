-- In a well formed program the variables that are defined before a place are the first.
use Rattle.std.proofs.Common.{◌≡◌, ℕ, ◌≤◌, refl, ◌∙◌, ap, ◌&&◌, List, [], ◌∷◌, length}
use Rattle.std.specs.List.{slice_get, list_all}
use Rattle.tcl_lang.specs.Program.{VersionedProgram}
use Rattle.tcl_lang.specs.Limit.{definitions_before}
use Rattle.tcl_lang.specs.Form.{IsWellFormed}
use Rattle.tcl_lang.proofs.FormEnds.{defined_at}
use Rattle.tcl_goals.specs.declared.fact.BitLit.{BitLit}
use Rattle.tcl_goals.specs.Order.{has_bit, is_first_bit, is_bit_before}

first_bit : (p : VersionedProgram) (place : ℕ) (b : BitLit) → IsWellFormed p → place ≤ length p.lines → is_bit_before p place b ≡ is_first_bit p.variables (definitions_before p.lines place) b
first_bit p place b w h = ap (λ t. t && has_bit (slice_get p.variables b.var) b.bit) (defined_at p place b.var w h)

pub first_bits : (p : VersionedProgram) (place : ℕ) (bits : List BitLit) → IsWellFormed p → place ≤ length p.lines → list_all (is_bit_before p place) bits ≡ list_all (is_first_bit p.variables (definitions_before p.lines place)) bits
first_bits p place [] w h = refl
first_bits p place (b ∷ bits) w h =
    ap (λ t. t && list_all (is_bit_before p place) bits) (first_bit p place b w h)
    ∙ ap (λ t. is_first_bit p.variables (definitions_before p.lines place) b && t) (first_bits p place bits w h)
