-- Definitions as the code holds them.
use Rattle.std.specs.Prelude.{◌≡◌, ℕ, List, map, ℤ, Option, Some, None}
use Rattle.tcl_ring.specs.Reduction.{reduced_by}
use Rattle.tcl_poly.specs.Unknown.{variable_key}
use Rattle.tcl_poly.specs.Polynomial.{terms_of}
use Rattle.tcl_poly.specs.Combination.{Terms}
use Rattle.tcl_reduce.specs.declared.definition.Definition.{Definition}
use Rattle.tcl_reduce.specs.Definitions.{Defined}
use Rattle.tcl_reduce.specs.Reduction as reduction

-- a definition as a triple of a place, a variable and a polynomial
abbrev pub triple_of : {R E : Type 0} → Definition R E → Defined E
triple_of x = (x.place, x.variable, x.poly)

abbrev pub triples_of : {R E : Type 0} → List (Definition R E) → List (Defined E)
triples_of xs = map triple_of xs

-- the definition, and its equation
abbrev pub IsDefinition : {R E : Type 0} → Option ℕ → (E → ℤ) → reduction.Definition → Definition R E → Terms E → Type 0
IsDefinition m value d x equation =
    ((x.place, variable_key x.variable, terms_of value x.poly) ≡ d) × (terms_of value equation ≡ reduction.equation_of (reduced_by m) d)

-- the same where there is a definition; else there is none
abbrev pub IsDefined : {R E : Type 0} → Option ℕ → (E → ℤ) → Option reduction.Definition → Option (Definition R E × Terms E) → Type 0
IsDefined m value None None = Unit {0}
IsDefined m value None (Some x) = ⊥
IsDefined m value (Some d) None = ⊥
IsDefined m value (Some d) (Some x) = IsDefinition m value d x.0 x.1
