-- The equations of a claim as contracts see them.
use Rattle.std.specs.Prelude.{◌≡◌, ℕ, ◌≤◌, List, [], ◌∷◌, length, ℤ, Option}
use Rattle.tcl_ring.specs.Reduction.{reduced_by}
use Rattle.tcl_poly.specs.Monomial.{Monomial}
use Rattle.tcl_poly.specs.Polynomial.{degree_of, IsOver}
use Rattle.tcl_poly.specs.Combination.{AreOver}
use Rattle.tcl_reduce.specs.Definitions.{Defined}
use Rattle.tcl_reduce.specs.Answer.{definitions_of}
use Rattle.tcl_reduce.specs.Remainder.{AreDefinitions, BeginsWith}

-- the ring, the equations with the place of each, the definitions, and the claim's polynomial with its place
pub record Equated (R E : Type 0) : Type 0 where
  pub ring : R
  pub list : List (List (Monomial × E))
  pub places : List ℕ
  pub defs : List (Defined E)
  pub claim : List (Monomial × E)
  pub claim_place : ℕ

-- every polynomial has a degree of at most 1,024
abbrev pub AreShallow : {E : Type 0} → List (List (Monomial × E)) → Type 0
AreShallow [] = Unit {0}
AreShallow (p ∷ ps) = (degree_of p ≤ 1024) × AreShallow ps

-- each equation has a place, each polynomial is over the ring and has a degree of at most 1,024, and the list begins with the
-- equations of the definitions
pub record AreEquations {R E : Type 0} (m : Option ℕ) (value : E → ℤ) (q : Equated R E) : Type 0 where
  pub placed : length q.places ≡ length q.list
  pub shallow : AreShallow q.list
  pub over : AreOver m value q.list
  pub definitions : AreDefinitions (reduced_by m) (definitions_of value q.defs)
  pub begins : BeginsWith m value (definitions_of value q.defs) q.list
  pub claim_over : IsOver m value q.claim
  pub claim_shallow : degree_of q.claim ≤ 1024
