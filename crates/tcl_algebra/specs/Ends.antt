-- Which claims have equations, in which ring, and what the answers say of the claim.
use Rattle.std.specs.Prelude.{◌≡◌, ◌⊎◌, ℕ, ℤ, true, List, map, Option, Some, None, Result, Ok, Err}
use Rattle.tcl_poly.specs.Polynomial.{terms_of}
use Rattle.tcl_reduce.specs.Equated.{Equated}
use Rattle.tcl_reduce.specs.Answer.{definitions_of}
use Rattle.tcl_ring.specs.Reduction.{reduced_by}
use Rattle.tcl_lang.specs.declared.term.AlgPred.{AlgPred}
use Rattle.tcl_lang.specs.declared.pred.Pred.{Pred}
use Rattle.tcl_lang.specs.declared.pred.Pred.TheVariants.{Alg, Rng}
use Rattle.tcl_lang.specs.Program.{VersionedProgram}
use Rattle.tcl_goals.specs.declared.fact.Claim.{Claim}
use Rattle.tcl_goals.specs.declared.fact.Fact.{Fact}
use Rattle.tcl_goals.specs.declared.lemma.Numbered.{Numbered}
use Rattle.tcl_goals.specs.Keys.{claim_place}
use Rattle.tcl_algebra.specs.declared.ended.AlgebraEnd.{AlgebraEnd}
use Rattle.tcl_algebra.specs.declared.ended.AlgebraEnd.TheVariants.{Wide, Large, Memory}
use Rattle.tcl_algebra.specs.Equations as equations
use Rattle.tcl_algebra.specs.Equations.{Begins, places_of, polynomials_of, claim_predicate, modulus_of, has_wide_modulus, claim_polynomial, equations_of}
use Rattle.tcl_algebra.specs.Equations.Begins.{TooWide, TooLarge, Ready}

-- the equation of a predicate, and the one that a claim states
abbrev pub equation_in : Option Pred → Option AlgPred
equation_in None = None
equation_in (Some (Alg f)) = Some f
equation_in (Some (Rng f)) = None

abbrev pub claim_equation : VersionedProgram → Claim → Option AlgPred
claim_equation p c = equation_in (claim_predicate p c)

-- the ring is that of the claim, unless the claim's modulus is wide
abbrev pub IsRingOf : Option ℕ → Option AlgPred → Type 0
IsRingOf m None = Unit {0}
IsRingOf m (Some f) = (has_wide_modulus f.modulus ≡ true) ⊎ (m ≡ modulus_of f.modulus)

-- the claim begins so; that memory has run out says nothing
abbrev pub IsBegun : {X : Type 0} → Result X AlgebraEnd → Begins → Type 0
IsBegun (Ok x) begins = begins ≡ Ready
IsBegun (Err Wide) begins = begins ≡ TooWide
IsBegun (Err (Large what n)) begins = begins ≡ TooLarge what n
IsBegun (Err Memory) begins = Unit {0}

-- the equations of a fact with their places, its definitions, and the claim's polynomial with the place of the claim
pub record AreEquationsOf {R E : Type 0} (m : Option ℕ) (value : E → ℤ) (p : VersionedProgram) (lemmas : List Numbered) (fact : Fact) (f : AlgPred) (q : Equated R E) : Type 0 where
  pub list : map (terms_of value) q.list ≡ polynomials_of (equations_of m p lemmas fact)
  pub places : q.places ≡ places_of (equations_of m p lemmas fact)
  pub defs : definitions_of value q.defs ≡ equations.definitions_of m p fact
  pub claim : terms_of value q.claim ≡ claim_polynomial (reduced_by m) f
  pub claim_place : q.claim_place ≡ claim_place p.lines fact.claim
