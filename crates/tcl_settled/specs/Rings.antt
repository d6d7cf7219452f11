-- Claims whose modulus is one of a ring.
use Rattle.std.specs.Prelude.{◌≡◌, ◌<◌, ℕ, false, Some}
use Rattle.tcl_ring.specs.Reduction.{IsModulus}
use Rattle.tcl_lang.specs.declared.term.AlgPred.{AlgPred}
use Rattle.tcl_lang.specs.Program.{VersionedProgram}
use Rattle.tcl_goals.specs.declared.fact.Claim.{Claim}
use Rattle.tcl_goals.specs.declared.fact.Claim.TheVariants as claim
use Rattle.tcl_algebra.specs.Equations.{modulus_of, has_wide_modulus}
use Rattle.tcl_algebra.specs.Ends.{claim_equation}

-- where the claim is an equation without a wide modulus, its modulus is one of a ring
abbrev pub IsOfRing : VersionedProgram → Claim → Type 0
IsOfRing p c = (f : AlgPred) → claim_equation p c ≡ Some f → has_wide_modulus f.modulus ≡ false → IsModulus (modulus_of f.modulus)

-- so of the first goals
abbrev pub AreOfRings : VersionedProgram → ℕ → Type 0
AreOfRings p goals = (g : ℕ) → g < goals → IsOfRing p (claim.Goal g)
