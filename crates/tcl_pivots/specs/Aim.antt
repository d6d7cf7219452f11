-- What is left of the claim between two steps, and how a reduction by rows goes on.
use Rattle.std.specs.Prelude.{◌≡◌, ◌⊎◌, ℕ, ◌+◌, Bool, true, false, List, ℤ, Option}
use Rattle.tcl_ring.specs.Reduction.{is_wide}
use Rattle.tcl_poly.specs.Polynomial.{Polynomial, norm_of}
use Rattle.tcl_poly.specs.Combination.{weight_of}
use Rattle.tcl_reduce.specs.Membership as s
use Rattle.tcl_pivots.specs.declared.row.Target.{Target}
use Rattle.tcl_pivots.specs.declared.target_reduction.TargetStep.{TargetStep}
use Rattle.tcl_pivots.specs.declared.target_reduction.TargetStep.TheVariants.{Same, Wide, Next}
use Rattle.tcl_pivots.specs.Held.{Held, rows_shown}
use Rattle.tcl_pivots.specs.TargetState.{target_shown, IsSoundTarget}

-- what is left is known, and either the claim itself is too great for any step or it is not wide with the cofactors
pub record IsAimed (m : Option ℕ) (equations : List Polynomial) (claim : Polynomial) (f : s.Target) : Type 0 where
  pub sound : IsSoundTarget m equations claim f
  pub fits : (is_wide m (norm_of claim) ≡ true) ⊎ (is_wide m (norm_of claim + weight_of (λ n. n) equations f.cofactors) ≡ false)

-- after a step, with whether a step was wide before it
abbrev pub target_after : {R E : Type 0} → (E → ℤ) → Bool → Target R E → TargetStep R E → s.Target
target_after value noted f Same = target_shown value noted f
target_after value noted f Wide = target_shown value true f
target_after value noted f (Next g) = target_shown value noted g

-- what a step leaves is known as well
abbrev pub IsAimedAfter : {R E : Type 0} → Option ℕ → List Polynomial → Polynomial → (E → ℤ) → TargetStep R E → Type 0
IsAimedAfter m equations claim value Same = Unit {0}
IsAimedAfter m equations claim value Wide = Unit {0}
IsAimedAfter m equations claim value (Next g) = IsAimed m equations claim (target_shown value false g)

-- the rows and what is left of the claim are those of that stage
abbrev pub IsSettled : {R E : Type 0} → (E → ℤ) → Held R E → Target R E → s.Stage → Type 0
IsSettled value h f stage = (rows_shown value h ≡ stage.rows) × (target_shown value stage.target.noted f ≡ stage.target)
