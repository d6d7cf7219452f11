-- What is left of the claim, and what is known of it.
use Rattle.std.specs.Prelude.{List, ℕ, Bool, ℤ, Option}
use Rattle.tcl_ring.specs.Reduction.{reduced_by}
use Rattle.tcl_poly.specs.Polynomial.{Polynomial, IsPolynomial, terms_of}
use Rattle.tcl_pivots.specs.declared.row.Target.{Target}
use Rattle.tcl_reduce.specs.Answer.{numbered}
use Rattle.tcl_reduce.specs.Remainder.{pairs_of, IsRemainder}
use Rattle.tcl_reduce.specs.Membership as s
use Rattle.tcl_pivots.specs.RowState.{AreCounted}

abbrev pub target_shown : {R E : Type 0} → (E → ℤ) → Bool → Target R E → s.Target
target_shown value noted f = record { poly = terms_of value f.poly; cofactors = pairs_of value (numbered f.cofactors); noted = noted }

-- with its cofactors it makes the claim, as the exact comparison can show
pub record IsSoundTarget (m : Option ℕ) (equations : List Polynomial) (claim : Polynomial) (f : s.Target) : Type 0 where
  pub over : IsPolynomial (reduced_by m) f.poly
  pub shown : IsRemainder m (λ n. n) equations claim f.poly f.cofactors
  pub counted : AreCounted m equations f.cofactors
