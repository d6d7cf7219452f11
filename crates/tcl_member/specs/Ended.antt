-- How a whole search ends.
use Rattle.std.specs.Prelude.{ℕ, List, false, ℤ, Option}
use Rattle.tcl_poly.specs.Polynomial.{Polynomial, norm_of}
use Rattle.tcl_poly.specs.Combination.{Terms}
use Rattle.tcl_reduce.specs.Row.{Rows}
use Rattle.tcl_pivots.specs.CofactorLists.{equations_of}
use Rattle.tcl_reduce.specs.Multiple.{multiples_of}
use Rattle.tcl_reduce.specs.Membership.{Found, stage_of}
use Rattle.tcl_member.specs.Course.{found_from}
use Rattle.tcl_member.specs.declared.answer.Member.{Member}
use Rattle.tcl_member.specs.Answer.{IsMember, IsShownBy, IsStopped, IsPolled}

-- the search with these rows for a claim of which plain reduction leaves that rest with these cofactors
abbrev pub found_on : Option ℕ → List Polynomial → ℕ → ℕ → ℕ → Rows → Polynomial → List (ℕ × Polynomial) → Found
found_on m es norm place budget rows rest cofactors =
    found_from m es norm place budget (multiples_of rows.kept rest) (stage_of m es norm place rows (record { poly = rest; cofactors = cofactors; noted = false }))

-- what an answer says of it
pub record IsEnded {R E : Type 0} (m : Option ℕ) (value : E → ℤ) (list : List (Terms E)) (claim : Polynomial) (place budget : ℕ) (rows : Rows) (rest : Polynomial) (cofactors : List (ℕ × Polynomial)) (polls polls' cancels cancels' : ℕ) (answer : Member R E) : Type 0 where
  pub found : IsMember value budget rest (found_on m (equations_of value list) (norm_of claim) place budget rows rest cofactors) answer
  pub shown : IsShownBy m value list claim answer
  pub polled : IsPolled polls polls' answer
  pub stopped : IsStopped cancels cancels' answer
