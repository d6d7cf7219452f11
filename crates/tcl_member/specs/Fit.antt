-- What the membership search asks of equations: over the integers none is so great that its row could not be held, and none
-- of a definition is zero, as it would be where a variable is defined by itself.
use Rattle.std.specs.Prelude.{◌≡◌, ℕ, ◌<◌, ◌≤◌, ◌^◌, false, List, [], length, ℤ, Option, None, Some}
use Rattle.std.specs.List.{AllByRecursion}
use Rattle.tcl_ring.specs.Reduction.{reduced_by, is_wide}
use Rattle.tcl_poly.specs.Polynomial.{Polynomial, IsPolynomial, norm_of}
use Rattle.tcl_poly.specs.Combination.{Terms, equation_at}
use Rattle.tcl_reduce.specs.Definitions.{Defined}
use Rattle.tcl_reduce.specs.Reduction.{Reduced}
use Rattle.tcl_reduce.specs.Reduction.Reduced.{Done, TooWide, TooLarge}
use Rattle.tcl_reduce.specs.Answer.{definitions_of}
use Rattle.tcl_reduce.specs.Remainder.{AreDefinitions, BeginsWith}
use Rattle.tcl_pivots.specs.CofactorLists.{equations_of}
use Rattle.tcl_pivots.specs.RowLaws.{AreLow}

-- over the integers the first n equations are not zero
abbrev pub AreSome : Option ℕ → List Polynomial → ℕ → Type 0
AreSome None es n = (k : ℕ) → k < n → equation_at es k ≡ [] → ⊥
AreSome (Some m) es n = Unit {0}

-- no norm of an equation is too great
abbrev pub AreNarrow : Option ℕ → List Polynomial → Type 0
AreNarrow m es = AllByRecursion (λ e. is_wide m (norm_of e) ≡ false) es

-- the equations can be searched: their numbers are below 2^32, their norms are not too great, and those of the definitions,
-- the first n, are not zero
pub record AreFit (m : Option ℕ) (es : List Polynomial) (n : ℕ) : Type 0 where
  pub few : length es ≤ 2 ^ 32
  pub narrow : AreNarrow m es
  pub some : AreSome m es n

-- plain reduction leaves something
abbrev pub LeavesRest : Reduced → Type 0
LeavesRest (Done rest cofactors spent) = rest ≡ [] → ⊥
LeavesRest (TooWide at) = ⊥
LeavesRest (TooLarge what n) = ⊥

-- what is known of the equations and the definitions that they begin with
pub record AreKnown {E : Type 0} (m : Option ℕ) (value : E → ℤ) (defs : List (Defined E)) (list : List (Terms E)) : Type 0 where
  pub over : AllByRecursion (IsPolynomial (reduced_by m)) (equations_of value list)
  pub low : AreLow (equations_of value list)
  pub definitions : AreDefinitions (reduced_by m) (definitions_of value defs)
  pub begins : BeginsWith m (λ n. n) (definitions_of value defs) (equations_of value list)
  pub fit : AreFit m (equations_of value list) (length (definitions_of value defs))
