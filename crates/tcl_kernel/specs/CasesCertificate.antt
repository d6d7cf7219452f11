-- The certificate by cases: earlier facts of the same claim, whose cubes cover all assignments that meet the cube of the fact.
use Rattle.std.specs.Prelude.{◌≡◌, ◌≤◌, ℕ, ◌==◌, nat_le, Bool, true, false, not, ◌&&◌, if◌then◌else◌, All, List, [], ◌∷◌, map, Option, Some, None}
use Rattle.std.specs.List.{list_all, list_any}
use Rattle.tcl_goals.specs.declared.fact.BitLit.{BitLit}
use Rattle.tcl_goals.specs.declared.fact.Claim.{Claim}
use Rattle.tcl_goals.specs.declared.fact.Claim.TheVariants as claim
use Rattle.tcl_goals.specs.declared.fact.Fact.{Fact}
use Rattle.tcl_goals.specs.declared.fact.Hyp.{Hyp}
use Rattle.tcl_goals.specs.declared.fact.Hyp.TheVariants as hyp
use Rattle.tcl_goals.specs.Order.{same_bit}
use Rattle.tcl_cubes.specs.Covering.{Covers, differ, contradicts, count_bits, are_covering}
use Rattle.tcl_kernel.specs.declared.facts.NumberedFact.{NumberedFact}
use Rattle.tcl_kernel.specs.declared.reason.Reason.{Reason}
use Rattle.tcl_kernel.specs.declared.reason.Reason.TheVariants as reason
use Rattle.tcl_kernel.specs.Reasons.{unless}

-- the earlier fact of a number
unfoldable pub fact_of : List NumberedFact → ℕ → Option Fact
fact_of [] n = None
fact_of (f ∷ facts) n = if f.number == n then Some f.fact else fact_of facts n

-- the same claim
abbrev pub same_literal : BitLit → BitLit → Bool
same_literal a b = same_bit a b && not (differ a.value b.value)

unfoldable pub same_literals : List BitLit → List BitLit → Bool
same_literals [] [] = true
same_literals (a ∷ xs) (b ∷ ys) = same_literal a b && same_literals xs ys
same_literals _ _ = false

abbrev pub same_claim : Claim → Claim → Bool
same_claim (claim.Goal i) (claim.Goal j) = i == j
same_claim (claim.Lemma m) (claim.Lemma n) = m.level == n.level && same_literals m.clause n.clause
same_claim _ _ = false

-- the same hypothesis, and hypotheses and uses that are among others
abbrev pub same_hyp : Hyp → Hyp → Bool
same_hyp (hyp.Line j) (hyp.Line k) = j == k
same_hyp (hyp.Lemma m) (hyp.Lemma n) = m == n
same_hyp _ _ = false

abbrev pub has_hyp : List Hyp → Hyp → Bool
has_hyp all h = list_any (same_hyp h) all

abbrev pub has_use : List ℕ → ℕ → Bool
has_use all k = list_any (λ j. j == k) all

-- the literal does not give a bit of the cube another value
abbrev pub is_agreed : List BitLit → BitLit → Bool
is_agreed cube b = not (list_any (contradicts b) cube)

-- what is asked of an item beside the claim
abbrev pub is_part : Fact → Fact → Bool
is_part fact item =
    list_all (has_hyp fact.hyps) item.hyps && list_all (has_use fact.uses) item.uses && list_all (is_agreed fact.cube) item.cube

-- the item is an earlier fact of the same claim; it has no hypotheses and no uses but those of the fact, and its cube agrees
pub record IsCase (facts : List NumberedFact) (fact : Fact) (n : ℕ) : Type 0 where
  pub item : Fact
  pub found : fact_of facts n ≡ Some item
  pub claim : item.claim ≡ fact.claim
  pub part : is_part fact item ≡ true

abbrev pub is_case_of : Fact → Option Fact → Bool
is_case_of fact None = false
is_case_of fact (Some item) = same_claim item.claim fact.claim && is_part fact item

abbrev pub is_case : List NumberedFact → Fact → ℕ → Bool
is_case facts fact n = is_case_of fact (fact_of facts n)

-- the cubes of the items
abbrev pub cube_in : Option Fact → List BitLit
cube_in None = []
cube_in (Some item) = item.cube

abbrev pub cube_of : List NumberedFact → ℕ → List BitLit
cube_of facts n = cube_in (fact_of facts n)

abbrev pub cubes_of : List NumberedFact → List ℕ → List (List BitLit)
cubes_of facts items = map (cube_of facts) items

-- each item is such a fact, their cubes name at most 22 different bits, and they cover the cube of the fact
pub record CasesCheck (facts : List NumberedFact) (fact : Fact) (items : List ℕ) : Type 0 where
  pub cases : All (IsCase facts fact) items
  pub few : count_bits (cubes_of facts items) ≤ 22
  pub covers : Covers fact.cube (cubes_of facts items)

-- the same as a test
abbrev pub are_cases : List NumberedFact → Fact → List ℕ → Bool
are_cases facts fact items =
    list_all (is_case facts fact) items && nat_le (count_bits (cubes_of facts items)) 22
    && are_covering 22 fact.cube (cubes_of facts items)

-- the reason against the certificate
unfoldable pub cases_reason : List NumberedFact → Fact → List ℕ → Option Reason
cases_reason facts fact items = unless (are_cases facts fact items) reason.Cases
