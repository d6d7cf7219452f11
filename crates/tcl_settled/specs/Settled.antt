-- Facts that are settled without a search that may end in vain.
use Rattle.std.specs.Prelude.{◌≡◌, ◌⊎◌, ◌≤◌, Bool, true, false, [], length, Option, Some, None}
use Rattle.tcl_cnf.specs.Propagation.{ConflictsAtOnce}
use Rattle.tcl_lang.specs.Program.{VersionedProgram}
use Rattle.tcl_goals.specs.declared.fact.Fact.{Fact}
use Rattle.tcl_blast.specs.Clauses.{clauses_of, clause_limit}
use Rattle.tcl_plain.specs.declared.outcome.Outcome.{Outcome}
use Rattle.tcl_plain.specs.declared.outcome.Outcome.TheVariants.{Zero, Rest, Wide, Large}
use Rattle.tcl_kernel.specs.BoundsCertificate.{is_algebraic_claim, is_bounded}
use Rattle.tcl_kernel.specs.PlainOutcome.{plain_outcome}

-- the claim is no algebraic goal, the fact has at most 4,194,304 clauses, and unit propagation alone meets a false one
pub record IsDecidedByUnits (p : VersionedProgram) (fact : Fact) : Type 0 where
  pub range : is_algebraic_claim p.lines fact.claim ≡ false
  pub few : length (clauses_of p [] fact) ≤ clause_limit
  pub conflict : ConflictsAtOnce (clauses_of p [] fact)

-- nothing is left
abbrev pub is_zero : Outcome → Bool
is_zero (Zero lines) = true
is_zero (Rest rest) = false
is_zero (Wide at) = false
is_zero (Large what n) = false

abbrev pub is_zero_in : Option Outcome → Bool
is_zero_in None = false
is_zero_in (Some o) = is_zero o

-- the claim is an equation, and its plain reduction leaves nothing
abbrev pub is_reduced : VersionedProgram → Fact → Bool
is_reduced p fact = is_zero_in (plain_outcome p fact)

-- A fact is settled: it claims no algebraic goal and follows from its intervals, or unit propagation alone decides its
-- clauses; or its claim is an equation whose plain reduction leaves nothing.
abbrev pub IsSettledBy : VersionedProgram → Fact → Type 0
IsSettledBy p fact = (is_bounded p fact ≡ true) ⊎ IsDecidedByUnits p fact ⊎ (is_reduced p fact ≡ true)
