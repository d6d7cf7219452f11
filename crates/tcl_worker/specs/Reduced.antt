-- Facts whose claim is reduced to nothing by what the instructions before it define.
use Rattle.std.specs.Prelude.{Bool, true, false, Option, Some, None}
use Rattle.tcl_lang.specs.Program.{VersionedProgram}
use Rattle.tcl_goals.specs.declared.fact.Fact.{Fact}
use Rattle.tcl_plain.specs.declared.outcome.Outcome.{Outcome}
use Rattle.tcl_plain.specs.declared.outcome.Outcome.TheVariants.{Zero, Rest, Wide, Large}
use Rattle.tcl_kernel.specs.PlainOutcome.{plain_outcome}

-- nothing is left
abbrev pub is_zero : Outcome → Bool
is_zero (Zero lines) = true
is_zero (Rest rest) = false
is_zero (Wide at) = false
is_zero (Large what n) = false

abbrev pub is_zero_in : Option Outcome → Bool
is_zero_in None = false
is_zero_in (Some o) = is_zero o

-- the claim is an equation, and its plain reduction leaves nothing
abbrev pub is_reduced : VersionedProgram → Fact → Bool
is_reduced p fact = is_zero_in (plain_outcome p fact)
