-- The certificate by enumeration: all assignments of the free bits of a fact are gone through.
use Rattle.std.specs.Prelude.{◌≡◌, ◌≤◌, nat_le, Bool, true, false, ◌&&◌, List, length, Option}
use Rattle.tcl_lang.specs.Program.{VersionedProgram}
use Rattle.tcl_goals.specs.declared.fact.Fact.{Fact}
use Rattle.tcl_goals.specs.declared.lemma.Numbered.{Numbered}
use Rattle.tcl_goals.specs.Free.{free_bits}
use Rattle.tcl_goals.specs.Assignments.{HoldsOfAll}
use Rattle.tcl_enum.specs.declared.ended.Ended.{Ended}
use Rattle.tcl_enum.specs.declared.ended.Ended.TheVariants as ended
use Rattle.tcl_enum.specs.NarrowFact.{is_narrow_fact}
use Rattle.tcl_enum.specs.Enumeration.{ended_of}
use Rattle.tcl_kernel.specs.declared.reason.Reason.{Reason}
use Rattle.tcl_kernel.specs.declared.reason.Reason.TheVariants as reason
use Rattle.tcl_kernel.specs.Reasons.{unless}

-- there are at most 20 free bits, no equation has a size bound from 2 ^ 126 on or a wide modulus, and the claim holds in
-- every assignment in which the hypotheses and the cube hold
pub record EnumerationChecks (p : VersionedProgram) (lemmas : List Numbered) (fact : Fact) : Type 0 where
  pub few : length (free_bits p lemmas fact) ≤ 20
  pub narrow : is_narrow_fact p fact ≡ true
  pub all : HoldsOfAll p lemmas fact

-- the walk ended with all assignments
abbrev pub is_all : Ended → Bool
is_all ended.All = true
is_all (ended.Fails values) = false
is_all ended.Wide = false
is_all ended.Memory = false

-- the same as a test: few bits are asked first, then the walk
abbrev pub is_enumerated : VersionedProgram → List Numbered → Fact → Bool
is_enumerated p lemmas fact = nat_le (length (free_bits p lemmas fact)) 20 && is_all (ended_of p lemmas fact)

-- the reason against the certificate
unfoldable pub enumeration_reason : VersionedProgram → List Numbered → Fact → Option Reason
enumeration_reason p lemmas fact = unless (is_enumerated p lemmas fact) reason.Enum
