-- Facts whose truth 128 bits always tell: each algebraic line among the hypotheses and the claim keeps the static bounds.
use Rattle.std.specs.Prelude.{Bool, true, ◌&&◌, List, slice_get, Option, Some, None}
use Rattle.std.specs.List.{list_all}
use Rattle.tcl_lang.specs.declared.ty.Ty.{Ty}
use Rattle.tcl_lang.specs.declared.pred.Line.{Line}
use Rattle.tcl_lang.specs.Program.{VersionedProgram}
use Rattle.tcl_lang.specs.Narrow.{is_narrow}
use Rattle.tcl_lang.specs.Values.{types_of}
use Rattle.tcl_goals.specs.declared.fact.Hyp.{Hyp}
use Rattle.tcl_goals.specs.declared.fact.Hyp.TheVariants as hyp
use Rattle.tcl_goals.specs.declared.fact.Claim.{Claim}
use Rattle.tcl_goals.specs.declared.fact.Claim.TheVariants as claim
use Rattle.tcl_goals.specs.declared.fact.Fact.{Fact}
use Rattle.tcl_goals.specs.Places.{goal_place}

-- a line, if there is one, keeps the bounds
abbrev pub is_narrow_in : List Ty → Option Line → Bool
is_narrow_in types None = true
is_narrow_in types (Some l) = is_narrow types l

-- a hypothesis and a claim keep them; a lemma always does
abbrev pub is_narrow_hyp : VersionedProgram → Hyp → Bool
is_narrow_hyp p (hyp.Line k) = is_narrow_in (types_of p.variables) (slice_get p.lines k)
is_narrow_hyp p (hyp.Lemma n) = true

abbrev pub is_narrow_claim : VersionedProgram → Claim → Bool
is_narrow_claim p (claim.Goal i) = is_narrow_in (types_of p.variables) (slice_get p.lines (goal_place p.lines i))
is_narrow_claim p (claim.Lemma m) = true

-- no equation of the fact has a size bound from 2 ^ 126 on or a wide modulus
abbrev pub is_narrow_fact : VersionedProgram → Fact → Bool
is_narrow_fact p fact = is_narrow_claim p fact.claim && list_all (is_narrow_hyp p) fact.hyps
