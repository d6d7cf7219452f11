-- Facts that are settled without a search that may end in vain.
use Rattle.std.specs.Prelude.{◌≡◌, ◌⊎◌, true}
use Rattle.tcl_lang.specs.Program.{VersionedProgram}
use Rattle.tcl_goals.specs.declared.fact.Fact.{Fact}
use Rattle.tcl_kernel.specs.BoundsCertificate.{is_bounded}
use Rattle.tcl_worker.specs.Reduced.{is_reduced}
use Rattle.tcl_worker.specs.Searched.{IsDecidedByUnits}

-- The fact claims no algebraic goal and follows from its intervals, or unit propagation alone decides its clauses; or its
-- claim is an equation whose plain reduction leaves nothing.
abbrev pub IsSettledBy : VersionedProgram → Fact → Type 0
IsSettledBy p fact = (is_bounded p fact ≡ true) ⊎ IsDecidedByUnits p fact ⊎ (is_reduced p fact ≡ true)
