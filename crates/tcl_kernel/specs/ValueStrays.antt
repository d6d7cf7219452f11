-- Strays among the hypotheses of a goal, read off the values of a run. No public clause cites this module.
use Rattle.std.specs.Prelude.{ℕ, zero, suc, ℤ, if◌then◌else◌, List, Option, None}
use Rattle.tcl_lang.specs.Program.{VersionedProgram}
use Rattle.tcl_lang.specs.Values.{computed_of}
use Rattle.tcl_goals.specs.Slices.{is_hypothesis_at}
use Rattle.tcl_kernel.specs.declared.stray.Stray.{Stray}
use Rattle.tcl_kernel.specs.Strays.{unless_yes, first_of_strays}

-- the line of place k at these values; none where it is no hypothesis
abbrev pub stray_of : VersionedProgram → List ℤ → ℕ → Option Stray
stray_of p values k = if is_hypothesis_at p.lines k then unless_yes k (computed_of p values k) else None

-- the first before place n
unfoldable pub first_of_values : VersionedProgram → List ℤ → ℕ → Option Stray
first_of_values p values zero = None
first_of_values p values (suc k) = first_of_strays (first_of_values p values k) (stray_of p values k)
