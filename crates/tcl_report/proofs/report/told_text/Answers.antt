-- The goals of the versioned form are those of the program.
use Rattle.std.proofs.Common.{◌∙◌, ap}
use Rattle.tcl_lang.specs.Program.{VersionedProgram}
use Rattle.tcl_goals.specs.Places.{goals_of}
use Rattle.tcl_report.proofs.GoalLemmas.{form_goals}
use Rattle.tcl_report.proofs.report.told_text.Goals as goal

pub lines_and_verdict-requires-clause-lines : goal.lines_and_verdict-requires-clause-lines
lines_and_verdict-requires-clause-lines g c =
    c.in_ok-list.ensures ∙ ap (λ (f : VersionedProgram). goals_of f.lines) (c.ssa.ensures ∙ c.requires) ∙ form_goals c.args.typed.now.program
