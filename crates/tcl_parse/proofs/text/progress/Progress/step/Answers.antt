use Rattle.std.proofs.Common.{sym, ◌∙◌, ap}
use Rattle.std.specs.Prelude.{Some}
use Rattle.tcl_parse.specs.TextSteps.{not_allowed}
use Rattle.tcl_parse.proofs.text.progress.Progress.step.Goals as goal

pub returns-in-None-clause-verdict : goal.returns-in-None-clause-verdict
returns-in-None-clause-verdict c = not_allowed (sym (rw c.in-None.is at c.in_ok-raws.ensures))

pub returns-in-Some-clause-verdict : goal.returns-in-Some-clause-verdict
returns-in-Some-clause-verdict c =
    c.read.ensures.verdict c.args.line.now (sym (rw c.in-Some.is at c.in_ok-raws.ensures) ∙ ap (λ raws. Some raws) (sym c.as_slice.ensures))
