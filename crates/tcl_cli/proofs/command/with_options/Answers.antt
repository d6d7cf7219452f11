use Rattle.std.proofs.Common.{◌∙◌, ap₂, sym}
use Rattle.std.proofs.lemmas.List.Sums.{fold_more}
use Rattle.clap.specs.Simple.{app_of, with_rule}
use Rattle.tcl_cli.specs.Rules.{with_entry}
use Rattle.tcl_cli.proofs.command.with_options.Goals as goal

pub loop-entry-preserved : goal.loop-entry-preserved
loop-entry-preserved c =
    c.in_ok-command.ensures.shape c.arg.ensures.local
    ∙ ap₂ with_rule c.loop-entry.invariant c.arg.ensures.rule
    ∙ sym (fold_more with_entry (app_of c.args.bare) c.args.options.now c.loop-entry.entry-index _ c.loop-entry-test.true)
