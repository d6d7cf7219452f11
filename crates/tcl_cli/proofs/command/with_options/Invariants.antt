use Rattle.std.proofs.Common.{◌≡◌, fold, take}
use Rattle.clap.specs.Simple.{app_of}
use Rattle.tcl_cli.specs.Rules.{with_entry}
use Rattle.tcl_cli.proofs.command.with_options.Given as goal

abbrev pub invariant-loop-entry : goal.invariant-loop-entry
invariant-loop-entry l = app_of l.command ≡ fold with_entry (app_of l.fn.bare) (take l.entry-index l.options)
