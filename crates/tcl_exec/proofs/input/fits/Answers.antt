-- The test and the fact.
use Rattle.std.proofs.Common.{rules, ◌≡◌}
use Rattle.tcl_lang.specs.Run.{taken_types}
use Rattle.tcl_exec.specs.Fitting.{is_fitting}
use Rattle.tcl_exec.proofs.Fitting.{fitting_is}
use Rattle.tcl_exec.proofs.input.fits.Goals as goal

pub returns : goal.returns
returns c =
    let same : c.is_fitting.result ≡ is_fitting (taken_types c.args.ssa.now.lines) c.args.input.now = search rules in
    fitting_is c.is_fitting.result (taken_types c.args.ssa.now.lines) c.args.input.now same
