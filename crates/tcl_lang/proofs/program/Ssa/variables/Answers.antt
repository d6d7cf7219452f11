-- A form is well formed.
use Rattle.std.proofs.Common.{rules}
use Rattle.tcl_lang.specs.Versions.{IsForm}
use Rattle.tcl_lang.proofs.FormFacts.{well_formed}
use Rattle.tcl_lang.proofs.program.Ssa.variables.Goals as goal

pub returns-clause-well_formed : goal.returns-clause-well_formed
returns-clause-well_formed c =
    let form : IsForm c.args.self.now = search rules in
    well_formed c.args.self.now form
