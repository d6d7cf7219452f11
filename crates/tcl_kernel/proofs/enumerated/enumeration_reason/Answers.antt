-- A walk that ends with all shows the fact.
use Rattle.std.proofs.Common.{◌≡◌}
use Rattle.tcl_enum.specs.declared.ended.Ended.TheVariants as ended
use Rattle.tcl_enum.specs.Enumeration.{ended_of}
use Rattle.tcl_kernel.proofs.Soundness.{enumeration_shown, all_told}
use Rattle.tcl_kernel.proofs.enumerated.enumeration_reason.Goals as goal

pub returns-in-All-clause-holds : goal.returns-in-All-clause-holds
returns-in-All-clause-holds c =
    let all : ended_of c.args.ssa.now c.args.lemmas.now.items c.args.fact.now ≡ ended.All = all_told (ended_of c.args.ssa.now c.args.lemmas.now.items c.args.fact.now) c.enumerate.result c.enumerate.ensures c.in-All.is in
    λ e. enumeration_shown c.args.ssa.now c.args.lemmas.now.items c.args.fact.now c.lines-form.ensures.well_formed c.requires all
