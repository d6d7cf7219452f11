-- A claim that follows holds.
use Rattle.std.proofs.Common.{rules, ◌≡◌, true}
use Rattle.tcl_bounds.specs.Follows.{follows_of}
use Rattle.tcl_kernel.proofs.Soundness.{bounds_shown}
use Rattle.tcl_kernel.proofs.bounded.bounds_reason.Goals as goal

pub returns-then-follows-clause-holds : goal.returns-then-follows-clause-holds
returns-then-follows-clause-holds c =
    let follows : follows_of c.in_ok-bounds.bounds c.args.ssa.now c.args.fact.now.claim ≡ true = search rules in
    λ e. bounds_shown c.args.ssa.now c.args.fact.now c.in_ok-bounds.bounds c.lines.ensures.well_formed c.in_ok-bounds.ensures.bounds follows
