-- A fact against which the entry has no reason is in order.
use Rattle.std.proofs.Common.{rules, ◌≡◌, None}
use Rattle.tcl_kernel.specs.Entry.{entry_reason}
use Rattle.tcl_kernel.proofs.Soundness.{entry_order, stands_if}
use Rattle.tcl_kernel.proofs.checker.first_reason.Goals as goal

pub certificate_reason-requires : goal.certificate_reason-requires
certificate_reason-requires c =
    let none : entry_reason c.args.ssa.now c.args.earlier.now.lemmas c.args.fact.now ≡ None = search rules in
    record { program = c.requires; order = entry_order c.args.ssa.now c.args.earlier.now.lemmas c.args.fact.now none }

pub returns-in-None-clause-stands : goal.returns-in-None-clause-stands
returns-in-None-clause-stands c =
    let none : entry_reason c.args.ssa.now c.args.earlier.now.lemmas c.args.fact.now ≡ None = search rules in
    stands_if c.args.ssa.now c.args.earlier.now.lemmas c.args.fact.now c.certificate_reason.result (entry_order c.args.ssa.now c.args.earlier.now.lemmas c.args.fact.now none) c.certificate_reason.ensures.holds
