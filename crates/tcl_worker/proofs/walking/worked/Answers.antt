-- The intervals settle the fact, or they do not.
use Rattle.tcl_worker.proofs.Checks.{none_bounded, some_bounded, some_proves}
use Rattle.tcl_worker.proofs.Gifts.{proves_by_none}
use Rattle.tcl_worker.proofs.Making.{bounded_none}
use Rattle.tcl_worker.proofs.walking.worked.Goals as goal

pub walk-requires-clause-unbounded : goal.walk-requires-clause-unbounded
walk-requires-clause-unbounded g c =
    none_bounded c.args.ssa.now c.args.earlier.now c.args.fact.now _ c.in_ok-proof.field-0 c.requires.earlier c.requires.order c.in_ok-proof.ensures c.in-None.is

pub returns-in-Some-clause-worked : goal.returns-in-Some-clause-worked
returns-in-Some-clause-worked g c =
    proves_by_none c.args.ssa.now c.args.lemmas.now.items c.args.fact.now c.in-Some.proof
    (some_proves c.args.ssa.now c.args.earlier.now c.args.fact.now _ c.in_ok-proof.field-0 c.in-Some.proof c.requires.earlier c.requires.order c.in_ok-proof.ensures c.in-Some.is)

pub returns-in-Some-clause-rules : goal.returns-in-Some-clause-rules
returns-in-Some-clause-rules g c =
    bounded_none c.args.ssa.now c.args.budget c.args.lemmas.now c.args.fact.now
    (some_bounded c.args.ssa.now c.args.earlier.now c.args.fact.now _ c.in_ok-proof.field-0 c.in-Some.proof c.requires.earlier c.requires.order c.in_ok-proof.ensures c.in-Some.is)
