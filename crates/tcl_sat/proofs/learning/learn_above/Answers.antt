use Rattle.std.proofs.Common.{◌∙◌, subst}
use Rattle.tcl_sat.specs.Analysis.{IsJump}
use Rattle.tcl_sat.proofs.Jumps.{last_is, learnt}
use Rattle.tcl_sat.proofs.learning.learn_above.Goals as goal

pub returns : goal.returns
returns c =
    let t = c.args.trail.now in
    let d = c.derive_above.new.learner.derivation in
    let u = c.in_ok-point.point in
    let same = last_is c.args.log.now c.log_derived.new.log d.clause c.clause-clause.result.now c.in_ok-learnt.learnt c.in_ok-learnt.ensures.added c.in_ok-learnt.ensures.number c.clause-clause.ensures in
    let jump = subst (λ x. IsJump t.entries x u c.jump_level-level.result) (c.lits.ensures ∙ same) c.jump_level-level.ensures in
    learnt c.args.log.now c.log_derived.new.log t c.back_to.new.self c.add.new.self d c.clause-clause.result.now c.args.floor u c.jump_level-level.result c.requires.state c.known.ensures.trail c.requires.floor
    c.in_ok-point.ensures jump c.in_ok-learnt.ensures.added c.back_to.ensures same c.in_ok-add.ensures.added
