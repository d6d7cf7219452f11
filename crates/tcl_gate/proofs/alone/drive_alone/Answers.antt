use Rattle.std.proofs.Common.{refl, subst}
use Rattle.tcl_gate.specs.Alone.{Claimed}
use Rattle.tcl_gate.proofs.Runs.{extends_same, extends_trans}
use Rattle.tcl_gate.proofs.Finishing.{run_ended}
use Rattle.tcl_gate.proofs.alone.drive_alone.Goals as goal

pub loop-number-init : goal.loop-number-init
loop-number-init g c = record { extends = extends_same g.E.Evidence.causes c.args.board.now c.args.board.now refl; free = c.requires.free }

pub returns-in_err-work_on-clause-extends : goal.returns-in_err-work_on-clause-extends
returns-in_err-work_on-clause-extends g c =
    let causes = g.E.Evidence.causes in
    extends_trans causes c.args.board.now c.loop-number.board c.work_on.new.board c.loop-number.invariant.extends
    (extends_trans causes c.loop-number.board c.claim_next.new.board c.work_on.new.board c.in-Some.ensures.0.extends c.work_on.ensures.extends)

pub loop-number-preserved : goal.loop-number-preserved
loop-number-preserved g c =
    let causes = g.E.Evidence.causes in
    record {
      extends =
          extends_trans causes c.args.board.now c.loop-number.board c.work_on.new.board c.loop-number.invariant.extends
          (extends_trans causes c.loop-number.board c.claim_next.new.board c.work_on.new.board c.in-Some.ensures.0.extends c.work_on.ensures.extends);
      free = c.in_ok-work_on.ensures.none;
    }

pub returns-clause-finished : goal.returns-clause-finished
returns-clause-finished g c =
    let causes = g.E.Evidence.causes in
    let claimed = subst (Claimed causes c.loop-number.board c.claim_next.new.board) c.in_default.is c.claim_next.ensures in
    (run_ended causes c.args.board.now c.loop-number.board c.claim_next.new.board c.admit_all.new.board c.loop-number.invariant.extends c.loop-number.invariant.free
    claimed c.known-2.ensures c.admit_all.ensures.admits c.admit_all.ensures.none).0

pub returns-clause-extends : goal.returns-clause-extends
returns-clause-extends g c =
    let causes = g.E.Evidence.causes in
    let claimed = subst (Claimed causes c.loop-number.board c.claim_next.new.board) c.in_default.is c.claim_next.ensures in
    (run_ended causes c.args.board.now c.loop-number.board c.claim_next.new.board c.admit_all.new.board c.loop-number.invariant.extends c.loop-number.invariant.free
    claimed c.known-2.ensures c.admit_all.ensures.admits c.admit_all.ensures.none).1
