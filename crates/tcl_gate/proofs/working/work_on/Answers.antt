use Rattle.std.proofs.Common.{refl, sym, ap, ◌∙◌, subst, Some}
use Rattle.std.specs.List.{slice_get}
use Rattle.tcl_goals.specs.Plans.{IsPiece}
use Rattle.tcl_gate.proofs.Runs.{extends_same, extends_trans}
use Rattle.tcl_gate.proofs.Holding.{piece_held}
use Rattle.tcl_gate.proofs.working.work_on.Goals as goal

pub returns-in_err-piece-clause-extends : goal.returns-in_err-piece-clause-extends
returns-in_err-piece-clause-extends g c = extends_same g.E.Evidence.causes c.args.board.now c.args.board.now refl

pub loop-on-init : goal.loop-on-init
loop-on-init g c =
    let same = c.in_ok-piece.ensures.copy in
    record {
      extends = extends_same g.E.Evidence.causes c.args.board.now c.args.board.now refl;
      pieces = piece_held c.args.board.now.position c.args.number c.in_ok-piece.piece c.requires.held (ap Some same ∙ c.in-Some.ensures.piece);
      is_piece = subst (IsPiece c.args.board.now.program) (sym same) c.in-Some.ensures.is_piece;
      held = c.requires.held;
    }

pub loop-on-preserved : goal.loop-on-preserved
loop-on-preserved g c =
    let t = c.in_ok-on.ensures.turn in
    record {
      extends = extends_trans g.E.Evidence.causes c.args.board.now c.loop-on.board c.turn.new.board c.loop-on.invariant.extends t.goes_on.extends;
      pieces = ap (λ pieces. slice_get pieces c.args.number) t.pieces ∙ c.loop-on.invariant.pieces;
      is_piece = subst (λ p. IsPiece p c.in_ok-piece.piece) (sym t.goes_on.extends.program) c.loop-on.invariant.is_piece;
      held = t.held;
    }
