use Rattle.std.proofs.Common.{sym, subst}
use Rattle.tcl_board.specs.Sight.{seen_of}
use Rattle.tcl_gate.specs.Alone.{IsTurn, is_lemma}
use Rattle.tcl_gate.proofs.Turns.{turn_admits}
use Rattle.tcl_gate.proofs.giving.give.Goals as goal

pub returns : goal.returns
returns g c =
    let causes = g.E.Evidence.causes in
    let lemma = is_lemma (seen_of g.E.Evidence.shows g.E.Evidence.cited c.args.outcome) in
    subst (λ b. IsTurn causes c.args.board.now c.admit.new.board c.args.piece b) (sym c.is_lemma-lemma.ensures)
    (turn_admits causes c.args.board.now c.submit.new.board c.admit.new.board c.args.piece lemma c.submit.ensures c.admit.ensures)
