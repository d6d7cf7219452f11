use Rattle.std.proofs.Common.{◌<◌, sym, subst, length}
use Rattle.tcl_board.proofs.Keeping.{goal_admits}
use Rattle.tcl_board.proofs.Indexing.{index_admit}
use Rattle.tcl_board.proofs.board.Board.admit_goal.Goals as goal

pub push-requires : goal.push-requires
push-requires g c =
    subst (λ n. length c.self.inside.events.0 < n) (sym c.self.invariant.1)
    (goal_admits c.fact_laws.ensures _ _ _ c.args.goal _ c.self.view_is c.self.invariant.0 c.may_admit.ensures c.if-not-may_admit.false).room

pub invariant_of-self : goal.invariant_of-self
invariant_of-self g c =
    rw (c.set.ensures, c.push.ensures)
    ((goal_admits c.fact_laws.ensures _ _ _ c.args.goal _ c.self.view_is c.self.invariant.0 c.may_admit.ensures c.if-not-may_admit.false).keeps, c.self.invariant.1, c.self.invariant.2, c.self.invariant.3, c.self.invariant.4, index_admit _ c.args.goal _ _ _ c.self.invariant.5)
