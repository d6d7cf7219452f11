use Rattle.std.proofs.Common.{◌<◌, sym, ap, subst, length, slice_get, ◌∙◌}
use Rattle.tcl_board.specs.Moves as moves
use Rattle.tcl_board.proofs.Keeping.{cancel_may, cancel_keeps}
use Rattle.tcl_board.proofs.Indexing.{index_cancel, holder_here}
use Rattle.tcl_board.proofs.board.Board.poll.Goals as goal

pub push-requires : goal.push-requires
push-requires g c =
    subst (λ n. length c.self.inside.events.0 < n) (sym c.self.invariant.1)
    (cancel_may _ _ c.args.worker c.in-Some.piece c.self.invariant.0
    (ap (λ s. moves.held_of s.position.statuses c.args.worker) c.self.view_is ∙ sym c.held_number.ensures ∙ c.in-Some.is)
    (ap (λ s. moves.goal_settled s.position (slice_get s.position.pieces c.in-Some.piece)) c.self.view_is ∙ sym c.goal_settled.ensures ∙ c.if-not-goal_settled.false)).room

pub invariant_of-self : goal.invariant_of-self
invariant_of-self g c =
    rw (c.set.ensures, c.set-2.ensures, c.push.ensures) (
      cancel_keeps _ _ c.args.worker c.in-Some.piece c.self.invariant.0
          (ap (λ s. moves.held_of s.position.statuses c.args.worker) c.self.view_is ∙ sym c.held_number.ensures ∙ c.in-Some.is)
          (ap (λ s. moves.goal_settled s.position (slice_get s.position.pieces c.in-Some.piece)) c.self.view_is ∙ sym c.goal_settled.ensures ∙ c.if-not-goal_settled.false),
      c.self.invariant.1,
      c.self.invariant.2,
      c.self.invariant.3,
      c.self.invariant.4,
      index_cancel _ _ c.args.worker c.in-Some.piece _ _ _ c.self.invariant.0
          (ap (λ s. moves.held_of s.position.statuses c.args.worker) c.self.view_is ∙ sym c.held_number.ensures ∙ c.in-Some.is) c.self.invariant.5,
    )

pub set-requires-2 : goal.set-requires-2
set-requires-2 g c = holder_here _ _ _ c.args.worker c.in-Some.piece _ _ _ c.self.view_is c.self.invariant.0 c.self.invariant.5 (sym c.held_number.ensures ∙ c.in-Some.is)
