use Rattle.std.proofs.Common.{◌<◌, arith, sym, ap, subst, length, ◌∙◌}
use Rattle.tcl_board.specs.Moves as moves
use Rattle.tcl_board.proofs.Keeping.{claim_may, claim_keeps}
use Rattle.tcl_board.proofs.Indexing.{index_claim, index_past}
use Rattle.tcl_board.proofs.board.Board.claim.Goals as goal

pub set-requires : goal.set-requires
set-requires g c =
    (claim_may _ _ c.args.worker c.in-Some.piece c.self.invariant.0 c.requires.worker
    (ap (λ s. moves.held_of s.position.statuses c.args.worker) c.self.view_is ∙ c.requires.free)
    (ap (λ s. moves.next_piece s.position) c.self.view_is ∙ sym c.next_piece.ensures ∙ c.in-Some.is)).piece

pub push-requires : goal.push-requires
push-requires g c =
    subst (λ n. length c.self.inside.events.0 < n) (sym c.self.invariant.1)
    (claim_may _ _ c.args.worker c.in-Some.piece c.self.invariant.0 c.requires.worker
    (ap (λ s. moves.held_of s.position.statuses c.args.worker) c.self.view_is ∙ c.requires.free)
    (ap (λ s. moves.next_piece s.position) c.self.view_is ∙ sym c.next_piece.ensures ∙ c.in-Some.is)).room

pub invariant_of-self-2 : goal.invariant_of-self-2
invariant_of-self-2 g c =
    rw (c.set.ensures, c.set-2.ensures, c.push.ensures) (
      claim_keeps _ _ c.args.worker c.in-Some.piece c.self.invariant.0 c.requires.worker
          (ap (λ s. moves.held_of s.position.statuses c.args.worker) c.self.view_is ∙ c.requires.free)
          (ap (λ s. moves.next_piece s.position) c.self.view_is ∙ sym c.next_piece.ensures ∙ c.in-Some.is),
      c.self.invariant.1,
      c.self.invariant.2,
      c.self.invariant.3,
      c.self.invariant.4,
      index_claim _ _ c.args.worker c.in-Some.piece _ _ _ c.self.invariant.0 c.requires.worker
          (ap (λ s. moves.held_of s.position.statuses c.args.worker) c.self.view_is ∙ c.requires.free)
          (ap (λ s. moves.next_piece s.position) c.self.view_is ∙ sym c.next_piece.ensures ∙ c.in-Some.is) c.self.invariant.5,
    )

pub set-requires-2 : goal.set-requires-2
set-requires-2 g c = omega (arith, c.self.invariant.5.workers, c.requires.worker)

pub invariant_of-self : goal.invariant_of-self
invariant_of-self g c =
    rw (c.len-self-inside.ensures) (
      c.self.invariant.0,
      c.self.invariant.1,
      c.self.invariant.2,
      c.self.invariant.3,
      c.self.invariant.4,
      index_past _ _ _ _ (ap (λ s. moves.next_piece s.position) c.self.view_is ∙ sym c.next_piece.ensures ∙ c.in_default.is) c.self.invariant.5,
    )
