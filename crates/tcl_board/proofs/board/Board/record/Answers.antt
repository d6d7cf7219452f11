use Rattle.std.proofs.Common.{◌<◌, refl, sym, ap, ◌∙◌, subst, length, ◌&&◌, Some}
use Rattle.tcl_board.specs.Sight.{seen_of}
use Rattle.tcl_board.specs.Moves.{breaks_own, breaks_again}
use Rattle.tcl_board.specs.Judging.{OutcomeSpeaks}
use Rattle.tcl_board.proofs.Indexing.{index_taken_in, holder_here}
use Rattle.tcl_board.proofs.Giving.{records, length_next, map_next, all_next}
use Rattle.tcl_board.proofs.board.Board.record.Goals as goal

pub push-requires : goal.push-requires
push-requires g c =
    subst (λ n. length c.self.inside.events.0 < n) (sym c.self.invariant.1)
    (records c.fact_laws.ensures _ _ _ c.args.worker c.args.piece _ c.args.word (seen_of g.E.Evidence.shows g.E.Evidence.cited c.args.outcome) _ _ _
    c.self.view_is c.self.invariant.0 c.requires.held c.requires.taken c.at-at.ensures c.breaks_own-own.ensures
    (c.is_dropped-dropped.ensures ∙ ap (λ b. breaks_own (Some c.at-at.result.now) c.args.word && breaks_again b c.args.word) c.as_slice.ensures) refl).events

pub push-requires-else-dropped : goal.push-requires-else-dropped
push-requires-else-dropped g c =
    subst (λ n. length c.self.inside.kept.0 < n) (sym c.self.invariant.2)
    ((records c.fact_laws.ensures _ _ _ c.args.worker c.args.piece _ c.args.word (seen_of g.E.Evidence.shows g.E.Evidence.cited c.args.outcome) _ _ _
    c.self.view_is c.self.invariant.0 c.requires.held c.requires.taken c.at-at.ensures c.breaks_own-own.ensures
    (c.is_dropped-dropped.ensures ∙ ap (λ b. breaks_own (Some c.at-at.result.now) c.args.word && breaks_again b c.args.word) c.as_slice.ensures) c.if-dropped.false).kept refl)

pub invariant_of-self : goal.invariant_of-self
invariant_of-self g c =
    rw (c.record_step.ensures.statuses, c.record_step.ensures.breaks, c.record_step.ensures.lemmas, c.leave.ensures, c.push.ensures, c.len-kept.ensures) (
      (records c.fact_laws.ensures _ _ _ c.args.worker c.args.piece _ c.args.word (seen_of g.E.Evidence.shows g.E.Evidence.cited c.args.outcome) _ _ _
          c.self.view_is c.self.invariant.0 c.requires.held c.requires.taken c.at-at.ensures c.breaks_own-own.ensures
          (c.is_dropped-dropped.ensures ∙ ap (λ b. breaks_own (Some c.at-at.result.now) c.args.word && breaks_again b c.args.word) c.as_slice.ensures) c.if-dropped.true).keeps,
      c.self.invariant.1,
      c.self.invariant.2,
      c.self.invariant.3,
      c.self.invariant.4,
      index_taken_in _ _ _ c.args.worker c.args.piece _ _ c.args.word _ _ _ _ c.self.view_is c.self.invariant.0 c.requires.held c.self.invariant.5,
    )

pub invariant_of-self-else-dropped : goal.invariant_of-self-else-dropped
invariant_of-self-else-dropped g c =
    rw (c.record_step.ensures.statuses, c.record_step.ensures.breaks, c.record_step.ensures.lemmas, c.leave.ensures, c.push.ensures, c.push-else-dropped.ensures, c.len-kept.ensures) (
      rw (length_next c.self.inside.kept.0 c.args.outcome, map_next (seen_of g.E.Evidence.shows g.E.Evidence.cited) c.self.inside.kept.0 c.args.outcome)
          (records c.fact_laws.ensures _ _ _ c.args.worker c.args.piece _ c.args.word (seen_of g.E.Evidence.shows g.E.Evidence.cited c.args.outcome) _ _ _
          c.self.view_is c.self.invariant.0 c.requires.held c.requires.taken c.at-at.ensures c.breaks_own-own.ensures
          (c.is_dropped-dropped.ensures ∙ ap (λ b. breaks_own (Some c.at-at.result.now) c.args.word && breaks_again b c.args.word) c.as_slice.ensures) c.if-dropped.false).keeps,
      c.self.invariant.1,
      c.self.invariant.2,
      c.self.invariant.3,
      all_next (OutcomeSpeaks c.self.inside.ssa g.E.Evidence.program g.E.Evidence.alone) c.self.inside.kept.0 c.args.outcome c.self.invariant.4
          (subst (λ s. OutcomeSpeaks s.program g.E.Evidence.program g.E.Evidence.alone c.args.outcome) (sym c.self.view_is) c.requires.speaks),
      index_taken_in _ _ _ c.args.worker c.args.piece _ _ c.args.word _ _ _ _ c.self.view_is c.self.invariant.0 c.requires.held c.self.invariant.5,
    )

pub leave-requires : goal.leave-requires
leave-requires g c = holder_here _ _ _ c.args.worker c.args.piece _ _ _ c.self.view_is c.self.invariant.0 c.self.invariant.5 c.requires.held
