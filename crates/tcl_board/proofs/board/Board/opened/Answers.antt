use Rattle.std.proofs.Common.{◌≡◌, arith, sym, ap, subst, false, length, None, ◌∙◌}
use Rattle.std.specs.Prelude.{All, map, replicate}
use Rattle.tcl_lang.specs.Goal.{goal_count}
use Rattle.tcl_board.specs.Sight.{seen_of}
use Rattle.tcl_board.specs.Judging.{OutcomeSpeaks}
use Rattle.tcl_board.specs.Index.{HaveSpans}
use Rattle.tcl_board.specs.declared.event.Status.TheVariants as status
use Rattle.tcl_board.proofs.Opening.{opened_board, event_room_is, kept_room_is}
use Rattle.tcl_board.proofs.Indexing.{index_opened}
use Rattle.tcl_board.proofs.board.Board.opened.Goals as goal

pub invariant_of-result : goal.invariant_of-result
invariant_of-result g c =
    let count : c.count_goals-goals.result ≡ goal_count c.args.ssa.lines = c.count_goals-goals.ensures ∙ ap goal_count (c.as_slice.ensures ∙ c.lines.ensures.lines) in (
      opened_board _ c.args.ssa c.args.plan c.in_ok-pieces.pieces c.args.budget _ _ _ _ _ _ _ c.requires
          (ap (λ r. r.0) c.in_ok-events.ensures) c.in_ok-pieces.ensures.copy
          (c.in_ok-statuses.ensures ∙ ap (λ n. replicate n status.Unclaimed) c.len-3.ensures)
          (c.in_ok-admitted.ensures ∙ ap (λ n. replicate n false) count)
          (c.in_ok-breaks.ensures ∙ ap (λ n. replicate n None) count)
          (ap (λ r. r.0) c.in_ok-lemmas.ensures) (ap (λ r. length r.0) c.in_ok-kept.ensures)
          (ap (λ r. map (seen_of g.E.Evidence.shows g.E.Evidence.cited) r.0) c.in_ok-kept.ensures),
      ap (λ r. r.1) c.in_ok-events.ensures ∙ event_room_is (length c.args.plan) c.len.result (goal_count c.args.ssa.lines) c.count_goals-goals.result c.len.ensures count,
      ap (λ r. r.1) c.in_ok-kept.ensures ∙ kept_room_is (length c.args.plan) c.len-2.result c.len-2.ensures,
      ap (λ r. r.1) c.in_ok-lemmas.ensures,
      subst (λ r. All (OutcomeSpeaks c.args.ssa g.E.Evidence.program g.E.Evidence.alone) r.0) (sym c.in_ok-kept.ensures) (λ k d h. absurd (omega (arith, h))),
      index_opened c.args.plan c.in_ok-pieces.pieces (goal_count c.args.ssa.lines) _ _ _ _ _ _ _ c.in_ok-pieces.ensures.copy
          (c.in_ok-statuses.ensures ∙ ap (λ n. replicate n status.Unclaimed) c.len-3.ensures)
          (c.in_ok-admitted.ensures ∙ ap (λ n. replicate n false) count) (c.in_ok-spans.ensures.goals ∙ count)
          (subst (λ l. HaveSpans l (length l) c.in_ok-spans.spans) c.as_slice-2.ensures c.in_ok-spans.ensures.spans) c.in_ok-holders.ensures,
    )
