use Rattle.std.proofs.Common.{◌++◌, ◌∙◌, arith}
use Rattle.tcl_cnf.specs.Log.{log_answer}
use Rattle.tcl_cnf.proofs.LogLemmas.{answer_begun, clauses_begun, answer_stopped, answer_more, answer_end, added_clauses}
use Rattle.tcl_cnf.proofs.checker.answer_lines.Goals as goal

pub loop-k-init : goal.loop-k-init
loop-k-init c = (answer_begun c.args.cnf.now c.new.result c.args.lines.now c.new.ensures, c.new-marks.ensures, clauses_begun c.args.cnf.now c.new.result (record { each = c.known.ensures.each }) c.new.ensures)

pub returns-in_default : goal.returns-in_default
returns-in_default c =
    answer_stopped (c.loop-k.known.given.now ++ c.loop-k.known.derived) c.args.lines.now c.loop-k.k c.loop-k.refuted c.at.result.now (log_answer c.args.cnf.now c.args.lines.now)
    c.loop-k.invariant.0 c.at.ensures (c.in_ok-empty.ensures.bad c.in_default.is)

pub loop-k-preserved : goal.loop-k-preserved
loop-k-preserved c =
    let added = rw c.in-Some.is at c.in_ok-empty.ensures.added in
    let emptied = rw c.in-Some.is at c.in_ok-empty.ensures.emptied in (
      answer_more (c.loop-k.known.given.now ++ c.loop-k.known.derived) (c.add_line.new.known.given.now ++ c.add_line.new.known.derived) c.args.lines.now c.loop-k.k c.loop-k.refuted
          c.in-Some.empty c.at.result.now (log_answer c.args.cnf.now c.args.lines.now) c.loop-k.invariant.0 c.at.ensures added,
      emptied,
      added_clauses (c.loop-k.known.given.now ++ c.loop-k.known.derived) (c.add_line.new.known.given.now ++ c.add_line.new.known.derived) c.at.result.now c.in-Some.empty c.loop-k.invariant.2 added,
    )

pub returns : goal.returns
returns c =
    c.ending.ensures
    ∙ answer_end (c.loop-k.known.given.now ++ c.loop-k.known.derived) c.args.lines.now c.loop-k.k c.loop-k.refuted (log_answer c.args.cnf.now c.args.lines.now)
    c.loop-k.invariant.0 (omega arith)
