-- The board is one of the program.
use Rattle.std.proofs.Common.{◌≡◌, ◌≤◌, ℕ, List, length, ◌∙◌, ap, subst, arith}
use Rattle.std.proofs.lemmas.List.Sums.{count_by-le-length}
use Rattle.tcl_lang.specs.declared.pred.Line.{Line}
use Rattle.tcl_lang.specs.Program.{VersionedProgram}
use Rattle.tcl_lang.specs.Goal.{goal_count}
use Rattle.tcl_lang.specs.Line.{is_goal}
use Rattle.tcl_lang.specs.Form.{IsWellFormed}
use Rattle.tcl_settled.specs.Rings.{AreOfRings}
use Rattle.tcl_top.proofs.Answering.{board_answers, board_run}
use Rattle.tcl_top.proofs.worked.worked.Goals as goal

few_goals : (lines : List Line) (n : ℕ) → n ≡ length lines → goal_count lines ≤ n
few_goals lines n e = omega (arith, e, count_by-le-length is_goal lines)

pub returns-clause-worked : goal.returns-clause-worked
returns-clause-worked c =
    let board = c.in_ok-board.board in
    let p = c.args.typed.now.program in
    record {
      closed = c.in_ok-board.ensures.closed;
      run = board_run p board c.known.ensures c.in_ok-board.ensures;
      answers = board_answers p board c.len-goals.result c.known.ensures c.in_ok-board.ensures
          (subst IsWellFormed c.ssa-2.ensures c.know.ensures.formed)
          (subst (λ f. AreOfRings f c.len-goals.result) c.ssa-2.ensures c.know.ensures.rings)
          (few_goals board.program.lines c.len-goals.result (c.len-goals.ensures ∙ ap length c.lines.ensures.lines ∙ ap (λ (f : VersionedProgram). length f.lines) c.ssa.ensures));
    }

pub returns-clause-finished : goal.returns-clause-finished
returns-clause-finished c = c.in_ok-board.ensures.closed.finished
