use Rattle.std.proofs.Common.{◌≡◌, [], ◌++◌, drop}
use Rattle.tcl_cnf.specs.Clause.{AreClauses}
use Rattle.tcl_cnf.specs.Log.{answer_from, log_answer}
use Rattle.tcl_cnf.proofs.checker.answer_lines.Given as goal

-- what is left of the lines is answered as all of them
abbrev pub invariant-loop-k : goal.invariant-loop-k
invariant-loop-k l =
    (answer_from l.k l.refuted (l.known.given.now ++ l.known.derived) (drop l.k l.lines) ≡ log_answer l.cnf l.lines)
    × (l.marks ≡ []) × AreClauses (l.known.given.now ++ l.known.derived)
