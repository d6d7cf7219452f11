use Rattle.std.proofs.Common.{◌≡◌, ◌≤◌, ◌++◌, false, drop, map}
use Rattle.tcl_goals.specs.LemmaList.{next_number}
use Rattle.tcl_board.specs.Own as own
use Rattle.tcl_board.specs.Sight.{seen_of}
use Rattle.tcl_board.proofs.telling.lemmas_up_to.Given as goal

abbrev pub invariant-loop-number : goal.invariant-loop-number
invariant-loop-number g l =
    (l.lemmas.items ++ own.fitting_from l.goal l.number (map (seen_of g.E.Evidence.shows g.E.Evidence.cited) l.kept) (drop l.number l.marks)
    ≡ own.fitting_from l.goal 0 (map (seen_of g.E.Evidence.shows g.E.Evidence.cited) l.kept) l.marks)
    × (next_number l.lemmas.items ≤ l.number)
    × (l.lemmas.more ≡ false)
