use Rattle.std.proofs.Common.{subst}
use Rattle.tcl_board.specs.Shows.{ShownHolds}
use Rattle.tests_board.proofs.Cited.{shown_holds}
use Rattle.tests_board.proofs.witness.WitnessEvidence.shown.Goals as goal

pub returns-clause-holds : goal.returns-clause-holds
returns-clause-holds c = subst (λ w. ShownHolds w.program w.cited w.shown) c.self.view_is (shown_holds _ _ _ c.shown.ensures.holds)
