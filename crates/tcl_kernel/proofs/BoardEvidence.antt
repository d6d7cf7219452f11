-- What the kernel says of a proof is what the board asks of evidence.
use Rattle.tcl_lang.specs.Program.{VersionedProgram}
use Rattle.std.proofs.Common.{List}
use Rattle.tcl_goals.specs.declared.lemma.Numbered.{Numbered}
use Rattle.tcl_goals.specs.declared.piece.Shown.{Shown}
use Rattle.tcl_goals.specs.declared.piece.Shown.TheVariants as shown
use Rattle.tcl_kernel.specs.Shown as kernel
use Rattle.tcl_board.specs.Shows.{ShownHolds}

pub shown_holds : (p : VersionedProgram) (cited : List Numbered) (sh : Shown) → kernel.ShownHolds p cited sh → ShownHolds p cited sh
unfolding kernel.ShownHolds
shown_holds p cited (shown.Fact fact) h = (h.order, h.holds)
shown_holds p cited (shown.Breaks g input) h = h
