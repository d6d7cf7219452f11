-- What a proof shows, and what it says of the program.
use Rattle.std.specs.Prelude.{Bool, List, length}
use Rattle.tcl_lang.specs.Program.{VersionedProgram}
use Rattle.tcl_lang.specs.Correct.{IsCounterexample}
use Rattle.tcl_goals.specs.declared.fact.Fact.{Fact}
use Rattle.tcl_goals.specs.declared.lemma.Numbered.{Numbered}
use Rattle.tcl_goals.specs.declared.piece.Shown.{Shown}
use Rattle.tcl_goals.specs.declared.piece.Shown.TheVariants as shown
use Rattle.tcl_goals.specs.Order.{InOrder}
use Rattle.tcl_goals.specs.Holds.{FactHolds}

-- a proof: its program, the lemmas that its fact cites, what it shows, and whether it stands alone, that is rests on no
-- earlier fact
pub record ProofContent : Type 0 where
  pub program : VersionedProgram
  pub cited : List Numbered
  pub shown : Shown
  pub alone : Bool

-- the fact is in order for these lemmas, and holds under them
pub record Stands (p : VersionedProgram) (lemmas : List Numbered) (fact : Fact) : Type 0 where
  pub order : InOrder p lemmas fact
  pub holds : FactHolds p lemmas fact

-- what is shown holds: the fact stands under the lemmas, the input refutes the goal
unfoldable pub ShownHolds : VersionedProgram → List Numbered → Shown → Type 0
ShownHolds p cited (shown.Fact fact) = Stands p cited fact
ShownHolds p cited (shown.Breaks goal input) = IsCounterexample (length p.variables) p.lines input goal
