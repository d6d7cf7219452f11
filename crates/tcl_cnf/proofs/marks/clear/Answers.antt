use Rattle.std.proofs.Common.{subst, arith, List, ℕ}
use Rattle.std.proofs.lemmas.List.{drop_all}
use Rattle.tcl_cnf.specs.Marks.{AreTouched}
use Rattle.tcl_cnf.proofs.marks.clear.Goals as goal

pub returns : goal.returns
returns c =
    subst (λ (t : List ℕ). AreTouched c.loop-number.table.items t) (drop_all c.loop-number.number-index c.args.touched.now (omega arith)) c.loop-number.invariant
