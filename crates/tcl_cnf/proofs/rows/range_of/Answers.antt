use Rattle.std.proofs.Common.{subst, sym, length, ◌≤◌, slice_index}
use Rattle.tcl_cnf.proofs.RowLemmas.{row_range}
use Rattle.tcl_cnf.proofs.rows.range_of.Goals as goal

pub part-requires-clause-rises : goal.part-requires-clause-rises
part-requires-clause-rises g c =
    subst (λ s. s ≤ slice_index c.args.ends.now c.args.k) (sym c.row_start-start.ensures) (row_range c.args.ends.now (length c.args.items.now) c.args.k c.requires.ends c.requires.within).rises

pub part-requires-clause-within : goal.part-requires-clause-within
part-requires-clause-within g c = (row_range c.args.ends.now (length c.args.items.now) c.args.k c.requires.ends c.requires.within).within
