use Rattle.std.proofs.Common.{sym, ◌∙◌, ap, length}
use Rattle.tcl_cnf.proofs.RowLemmas.{length-rows_from}
use Rattle.tcl_cnf.proofs.rows.Rows.len.Goals as goal

pub returns : goal.returns
returns g c =
    ap length c.as_slice.ensures.value ∙ sym (length-rows_from 0 c.self.inside.ends.items c.self.inside.items.items) ∙ ap length c.self.view_is
