use Rattle.std.proofs.Common.{subst, sym, length, ◌<◌, ◌∙◌, ap}
use Rattle.tcl_cnf.proofs.RowLemmas.{row_is, length-rows_from}
use Rattle.tcl_cnf.proofs.rows.Rows.at.Goals as goal

pub range_of-requires-clause-within : goal.range_of-requires-clause-within
range_of-requires-clause-within g c =
    subst (λ n. c.args.k < n) (sym (ap length c.deref-2.ensures.value ∙ sym (length-rows_from 0 c.self.inside.ends.items c.self.inside.items.items) ∙ ap length c.self.view_is)) c.requires

pub returns : goal.returns
returns g c =
    row_is c.args.self.now c.self.inside.ends.items c.deref-2.result.now c.self.inside.items.items c.deref.result.now c.range_of.result.now c.args.k
    c.requires c.self.view_is c.deref-2.ensures.value c.deref.ensures.value c.range_of.ensures
