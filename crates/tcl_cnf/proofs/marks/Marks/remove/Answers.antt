use Rattle.std.proofs.Common.{◌∙◌, ap}
use Rattle.tcl_cnf.specs.Clause.{without}
use Rattle.tcl_cnf.specs.Marks.{marked}
use Rattle.tcl_cnf.proofs.MarkLemmas.{without_marked}
use Rattle.tcl_cnf.proofs.marks.Marks.remove.Goals as goal

pub returns : goal.returns
returns c =
    without_marked c.self.inside.table.items c.unmark.new.table.items c.number.result c.unmark.ensures
    ∙ ap (λ l. without l (marked c.self.inside.table.items)) c.number.ensures ∙ ap (without c.args.lit) c.self.view_is
