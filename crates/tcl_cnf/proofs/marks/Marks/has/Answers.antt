use Rattle.tcl_cnf.proofs.MarkLemmas.{marked_has}
use Rattle.tcl_cnf.proofs.marks.Marks.has.Goals as goal

pub returns : goal.returns
returns c =
    marked_has c.self.inside.table.items c.deref.result.now c.args.self.now c.args.lit c.number.result c.is_marked.result
    c.is_marked.ensures c.deref.ensures.value c.number.ensures c.self.view_is
