use Rattle.std.proofs.Common.{refl, subst, sym}
use Rattle.tcl_cnf.specs.Marks.{AreTouched}
use Rattle.tcl_cnf.proofs.MarkLemmas.{touched_all, untouched}
use Rattle.tcl_cnf.proofs.marks.Marks.take.Goals as goal

pub invariant_of-self : goal.invariant_of-self
invariant_of-self c = touched_all c.self.inside.table.items c.deref.result.now c.settle.new.touched.items c.settle.new.touched.items c.settle.ensures c.deref.ensures.value refl

pub clear-requires : goal.clear-requires
clear-requires c = touched_all c.self.inside.table.items c.deref.result.now c.settle.new.touched.items c.deref-3.result.now c.settle.ensures c.deref.ensures.value c.deref-3.ensures.value

pub invariant_of-self-2 : goal.invariant_of-self-2
invariant_of-self-2 c = subst (AreTouched c.clear.new.table.items) (sym c.clear-2.ensures.items) c.clear.ensures

pub returns-clause-emptied : goal.returns-clause-emptied
returns-clause-emptied c = untouched c.clear.new.table.items c.clear.ensures
