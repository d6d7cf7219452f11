-- The laws are lemmas.
use Rattle.tcl_kernel.proofs.Soundness.{entry_order, order_entry, reasons_exact}
use Rattle.tcl_kernel.proofs.laws.reasons_are_exact.Goals as goal

pub returns-clause-entries : goal.returns-clause-entries
returns-clause-entries c = λ p lemmas fact. (entry_order p lemmas fact, order_entry p lemmas fact)

pub returns-clause-reasons : goal.returns-clause-reasons
returns-clause-reasons c = reasons_exact
